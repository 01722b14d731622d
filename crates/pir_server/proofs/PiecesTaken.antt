-- What reading one piece comes to, and a session that feeds it.
use Rattle.std.proofs.Common.{◌≡◌, ◌≢◌, ℕ, ◌+◌, ◌<◌, Bool, true, false, ◌||◌, ◌&&◌, ◌==◌, nat_lt, List, [], ◌++◌, length, take, Result, Ok, Err, refl, ap, sym, subst, ◌∙◌, arith, length-take, lt-ltb, ne_eqb}
use Rattle.std.proofs.lemmas.List.{append-nil}
use Rattle.std.proofs.lemmas.List.Elements.{All-nil}
use Rattle.pir_io.specs.declared.fault.IoFault.{IoFault}
use Rattle.pir_io.specs.declared.fault.IoFault.TheVariants as io
use Rattle.pir_io.specs.Link.{LinkSeen, ReadsLink}
use Rattle.spiral_sets.specs.declared.param_set.ParamSet.{ParamSet}
use Rattle.frame_headers.specs.declared.frame_error.FrameError.{FrameError}
use Rattle.frame_streams.specs.Decoding.{refused, reading, decoded}
use Rattle.frame_streams.specs.StreamLaws.{AreBytes}
use Rattle.pir_server.specs.declared.session.EndCause.{EndCause}
use Rattle.pir_server.specs.declared.session.EndCause.TheVariants.{LinkFault, NoMemory}
use Rattle.pir_server.specs.declared.session.talk.Talk.{Talk}
use Rattle.pir_server.specs.declared.session.talk.Piece.TheVariants as piece
use Rattle.pir_server.specs.Talks.{OnlyWrites, FailedSo, GivesUp, Came, HasFed, TakesPiece}
use Rattle.pir_server.proofs.Writing.{still_tells}

or_true : (b : Bool) → (b || true) ≡ true
or_true true = refl
or_true false = refl

or_false : (b : Bool) → (b || false) ≡ b
or_false true = refl
or_false false = refl

-- links one after another
pub came_from : (old new : LinkSeen) → OnlyWrites old new → Came old new
came_from old new o = record { tells = o.tells; is_open = o.is_open; later = o.later; others = λ tells. let all = o.others tells in (all.2, all.3) }

pub came_then : (a b c : LinkSeen) → Came a b → Came b c → Came a c
came_then a b c f g = record {
  tells = g.tells ∙ f.tells;
  is_open = g.is_open;
  later = omega (arith, f.later, g.later);
  others = λ tells. let x = f.others tells in
      let y = g.others (still_tells a b f.tells tells) in
      (y.0 ∙ x.0, y.1 ∙ x.1);
}

read_came : (old new : LinkSeen) (before into : List ℕ) (result : Result ℕ IoFault) → ReadsLink old new before into result → Came old new
read_came old new before into result r = record {
  tells = r.tells;
  is_open = r.is_open;
  later = r.cause.later;
  others = λ tells. let all = r.others tells in (all.1, all.2);
}

module _ (set : ParamSet) (old new : LinkSeen) (before into : List ℕ) (t : Talk) (room : ℕ) where
  -- the input has ended
  pub took_end : ReadsLink old new before into (Ok 0) → 0 < length into → TakesPiece set old new t t room (Ok piece.End)
  took_end r some = record {
    came = read_came old new before into (Ok 0) r;
    fault = λ is. absurd (cc);
    by = (
      refl,
      λ tells. (
        r.took tells ∙ append-nil old.took,
        (r.others tells).0,
        r.ended tells ∙ ap (λ (b : Bool). old.ended || (0 == 0 && b)) (lt-ltb 0 (length into) some) ∙ or_true old.ended,
      ),
    );
  }

  -- a call failed
  pub took_fault : ReadsLink old new before into (Err io.Failed) → TakesPiece set old new t t room (Err LinkFault)
  took_fault r = record {
    came = read_came old new before into (Err io.Failed) r;
    fault = λ is. r.cause.failed refl;
    by = (
      [],
      All-nil (λ b. b < 256),
      omega arith,
      omega arith,
      refl,
      λ tells. (
        [],
        (r.err tells).0 ∙ sym (append-nil old.took),
        (r.others tells).0 ∙ sym (append-nil old.wrote),
        (0, refl),
      ),
    );
  }

  -- memory was wanting in it
  pub took_none : (last : LinkSeen) (cause : EndCause) → ReadsLink old new before into (Err io.NoMemory) → GivesUp set new last cause
      → TakesPiece set old last t t room (Err cause)
  took_none last cause r g = record {
    came = came_then old new last (read_came old new before into (Err io.NoMemory) r) (came_from new last g.only);
    fault = λ is. let both : cause ≡ LinkFault = cc in let never : NoMemory ≡ LinkFault = sym g.wanting ∙ both in absurd (cc);
    by = (
      [],
      All-nil (λ b. b < 256),
      omega arith,
      omega arith,
      refl,
      λ tells.
          let on = still_tells old new r.tells tells in
          let others = g.only.others on in
          let more = g.adds on in (
            more.0,
            others.0 ∙ (r.err tells).0 ∙ sym (append-nil old.took),
            more.1 ∙ ap (λ (w : List ℕ). w ++ more.0) (r.others tells).0,
            subst (λ (c : EndCause). FailedSo set [] c more.0) (sym g.wanting) more.2,
          ),
    );
  }

  -- bytes came
  module _ (n : ℕ) (r : ReadsLink old new before into (Ok n)) (some : n ≢ 0) (bytes : List ℕ) (are : bytes ≡ take n into) (below : AreBytes bytes)
      (after : Talk) (size : length into ≡ room) where
    many : length bytes ≡ n
    many = ap length are ∙ length-take n into ∙ omega (arith, r.count)

    fed : after ≡ record t { decoder = decoded t.decoder bytes; taken = t.taken + length bytes } → HasFed old new t after room
    fed is = record {
      bytes = bytes;
      below = below;
      some = omega (arith, many, some);
      within = omega (arith, many, r.count, size);
      fed = is;
      told = λ tells. (
        r.took tells ∙ ap (λ (b : List ℕ). old.took ++ b) (sym are),
        (r.others tells).0,
        r.ended tells ∙ ap (λ (b : Bool). old.ended || (b && nat_lt 0 (length into))) (ne_eqb n 0 some) ∙ or_false old.ended,
      );
    }

    pub took_fed : after ≡ record t { decoder = decoded t.decoder bytes; taken = t.taken + length bytes } → (y : List ℕ)
        → after.decoder.condition ≡ reading y → TakesPiece set old new t after room (Ok piece.Fed)
    took_fed is y reads = record { came = read_came old new before into (Ok n) r; fault = λ e. absurd (cc); by = (fed is, y, reads) }

    pub took_bad : after ≡ record t { decoder = decoded t.decoder bytes; taken = t.taken + length bytes } → (error : FrameError)
        → after.decoder.condition ≡ refused error → TakesPiece set old new t after room (Ok (piece.Bad error))
    took_bad is error bad = record { came = read_came old new before into (Ok n) r; fault = λ e. absurd (cc); by = (fed is, bad) }

    -- feeding them met want of memory
    pub took_wanting : (last : LinkSeen) (cause : EndCause) → after.taken ≡ t.taken + length bytes → after.answered ≡ t.answered → GivesUp set new last cause
        → TakesPiece set old last t after room (Err cause)
    took_wanting last cause taken answered g = record {
      came = came_then old new last (read_came old new before into (Ok n) r) (came_from new last g.only);
      fault = λ is. let both : cause ≡ LinkFault = cc in let never : NoMemory ≡ LinkFault = sym g.wanting ∙ both in absurd (cc);
      by = (
        bytes,
        below,
        omega (arith, many, r.count, size),
        taken,
        answered,
        λ tells.
            let on = still_tells old new r.tells tells in
            let others = g.only.others on in
            let more = g.adds on in (
              more.0,
              others.0 ∙ r.took tells ∙ ap (λ (b : List ℕ). old.took ++ b) (sym are),
              more.1 ∙ ap (λ (w : List ℕ). w ++ more.0) (r.others tells).0,
              subst (λ (c : EndCause). FailedSo set [] c more.0) (sym g.wanting) more.2,
            ),
      );
    }

-- A session goes on over messages, or stops at one.
use Rattle.std.proofs.Common.{◌≡◌, ℕ, ◌+◌, ◌^◌, ◌<◌, inl, inr, Bool, true, false, IsTrue, List, [], ◌∷◌, ◌++◌, length, Option, Some, Result, Ok, Err, refl, ap, sym, subst, ◌∙◌, arith, length-append, append_assoc}
use Rattle.std.proofs.lemmas.List.{append-nil}
use Rattle.std.proofs.lemmas.List.Concat.{flat_map-append}
use Rattle.pir_io.specs.Link.{LinkSeen}
use Rattle.spiral_model.specs.Databases.{RecordTable}
use Rattle.spiral_model.specs.Keys.{SetKeys}
use Rattle.spiral_frames.specs.Frames.{Message, PeerRefusal}
use Rattle.frame_streams.specs.Decoding.{Placed, Decoding}
use Rattle.frame_streams.specs.Serving.{Serving, serve_one}
use Rattle.pir_server.specs.declared.session.EndCause.{EndCause}
use Rattle.pir_server.specs.declared.session.EndCause.TheVariants.{LinkFault}
use Rattle.pir_server.specs.declared.session.talk.Talk.{Talk}
use Rattle.pir_server.specs.Served.{Served}
use Rattle.pir_server.specs.Sessions.{joined, EndsBy}
use Rattle.pir_server.specs.Talks.{OnlyWrites, Amid, unrefused, TalkAt, IsTalk, refusal_at, ServesMessage, StopsRefused, StopsReplying, StopsWanting, MessageStops, Serves, GoesOn, StopsHere, ServesNext, ServesReady}
use Rattle.pir_server.proofs.Midst.{amid_served, amid_replies, amid_refused, first_refused, amid_few}
use Rattle.pir_server.proofs.Ends.{ends_wanting, ends_failed, ends_refused}
use Rattle.pir_server.proofs.Writing.{only_none, only_then, still_tells, rose_later}

-- ---- one message

module _ (table : RecordTable) (x : List ℕ) (replies : List (List ℕ)) (before : Talk) (at : TalkAt table x replies before) (placed : Placed)
    (rest : List Placed) (first : before.decoder.ready ≡ placed ∷ rest) where
  abbrev taken_from : Decoding
  taken_from = record before.decoder { ready = rest; last = placed.place }

  -- the reply fits its number
  pub answers_fit : before.answered + 1 < 2 ^ 64
  answers_fit =
      let few = amid_few table x before.decoder (unrefused before.keys replies) at.amid in
      omega (arith, few, ap length first, at.answered, at.taken, at.small)

  -- it was served
  pub served_next : (old new : LinkSeen) (between after : Talk) → between ≡ record before { decoder = taken_from } → ServesMessage table placed old new between after
      → (frames : List (List ℕ)) × TalkAt table x (replies ++ frames) after × (IsTrue old.tells → new.wrote ≡ old.wrote ++ joined frames)
  served_next old new between after mid s =
      let decoder : after.decoder ≡ taken_from = s.decoder ∙ ap (λ (t : Talk). t.decoder) mid in
      let keys : between.keys ≡ before.keys = ap (λ (t : Talk). t.keys) mid in
      let to : serve_one table (unrefused before.keys replies) placed ≡ unrefused after.keys (replies ++ s.frames) =
      subst (λ (k : Option SetKeys). serve_one table (unrefused k replies) placed ≡ unrefused after.keys (replies ++ s.frames)) keys (s.to replies) in
      let amid : Amid table x taken_from (unrefused after.keys (replies ++ s.frames)) =
      amid_served table x before.decoder (unrefused before.keys replies) at.amid (unrefused after.keys (replies ++ s.frames)) placed rest first to in
      let taken : after.taken ≡ before.taken = s.taken ∙ ap (λ (t : Talk). t.taken) mid in
      let answered : between.answered ≡ before.answered = ap (λ (t : Talk). t.answered) mid in (
        s.frames,
        record {
          amid = subst (λ (d : Decoding). Amid table x d (unrefused after.keys (replies ++ s.frames))) (sym decoder) amid;
          fit = s.fit;
          taken = taken ∙ at.taken;
          answered = omega (arith, s.answered, answered, at.answered, length-append replies s.frames);
          small = omega (arith, taken, at.small);
        },
        s.wrote,
      )

  -- the session stops at it
  module _ (cause : EndCause) (answered : ℕ) (count : answered ≡ length replies) (more : List ℕ) (ended : Bool) (limit : ℕ) where
    stops_wanting : StopsWanting table cause more → EndsBy table limit ended x (joined replies ++ more) answered cause
    stops_wanting s =
        let all = amid_replies table x before.decoder (unrefused before.keys replies) at.amid in
        subst (λ (c : EndCause). EndsBy table limit ended x (joined replies ++ more) answered c) (sym s.wanting)
        (ends_wanting table x replies answered count ended limit all.0 all.1 more s.so)

    stops_replying : StopsReplying table placed before.keys cause more → EndsBy table limit ended x (joined replies ++ more) answered cause
    stops_replying s =
        let amid = amid_served table x before.decoder (unrefused before.keys replies) at.amid (unrefused before.keys (replies ++ s.frame ∷ [])) placed rest first (s.to replies) in
        let all = amid_replies table x taken_from (unrefused before.keys (replies ++ s.frame ∷ [])) amid in
        ends_failed table x replies answered count ended limit cause s.frame all.0 all.1 more s.so

    stops_refused : StopsRefused table placed before.keys cause more → EndsBy table limit ended x (joined replies ++ more) answered cause
    stops_refused s =
        let refusal : PeerRefusal = refusal_at table s.code s.place in
        let t : Serving = record { keys = before.keys; replies = replies; refusal = Some refusal } in
        let amid : Amid table x taken_from t =
        amid_served table x before.decoder (unrefused before.keys replies) at.amid t placed rest first (s.refused_with replies) in
        ends_refused table x replies answered count ended limit
        (ap (λ (u : Serving). u.replies) (amid_refused table x taken_from t amid refusal refl))
        refusal (first_refused table x taken_from t amid refusal refl) refl (λ one. absurd (s.other one)) cause more s.so

    pub stops_at : MessageStops table placed before.keys cause more → EndsBy table limit ended x (joined replies ++ more) answered cause
    stops_at (inl s) = stops_refused s
    stops_at (inr (inl s)) = stops_replying s
    stops_at (inr (inr s)) = stops_wanting s

-- ---- the next message

-- it was taken
abbrev pub Took : Talk → Talk → List Placed → Placed → Type 0
Took before between rest placed = between ≡ record before { decoder = record before.decoder { ready = rest; last = placed.place } }

pub next_fits : (table : RecordTable) (before between : Talk) (rest : List Placed) (placed : Placed) → before.decoder.ready ≡ placed ∷ rest
    → Took before between rest placed → IsTalk table before → between.answered + 1 < 2 ^ 64
next_fits table before between rest placed first mid is =
    subst (λ (t : Talk). t.answered + 1 < 2 ^ 64) (sym mid) (answers_fit table is.x is.replies before is.at placed rest first)

-- the place of the message that was taken last is its place
pub last_place : (table : RecordTable) (m : Message) (old new : LinkSeen) (between after : Talk) (result : Result (Unit {0}) EndCause) (place : ℕ)
    → between.decoder.last ≡ place → Serves table (record { place = between.decoder.last; message = m }) old new between after result
    → Serves table (record { place = place; message = m }) old new between after result
last_place table m old new between after result place is =
    subst (λ (p : ℕ). Serves table (record { place = p; message = m }) old new between after result) is

module _ (table : RecordTable) (old new : LinkSeen) (before between after : Talk) (rest : List Placed) (placed : Placed)
    (first : before.decoder.ready ≡ placed ∷ rest) (mid : between ≡ record before { decoder = record before.decoder { ready = rest; last = placed.place } }) where
  pub next_served : Serves table placed old new between after (Ok tt) → ServesNext table old new before after (Ok true)
  next_served s =
      let decoder : after.decoder ≡ record before.decoder { ready = rest; last = placed.place } = s.by.decoder ∙ ap (λ (t : Talk). t.decoder) mid in
      record {
        only = s.only;
        fault = λ is. absurd (cc);
        by = (
          record {
            condition = ap (λ (d : Decoding). d.condition) decoder;
            taken = s.by.taken ∙ ap (λ (t : Talk). t.taken) mid;
            goes = λ x replies at. served_next table x replies before at placed rest first old new between after mid s.by;
          },
          omega (arith, ap (λ (d : Decoding). length d.ready) decoder, ap length first),
        );
      }

  next_stops : (cause : EndCause) → Serves table placed old new between after (Err cause) → StopsHere table old new before after cause
  next_stops cause s = record {
    taken = s.by.0 ∙ ap (λ (t : Talk). t.taken) mid;
    stops = λ x replies at tells.
        let more = s.by.2 tells in (
          more.0,
          more.1,
          λ ended limit.
              stops_at table x replies before at placed rest first cause after.answered
              (s.by.1 ∙ ap (λ (t : Talk). t.answered) mid ∙ at.answered) more.0 ended limit
              (subst (λ (k : Option SetKeys). MessageStops table placed k cause more.0) (ap (λ (t : Talk). t.keys) mid) more.2),
        );
  }

  pub next_stopped : (cause : EndCause) → Serves table placed old new between after (Err cause) → ServesNext table old new before after (Err cause)
  next_stopped cause s = record {
    only = s.only;
    fault = λ is. s.fault (let both : cause ≡ LinkFault = cc in ap (λ (c : EndCause). Err c) both);
    by = next_stops cause s;
  }

-- ---- over several messages

same_replies : (replies : List (List ℕ)) → replies ≡ replies ++ []
same_replies replies = sym (append-nil replies)

pub goes_none : (table : RecordTable) (old : LinkSeen) (t : Talk) → GoesOn table old old t t
goes_none table old t = record {
  condition = refl;
  taken = refl;
  goes = λ x replies at. (
    [],
    subst (λ (r : List (List ℕ)). TalkAt table x r t) (same_replies replies) at,
    λ tells. sym (append-nil old.wrote),
  );
}

-- no message was ready
pub next_none : (table : RecordTable) (old : LinkSeen) (before after : Talk) → IsTrue old.is_open → before.decoder.ready ≡ [] → after ≡ before
    → ServesNext table old old before after (Ok false)
next_none table old before after is_open none same = record {
  only = only_none old is_open;
  fault = λ is. absurd (cc);
  by = (
    subst (GoesOn table old old before) (sym same) (goes_none table old before),
    ap (λ (t : Talk). t.decoder.ready) same ∙ none,
  );
}

joined_more : (a b : List (List ℕ)) (w : List ℕ) → (w ++ joined a) ++ joined b ≡ w ++ joined (a ++ b)
joined_more a b w = append_assoc w (joined a) (joined b) ∙ ap (λ (j : List ℕ). w ++ j) (sym (flat_map-append (λ frame. frame) a b))

module _ (table : RecordTable) (a b c : LinkSeen) (s t u : Talk) (only : OnlyWrites a b) (f : GoesOn table a b s t) where
  pub goes_then : GoesOn table b c t u → GoesOn table a c s u
  goes_then g = record {
    condition = g.condition ∙ f.condition;
    taken = g.taken ∙ f.taken;
    goes = λ x replies at.
        let one = f.goes x replies at in
        let two = g.goes x (replies ++ one.0) one.1 in (
          one.0 ++ two.0,
          subst (λ (r : List (List ℕ)). TalkAt table x r u) (append_assoc replies one.0 two.0) two.1,
          λ tells.
              two.2 (still_tells a b only.tells tells)
              ∙ ap (λ (w : List ℕ). w ++ joined two.0) (one.2 tells)
              ∙ joined_more one.0 two.0 a.wrote,
        );
  }

  pub stops_then : (cause : EndCause) → StopsHere table b c t u cause → StopsHere table a c s u cause
  stops_then cause g = record {
    taken = g.taken ∙ f.taken;
    stops = λ x replies at tells.
        let one = f.goes x replies at in
        let two = g.stops x (replies ++ one.0) one.1 (still_tells a b only.tells tells) in (
          joined one.0 ++ two.0,
          two.1 ∙ ap (λ (w : List ℕ). w ++ two.0) (one.2 tells) ∙ append_assoc a.wrote (joined one.0) two.0,
          λ ended limit.
              subst (λ (w : List ℕ). EndsBy table limit ended x w u.answered cause)
              (ap (λ (j : List ℕ). j ++ two.0) (flat_map-append (λ frame. frame) replies one.0) ∙ append_assoc (joined replies) (joined one.0) two.0)
              (two.2 ended limit),
        );
  }

-- a talk that goes on is one
pub talk_on : (table : RecordTable) (a b : LinkSeen) (s t : Talk) → GoesOn table a b s t → IsTalk table s → IsTalk table t
talk_on table a b s t f is = let one = f.goes is.x is.replies is.at in record { x = is.x; replies = is.replies ++ one.0; at = one.1 }

-- the loop over the messages: some were served
pub record ServingLoop (table : RecordTable) (base now : LinkSeen) (s t : Talk) : Type 0 where
  pub only : OnlyWrites base now
  pub goes : GoesOn table base now s t

module _ (table : RecordTable) (base : LinkSeen) (s : Talk) where
  pub loop_begun : IsTrue base.is_open → ServingLoop table base base s s
  loop_begun is_open = record { only = only_none base is_open; goes = goes_none table base s }

  module _ (now new : LinkSeen) (t u : Talk) (l : ServingLoop table base now s t) where
    pub loop_talk : IsTalk table s → IsTalk table t
    loop_talk is = talk_on table base now s t l.goes is

    pub loop_on : ServesNext table now new t u (Ok true) → ServingLoop table base new s u
    loop_on n = record {
      only = only_then base now new l.only n.only;
      goes = goes_then table base now new s t u l.only l.goes n.by.0;
    }

    pub loop_falls : ServesNext table now new t u (Ok true) → length u.decoder.ready < length t.decoder.ready
    loop_falls n = n.by.1

    pub loop_ends : ServesNext table now new t u (Ok false) → ServesReady table base new s u (Ok tt)
    loop_ends n = record {
      only = only_then base now new l.only n.only;
      fault = λ is. absurd (cc);
      by = (goes_then table base now new s t u l.only l.goes n.by.0, n.by.1);
    }

    pub loop_stops : (cause : EndCause) → ServesNext table now new t u (Err cause) → ServesReady table base new s u (Err cause)
    loop_stops cause n = record {
      only = only_then base now new l.only n.only;
      fault = λ is. rose_later base.faults now.faults new.faults l.only.later (n.fault (let both : cause ≡ LinkFault = cc in ap (λ (c : EndCause). Err c) both));
      by = stops_then table base now new s t u l.only l.goes cause n.by;
    }

-- the server is the same
pub next_same : (a b : Served) (old new : LinkSeen) (before after : Talk) (result : Result Bool EndCause) → a ≡ b
    → ServesNext a.table old new before after result → ServesNext b.table old new before after result
next_same a b old new before after result is = subst (λ (s : Served). ServesNext s.table old new before after result) is

-- What a session writes: one call, or what is written where it fails.
use Rattle.std.proofs.Common.{◌≡◌, ℕ, ◌^◌, ◌<◌, ◌≤◌, inl, inr, IsTrue, List, [], ◌++◌, length, take, Result, Ok, Err, refl, ap, sym, subst, ◌∙◌, arith}
use Rattle.std.proofs.lemmas.List.{append-nil, take_all}
use Rattle.pir_io.specs.declared.fault.IoFault.{IoFault}
use Rattle.pir_io.specs.declared.fault.IoFault.TheVariants as io
use Rattle.pir_io.specs.Faults.{Rose}
use Rattle.pir_io.specs.Link.{LinkSeen, WritesLink}
use Rattle.spiral_sets.specs.declared.param_set.ParamSet.{ParamSet}
use Rattle.spiral_frames.specs.Frames.{PeerRefusal, frame_of, refuse_message}
use Rattle.pir_server.specs.declared.session.EndCause.{EndCause}
use Rattle.pir_server.specs.declared.session.EndCause.TheVariants.{Done, Refused, LinkFault, Limit, NoMemory}
use Rattle.pir_server.specs.Sessions.{no_memory_frame}
use Rattle.pir_server.specs.Talks.{OnlyWrites, Adds, IsFrontOf, FailedSo, Sends, RefusedSo, Refuses, GivesUp}

-- ---- links one after another

pub rose_later : (a b c : ℕ) → a ≤ b → Rose b c → Rose a c
rose_later a b c le (inl up) = inl (omega arith)
rose_later a b c le (inr most) = inr most

pub rose_on : (a b c : ℕ) → b ≤ c → c < 2 ^ 64 → Rose a b → Rose a c
rose_on a b c le fits (inl up) = inl (omega arith)
rose_on a b c le fits (inr most) = inr (omega (arith, most))

-- nothing was called
pub only_none : (old : LinkSeen) → IsTrue old.is_open → OnlyWrites old old
only_none old is_open = record { tells = refl; is_open = is_open; later = omega arith; others = λ tells. (refl, refl, refl, refl) }

-- a link still tells
pub still_tells : (old new : LinkSeen) → new.tells ≡ old.tells → IsTrue old.tells → IsTrue new.tells
still_tells old new same tells = subst IsTrue (sym same) tells

pub only_then : (a b c : LinkSeen) → OnlyWrites a b → OnlyWrites b c → OnlyWrites a c
only_then a b c f g = record {
  tells = g.tells ∙ f.tells;
  is_open = g.is_open;
  later = omega (arith, f.later, g.later);
  others = λ tells. let x = f.others tells in
      let y = g.others (still_tells a b f.tells tells) in
      (y.0 ∙ x.0, y.1 ∙ x.1, y.2 ∙ x.2, y.3 ∙ x.3);
}

-- what is added behind a call that wrote nothing
pub adds_behind : (a b c : LinkSeen) (So : List ℕ → Type 0) → OnlyWrites a b → (IsTrue a.tells → b.wrote ≡ a.wrote) → Adds b c So → Adds a c So
adds_behind a b c So f none adds = λ tells.
    let more = adds (still_tells a b f.tells tells) in
    (more.0, more.1 ∙ ap (λ (w : List ℕ). w ++ more.0) (none tells), more.2)

-- ---- one write

pub write_only : (old new : LinkSeen) (bytes : List ℕ) (result : Result (Unit {0}) IoFault) → WritesLink old new bytes result → OnlyWrites old new
write_only old new bytes result w = record { tells = w.tells; is_open = w.is_open; later = w.cause.later; others = w.others }

write_front : (old new : LinkSeen) (bytes : List ℕ) (result : Result (Unit {0}) IoFault) → WritesLink old new bytes result → Adds old new (IsFrontOf bytes)
write_front old new bytes (Ok _) w = λ tells. (bytes, w.ok tells, (length bytes, sym (take_all (length bytes) bytes (omega arith))))
write_front old new bytes (Err io.Failed) w = λ tells. let cut = w.failed tells refl in (take cut.0 bytes, cut.1, (cut.0, refl))
write_front old new bytes (Err io.NoMemory) w = λ tells. ([], w.no_memory tells refl ∙ sym (append-nil old.wrote), (0, refl))

-- The Refuse frame of code 13 was tried.
pub gave_up : (old new : LinkSeen) (set : ParamSet) (bytes : List ℕ) (result : Result (Unit {0}) IoFault) → WritesLink old new bytes result
    → bytes ≡ no_memory_frame set → GivesUp set old new NoMemory
gave_up old new set bytes result w is = record {
  only = write_only old new bytes result w;
  wanting = refl;
  adds = subst (λ (b : List ℕ). Adds old new (IsFrontOf b)) is (write_front old new bytes result w);
}

-- there was no memory for it
pub gave_nothing : (old : LinkSeen) (set : ParamSet) → IsTrue old.is_open → GivesUp set old old NoMemory
gave_nothing old set is_open = record {
  only = only_none old is_open;
  wanting = refl;
  adds = λ tells. ([], sym (append-nil old.wrote), (0, refl));
}

-- ---- bytes sent

pub sent_all : (old new : LinkSeen) (set : ParamSet) (bytes : List ℕ) → WritesLink old new bytes (Ok tt) → Sends set bytes old new (Ok tt)
sent_all old new set bytes w = record {
  only = write_only old new bytes (Ok tt) w;
  fault = λ is. absurd (cc);
  adds = λ tells. (bytes, w.ok tells, refl);
}

pub sent_some : (old new : LinkSeen) (set : ParamSet) (bytes : List ℕ) → WritesLink old new bytes (Err io.Failed) → Sends set bytes old new (Err LinkFault)
sent_some old new set bytes w = record {
  only = write_only old new bytes (Err io.Failed) w;
  fault = λ is. w.cause.failed refl;
  adds = λ tells. let cut = w.failed tells refl in (take cut.0 bytes, cut.1, (cut.0, refl));
}

given_up : (set : ParamSet) (bytes : List ℕ) (cause : EndCause) (more : List ℕ) → cause ≡ NoMemory → IsFrontOf (no_memory_frame set) more
    → FailedSo set bytes cause more
given_up set bytes cause more is front = subst (λ (c : EndCause). FailedSo set bytes c more) (sym is) front

no_fault : (cause : EndCause) → cause ≡ NoMemory → cause ≡ LinkFault → ⊥
no_fault cause is fault = let both : NoMemory ≡ LinkFault = sym is ∙ fault in cc

err_cause : (a b : EndCause) → (let T : Type 0 = Result (Unit {0}) EndCause in let x : T = Err a in let y : T = Err b in x ≡ y) → a ≡ b
err_cause a b h = cc

pub gives_up_sending : (old new : LinkSeen) (set : ParamSet) (bytes : List ℕ) (cause : EndCause) → GivesUp set old new cause → Sends set bytes old new (Err cause)
gives_up_sending old new set bytes cause g = record {
  only = g.only;
  fault = λ is. absurd (no_fault cause g.wanting (err_cause cause LinkFault is));
  adds = λ tells. let more = g.adds tells in (more.0, more.1, given_up set bytes cause more.0 g.wanting more.2);
}

-- memory was wanting in a call that wrote nothing
pub sent_none : (a b c : LinkSeen) (set : ParamSet) (bytes : List ℕ) (cause : EndCause) → WritesLink a b bytes (Err io.NoMemory) → GivesUp set b c cause
    → Sends set bytes a c (Err cause)
sent_none a b c set bytes cause w g = gives_up_sending a c set bytes cause (record {
  only = only_then a b c (write_only a b bytes (Err io.NoMemory) w) g.only;
  wanting = g.wanting;
  adds = adds_behind a b c (IsFrontOf (no_memory_frame set)) (write_only a b bytes (Err io.NoMemory) w) (λ tells. w.no_memory tells refl) g.adds;
})

-- the same bytes
pub sends_same : (old new : LinkSeen) (set : ParamSet) (a b : List ℕ) (result : Result (Unit {0}) EndCause) → a ≡ b → Sends set a old new result
    → Sends set b old new result
sends_same old new set a b result is = subst (λ (bytes : List ℕ). Sends set bytes old new result) is

-- ---- a refusal

pub refused_all : (old new : LinkSeen) (refusal : PeerRefusal) → Sends refusal.set (frame_of (refuse_message refusal)) old new (Ok tt)
    → Refuses refusal old new (Refused refusal.code refusal.place)
refused_all old new refusal s = record {
  only = s.only;
  fault = λ is. absurd (cc);
  adds = λ tells. let more = s.adds tells in (more.0, more.1, (refl, refl, more.2));
}

refused_by : (refusal : PeerRefusal) (cause : EndCause) (more : List ℕ) → FailedSo refusal.set (frame_of (refuse_message refusal)) cause more
    → RefusedSo refusal cause more
refused_by refusal Done more so = so
refused_by refusal (Refused code at) more so = absurd so
refused_by refusal LinkFault more so = so
refused_by refusal Limit more so = so
refused_by refusal NoMemory more so = so

pub refused_some : (old new : LinkSeen) (refusal : PeerRefusal) (cause : EndCause)
    → Sends refusal.set (frame_of (refuse_message refusal)) old new (Err cause) → Refuses refusal old new cause
refused_some old new refusal cause s = record {
  only = s.only;
  fault = λ is. s.fault (ap (λ (c : EndCause). Err c) is);
  adds = λ tells. let more = s.adds tells in (more.0, more.1, refused_by refusal cause more.0 more.2);
}

pub refused_wanting : (old new : LinkSeen) (refusal : PeerRefusal) (cause : EndCause) → GivesUp refusal.set old new cause → Refuses refusal old new cause
refused_wanting old new refusal cause g =
    refused_some old new refusal cause (gives_up_sending old new refusal.set (frame_of (refuse_message refusal)) cause g)

-- The next session of a net: started, served and closed.
use Rattle.std.proofs.Common.{ℕ, [], ◌∷◌, ◌++◌, ◌-◌, ◌^◌, ◌<◌, ◌≤◌, ◌≡◌, ◌⊎◌, inl, inr, length, IsTrue, Bool, false, if◌then◌else◌, Some, Result, Ok, Err, refl, ap, sym, subst, ◌∙◌, arith}
use Rattle.std.proofs.lemmas.List.{append-nil}
use Rattle.pir_io.specs.declared.fault.IoFault.{IoFault}
use Rattle.pir_io.specs.declared.fault.IoFault.TheVariants.{Failed, NoMemory}
use Rattle.pir_io.specs.Faults.{Rose}
use Rattle.pir_io.specs.Link.{LinkSeen, Session, accepting, NetLog, EndsLink}
use Rattle.pir_io.specs.Net.{net_log_in, log_of, at_hand, start_of, Begins}
use Rattle.spiral_model.specs.Databases.{RecordTable}
use Rattle.pir_server.specs.declared.session.SessionEnd.{SessionEnd}
use Rattle.pir_server.specs.Sessions.{EndsBy, SessionEnds}
use Rattle.tool_serve.specs.Serve.{session_limit, Told}
use Rattle.tool_serve.specs.SessionsServed.{sessions_of, ToldNext, ServesNext}

-- the session at hand, as it would stand among the past ones
abbrev session_at_hand : LinkSeen → Session
session_at_hand net = record { took = net.took; wrote = net.wrote; ended = net.ended; start = start_of (log_of net).start; faults = net.faults - (log_of net).faults_at_start }

one_at_hand : (net : LinkSeen) → IsTrue net.is_open → at_hand net ≡ session_at_hand net ∷ []
one_at_hand net is = ap (λ (b : Bool). if b then session_at_hand net ∷ [] else []) is

pub none_at_hand : (net : LinkSeen) → net.is_open ≡ false → at_hand net ≡ []
none_at_hand net is = ap (λ (b : Bool). if b then session_at_hand net ∷ [] else []) is

-- ---- it was served

-- a fault of a session is counted in it, or the count stands at its end
fault_counted : (start mid now faults : ℕ) → faults ≡ now - start → mid ≤ now → Rose start mid → (0 < faults) ⊎ (2 ^ 64 - 1 ≤ now)
fault_counted start mid now faults is le (inl up) = inl (omega (arith, is, up, le))
fault_counted start mid now faults is le (inr most) = inr (omega (arith, most, le))

module _ (table : RecordTable) (old mid late new : LinkSeen) (end : SessionEnd) {closed : Result (Unit {0}) IoFault}
    (begins : Begins old mid accepting (log_of old).addr (Ok tt)) (ends : SessionEnds table session_limit mid late end) (closes : EndsLink late new closed) where
  told_mid : IsTrue old.tells → IsTrue mid.tells
  told_mid told = subst IsTrue (sym begins.tells) told

  told_late : IsTrue old.tells → IsTrue late.tells
  told_late told = subst IsTrue (sym ends.tells) (told_mid told)

  log_is : IsTrue old.tells → log_of new ≡ record { past = sessions_of old; addr = (log_of old).addr; start = Some accepting; faults_at_start = mid.faults }
  log_is told = ap net_log_in ((closes.others (told_late told)).3 ∙ (ends.others (told_mid told)).1) ∙ begins.log told

  session_told : IsTrue old.tells → Told table new.faults (session_at_hand new) end
  session_told told =
      let by = ends.told (told_mid told) in
      let same = closes.others (told_late told) in
      let fresh = begins.session told in
      let took : new.took ≡ by.0 = same.0 ∙ by.2 ∙ ap (λ l. l ++ by.0) fresh.took in
      let wrote : new.wrote ≡ by.1 = same.1 ∙ by.3 ∙ ap (λ l. l ++ by.1) fresh.wrote in
      let ended : new.ended ≡ late.ended = same.2 in
      let count : (session_at_hand new).faults ≡ new.faults - mid.faults = ap (λ (log : NetLog). new.faults - log.faults_at_start) (log_is told) in
      record {
        accepted = ap (λ (log : NetLog). start_of log.start) (log_is told);
        taken = by.4 ∙ ap length (sym took);
        within = ends.within;
        ends = subst (λ t. EndsBy table session_limit new.ended t new.wrote end.answered end.cause) (sym took)
            (subst (λ w. EndsBy table session_limit new.ended by.0 w end.answered end.cause) (sym wrote)
            (subst (λ (b : Bool). EndsBy table session_limit b by.0 by.1 end.answered end.cause) (sym ended) by.5));
        fault = λ is. fault_counted mid.faults late.faults new.faults (session_at_hand new).faults count closes.cause.later (ends.fault is);
      }

  session_next : IsTrue old.tells → ToldNext table old new end (session_at_hand new)
  session_next told = record {
    sessions = ap (λ l. (log_of new).past ++ l) (one_at_hand new closes.is_open) ∙ ap (λ (log : NetLog). log.past ++ session_at_hand new ∷ []) (log_is told);
    told = session_told told;
    counted =
        let count : (session_at_hand new).faults ≡ new.faults - mid.faults = ap (λ (log : NetLog). new.faults - log.faults_at_start) (log_is told) in
        omega (arith, count, begins.cause.later, ends.later, closes.cause.later);
  }

  -- the next session was started, served and closed
  pub served_next : ServesNext table old new (Ok end)
  served_next = record {
    tells = closes.tells ∙ ends.tells ∙ begins.tells;
    later = omega (arith, begins.cause.later, ends.later, closes.cause.later);
    failed = λ is. absurd (cc);
    addr = λ told. ap (λ (log : NetLog). log.addr) (log_is told);
    ok = λ told. (session_at_hand new, session_next told);
    err = λ told. tt;
  }

-- ---- none was started

pub none_started : (table : RecordTable) (old new : LinkSeen) (fault : IoFault) → Begins old new accepting (log_of old).addr (Err fault)
    → ServesNext table old new (Err fault)
none_started table old new Failed begins = record {
  tells = begins.tells;
  later = begins.cause.later;
  failed = λ is. begins.cause.failed refl;
  addr = λ told. ap (λ (log : NetLog). log.addr) (begins.log told);
  ok = λ told. tt;
  err = λ told.
      ap (λ l. (log_of new).past ++ l) (none_at_hand new begins.is_open) ∙ append-nil (log_of new).past ∙ ap (λ (log : NetLog). log.past) (begins.log told);
}
none_started table old new NoMemory begins =
    let same : new ≡ old = begins.no_memory refl in
    record {
      tells = begins.tells;
      later = begins.cause.later;
      failed = λ is. absurd (cc);
      addr = λ told. ap (λ (net : LinkSeen). (log_of net).addr) same;
      ok = λ told. tt;
      err = λ told. ap sessions_of same;
    }

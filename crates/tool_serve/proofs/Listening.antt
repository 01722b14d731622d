-- The command from listening on, and its ends before that.
use Rattle.std.proofs.Common.{ℕ, List, [], ◌++◌, ◌+◌, ◌-◌, ◌^◌, ◌<◌, ◌≤◌, ◌≡◌, ◌⊎◌, inl, inr, IsTrue, false, Result, Ok, Err, refl, ap, sym, subst, ◌∙◌, arith}
use Rattle.std.proofs.lemmas.List.{append-nil}
use Rattle.pir_io.specs.declared.fault.IoFault.{IoFault}
use Rattle.pir_io.specs.declared.fault.IoFault.TheVariants.{Failed}
use Rattle.pir_io.specs.Faults.{Rose}
use Rattle.pir_io.specs.Files.{FilesSeen}
use Rattle.pir_io.specs.Reading.{OnlyRead}
use Rattle.pir_io.specs.Sink.{SinkSeen}
use Rattle.pir_io.specs.Link.{LinkSeen, NetLog}
use Rattle.pir_io.specs.Net.{log_of, Listens}
use Rattle.pir_io.proofs.Kept.{rose_before}
use Rattle.spiral_model.specs.Databases.{RecordTable}
use Rattle.pir_server.specs.declared.session.SessionEnd.{SessionEnd}
use Rattle.tool_base.specs.declared.status.Status.{Status}
use Rattle.tool_base.specs.declared.status.Status.TheVariants as status
use Rattle.tool_base.specs.Texts.{link_fault_line}
use Rattle.tool_base.specs.Puts.{Refused}
use Rattle.tool_base.specs.Words.{ServeWords}
use Rattle.tool_base.specs.Steps.{scene}
use Rattle.tool_serve.specs.Serve.{session_lines, faults_in, stops, serving, serves}
use Rattle.tool_serve.specs.SessionsServed.{sessions_of, Stops, ServesAll}
use Rattle.tool_serve.proofs.NextSession.{none_at_hand}

-- a count that rose, beyond what is counted in no session
rose_alone : (a b : ℕ) → Rose a b → (a + faults_in [] < b) ⊎ (b ≡ 2 ^ 64 - 1)
unfolding faults_in
rose_alone a b (inl up) = inl (omega (arith, up))
rose_alone a b (inr most) = inr most

-- what rose beyond sessions from a later count on
more_before : (a b c : ℕ) (faults : ℕ) → a ≤ b → (b + faults < c) ⊎ (c ≡ 2 ^ 64 - 1) → (a + faults < c) ⊎ (c ≡ 2 ^ 64 - 1)
more_before a b c faults le (inl up) = inl (omega (arith, le, up))
more_before a b c faults le (inr most) = inr most

-- no line was put yet
no_line : (so : SinkSeen) → so.bytes ≡ so.bytes ++ session_lines 1 []
unfolding session_lines
no_line so = sym (append-nil so.bytes)

-- how serving ends, by the count before listening
stops_before : (v : ServeWords) (net mid after : LinkSeen) (ends : List SessionEnd) (files : FilesSeen) (so sn : SinkSeen) (ended : Status)
    → net.faults ≤ mid.faults → Stops v.sessions mid after so sn ends ended → stops v net after ends (scene files files so sn) ended
stops_before v net mid after ends files so sn ended le (inl all) = inl all
stops_before v net mid after ends files so sn ended le (inr (inl (less, rose, put, got, refused))) =
    inr (inl (less, rose_before net.faults mid.faults after.faults le rose, put, got, refused))
stops_before v net mid after ends files so sn ended le (inr (inr rest)) = inr (inr rest)

module _ (v : ServeWords) (table : RecordTable) (net mid : LinkSeen) (files : FilesSeen) (so sn : SinkSeen) (ended : Status)
    (closed : net.is_open ≡ false) where
  -- Listening starts no session.
  none_heard : {result : Result (Unit {0}) IoFault} → Listens net mid v.addr result → (log_of mid).past ≡ (log_of net).past
      → sessions_of mid ≡ (log_of net).past
  none_heard listens past = ap (λ l. (log_of mid).past ++ l) (none_at_hand mid (listens.is_open ∙ closed)) ∙ append-nil (log_of mid).past ∙ past

  -- It listens, and serves.
  heard : (after : LinkSeen) (t : Unit {0}) → Listens net mid v.addr (Ok t) → ServesAll table v.sessions mid after so sn ended
      → serving v table net after (scene files files so sn) ended
  heard after t listens (ends, all) = (
    refl,
    all.tells ∙ listens.tells,
    ends,
    all.most,
    stops_before v net mid after ends files so sn ended listens.cause.later all.stops,
    λ told.
        let served = all.told (subst IsTrue (sym listens.tells) told) in (
          served.0,
          record {
            addr_is = served.1.addr ∙ ap (λ (log : NetLog). log.addr) (listens.log told);
            past = served.1.sessions_are ∙ ap (λ l. l ++ served.0) (none_heard listens (ap (λ (log : NetLog). log.past) (listens.log told)));
            told = served.1.told;
          },
          λ few is. more_before net.faults mid.faults after.faults (faults_in served.0) listens.cause.later (served.2 few is),
        ),
  )

  -- the same, with a server of that table
  pub heard_by : (after : LinkSeen) (own : RecordTable) (t : Unit {0}) → own ≡ table → Listens net mid v.addr (Ok t)
      → ServesAll own v.sessions mid after so sn ended → serving v table net after (scene files files so sn) ended
  heard_by after own t same listens all = heard after t listens (subst (λ (x : RecordTable). ServesAll x v.sessions mid after so sn ended) same all)

  -- It can't listen.
  pub unheard : 1 ≤ v.sessions → Listens net mid v.addr (Err Failed) → Refused so sn status.LinkFault link_fault_line ended
      → serving v table net mid (scene files files so sn) ended
  unheard some listens refused = (
    refl,
    listens.tells,
    [],
    omega arith,
    inr (inl (omega (arith, some), listens.cause.failed refl, so, (refl, λ told. no_line so), refused)),
    λ told. (
      [],
      record {
        addr_is = ap (λ (log : NetLog). log.addr) (listens.log told);
        past = none_heard listens (ap (λ (log : NetLog). log.past) (listens.log told)) ∙ sym (append-nil (log_of net).past);
        told = tt;
      },
      λ few is. rose_alone net.faults mid.faults (listens.cause.failed refl),
    ),
  )

-- memory was wanting, with the database or for listening
pub wanting : (v : ServeWords) (net net_after : LinkSeen) (old new : FilesSeen) (so : SinkSeen) → net_after ≡ net → OnlyRead old new
    → serves v net net_after (scene old new so so) status.NoMemory
wanting v net net_after old new so same only = inl (same, (new, only, inl (inr (inl (refl, refl, (refl, λ told. refl))))))

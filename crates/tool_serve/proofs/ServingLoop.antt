-- The loop over the sessions: what is so behind some of them, and how it is left.
use Rattle.std.proofs.Common.{ℕ, List, [], ◌∷◌, ◌++◌, ◌+◌, ◌<◌, ◌≡◌, length, Option, None, Result, Ok, Err, refl, ap, sym, subst, ◌∙◌, arith}
use Rattle.std.specs.Option.{option_or}
use Rattle.std.proofs.lemmas.List.{length-append}
use Rattle.pir_io.specs.declared.fault.IoFault.{IoFault}
use Rattle.pir_io.specs.declared.fault.IoFault.TheVariants.{Failed, NoMemory}
use Rattle.pir_io.specs.Sink.{SinkSeen, Puts}
use Rattle.pir_io.specs.Link.{LinkSeen}
use Rattle.spiral_model.specs.Databases.{RecordTable}
use Rattle.pir_server.specs.declared.session.SessionEnd.{SessionEnd}
use Rattle.pir_server.specs.Served.{Served}
use Rattle.tool_base.specs.declared.status.Status.{Status}
use Rattle.tool_base.specs.declared.status.Status.TheVariants as status
use Rattle.tool_base.specs.Texts.{link_fault_line}
use Rattle.tool_base.specs.Puts.{Refused}
use Rattle.tool_serve.specs.Serve.{session_line, status_of_cause, status_or, EndsWith}
use Rattle.tool_serve.specs.SessionsServed.{ServesNext, ServedSoFar, ServesAll}
use Rattle.tool_serve.proofs.SessionLists.{first_status, first_more}
use Rattle.tool_serve.proofs.ServingOn.{none_served, served_more, ends_unstarted, ends_wanting, ends_unput, ends_unwritten, ends_served}

-- so many sessions were served, and this is the first status that one of them gave
pub record SoFar (table : RecordTable) (net now : LinkSeen) (so sn : SinkSeen) (served : ℕ) (first : Option Status) : Type 0 where
  pub ends : List SessionEnd
  pub count : length ends ≡ served
  pub first_is : first ≡ first_status ends
  pub state : ServedSoFar table net now so sn ends

pub loop_begun : (table : RecordTable) (net : LinkSeen) (so : SinkSeen) → SoFar table net net so so 0 None
unfolding first_status
loop_begun table net so = record { ends = []; count = refl; first_is = refl; state = none_served table net so }

-- the server is the same all the time
pub next_same : (server given : Served) (old new : LinkSeen) (result : Result SessionEnd IoFault) → server ≡ given
    → ServesNext server.table old new result → ServesNext given.table old new result
next_same server given old new result same serves = subst (λ (s : Served). ServesNext s.table old new result) same serves

module _ (table : RecordTable) (net now after : LinkSeen) (so sn : SinkSeen) (served : ℕ) (first : Option Status)
    (so_far : SoFar table net now so sn served first) where
  -- the line that was put is that behind the sessions so far
  line_put : (end : SessionEnd) (sp : SinkSeen) (result : Result (Unit {0}) IoFault) → Puts sn sp (session_line (served + 1) end) result
      → Puts sn sp (session_line (length so_far.ends + 1) end) result
  line_put end sp result puts = subst (λ k. Puts sn sp (session_line (k + 1) end) result) (sym so_far.count) puts

  -- one more session was served
  pub loop_on : (end : SessionEnd) (sp : SinkSeen) (own next : Option Status) → next ≡ option_or first own → own ≡ status_of_cause end.cause
      → ServesNext table now after (Ok end) → Puts sn sp (session_line (served + 1) end) (Ok tt) → SoFar table net after so sp (served + 1) next
  loop_on end sp own next next_is own_is serves puts = record {
    ends = so_far.ends ++ end ∷ [];
    count = omega (arith, length-append so_far.ends (end ∷ []), so_far.count);
    first_is = next_is ∙ ap (option_or first) own_is ∙ ap (λ f. option_or f (status_of_cause end.cause)) so_far.first_is ∙ sym (first_more so_far.ends end);
    state = served_more table net now after so sn so_far.ends so_far.state end sp serves (line_put end sp (Ok tt) puts);
  }

  few : (count : ℕ) → served < count → length so_far.ends < count
  few count less = omega (arith, so_far.count, less)

  -- the next one couldn't be started
  pub loop_unstarted : (count : ℕ) (sx : SinkSeen) (ended : Status) → served < count → ServesNext table now after (Err Failed)
      → Refused sn sx status.LinkFault link_fault_line ended → ServesAll table count net after so sx ended
  loop_unstarted count sx ended less serves refused =
      ends_unstarted table net now after so sn so_far.ends so_far.state count sx ended (few count less) serves refused

  pub loop_wanting : (count : ℕ) → served < count → ServesNext table now after (Err NoMemory) → ServesAll table count net after so sn status.NoMemory
  loop_wanting count less serves = ends_wanting table net now after so sn so_far.ends so_far.state count (few count less) serves

  -- its line couldn't be put
  pub loop_unput : (count : ℕ) (end : SessionEnd) (sp : SinkSeen) → served < count → ServesNext table now after (Ok end)
      → Puts sn sp (session_line (served + 1) end) (Err Failed) → ServesAll table count net after so sp status.SinkFault
  loop_unput count end sp less serves puts =
      ends_unput table net now after so sn so_far.ends so_far.state count end sp (few count less) serves (line_put end sp (Err Failed) puts)

  pub loop_unwritten : (count : ℕ) (end : SessionEnd) (sp : SinkSeen) → served < count → ServesNext table now after (Ok end)
      → Puts sn sp (session_line (served + 1) end) (Err NoMemory) → ServesAll table count net after so sp status.NoMemory
  loop_unwritten count end sp less serves puts =
      ends_unwritten table net now after so sn so_far.ends so_far.state count end sp (few count less) serves (line_put end sp (Err NoMemory) puts)

  -- all were served
  pub loop_done : (count : ℕ) (sx : SinkSeen) (ended : Status) → served ≡ count → EndsWith (status_or first status.Done) sn sx ended
      → ServesAll table count net now so sx ended
  loop_done count sx ended all with =
      ends_served table net now after so sn so_far.ends so_far.state count first sx ended (so_far.count ∙ all) so_far.first_is with

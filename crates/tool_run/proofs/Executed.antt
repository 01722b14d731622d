-- What the program promises, from what its command does.
use Rattle.std.proofs.Common.{ℕ, List, ◌≡◌, Some, inl, inr, subst}
use Rattle.pir_io.specs.Link.{LinkSeen}
use Rattle.tool_base.specs.declared.status.Status.{Status}
use Rattle.tool_base.specs.Statuses.{number_of_status}
use Rattle.tool_base.specs.declared.words.Command.{Command}
use Rattle.tool_base.specs.Words.{CommandName, the_prepare, the_ask, the_answer, the_open, the_noise, the_local, the_serve, the_fetch, Said, Gives}
use Rattle.tool_base.specs.Steps.{Scene}
use Rattle.tool_base.proofs.Telling.{refuse_told}
use Rattle.tool_files.proofs.CommandsTell.{prepare_told, ask_told, answer_told, open_told, noise_told}
use Rattle.tool_run.specs.Run.{does, executes, Runs}
use Rattle.tool_run.proofs.PeersTell.{NetToo, net_same, local_told, fetch_told, serve_told}

does_told : (name : CommandName) (said : Said name) (net net_after : LinkSeen) (s : Scene) (status : Status) → does name said net net_after s status
    → NetToo net net_after s
does_told the_prepare said net net_after s status (same, done) = (net_same net net_after same, prepare_told said s status done)
does_told the_ask said net net_after s status (same, done) = (net_same net net_after same, ask_told said s status done)
does_told the_answer said net net_after s status (same, done) = (net_same net net_after same, answer_told said s status done)
does_told the_open said net net_after s status (same, done) = (net_same net net_after same, open_told said s status done)
does_told the_noise said net net_after s status (same, done) = (net_same net net_after same, noise_told said s status done)
does_told the_local said net net_after s status (same, done) = (net_same net net_after same, local_told said s status done)
does_told the_serve said net net_after s status done = serve_told said net net_after s status done
does_told the_fetch said net net_after s status done = fetch_told said net net_after s status done

executed_told : (words : List (List ℕ)) (net net_after : LinkSeen) (s : Scene) (status : Status) → executes words net net_after s status → NetToo net net_after s
executed_told words net net_after s status (inl (asked, _, _, done)) = does_told asked.name asked.said net net_after s status done
executed_told words net net_after s status (inr (_, (same, refused))) = (net_same net net_after same, refuse_told s status _ _ refused)

pub ran : (words : List (List ℕ)) (net net_after : LinkSeen) (s : Scene) (status : Status) (number : ℕ) → number ≡ number_of_status status
    → executes words net net_after s status → Runs words net net_after s number
ran words net net_after s status number is ends =
    let told = executed_told words net net_after s status ends in
    record { status = status; number_is = is; ends = ends; files_tell = told.1.0; net_tells = told.0; sink_tells = told.1.1 }

-- what a command's words give, of the same command
pub given : (command same : Command) (words : List (List ℕ)) → command ≡ same → Gives (Some command) words → Gives (Some same) words
given command same words is gives = subst (λ (k : Command). Gives (Some k) words) is gives

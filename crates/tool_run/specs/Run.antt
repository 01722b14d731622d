-- What the program does, by the words of its command line.
use Rattle.std.specs.Prelude.{ℕ, List, ◌≡◌, ◌⊎◌}
use Rattle.pir_io.specs.Link.{LinkSeen}
use Rattle.tool_base.specs.declared.status.Status.{Status}
use Rattle.tool_base.specs.declared.status.Status.TheVariants.{Usage}
use Rattle.tool_base.specs.Statuses.{number_of_status}
use Rattle.tool_base.specs.Texts.{usage_line}
use Rattle.tool_base.specs.Words.{CommandName, the_prepare, the_ask, the_answer, the_open, the_noise, the_local, the_serve, the_fetch, Said, Asked, InForm, words_of, FitNone}
use Rattle.tool_base.specs.Steps.{Scene, Steps, refuse}
use Rattle.tool_files.specs.Prepare.{prepares}
use Rattle.tool_files.specs.Ask.{asks}
use Rattle.tool_files.specs.Answer.{answers}
use Rattle.tool_files.specs.Open.{opens}
use Rattle.tool_files.specs.Noise.{noises}
use Rattle.tool_local.specs.Local.{locals}
use Rattle.tool_serve.specs.Serve.{serves}
use Rattle.tool_fetch.specs.Fetch.{fetches}

-- the steps of a command over files leave the net as it was
abbrev pub offline : Steps → LinkSeen → LinkSeen → Steps
offline steps net net_after s status = (net_after ≡ net) × steps s status

-- what a command's words say, done
abbrev pub does : (name : CommandName) → Said name → LinkSeen → LinkSeen → Steps
does the_prepare said = offline (prepares said)
does the_ask said = offline (asks said)
does the_answer said = offline (answers said)
does the_open said = offline (opens said)
does the_noise said = offline (noises said)
does the_local said = offline (locals said)
does the_serve said = serves said
does the_fetch said = fetches said

-- A command line: what its words ask for in form is done, or they fit no command's form and are refused.
abbrev pub executes : List (List ℕ) → LinkSeen → LinkSeen → Steps
executes words net net_after s status =
    ((asked : Asked) × InForm asked.name asked.said × (words ≡ words_of asked) × does asked.name asked.said net net_after s status)
    ⊎ (FitNone words × offline (refuse Usage usage_line) net net_after s status)

-- The program ran on these words: it ended with the number of the status with which that ends. Objects that told what they hold tell
-- it still.
pub record Runs (words : List (List ℕ)) (net net_after : LinkSeen) (s : Scene) (number : ℕ) : Type 0 where
  pub status : Status
  pub number_is : number ≡ number_of_status status
  pub ends : executes words net net_after s status
  pub files_tell : s.files_after.tells ≡ s.files.tells
  pub net_tells : net_after.tells ≡ net.tells
  pub sink_tells : s.sink_after.tells ≡ s.sink.tells

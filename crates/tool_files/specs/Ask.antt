-- What the command `ask SET INDEX WORDS STATE SETUP QUERY` does.
use Rattle.std.specs.Prelude.{ℕ, List, [], ◌∷◌, ◌⊎◌, length}
use Rattle.spiral_sets.specs.declared.param_set.ParamSet.{ParamSet}
use Rattle.spiral_model.specs.Dealing.{state_of, query_body_of}
use Rattle.spiral_model.specs.Noise.{dealt_report, Fits}
use Rattle.spiral_frames.specs.Frames.{frame_of, state_message, query_message}
use Rattle.pir_client.specs.Asks.{FirstMiss, setup_frame}
use Rattle.tool_base.specs.declared.status.Status.TheVariants.{TooNoisy}
use Rattle.tool_base.specs.Texts.{query_line, too_noisy_line}
use Rattle.tool_base.specs.Words.{AskWords}
use Rattle.tool_base.specs.Outputs.{Output}
use Rattle.tool_base.specs.Steps.{Steps, work_out, refuse, write}
use Rattle.tool_files.specs.WithWords.{with_words}

-- the frame of the query that words give
abbrev pub query_frame : AskWords → ParamSet → List ℕ → List ℕ
query_frame a set words = frame_of (query_message (query_body_of set words a.index))

-- What is written, in order: STATE gets the frame of the state, SETUP that of the keys, or no bytes where the set has none, QUERY the
-- frame of the query.
abbrev pub asked_outputs : AskWords → ParamSet → List ℕ → List Output
asked_outputs a set words =
    record { name = a.state_name; bytes = frame_of (state_message (state_of set words a.index)) }
    ∷ record { name = a.setup_name; bytes = setup_frame set words }
    ∷ record { name = a.query_name; bytes = query_frame a set words } ∷ []

-- Goes on where Fits holds of the query, and is refused where it doesn't: the line tells the first row that misses.
abbrev pub quiet : ParamSet → List ℕ → ℕ → Steps → Steps
quiet set words index rest s status =
    ((row : ℕ) × (noise : ℕ) × FirstMiss set (dealt_report set words index) row noise × refuse TooNoisy (too_noisy_line row noise) s status)
    ⊎ (Fits set words index × rest s status)

-- Makes a query for the index from random words, and writes the state, the setup and the query: where its noise is small enough.
abbrev pub asks : AskWords → Steps
asks a =
    with_words a.set_name a.index a.source (λ set words.
    work_out (
    quiet set words a.index (
    write (asked_outputs a set words) (query_line a.set_name (length (setup_frame set words)) (length (query_frame a set words))))))

-- What the command `answer DB SETUP QUERY REPLY WORKERS` does. Nothing here speaks of WORKERS: what is written is the same for each
-- number of them.
use Rattle.std.specs.Prelude.{ℕ, List, ◌≡◌, length, Option, Some, None, option_map}
use Rattle.spiral_sets.specs.declared.param_set.ParamSet.{ParamSet}
use Rattle.frame_headers.specs.declared.frame_error.FrameError.{FrameError}
use Rattle.spiral_model.specs.Sets.{name_of}
use Rattle.spiral_model.specs.Bodies.{CipherBody}
use Rattle.spiral_model.specs.Keys.{keys_in}
use Rattle.spiral_frames.specs.FrameChecks.{database_refusal}
use Rattle.frame_streams.specs.Serving.{reply_frame}
use Rattle.tool_base.specs.declared.status.Status.TheVariants.{WrongSet}
use Rattle.tool_base.specs.Texts.{reply_line, wrong_set_line}
use Rattle.tool_base.specs.Words.{AnswerWords}
use Rattle.tool_base.specs.Outputs.{one}
use Rattle.tool_base.specs.Steps.{Steps, read, needs, write, refuse_frame, IsRefusedAs}
use Rattle.tool_files.specs.Inputs.{SpellsDatabase, SpellsKeys, SpellsQuery, setup_kinds, query_kinds}

-- bytes that are no database's frame are refused for this reason
abbrev pub IsRefused : List ℕ → FrameError → Type 0
IsRefused bytes error = database_refusal bytes ≡ Some error

-- the set of the keys that SETUP holds; where it holds none, the database's own
abbrev pub set_of_setup : ParamSet → Option CipherBody → ParamSet
set_of_setup set (Some keys) = keys.set
set_of_setup set None = set

-- Answers the query from the database with the keys of SETUP, and writes the reply. Where the database's set has no keys SETUP is
-- empty, or a Setup of that set, which carries none and changes nothing.
abbrev pub answers : AnswerWords → Steps
answers a =
    read a.db_name SpellsDatabase (refuse_frame 1 a.db_name IsRefused) (λ table.
    read a.setup_name (SpellsKeys table.set) (refuse_frame 2 a.setup_name (IsRefusedAs setup_kinds)) (λ setup.
    read a.query_name SpellsQuery (refuse_frame 3 a.query_name (IsRefusedAs query_kinds)) (λ query.
    needs (table.set ≡ set_of_setup table.set setup) WrongSet (wrong_set_line (name_of table.set) (name_of (set_of_setup table.set setup))) (
    needs (table.set ≡ query.set) WrongSet (wrong_set_line (name_of table.set) (name_of query.set)) (
    write (one a.reply_name (reply_frame table (option_map keys_in setup) query))
    (reply_line (name_of table.set) (length (reply_frame table (option_map keys_in setup) query))))))))

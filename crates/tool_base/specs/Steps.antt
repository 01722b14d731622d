-- The steps of which a command's definition is made, in the order in which it takes them. A command is a relation between what is seen
-- of the files and of the sink, before and after, and the status that it ends with. What is said of contents holds of an object that
-- tells them.
use Rattle.std.specs.Prelude.{ℕ, List, IsTrue, ◌≡◌, ◌⊎◌, Some}
use Rattle.pir_io.specs.Faults.{Rose}
use Rattle.pir_io.specs.Files.{FilesSeen, content_of}
use Rattle.pir_io.specs.Reading.{OnlyRead, FailedReading}
use Rattle.pir_io.specs.Sink.{SinkSeen}
use Rattle.spiral_sets.specs.declared.param_set.ParamSet.{ParamSet}
use Rattle.frame_headers.specs.declared.frame_error.FrameError.{FrameError}
use Rattle.spiral_frames.specs.Refusals.{code_of, place_of}
use Rattle.spiral_frames.specs.FrameChecks.{one_refusal}
use Rattle.tool_base.specs.declared.status.Status.{Status}
use Rattle.tool_base.specs.declared.status.Status.TheVariants.{NoMemory, UnknownSet, FileFault, BadFrame}
use Rattle.tool_base.specs.Texts.{unknown_set_line, file_fault_line, bad_frame_line}
use Rattle.tool_base.specs.Puts.{GotNothing, GotRefusal, Refused, Finished, Finishes}
use Rattle.tool_base.specs.Names.{Names, NamesNone}
use Rattle.tool_base.specs.Outputs.{Output, WroteAll, StoppedIn, FailedIn}

-- what is seen of the files at a step, and of the sink, and of both at the command's end
pub record Scene : Type 0 where
  pub files : FilesSeen
  pub files_after : FilesSeen
  pub sink : SinkSeen
  pub sink_after : SinkSeen

abbrev pub scene : FilesSeen → FilesSeen → SinkSeen → SinkSeen → Scene
scene old new sink_old sink_new = record { files = old; files_after = new; sink = sink_old; sink_after = sink_new }

-- the same, with these files at the step
abbrev pub at_files : FilesSeen → Scene → Scene
at_files now s = scene now s.files_after s.sink s.sink_after

-- the steps from one on: how a command may end that comes there
abbrev pub Steps : Type 1
Steps = Scene → Status → Type 0

-- ---- ends

-- It ends with this status and puts this line, and nothing else happens. The status stays where the put fails; where memory was
-- wanting for it, that is the status.
abbrev pub refuse : Status → List ℕ → Steps
refuse ended line s status = (s.files_after ≡ s.files) × Refused s.sink s.sink_after ended line status

-- it ends with this status, without a line
abbrev pub without_line : Status → Steps
without_line ended s status = (s.files_after ≡ s.files) × (status ≡ ended) × GotNothing s.sink s.sink_after

-- it doesn't come here
abbrev pub never : Steps
never s status = ⊥

-- these bytes, which have to be one frame of these kinds, are refused for this reason
abbrev pub IsRefusedAs : ℕ → List ℕ → FrameError → Type 0
IsRefusedAs kinds bytes error = one_refusal kinds bytes ≡ Some error

-- Ends with the refusal of a file that was read as an input, counted from 1: a code says why, and where.
abbrev pub refuse_frame : ℕ → List ℕ → (List ℕ → FrameError → Type 0) → Steps
refuse_frame input name IsRefused s status =
    (error : FrameError) × (IsTrue s.files.tells → IsRefused (content_of s.files name) error)
    × refuse BadFrame (bad_frame_line input (code_of error) (place_of error)) s status

-- Puts these lines, and that is all: the command did what it promises. Memory may be wanting for them.
abbrev pub puts : List ℕ → Steps
puts lines s status = (s.files_after ≡ s.files) × Finishes s.sink s.sink_after lines status

-- Writes these outputs in order, and then puts this line. Where memory is wanting or a write fails, it stops there: at one output,
-- which is as it was or holds a prefix of its bytes, with those before it written and those behind it as they were.
abbrev pub write : List Output → List ℕ → Steps
write outputs line s status =
    (s.files_after.tells ≡ s.files.tells)
    × (((IsTrue s.files.tells → WroteAll outputs s.files s.files_after) × Finished s.sink s.sink_after line status)
    ⊎ (((status ≡ NoMemory) × (IsTrue s.files.tells → StoppedIn outputs s.files s.files_after) × GotNothing s.sink s.sink_after)
    ⊎ ((status ≡ FileFault) × Rose s.files.faults s.files_after.faults × (IsTrue s.files.tells → FailedIn outputs s.files s.files_after)
    × GotRefusal s.sink s.sink_after file_fault_line)))

-- ---- steps on the way

-- goes on where this holds, and is refused with this status and line where it doesn't
abbrev pub needs : Type 0 → Status → List ℕ → Steps → Steps
needs Holds refusal line rest s status = ((Holds → ⊥) × refuse refusal line s status) ⊎ (Holds × rest s status)

-- goes on, and this holds
abbrev pub knowing : Type 0 → Steps → Steps
knowing Fact rest s status = Fact × rest s status

-- Works something out, for which memory may be wanting: then it ends with that, and nothing else happens.
abbrev pub work_out : Steps → Steps
work_out rest s status = without_line NoMemory s status ⊎ rest s status

-- goes on in one way where this holds, and in another where it doesn't
abbrev pub either : Type 0 → Steps → Steps → Steps
either Holds rest otherwise s status = (Holds × rest s status) ⊎ ((Holds → ⊥) × otherwise s status)

-- goes on with the set of this name, and is refused where no set has it
abbrev pub with_set : List ℕ → (ParamSet → Steps) → Steps
with_set name rest s status = (NamesNone name × refuse UnknownSet unknown_set_line s status) ⊎ ((set : ParamSet) × Names name set × rest set s status)

-- Nothing came of reading a file: the read failed; or memory was wanting, there or before the next step; or the bytes are those of
-- nothing that it could go on with, and it goes on otherwise.
abbrev pub Unread : {A : Type 0} → FilesSeen → List ℕ → (List ℕ → A → Type 0) → Steps → Steps
Unread before name Is otherwise s status =
    (FailedReading before s.files name × refuse FileFault file_fault_line s status)
    ⊎ (without_line NoMemory s status
    ⊎ ((IsTrue before.tells → (x : _) → Is (content_of before name) x → ⊥) × otherwise s status))

-- Reads a file, changing none, and goes on with what its bytes are; or otherwise, where they are nothing of the kind.
abbrev pub read : {A : Type 0} → List ℕ → (List ℕ → A → Type 0) → Steps → (A → Steps) → Steps
read name Is otherwise rest s status =
    (now : FilesSeen) × OnlyRead s.files now
    × (Unread s.files name Is otherwise (at_files now s) status
    ⊎ ((x : _) × (IsTrue s.files.tells → Is (content_of s.files name) x) × rest x (at_files now s) status))

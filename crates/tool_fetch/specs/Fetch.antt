-- What the command `fetch ADDR SET INDEX WORDS OUT` does: over a net, before it and after.
use Rattle.std.specs.Prelude.{ℕ, List, IsTrue, false, ◌≡◌, ◌⊎◌, ◌<◌, ◌+◌, ◌^◌, length, take, Some}
use Rattle.pir_io.specs.Faults.{Rose}
use Rattle.pir_io.specs.Files.{FilesSeen}
use Rattle.pir_io.specs.Link.{LinkSeen, connecting}
use Rattle.pir_io.specs.Net.{log_of}
use Rattle.spiral_sets.specs.declared.param_set.ParamSet.{ParamSet}
use Rattle.frame_headers.specs.declared.frame_error.FrameError.{FrameError}
use Rattle.frame_headers.specs.Refusals.{code_of, place_of}
use Rattle.spiral_model.specs.Replies.{QueryState}
use Rattle.spiral_model.specs.Dealing.{state_of}
use Rattle.spiral_model.specs.Noise.{Fits}
use Rattle.tool_base.specs.declared.status.Status.TheVariants.{NoMemory, LinkFault, BadFrame}
use Rattle.tool_base.specs.Texts.{link_fault_line, bad_frame_line}
use Rattle.tool_base.specs.Words.{FetchWords}
use Rattle.tool_base.specs.Steps.{Steps, at_files, without_line, refuse, work_out, never, IsRefusedAs}
use Rattle.tool_files.specs.declared.peer_answer.PeerAnswer.{PeerAnswer}
use Rattle.tool_files.specs.Inputs.{SpellsAnswer, answer_kinds}
use Rattle.tool_files.specs.Ask.{quiet}
use Rattle.tool_files.specs.Open.{opens_answer}
use Rattle.tool_files.specs.WithWords.{with_words, HasWords}
use Rattle.session_laws.specs.Exchanges.{asking_bytes}

-- The session of a net that connected to an address and wrote these bytes: it is the first behind the sessions before it, and few bytes were read.
pub record HasSent (net now : LinkSeen) (addr bytes : List ℕ) : Type 0 where
  pub past : (log_of now).past ≡ (log_of net).past
  pub addr_is : (log_of now).addr ≡ Some addr
  pub start : IsTrue now.is_open → (log_of now).start ≡ Some connecting
  pub wrote : now.wrote ≡ bytes
  pub few : length now.took < 2 ^ 24 + 2 ^ 16

-- It breaks off: a call of the net failed, before the end of input was read; or memory was wanting.
abbrev pub breaks_off : LinkSeen → LinkSeen → Steps
breaks_off net net_after s status =
    (Rose net.faults net_after.faults × (IsTrue net.tells → net_after.ended ≡ false) × refuse LinkFault link_fault_line s status)
    ⊎ without_line NoMemory s status

-- a refusal of code 1, Short, comes only where the input has ended
abbrev pub ShortAtEnd : LinkSeen → FrameError → Type 0
ShortAtEnd net error = code_of error ≡ 1 → IsTrue net.ended

-- What came is one frame, and it is gone on with as `open` does; or it isn't, and the first reason is told. The words were the first input.
abbrev pub receives : List ℕ → QueryState → LinkSeen → Steps
receives out_name state net s status =
    ((error : FrameError) × (IsTrue net.tells → IsRefusedAs answer_kinds net.took error × ShortAtEnd net error)
    × refuse BadFrame (bad_frame_line 2 (code_of error) (place_of error)) s status)
    ⊎ ((answer : PeerAnswer) × (IsTrue net.tells → IsTrue net.ended × SpellsAnswer net.took answer) × opens_answer out_name state answer s status)

-- Connects and sends the setup and the query, all or a part of them, or memory is wanting before that; behind all of them its side is closed, and
-- what comes is received. Whether the net tells its bytes stays.
abbrev pub exchanges : FetchWords → ParamSet → List ℕ → LinkSeen → LinkSeen → Steps
exchanges f set words net net_after s status =
    (net_after.tells ≡ net.tells)
    × (((net_after ≡ net) × without_line NoMemory s status)
    ⊎ (((IsTrue net.tells → (k : ℕ) × HasSent net net_after f.addr (take k (asking_bytes set words f.index))) × breaks_off net net_after s status)
    ⊎ ((IsTrue net.tells → HasSent net net_after f.addr (asking_bytes set words f.index) × IsTrue net_after.closed)
    × receives f.out_name (state_of set words f.index) net_after s status)))

-- It ends before the net is used, which is as it was: SET, INDEX or WORDS are refused, or the query's noise is too large.
abbrev pub ends_before : FetchWords → Steps
ends_before f = with_words f.set_name f.index f.source (λ set words. work_out (quiet set words f.index never))

-- Looks the record up by the server at an address, and writes it: where the query's noise is small enough.
abbrev pub fetches : FetchWords → LinkSeen → LinkSeen → Steps
fetches f net net_after s status =
    ((net_after ≡ net) × ends_before f s status)
    ⊎ ((set : ParamSet) × (words : List ℕ) × (now : FilesSeen) × HasWords f.set_name f.index f.source s.files now set words
    × Fits set words f.index × exchanges f set words net net_after (at_files now s) status)

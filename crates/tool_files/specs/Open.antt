-- What the command `open STATE REPLY OUT` does.
use Rattle.std.specs.Prelude.{ℕ, List, ◌≡◌, ◌<◌}
use Rattle.spiral_model.specs.Sets.{name_of}
use Rattle.spiral_model.specs.Replies.{QueryState, SwitchedReply, open_bytes}
use Rattle.tool_base.specs.declared.status.Status.TheVariants.{WrongSet, Absent, PeerRefused}
use Rattle.tool_base.specs.Texts.{record_line, wrong_set_line, absent_line, peer_refused_line}
use Rattle.tool_base.specs.Words.{OpenWords}
use Rattle.tool_base.specs.Outputs.{one}
use Rattle.tool_base.specs.Steps.{Steps, read, needs, write, refuse, refuse_frame, IsRefusedAs}
use Rattle.tool_files.specs.declared.peer_answer.PeerAnswer.{PeerAnswer}
use Rattle.tool_files.specs.declared.peer_answer.PeerAnswer.TheVariants as peer
use Rattle.tool_files.specs.Inputs.{SpellsState, SpellsAnswer, state_kinds, answer_kinds}

-- Opens a reply by the state, and writes the record.
abbrev pub opens_reply : List ℕ → QueryState → SwitchedReply → Steps
opens_reply out_name state reply =
    needs (state.set ≡ reply.set) WrongSet (wrong_set_line (name_of state.set) (name_of reply.set)) (
    needs (state.index < reply.count) Absent (absent_line state.index reply.count) (
    write (one out_name (open_bytes state reply)) (record_line reply.record_length)))

-- Goes on with what the server sent: its reply; a refusal ends the command.
abbrev pub opens_answer : List ℕ → QueryState → PeerAnswer → Steps
opens_answer out_name state (peer.Reply reply) = opens_reply out_name state reply
opens_answer out_name state (peer.Refuse code place) = refuse PeerRefused (peer_refused_line code place)

-- Opens the reply by the state, and writes the record.
abbrev pub opens : OpenWords → Steps
opens o =
    read o.state_name SpellsState (refuse_frame 1 o.state_name (IsRefusedAs state_kinds)) (λ state.
    read o.reply_name SpellsAnswer (refuse_frame 2 o.reply_name (IsRefusedAs answer_kinds)) (λ answer.
    opens_answer o.out_name state answer))

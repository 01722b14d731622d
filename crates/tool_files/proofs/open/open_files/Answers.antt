use Rattle.std.proofs.Common.{inl, inr, refl}
use Rattle.tool_base.proofs.Courses.{behind, found}
use Rattle.tool_files.specs.declared.peer_answer.PeerAnswer.TheVariants as peer
use Rattle.tool_files.specs.Inputs.{SpellsState, SpellsAnswer}
use Rattle.tool_files.proofs.Unread.{not_read}
use Rattle.tool_files.proofs.open.open_files.Goals as goal

pub returns-in-Err : goal.returns-in-Err
returns-in-Err g c = behind c.in-Err.ensures.reads.only (inl (not_read 1 32 SpellsState _ _ _ _ _ c.in-Err.error c.refuse_input.result c.in-Err.ensures.reads c.refuse_input.ensures))

pub returns-in-Ok-Reply : goal.returns-in-Ok-Reply
returns-in-Ok-Reply g c = (
  g.F.Files.seen c.read_state.new.files,
  c.in-Ok.ensures.reads.only,
  inr (
    c.in-Ok.state,
    c.in-Ok.ensures.reads.found,
    (g.F.Files.seen c.read_answer.new.files, c.in-Ok-Reply.ensures.reads.only, inr (peer.Reply c.in-Ok-Reply.reply, rw c.in-Ok-Reply.field-0-is at c.in-Ok-Reply.ensures.reads.found, c.open_reply.ensures)),
  ),
)

pub returns-in-Ok-Refuse : goal.returns-in-Ok-Refuse
returns-in-Ok-Refuse g c = (
  g.F.Files.seen c.read_state.new.files,
  c.in-Ok.ensures.reads.only,
  inr (
    c.in-Ok.state,
    c.in-Ok.ensures.reads.found,
    (
      g.F.Files.seen c.read_answer.new.files,
      c.in-Ok-Refuse.ensures.reads.only,
      inr (peer.Refuse c.in-Ok-Refuse.code c.in-Ok-Refuse.place, rw c.in-Ok-Refuse.field-0-is at c.in-Ok-Refuse.ensures.reads.found, (refl, c.refuse_by_text.ensures _ c.peer_refused_text.ensures)),
    ),
  ),
)

pub returns : goal.returns
returns g c =
    behind c.in-Ok.ensures.reads.only (found c.in-Ok.state c.in-Ok.ensures.reads.found (behind c.in-Err-read_answer.ensures.reads.only
    (inl (not_read 2 24 SpellsAnswer _ _ _ _ _ c.in-Err-read_answer.error c.refuse_input-in-Err-read_answer.result c.in-Err-read_answer.ensures.reads c.refuse_input-in-Err-read_answer.ensures))))

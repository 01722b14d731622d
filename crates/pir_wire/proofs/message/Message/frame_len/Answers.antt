use Rattle.std.proofs.Common.{◌∙◌, ◌+◌, length, ap}
use Rattle.spiral_sets.specs.declared.param_set.ParamSet.{ParamSet}
use Rattle.frame_headers.specs.declared.kind.FrameKind.TheVariants.{Setup, Query, Reply, State}
use Rattle.frame_headers.specs.Kinds.{body_len_of}
use Rattle.frame_streams.specs.Heads.{header_of}
use Rattle.spiral_model.specs.Bodies.{CipherBody}
use Rattle.spiral_model.specs.Replies.{QueryState}
use Rattle.spiral_frames.specs.Frames.{setup_message, query_message, reply_message, refuse_message, state_message}
use Rattle.pir_wire.specs.Messages.{message_seen}
use Rattle.pir_wire.proofs.OneFrames.{frame_size_of}
use Rattle.pir_wire.proofs.message.Message.frame_len.Goals as goal

pub returns-in-Setup : goal.returns-in-Setup
returns-in-Setup c = frame_size_of c.args.self.now (setup_message c.in-Setup.keys) c.frame_len.result c.requires (ap message_seen c.in-Setup.is) (λ e. cc) (c.frame_len.ensures ∙ ap (λ (v : CipherBody). length (header_of Setup v.set) + body_len_of Setup v.set) c.keys.view_is)

pub returns-in-Query : goal.returns-in-Query
returns-in-Query c = frame_size_of c.args.self.now (query_message c.in-Query.query) c.frame_len-in-Query.result c.requires (ap message_seen c.in-Query.is) (λ e. cc) (c.frame_len-in-Query.ensures ∙ ap (λ (v : CipherBody). length (header_of Query v.set) + body_len_of Query v.set) c.query.view_is)

pub returns-in-Reply : goal.returns-in-Reply
returns-in-Reply c = frame_size_of c.args.self.now (reply_message c.in-Reply.reply) c.frame_len-in-Reply.result c.requires (ap message_seen c.in-Reply.is) (λ e. cc) (c.frame_len-in-Reply.ensures ∙ ap (λ (s : ParamSet). length (header_of Reply s) + body_len_of Reply s) c.set.ensures.value)

pub returns-in-Refuse : goal.returns-in-Refuse
returns-in-Refuse c = frame_size_of c.args.self.now (refuse_message (record { set = c.in-Refuse.set; code = c.in-Refuse.code; place = c.in-Refuse.at })) c.frame_len-in-Refuse.result c.requires (ap message_seen c.in-Refuse.is) (λ e. cc) (c.frame_len-in-Refuse.ensures)

pub returns-in-State : goal.returns-in-State
returns-in-State c = frame_size_of c.args.self.now (state_message c.in-State.state) c.frame_len-in-State.result c.requires (ap message_seen c.in-State.is) (λ e. cc) (c.frame_len-in-State.ensures ∙ ap (λ (v : QueryState). length (header_of State v.set) + body_len_of State v.set) c.state.view_is)

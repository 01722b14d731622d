use Rattle.std.proofs.Common.{List, ℕ, subst}
use Rattle.spiral_frames.specs.Frames.{reply_message}
use Rattle.frame_streams.specs.OneFrames.{IsOneOf}
use Rattle.session_laws.specs.Exchanges.{client_kinds}
use Rattle.tool_local.proofs.LocalLookUp.{reply_is, transcript_is}
use Rattle.tool_local.proofs.local.exchange.Goals as goal

pub returns : goal.returns
returns g c words index look_up is =
    let sent : List ℕ = c.in_ok-sent.sent.items in
    let input : List ℕ = c.in_ok-link.link.input.items in
    let wrote : List ℕ = c.in_ok-link.link.wrote.items in
    let one : IsOneOf client_kinds wrote (reply_message c.in_ok-reply.reply) =
    subst (λ (x : List ℕ). IsOneOf client_kinds x (reply_message c.in_ok-reply.reply)) c.wrote.ensures c.in_ok-reply.ensures in
    record {
      transcript = transcript_is c.args.db words index look_up c.args.asked.now is sent wrote c.in_ok-sent.ensures c.in_ok-link.ensures.served input c.in_ok-transcript.transcript.items c.in_ok-link.ensures.input c.in_ok-transcript.ensures;
      bytes = c.in-Ok.ensures.retrieves c.args.db words index look_up is.state
          (reply_is c.args.db words index look_up c.args.asked.now is sent wrote c.in_ok-sent.ensures c.in_ok-link.ensures.served c.in_ok-reply.reply one);
    }

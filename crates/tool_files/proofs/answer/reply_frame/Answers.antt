use Rattle.std.proofs.Common.{◌≡◌, ◌∙◌, Option, option_map, option_copied, ap, sym, subst}
use Rattle.spiral_sets.specs.declared.param_set.ParamSet.{ParamSet}
use Rattle.spiral_model.specs.Keys.{SetKeys, keys_in}
use Rattle.pir_server.specs.Served.{Served}
use Rattle.tool_files.specs.Given.{IsGiven}
use Rattle.frame_streams.specs.Serving.{reply_for}
use Rattle.tool_files.proofs.Answering.{reply_spelled}
use Rattle.tool_files.proofs.answer.reply_frame.Goals as goal

pub answer_with-requires-clause-setup : goal.answer_with-requires-clause-setup
answer_with-requires-clause-setup g c κs within =
    let set_is = ap (λ (server : Served). server.table.set) c.in_ok-server.ensures in
    subst (λ (s : ParamSet). IsGiven s (option_copied c.args.setup)) (sym set_is) c.requires.setup

pub returns : goal.returns
returns g c =
    let keys : Option SetKeys = option_map keys_in (option_copied c.args.setup) in
    let answer_is : c.in_ok-reply.reply ≡ reply_for c.args.db keys c.args.query.now =
    c.in_ok-reply.ensures ∙ ap (λ (server : Served). reply_for server.table keys c.args.query.now) c.in_ok-server.ensures in
    reply_spelled _ c.encode_reply.result c.in_ok-reply.reply c.args.db keys c.args.query.now answer_is c.encode_reply.ensures

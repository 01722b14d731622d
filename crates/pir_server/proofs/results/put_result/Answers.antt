use Rattle.std.proofs.Common.{◌∙◌, ap}
use Rattle.std.specs.Option.{option_copied}
use Rattle.std.proofs.lemmas.Result.{IfOk-equal}
use Rattle.pir_server.proofs.ResultColumns.{packing-own, packed_put, plain_put, column_count, column_shapes}
use Rattle.pir_server.proofs.results.put_result.Goals as goal

pub put_packed-requires-clause-keys : goal.put_packed-requires-clause-keys
put_packed-requires-clause-keys c =
    packing-own c.args.set.now (option_copied c.args.keys) c.in-Some.keys.now c.if-set.true (ap option_copied c.in-Some.is) c.requires.keys

pub fill_reply-requires-clause-enough : goal.fill_reply-requires-clause-enough
fill_reply-requires-clause-enough c = column_count c.args.set.now c.args.folded.now c.if-set.false c.requires.count

pub fill_reply-requires-clause-shapes : goal.fill_reply-requires-clause-shapes
fill_reply-requires-clause-shapes c = column_shapes c.args.set.now c.args.folded.now c.if-set.false c.requires.shapes

pub returns-in-Some-clause-value : goal.returns-in-Some-clause-value
returns-in-Some-clause-value c =
    IfOk-equal c.put_packed.result _ _ _ c.put_packed.ensures.value
    (packed_put c.args.set.now (option_copied c.args.keys) c.in-Some.keys.now c.args.folded.now c.args.reply.now c.if-set.true (ap option_copied c.in-Some.is))

pub returns-else-set-clause-value : goal.returns-else-set-clause-value
returns-else-set-clause-value c =
    c.fill_reply.ensures ∙ plain_put c.args.set.now (option_copied c.args.keys) c.args.folded.now c.args.reply.now c.if-set.false

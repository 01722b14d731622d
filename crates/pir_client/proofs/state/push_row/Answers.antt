use Rattle.std.proofs.Common.{◌<◌, length, arith}
use Rattle.regev_code.specs.Shapes.{secret_row}
use Rattle.pir_client.proofs.KeptSecrets.{number-more}
use Rattle.pir_client.proofs.state.push_row.Goals as goal

pub loop-place-preserved : goal.loop-place-preserved
loop-place-preserved c =
    let row = secret_row c.args.secret.now c.args.r in
    let within : c.loop-place.place < length row = omega (arith, c.requires.degree) in
    number-more row c.args.out.now.items c.loop-place.out.items c.push.new.self.items c.loop-place.place c.number.result within c.number.ensures.value
    c.number.ensures.ternary
    c.loop-place.invariant c.in_ok-push.ensures.items

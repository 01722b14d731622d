use Rattle.std.proofs.Common.{◌≤◌, arith}
use Rattle.std.proofs.lemmas.List.Elements.{All-more}
use Rattle.pir_wire.proofs.decoder.state.small_count.Goals as goal

pub loop-i-preserved : goal.loop-i-preserved
loop-i-preserved c = All-more (λ b. b ≤ 2) c.args.bytes.now c.loop-i.i 0 (omega arith) c.loop-i.invariant (omega (arith, c.if-byte-gt-LARGEST.false))

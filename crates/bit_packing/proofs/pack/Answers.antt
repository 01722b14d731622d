use Rattle.std.proofs.Common.{length, arith}
use Rattle.negacyclic.proofs.Digits.{same_from_repacked}
use Rattle.bit_packing.proofs.pack.Goals as goal

pub returns : goal.returns
returns c =
    same_from_repacked c.args.width 8 (length c.args.out.now) c.args.values.now c.loop-k.out c.loop-k.auto.out
    (λ i within. c.loop-k.invariant i (omega arith))

use Rattle.std.proofs.Common.{length, arith}
use Rattle.negacyclic.proofs.Digits.{same_from_repacked}
use Rattle.bit_packing.proofs.unpack.Goals as goal

pub returns : goal.returns
returns c =
    same_from_repacked 8 c.args.width (length c.args.out.now) c.args.bytes.now c.loop-k.out c.loop-k.auto.out
    (λ i within. c.loop-k.invariant i (omega arith))

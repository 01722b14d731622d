use Rattle.std.proofs.Common.{arith}
use Rattle.ring_poly.proofs.Modulus.{q_is}
use Rattle.pir_wire.proofs.CipherSteps.{took_more, first_too_large}
use Rattle.pir_wire.proofs.decoder.parts.take_residues.Goals as goal

pub returns-then-number-ge-Q : goal.returns-then-number-ge-Q
returns-then-number-ge-Q c = record {
  took = c.loop-k.invariant;
  some = omega (arith, c.loop-k-test.true, c.min-most.ensures);
  within = omega (arith, c.loop-k-test.true, c.min-most.ensures);
  too_large =
      first_too_large c.args.piece.now c.loop-k.k c.residue_at-number.result c.residue_at-number.ensures.value
      (omega (arith, q_is, c.if-number-ge-Q.true));
}

pub loop-k-preserved : goal.loop-k-preserved
loop-k-preserved c =
    took_more c.args.piece.now c.args.numbers.now.items c.loop-k.numbers.items c.push.new.self.items c.loop-k.k c.residue_at-number.result
    c.loop-k.invariant (omega (arith, q_is, c.if-number-ge-Q.false)) c.residue_at-number.ensures.spelled c.in_ok-push.ensures.items

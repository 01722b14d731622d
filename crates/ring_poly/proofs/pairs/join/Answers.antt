use Rattle.std.proofs.Common.{ℕ, get_or, sym, ◌∙◌, arith}
use Rattle.negacyclic.proofs.Filled.{filled_more, filled_from}
use Rattle.word_prime.specs.Halves.{joined}
use Rattle.word_prime.proofs.Joined.{length-joined, joined-at}
use Rattle.ring_poly.proofs.pairs.join.Goals as goal

pub loop-k-preserved : goal.loop-k-preserved
loop-k-preserved c =
    filled_more (λ (k : ℕ). get_or (joined c.args.ones.now c.args.twos.now) k 0) c.args.out.now c.loop-k.k c.loop-k.out c.join_pair.result (omega arith) c.loop-k.invariant
    (sym (joined-at c.args.ones.now c.args.twos.now c.loop-k.k c.join_pair.result (omega arith) c.join_pair.ensures.below c.join_pair.ensures.first c.join_pair.ensures.second))

pub returns : goal.returns
returns c =
    filled_from (joined c.args.ones.now c.args.twos.now) 0 c.args.out.now c.loop-k.k c.loop-k.out (omega arith) (c.requires.room ∙ sym (length-joined c.args.ones.now c.args.twos.now)) c.loop-k.invariant

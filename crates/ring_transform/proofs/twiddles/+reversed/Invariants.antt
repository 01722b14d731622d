use Rattle.ring_transform.proofs.twiddles.+reversed.Given as goal

abbrev pub decreases-reversed : goal.decreases-reversed
decreases-reversed l = l.bits

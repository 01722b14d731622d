use Rattle.std.proofs.Common.{◌≡◌, ◌++◌, drop, replicate}
use Rattle.ring_poly.proofs.lanes.clear.Given as goal

abbrev pub invariant-loop-place : goal.invariant-loop-place
invariant-loop-place l = l.a ≡ replicate l.place 0 ++ drop l.place l.initial.a

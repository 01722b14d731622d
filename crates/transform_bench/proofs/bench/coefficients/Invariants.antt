use Rattle.std.proofs.Common.{◌≡◌, length}
use Rattle.ring_poly.specs.Polynomials.{AreResidues}
use Rattle.transform_bench.proofs.bench.coefficients.Given as goal

abbrev pub invariant-loop-k : goal.invariant-loop-k
invariant-loop-k l = (length l.coefficients.items ≡ l.k) × AreResidues l.coefficients.items

use Rattle.std.proofs.Common.{◌≡◌, All}
use Rattle.negacyclic.proofs.Filled.{Filled}
use Rattle.spiral_model.specs.Words.{cipher_at}
use Rattle.spiral_model.specs.Expansion.{odd_half}
use Rattle.regev_code.specs.Products.{HasShape}
use Rattle.query_expand.proofs.expansion.write_odd_halves.Given as goal

abbrev pub invariant-loop-x : goal.invariant-loop-x
invariant-loop-x l = record {
  so_far : Filled (λ k. odd_half l.ring l.round l.key (cipher_at l.low k)) l.fn.high l.x l.high;
  shapes : All (HasShape l.ring 2) l.high;
  image : HasShape l.ring 2 l.image;
  kept : l.scratch ≡ l.fn.scratch;
}

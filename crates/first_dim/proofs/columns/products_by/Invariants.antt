use Rattle.std.proofs.Common.{◌≡◌, ◌+◌, All}
use Rattle.negacyclic.proofs.Filled.{Filled}
use Rattle.spiral_model.specs.Sets.{rows}
use Rattle.regev_code.specs.Products.{HasShape}
use Rattle.first_dim.proofs.ProductPlaces.{product_at}
use Rattle.first_dim.proofs.columns.products_by.Given as goal

abbrev pub invariant-loop-place : goal.invariant-loop-place
invariant-loop-place l = record {
  kept : l.scratch ≡ l.set;
  shapes : All (HasShape l.set.degree (rows l.set + 1)) l.out;
  so_far : Filled (product_at l.set l.matrices l.firsts) l.initial.out l.place l.out;
}

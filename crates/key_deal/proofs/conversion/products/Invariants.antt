use Rattle.std.proofs.Common.{◌≡◌, map, take}
use Rattle.regev_code.specs.Shapes.{under}
use Rattle.key_deal.specs.DealtKeys.{scalar_of}
use Rattle.key_deal.proofs.Conversions.{product_of}
use Rattle.key_deal.proofs.conversion.products.Given as goal

abbrev pub invariant-loop-i : goal.invariant-loop-i
invariant-loop-i l = l.products.items ≡ map (product_of l.ring (scalar_of l.ring l.secret)) (take l.i (under l.ring l.secret l.scalar))

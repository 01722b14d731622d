use Rattle.std.proofs.Common.{◌≡◌, ◌*◌, ◌^◌, pos, map, take}
use Rattle.negacyclic.specs.Ring.{ring_scale}
use Rattle.spiral_sets.specs.Sets.{q}
use Rattle.key_deal.proofs.conversion.multiples.Given as goal

abbrev pub invariant-loop-i : goal.invariant-loop-i
invariant-loop-i l = l.multiples.items ≡ map (ring_scale q l.ring (pos (2 ^ (l.w * l.k)))) (take l.i l.polys)

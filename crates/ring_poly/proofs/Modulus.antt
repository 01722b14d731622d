-- The modulus as the code writes it.
use Rattle.std.proofs.Common.{◌≡◌, ◌<◌, refl, lit<}
use Rattle.spiral_sets.specs.Sets.{q}
use Rattle.spiral_sets.specs.declared.dimensions.TheConstants.{Q}

pub q_is : q ≡ Q
unfolding q
q_is = refl

pub q_some : 0 < q
unfolding q
q_some = lit< tt

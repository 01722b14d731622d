use Rattle.std.proofs.Common.{◌≡◌}
use Rattle.spiral_sets.specs.Sets.{q}
use Rattle.spiral_model.specs.Replies.{switched as switched_to}
use Rattle.modulus_switch.proofs.Switching.{switched_is, switched_below}
use Rattle.modulus_switch.proofs.switch.switched.Goals as goal

pub returns-clause-value : goal.returns-clause-value
unfolding q
returns-clause-value c = switched_is c.args.c c.args.m c.nearest_residue.result c.scaled.result (record { sfits = c.scaled.type_inv }) c.scaled.ensures.value c.nearest_residue.ensures

pub returns-clause-below : goal.returns-clause-below
unfolding q
returns-clause-below c =
    let value : c.nearest_residue.result ≡ switched_to c.args.m c.args.c = switched_is c.args.c c.args.m c.nearest_residue.result c.scaled.result (record { sfits = c.scaled.type_inv }) c.scaled.ensures.value c.nearest_residue.ensures in
    rw value (switched_below c.args.c c.args.m c.requires.some)

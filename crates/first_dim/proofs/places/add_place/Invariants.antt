use Rattle.std.proofs.Common.{◌+◌}
use Rattle.spiral_model.specs.Sets.{rows}
use Rattle.first_dim.proofs.PlaceSums.{HasAdded, place_term}
use Rattle.first_dim.proofs.places.add_place.Given as goal

abbrev pub invariant-loop-r : goal.invariant-loop-r
invariant-loop-r l = HasAdded l.set.degree (rows l.set + 1) l.initial.sum (place_term l.set l.firsts l.matrix l.i l.c) l.r l.sum

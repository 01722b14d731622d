use Rattle.std.proofs.Common.{◌+◌}
use Rattle.spiral_model.specs.Sets.{rows}
use Rattle.first_dim.proofs.PlaceSums.{HasAdded, place_of}
use Rattle.first_dim.proofs.places.add_places.Given as goal

abbrev pub invariant-loop-i : goal.invariant-loop-i
invariant-loop-i l = HasAdded l.set.degree (rows l.set + 1) l.initial.sum (place_of l.set l.matrices l.firsts l.j l.c) l.i l.sum

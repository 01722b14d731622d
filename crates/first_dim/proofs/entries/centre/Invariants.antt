use Rattle.std.proofs.Common.{get_or}
use Rattle.negacyclic.specs.Residues.{residue}
use Rattle.negacyclic.proofs.Filled.{Filled}
use Rattle.spiral_model.specs.Sets.{q}
use Rattle.spiral_model.specs.Records.{centred_value}
use Rattle.first_dim.proofs.entries.centre.Given as goal

abbrev pub invariant-loop-k : goal.invariant-loop-k
invariant-loop-k l = Filled (λ k. residue q (centred_value l.p (get_or l.initial.numbers k 0))) l.initial.numbers l.k l.numbers

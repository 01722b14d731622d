use Rattle.std.proofs.Common.{pos}
use Rattle.negacyclic.specs.Residues.{residue}
use Rattle.negacyclic.proofs.Filled.{Filled}
use Rattle.spiral_sets.specs.Sets.{q}
use Rattle.spiral_model.specs.Queries.{query_number}
use Rattle.pir_client.proofs.query_message.query_numbers.Given as goal

abbrev pub invariant-loop-k : goal.invariant-loop-k
invariant-loop-k l = Filled (λ k. residue q (pos (query_number l.set l.index k))) l.initial.out l.k l.out

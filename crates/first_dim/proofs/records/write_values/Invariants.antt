use Rattle.std.proofs.Common.{◌^◌, ◌<◌, get_or}
use Rattle.negacyclic.proofs.Filled.{FilledWith}
use Rattle.spiral_model.specs.Records.{entry_of}
use Rattle.spiral_model.specs.Databases.{values_at}
use Rattle.first_dim.proofs.records.write_values.Given as goal

abbrev pub invariant-loop-k : goal.invariant-loop-k
invariant-loop-k l =
    FilledWith (λ v. v < 2 ^ l.db.set.p_bits) (λ k. get_or (entry_of l.db.set (values_at l.db l.i) l.e) k 0) l.initial.values l.k l.values

use Rattle.std.proofs.Common.{◌≡◌, length, map}
use Rattle.std.specs.List.{range_with_len}
use Rattle.spiral_model.specs.Databases.{matrix_entry}
use Rattle.first_dim.proofs.records.record_matrix.Given as goal

abbrev pub invariant-loop-e : goal.invariant-loop-e
invariant-loop-e l = record {
  so_far : l.entries.items ≡ map (matrix_entry l.db l.i) (range_with_len 0 l.e);
  room : length l.poly ≡ l.ring;
}

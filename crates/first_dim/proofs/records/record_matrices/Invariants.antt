use Rattle.std.proofs.Common.{◌≡◌, length, map}
use Rattle.std.specs.List.{range_with_len}
use Rattle.spiral_model.specs.Databases.{matrix_of}
use Rattle.first_dim.proofs.records.record_matrices.Given as goal

abbrev pub invariant-loop-i : goal.invariant-loop-i
invariant-loop-i l = record {
  so_far : l.matrices.items ≡ map (matrix_of l.db) (range_with_len 0 l.i);
  values_room : length l.values.items ≡ l.ring;
  room : length l.poly ≡ l.ring;
}

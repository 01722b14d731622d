use Rattle.std.proofs.Common.{◌≡◌, map}
use Rattle.std.specs.List.{range_with_len}
use Rattle.spiral_model.specs.Noise.{report_row}
use Rattle.regev_code.specs.Shapes.{scalar_of}
use Rattle.noise_check.specs.Reports.{reported}
use Rattle.noise_check.proofs.measuring.packed_report.Given as goal

abbrev pub invariant-loop-row : goal.invariant-loop-row
invariant-loop-row l = record {
  rows : l.rows.items ≡ map (λ r. reported l.set r (report_row l.set (scalar_of l.set.degree l.fn.room.secrets) l.fn.room.secrets.rows l.index l.lift l.ready r)) (range_with_len 0 l.row);
  degree : l.room.degree ≡ l.ring;
  secrets : l.room.secrets ≡ l.fn.room.secrets;
}

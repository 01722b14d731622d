use Rattle.std.proofs.Common.{◌≡◌, List, map}
use Rattle.std.specs.List.{range_with_len}
use Rattle.spiral_model.specs.Words.{Poly}
use Rattle.spiral_model.specs.KeySwitching.{DigitKey}
use Rattle.spiral_model.specs.Noise.{report_row}
use Rattle.noise_check.specs.Reports.{reported}
use Rattle.noise_check.proofs.measuring.plain_report.Given as goal

abbrev pub invariant-loop-row : goal.invariant-loop-row
invariant-loop-row l = record {
  rows : (s : Poly) (lift : List DigitKey) → l.rows.items ≡ map (λ r. reported l.set r (report_row l.set s l.fn.room.secrets.rows l.index lift l.ready r)) (range_with_len 0 l.row);
  degree : l.room.degree ≡ l.ring;
  secrets : l.room.secrets ≡ l.fn.room.secrets;
}

-- Sums of whole numbers over a range of places.
use Rattle.std.specs.Prelude.{ℕ, pos, ◌+ℤ◌}
use Rattle.std.proofs.Common.{zero, suc}
use lib.IntN.{ℤ}

-- f 0 + f 1 + .. + f (count - 1)
unfoldable pub total : ℕ → (ℕ → ℤ) → ℤ
total zero f = pos 0
total (suc n) f = total n f +ℤ f n

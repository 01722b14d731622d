-- Whole numbers modulo q, and division with a stated rounding.
use Rattle.std.specs.Prelude.{ℕ, List, ◌-◌, ◌*◌, ◌/◌, nat_le, if◌then◌else◌, pos, ◌-ℤ◌, ◌+ℤ◌, ◌*ℤ◌, sum_by}
use Rattle.std.specs.Int.{int_rem_euclid, int_div_euclid}
use Rattle.std.specs.Int.RustNames.{unsigned_abs}
use lib.IntN.{ℤ}

-- z mod q, the one of 0 to q - 1 that differs from z by a multiple of q (for q above 0)
unfoldable pub residue : ℕ → ℤ → ℕ
residue q z = unsigned_abs (int_rem_euclid z (pos q))

-- The centred representative of the residue x modulo an odd q: x where x is at most (q - 1) / 2, else x - q.
unfoldable pub cen : ℕ → ℕ → ℤ
cen q x = if nat_le x ((q - 1) / 2) then pos x else pos x -ℤ pos q

-- The norm of a list of residues: the sum of the absolute values of their centred representatives.
unfoldable pub norm : ℕ → List ℕ → ℕ
norm q a = sum_by (λ x. unsigned_abs (cen q x)) a

-- z / d rounded down, towards the lesser number (for d above 0)
unfoldable pub floor_div : ℤ → ℕ → ℤ
floor_div z d = int_div_euclid z (pos d)

-- z / d rounded to the nearest whole number, an exact half upwards: floor ((2z + d) / 2d)
unfoldable pub nearest : ℤ → ℕ → ℤ
nearest z d = floor_div (pos 2 *ℤ z +ℤ pos d) (2 * d)

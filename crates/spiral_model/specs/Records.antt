-- A record's bytes as values below p, and the values as the entries of a matrix of polynomials.
use Rattle.std.specs.Prelude.{ℕ, ℤ, List, ◌*◌, ◌/◌, take, drop, slice_index, nat_lt, if◌then◌else◌, pos, ◌-ℤ◌}
use Rattle.negacyclic.specs.Digits.{repacked}
use Rattle.spiral_sets.specs.declared.param_set.ParamSet.{ParamSet}
use Rattle.spiral_sets.specs.Sets.{p, values_count}

-- A record's bytes are one string of bits, the least bit of each byte first, with zeros after it; its values are
-- that string cut into values of p_bits bits, the least bit of each first.
abbrev pub values_of : ParamSet → List ℕ → List ℕ
values_of set bytes = repacked 8 set.p_bits (values_count set) bytes

-- The first `count` bytes that values write.
abbrev pub record_of : ParamSet → ℕ → List ℕ → List ℕ
record_of set count values = repacked set.p_bits 8 count values

-- Entry e of a record's matrix, counted row by row from 0: values e N to (e + 1) N - 1, from place 0 on.
abbrev pub entry_of : ParamSet → List ℕ → ℕ → List ℕ
entry_of set values e = take set.degree (drop (e * set.degree) values)

-- A value as a whole number around 0: v where v is below p / 2, else v - p.
abbrev pub centred_value : ℕ → ℕ → ℤ
centred_value modulus v = if nat_lt v (modulus / 2) then pos v else pos v -ℤ pos modulus

-- Place k of entry e, centred.
abbrev pub centred_at : ParamSet → List ℕ → ℕ → ℕ → ℤ
centred_at set values e k = centred_value (p set) (slice_index (entry_of set values e) k)

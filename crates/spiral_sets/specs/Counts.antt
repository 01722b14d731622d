-- How many words a query takes and how many bytes the bodies of frames have: sums over the ciphertexts.
use Rattle.std.specs.Prelude.{ℕ, List, [], ◌∷◌, ◌++◌, ◌+◌, ◌*◌, ◌/◌, ◌^◌, if◌then◌else◌, sum_by}
use Rattle.spiral_sets.specs.declared.param_set.ParamSet.{ParamSet}
use Rattle.spiral_sets.specs.Sets.{digit_count, rho, rows, has_keys, entries, q1_bits}

-- so many ciphertexts with rows 0 to m
pub record Ciphertexts : Type 0 where
  pub how_many : ℕ
  pub m : ℕ

-- The ciphertexts of the automorphism keys: of round 0, of the left rounds 1 to nu1 and of the right rounds 1 to rho. A direct set
-- expands nothing.
abbrev pub round_ciphertexts : ParamSet → List Ciphertexts
round_ciphertexts set =
    if set.direct then [] else
    record { how_many = digit_count set.w_right; m = 1 }
    ∷ record { how_many = set.nu1 * digit_count set.w_left; m = 1 }
    ∷ record { how_many = rho set * digit_count set.w_right; m = 1 } ∷ []

-- The ciphertexts of the lift keys of rows 1 to n.
abbrev pub lift_ciphertexts : ParamSet → List Ciphertexts
lift_ciphertexts set = if has_keys set then record { how_many = set.n * digit_count set.w_conv; m = set.n } ∷ [] else []

-- The ciphertexts of the conversion key.
abbrev pub conversion_ciphertexts : ParamSet → List Ciphertexts
conversion_ciphertexts set = if set.direct then [] else record { how_many = digit_count set.w_conv; m = rows set } ∷ []

-- The ciphertexts of a Setup body, in order.
abbrev pub setup_ciphertexts : ParamSet → List Ciphertexts
setup_ciphertexts set = round_ciphertexts set ++ lift_ciphertexts set ++ conversion_ciphertexts set

-- how many ciphertexts the first dimension takes: m for each of its 2^nu1 places
abbrev pub firsts_count : ParamSet → ℕ
firsts_count set = 2 ^ set.nu1 * rows set

-- how many columns a GSW ciphertext has: t for each row 0 to m
abbrev pub gsw_count : ParamSet → ℕ
gsw_count set = (rows set + 1) * digit_count set.w_gsw

-- The ciphertexts of a Query body, in order: in a direct set those of the first dimension and the columns of one GSW ciphertext
-- for each selection; else one.
abbrev pub query_ciphertexts : ParamSet → List Ciphertexts
query_ciphertexts set =
    if set.direct then
    record { how_many = firsts_count set; m = rows set } ∷ record { how_many = set.nu2 * gsw_count set; m = rows set } ∷ []
    else record { how_many = 1; m = 1 } ∷ []

-- how many ciphertexts these are
abbrev pub ciphertext_count : List Ciphertexts → ℕ
ciphertext_count ciphertexts = sum_by (λ c. c.how_many) ciphertexts

-- A ciphertext takes two words for each number of row 0 and one for the error of each number of the other rows.
abbrev pub words_of : ParamSet → List Ciphertexts → ℕ
words_of set ciphertexts = sum_by (λ c. c.how_many * (set.degree * (2 + c.m))) ciphertexts

-- A ciphertext has 7 bytes for each number.
abbrev pub bytes_of : ParamSet → List Ciphertexts → ℕ
bytes_of set ciphertexts = sum_by (λ c. c.how_many * (7 * (set.degree * (c.m + 1)))) ciphertexts

-- A secret takes a word for each number: n of them, and the scalar one where the set has keys.
abbrev pub secret_words : ParamSet → ℕ
secret_words set = set.degree * (set.n + (if has_keys set then 1 else 0))

abbrev pub words_needed : ParamSet → ℕ
words_needed set = secret_words set + words_of set (setup_ciphertexts set) + words_of set (query_ciphertexts set)

abbrev pub setup_len : ParamSet → ℕ
setup_len set = bytes_of set (setup_ciphertexts set)

abbrev pub query_len : ParamSet → ℕ
query_len set = bytes_of set (query_ciphertexts set)

-- How many bytes a polynomial of a reply has, its numbers packed at this width.
abbrev pub packed_len : ParamSet → ℕ → ℕ
packed_len set width = set.degree * width / 8

-- A Reply body has the count and the length, 8 bytes each, then the polynomials of rows 1 to n and those of row 0.
abbrev pub reply_len : ParamSet → ℕ
reply_len set = 16 + entries set * packed_len set (q1_bits set) + set.n * packed_len set set.q2_bits

-- A State body has the index, 8 bytes, then a byte for each number of the secret.
abbrev pub state_len : ParamSet → ℕ
state_len set = 8 + set.n * set.degree

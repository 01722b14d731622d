-- Key switching, expansion, translation and packing on small cases that were worked out by hand.
use Rattle.std.proofs.Common.{◌≡◌, ℕ, Bool, ◌-◌, ◌*◌, ◌%◌, List, [], ◌∷◌, refl, true, false, Some}
use Rattle.negacyclic.specs.Sums.{total}
use Rattle.negacyclic.specs.Residues.{residue}
use Rattle.negacyclic.specs.Digits.{digit, digit_poly}
use Rattle.negacyclic.specs.Ring.{turn, product_at, tau_at, shift_at, at, reduced, ring_zero, ring_add, ring_mul, ring_total, ring_scale, ring_shift, tau}
use Rattle.spiral_sets.specs.declared.param_set.ParamSet.{ParamSet}
use Rattle.spiral_sets.proofs.SampleSet.{sample}
use Rattle.spiral_sets.specs.Sets.{q, delta}
use Rattle.spiral_model.specs.Words.{Cipher}
use Rattle.spiral_model.specs.Gadgets.{digit_sum, cipher_add}
use Rattle.spiral_model.specs.KeySwitching.{DigitKey, key_switched, auto_applied, lifted}
use Rattle.spiral_model.specs.Keys.{SetKeys, keys_cut}
use Rattle.spiral_model.specs.Expansion.{with_auto, cipher_shift, even_half, odd_half, expand_round, expanded, sides, left_side, right_side}
use Rattle.spiral_model.specs.Packing.{lift_row, lift_matrix, translated_column, translated_row, translated, packed_row, packed_column, packed}
use Rattle.spiral_model.specs.Queries.{query_number}
use Rattle.spiral_model.specs.Dealing.{auto_message, lift_message, conversion_message}

-- a set of small dimensions: a matrix of 2 times 2, digits of 56 bits
abbrev small : ℕ → ℕ → Bool → ParamSet
small degree nu pack = record sample { direct = false; pack = pack; degree = degree; nu1 = nu; nu2 = nu; w_left = 56; w_right = 56; w_conv = 56 }

-- a key of one digit
abbrev key_of : Cipher → DigitKey
key_of c = record { w = 56; ciphers = c ∷ [] }

-- (a, b) = (7, 5): b in a row, and 7 times the key's ciphertext (2, 3)
abbrev seven_five : Cipher
seven_five = (7 ∷ []) ∷ (5 ∷ []) ∷ []

switched_by_hand : (lifted 1 1 1 (key_of ((2 ∷ []) ∷ (3 ∷ []) ∷ [])) seven_five ≡ (14 ∷ []) ∷ (26 ∷ []) ∷ [])
    × (lifted 1 1 0 (key_of ((2 ∷ []) ∷ (3 ∷ []) ∷ [])) seven_five ≡ (19 ∷ []) ∷ (21 ∷ []) ∷ [])
unfolding lifted key_switched digit_sum digit_poly digit ring_total ring_mul ring_add ring_zero reduced residue product_at turn at total q
switched_by_hand = (refl, refl)

-- In degree 2 the automorphism x -> x^3 takes 4 + 9x to 4 - 9x. With a key of zeros, c + Auto(c) has 8, and with d = x^-1 c = 9 - 4x,
-- d + Auto(d) has 18: the even and the odd place, doubled.
abbrev zero_key : DigitKey
zero_key = key_of ((0 ∷ 0 ∷ []) ∷ (0 ∷ 0 ∷ []) ∷ [])

abbrev holding : ℕ → ℕ → Cipher
holding a b = (0 ∷ 0 ∷ []) ∷ (a ∷ b ∷ []) ∷ []

auto_by_hand : auto_applied 2 3 zero_key (holding 4 9) ≡ holding 4 (q - 9)
unfolding auto_applied key_switched digit_sum digit_poly digit ring_total ring_mul ring_add ring_zero tau tau_at reduced residue product_at turn at total q
auto_by_hand = refl

round_by_hand : expanded 2 0 (zero_key ∷ []) (holding 4 9 ∷ []) ≡ holding 8 0 ∷ holding 18 0 ∷ []
unfolding expanded expand_round even_half odd_half with_auto cipher_shift cipher_add auto_applied key_switched digit_sum digit_poly digit ring_total ring_mul ring_add ring_zero ring_shift shift_at tau tau_at reduced residue product_at turn at total q
round_by_hand = refl

-- The two sides, with no further rounds, are these two.
abbrev round_keys : SetKeys
round_keys = record { set = small 2 0 true; round0 = zero_key ∷ []; left = []; right = []; lift = []; conv = Some zero_key }

sides_by_hand : (left_side 2 round_keys (holding 4 9) ≡ holding 8 0 ∷ []) × (right_side 2 round_keys (holding 4 9) ≡ holding 18 0 ∷ [])
unfolding left_side right_side sides expanded expand_round even_half odd_half with_auto cipher_shift cipher_add auto_applied key_switched digit_sum digit_poly digit ring_total ring_mul ring_add ring_zero ring_shift shift_at tau tau_at reduced residue product_at turn at total q
sides_by_hand = (refl, refl)

-- Keys that are cut from a body, one ciphertext each, from the second on.
cut_by_hand : keys_cut 56 2 (holding 1 1 ∷ holding 2 2 ∷ holding 3 3 ∷ []) 1 ≡ key_of (holding 2 2) ∷ key_of (holding 3 3) ∷ []
unfolding keys_cut
cut_by_hand = refl

-- Lifts of (7, 5) into rows 1 and 2, with keys (1, 2, 3) and (4, 5, 6).
abbrev lift_keys : List DigitKey
lift_keys = key_of ((1 ∷ []) ∷ (2 ∷ []) ∷ (3 ∷ []) ∷ []) ∷ key_of ((4 ∷ []) ∷ (5 ∷ []) ∷ (6 ∷ []) ∷ []) ∷ []

lifts_by_hand : lift_matrix (small 1 1 false) lift_keys seven_five
    ≡ ((7 ∷ []) ∷ (19 ∷ []) ∷ (21 ∷ []) ∷ []) ∷ ((28 ∷ []) ∷ (35 ∷ []) ∷ (47 ∷ []) ∷ []) ∷ []
unfolding lift_matrix lift_row lifted key_switched digit_sum digit_poly digit ring_total ring_mul ring_add ring_zero reduced residue product_at turn at total q
lifts_by_hand = refl

-- The columns of the GSW ciphertext made of (7, 5): with the conversion key (1, 2) where the set packs; else with (1, 2, 3) and lifts.
abbrev keys_with : Bool → Cipher → SetKeys
keys_with pack conversion = record { set = small 1 1 pack; round0 = []; left = []; right = []; lift = lift_keys; conv = Some (key_of conversion) }

translated_by_hand : (translated (small 1 1 true) (keys_with true ((1 ∷ []) ∷ (2 ∷ []) ∷ [])) (seven_five ∷ []) ≡ ((12 ∷ []) ∷ (14 ∷ []) ∷ []) ∷ seven_five ∷ [])
    × (translated (small 1 1 false) (keys_with false ((1 ∷ []) ∷ (2 ∷ []) ∷ (3 ∷ []) ∷ [])) (seven_five ∷ [])
    ≡ ((12 ∷ []) ∷ (14 ∷ []) ∷ (21 ∷ []) ∷ []) ∷ ((7 ∷ []) ∷ (19 ∷ []) ∷ (21 ∷ []) ∷ []) ∷ ((28 ∷ []) ∷ (35 ∷ []) ∷ (47 ∷ []) ∷ []) ∷ [])
unfolding translated translated_row translated_column lift_row lifted key_switched digit_sum digit_poly digit ring_total ring_mul ring_add ring_zero reduced residue product_at turn at total q
translated_by_hand = (refl, refl)

-- Column 0 of four scalar ciphertexts is entry (0, 0) lifted into row 1 plus entry (1, 0) lifted into row 2; column 1 likewise.
packed_by_hand : packed (small 1 1 true) lift_keys (seven_five ∷ ((0 ∷ []) ∷ (9 ∷ []) ∷ []) ∷ ((1 ∷ []) ∷ (2 ∷ []) ∷ []) ∷ ((0 ∷ []) ∷ (3 ∷ []) ∷ []) ∷ [])
    ≡ ((11 ∷ []) ∷ (24 ∷ []) ∷ (29 ∷ []) ∷ []) ∷ ((0 ∷ []) ∷ (9 ∷ []) ∷ (3 ∷ []) ∷ []) ∷ []
unfolding packed packed_column packed_row lift_row lifted key_switched digit_sum digit_poly digit ring_total ring_mul ring_add ring_zero reduced residue product_at turn at total q
packed_by_hand = refl

-- Of index 3 in a database of 2 times 2 places, with one digit, the asked place is 1 and the selection bit 1. Place 2 holds Delta / 4, since
-- two rounds double it, place 1 holds 1 / 2, and the others 0.
query_by_hand : (4 * query_number (small 4 1 false) 3 2 % q ≡ delta (small 4 1 false)) × (2 * query_number (small 4 1 false) 3 1 % q ≡ 1)
    × (query_number (small 4 1 false) 3 0 ≡ 0) × (query_number (small 4 1 false) 3 3 ≡ 0)
unfolding query_number q
query_by_hand = (refl, refl, refl, refl)

-- The messages of keys: -tau_3(1 + x) 2^28 = -(1 - x) 2^28; -3 in row 2; and 3 times the secrets 1 and 2.
messages_by_hand : (auto_message 2 3 28 (1 ∷ 1 ∷ []) 1 ≡ ((q - 268435456) ∷ 268435456 ∷ []) ∷ [])
    × (lift_message (small 1 1 false) (3 ∷ []) 2 0 ≡ (0 ∷ []) ∷ ((q - 3) ∷ []) ∷ [])
    × (conversion_message (small 1 1 false) (3 ∷ []) ((1 ∷ []) ∷ (2 ∷ []) ∷ []) 0 ≡ (3 ∷ []) ∷ (6 ∷ []) ∷ [])
unfolding auto_message lift_message conversion_message ring_scale ring_mul ring_zero tau tau_at reduced residue product_at turn at total q
messages_by_hand = (refl, refl, refl)

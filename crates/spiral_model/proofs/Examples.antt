-- The definitions on small cases that were worked out by hand.
use Rattle.std.proofs.Common.{◌≡◌, ℕ, Bool, ◌-◌, ◌*◌, List, [], ◌∷◌, take, get_or, refl, true, false}
use Rattle.negacyclic.specs.Sums.{total}
use Rattle.negacyclic.specs.Residues.{residue, floor_div, nearest}
use Rattle.negacyclic.specs.Digits.{digit, digits, number_of, repacked, digit_poly}
use Rattle.negacyclic.specs.Ring.{turn, product_at, at, reduced, ring_add, ring_sub, ring_mul, ring_total}
use Rattle.spiral_sets.specs.declared.param_set.ParamSet.{ParamSet}
use Rattle.spiral_sets.proofs.SampleSet.{sample, edge}
use Rattle.spiral_sets.specs.Sets.{q}
use Rattle.spiral_model.specs.Words.{Cipher}
use Rattle.spiral_model.specs.Databases.{matrix_entry}
use Rattle.spiral_model.specs.Gadgets.{digit_sum, external_product, cipher_add, cipher_sub, selected}
use Rattle.spiral_model.specs.Answering.{place_product, first_row, first_product, first_columns_of, first_products, fold_pair, fold_step, folded}
use Rattle.spiral_model.specs.Replies.{switched, switched_body, switched_entry, switched_mask, switched_zeroth}

-- 300 is 2 * 128 + 44
digits_of_300 : (digit_poly 7 0 (300 ∷ []) ≡ 44 ∷ []) × (digit_poly 7 1 (300 ∷ []) ≡ 2 ∷ [])
unfolding digit_poly digit
digits_of_300 = (refl, refl)

-- One digit, degree 1: row i is 11 G_(0,0) + 13 G_(1,0).
external_by_hand : external_product 1 56 (((2 ∷ []) ∷ (3 ∷ []) ∷ []) ∷ ((5 ∷ []) ∷ (7 ∷ []) ∷ []) ∷ []) ((11 ∷ []) ∷ (13 ∷ []) ∷ []) ≡ (87 ∷ []) ∷ (124 ∷ []) ∷ []
unfolding external_product digit_sum digit_poly digit ring_total ring_mul reduced residue product_at turn at total q
external_by_hand = refl

-- Two digits of 2^28: 2^28 * 3 + 5 times (1, 10) is 5 * 1 + 3 * 10 in row 1.
digits_by_hand : digit_sum 1 28 (805306373 ∷ []) (λ k. get_or (((0 ∷ []) ∷ (1 ∷ []) ∷ []) ∷ ((0 ∷ []) ∷ (10 ∷ []) ∷ []) ∷ []) k []) 1 ≡ 35 ∷ []
unfolding digit_sum digit_poly digit ring_total ring_mul reduced residue product_at turn at total q
digits_by_hand = refl

-- The columns of a bit, with one digit, no secret and no errors: the external product takes row 1 as it is, or drops it.
one : List (List (List ℕ))
one = ((0 ∷ []) ∷ (0 ∷ []) ∷ []) ∷ ((0 ∷ []) ∷ (1 ∷ []) ∷ []) ∷ []

zero_bit : List (List (List ℕ))
zero_bit = ((0 ∷ []) ∷ (0 ∷ []) ∷ []) ∷ ((0 ∷ []) ∷ (0 ∷ []) ∷ []) ∷ []

abbrev holding : ℕ → List (List ℕ)
holding x = (0 ∷ []) ∷ (x ∷ []) ∷ []

-- Of four ciphertexts the bits 1, 0 choose that at place 2, and 0, 1 that at place 1.
fold_by_hand : (folded 1 56 (one ∷ zero_bit ∷ []) (holding 20 ∷ holding 21 ∷ holding 22 ∷ holding 23 ∷ []) ≡ holding 22 ∷ [])
    × (folded 1 56 (zero_bit ∷ one ∷ []) (holding 20 ∷ holding 21 ∷ holding 22 ∷ holding 23 ∷ []) ≡ holding 21 ∷ [])
unfolding folded fold_step fold_pair selected cipher_add cipher_sub external_product digit_sum digit_poly digit ring_add ring_sub ring_total ring_mul reduced residue product_at turn at total q one zero_bit
fold_by_hand = (refl, refl)

-- a set of small dimensions: degree 1, a matrix of 2 times 2
abbrev small : ℕ → Bool → ParamSet
small nu1 pack = record sample { nu1 = nu1; pack = pack }

-- The matrix product of the ciphertexts (1, 2, 3), (4, 5, 6) as columns with the rows (7, 8), (9, 10).
matrix_by_hand : first_products (small 0 false) (((7 ∷ []) ∷ (8 ∷ []) ∷ (9 ∷ []) ∷ (10 ∷ []) ∷ []) ∷ [])
    (((1 ∷ []) ∷ (2 ∷ []) ∷ (3 ∷ []) ∷ []) ∷ ((4 ∷ []) ∷ (5 ∷ []) ∷ (6 ∷ []) ∷ []) ∷ [])
    ≡ ((43 ∷ []) ∷ (59 ∷ []) ∷ (75 ∷ []) ∷ []) ∷ ((48 ∷ []) ∷ (66 ∷ []) ∷ (84 ∷ []) ∷ []) ∷ []
unfolding first_products first_columns_of first_product first_row place_product ring_total ring_mul reduced residue product_at turn at total q
matrix_by_hand = refl

-- Two places, packing: entry e of the two records (5, 6, 7, 8) and (9, 10, 11, 12) by the ciphertexts (1, 2) and (3, 4).
packing_by_hand : first_products (small 1 true) (((5 ∷ []) ∷ (6 ∷ []) ∷ (7 ∷ []) ∷ (8 ∷ []) ∷ []) ∷ ((9 ∷ []) ∷ (10 ∷ []) ∷ (11 ∷ []) ∷ (12 ∷ []) ∷ []) ∷ [])
    (((1 ∷ []) ∷ (2 ∷ []) ∷ []) ∷ ((3 ∷ []) ∷ (4 ∷ []) ∷ []) ∷ [])
    ≡ ((32 ∷ []) ∷ (46 ∷ []) ∷ []) ∷ ((36 ∷ []) ∷ (52 ∷ []) ∷ []) ∷ ((40 ∷ []) ∷ (58 ∷ []) ∷ []) ∷ ((44 ∷ []) ∷ (64 ∷ []) ∷ []) ∷ []
unfolding first_products first_columns_of first_product first_row place_product ring_total ring_mul reduced residue product_at turn at total q
packing_by_hand = refl

-- Of a matrix with row 0 (10, 11), row 1 (20, 21), row 2 (30, 31), times Delta = floor (q / 256): rows 1 and 2 to q1 = 1024,
-- four steps for each Delta, then row 0 to q2 = 4096, sixteen steps.
abbrev times : ℕ → List ℕ
times x = x * 261619881795328 ∷ []

abbrev result_by_hand : List Cipher
result_by_hand = (times 10 ∷ times 20 ∷ times 30 ∷ []) ∷ (times 11 ∷ times 21 ∷ times 31 ∷ []) ∷ []

switched_by_hand : (switched_body (small 0 false) result_by_hand ≡ (80 ∷ []) ∷ (84 ∷ []) ∷ (120 ∷ []) ∷ (124 ∷ []) ∷ [])
    × (switched_mask (small 0 false) result_by_hand ≡ (160 ∷ []) ∷ (176 ∷ []) ∷ [])
unfolding switched_body switched_entry switched_mask switched_zeroth switched nearest floor_div residue q
switched_by_hand = (refl, refl)

-- the value 200 stands for -56
first_entry : take 4 (matrix_entry (record { set = edge; record_length = 3; bytes = 1 ∷ 200 ∷ 3 ∷ [] }) 0 0) ≡ 1 ∷ (q - 56) ∷ 3 ∷ 0 ∷ []
unfolding matrix_entry reduced residue repacked digits digit number_of q
first_entry = refl

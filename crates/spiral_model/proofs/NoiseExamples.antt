-- An answer and its opening, and the noise of a query, on small cases that were worked out by hand.
use Rattle.std.proofs.Common.{◌≡◌, ℕ, Bool, ◌-◌, ◌+◌, List, [], ◌∷◌, get_or, refl, true, false, None, pos, negsuc}
use Rattle.negacyclic.specs.Sums.{total}
use Rattle.negacyclic.specs.Residues.{residue, cen, norm, floor_div, nearest}
use Rattle.negacyclic.specs.Digits.{digit, digits, number_of, repacked}
use Rattle.negacyclic.specs.Ring.{turn, product_at, at, reduced, ring_sub, ring_mul, ring_total, ring_scale}
use Rattle.spiral_sets.specs.declared.param_set.ParamSet.{ParamSet}
use Rattle.spiral_sets.proofs.SampleSet.{sample, edge}
use Rattle.spiral_sets.specs.Sets.{q, delta}
use Rattle.spiral_model.specs.Ciphertexts.{phase, constant}
use Rattle.spiral_model.specs.Sampling.{secret_poly}
use Rattle.spiral_model.specs.Databases.{RecordTable, matrices_of, matrix_of, matrix_entry}
use Rattle.spiral_model.specs.Replies.{SwitchedReply, switched, switched_body, switched_entry, switched_mask, switched_zeroth, opened, opened_at, opened_entry, opened_values, open_bytes}
use Rattle.spiral_model.specs.Queries.{row_message, in_row, column_message, gsw_messages}
use Rattle.spiral_model.specs.Answering.{Ready, ready_of, gsws_of, place_product, first_row, first_product, first_columns_of, first_products, folded, result_columns, result_of, reply_of, answer_of}
use Rattle.spiral_model.specs.Noise.{noise, noise_norm, place_noise, first_noise, row_noise, selection_noise, gsw_noise, noise_left, noise_right, report_row, report_of}

-- a direct set of small dimensions: degree 1, a matrix of 2 times 2, one record, no selections, digits of 56 bits
abbrev small : Bool → ParamSet
small pack = record sample { pack = pack }

abbrev row : ℕ → List ℕ
row x = x ∷ []

-- One record of the bytes 1 to 4, and a query of Delta on the diagonal without mask or noise: the entries are four steps for each value,
-- and open to the record.
abbrev one_record : RecordTable
one_record = record { set = small false; record_length = 4; bytes = 1 ∷ 2 ∷ 3 ∷ 4 ∷ [] }

abbrev diagonal : Ready
diagonal = record {
  firsts = (row 0 ∷ row (delta (small false)) ∷ row 0 ∷ []) ∷ (row 0 ∷ row 0 ∷ row (delta (small false)) ∷ []) ∷ [];
  gsws = [];
}

abbrev reply_by_hand : SwitchedReply
reply_by_hand = record { set = small false; count = 1; record_length = 4; body = row 4 ∷ row 8 ∷ row 12 ∷ row 16 ∷ []; mask = row 0 ∷ row 0 ∷ [] }

ready_by_hand : ready_of (small false) None diagonal.firsts ≡ diagonal
unfolding ready_of gsws_of q
ready_by_hand = refl

answer_by_hand : answer_of one_record None diagonal ≡ reply_by_hand
unfolding answer_of reply_of result_of result_columns folded first_products first_columns_of first_product first_row place_product matrices_of matrix_of matrix_entry switched_body switched_entry switched_mask switched_zeroth switched nearest floor_div ring_total ring_mul reduced residue product_at turn at total repacked digits digit number_of q
answer_by_hand = refl

opened_by_hand : open_bytes (record { set = small false; index = 0; secret = pos 1 ∷ negsuc 0 ∷ [] }) reply_by_hand ≡ 1 ∷ 2 ∷ 3 ∷ 4 ∷ []
unfolding open_bytes opened_values opened_entry opened_at opened nearest floor_div residue product_at turn at total repacked digits digit number_of
opened_by_hand = refl

-- Under the secrets 1 and -1: the first column (2, Delta + 3, 3) has the phases Delta + 1 and 5, the second (0, 7, Delta - 4) has 7 and
-- Delta - 4. Row 1 has the noises 1 and 7, row 2 the noises 5 and -4; times p / 2 = 128, and 128 more.
abbrev noisy : Ready
noisy = record {
  firsts = (row 2 ∷ row (delta (small false) + 3) ∷ row 3 ∷ []) ∷ (row 0 ∷ row 7 ∷ row (delta (small false) - 4) ∷ []) ∷ [];
  gsws = [];
}

report_by_hand : report_of (small false) [] ((pos 1 ∷ []) ∷ (negsuc 0 ∷ []) ∷ []) 0 [] noisy
    ≡ record { noise = 1152; weight = 1 } ∷ record { noise = 1280; weight = 1 } ∷ []
unfolding report_of report_row first_noise place_noise gsw_noise noise_norm noise phase in_row row_message constant secret_poly norm cen ring_sub ring_mul reduced residue product_at turn at total q
report_by_hand = refl

-- The two columns of bit 1 under the secret 1 encrypt -1 and 1; (0, 1) has the noise 2, (0, -2) the noise -3.
selection_by_hand : selection_noise (small true) (row 1 ∷ []) 1 ((row 0 ∷ row 1 ∷ []) ∷ (row 0 ∷ row (q - 2) ∷ []) ∷ []) 0 ≡ 5
unfolding selection_noise row_noise noise_norm noise phase gsw_messages column_message constant norm cen ring_scale ring_sub ring_mul reduced residue product_at turn at total q
selection_by_hand = refl

-- On edge-256 the noise 128 fits with 11 numbers of the secret that aren't 0, and doesn't with 12.
sides_by_hand : (noise_left edge (record { noise = 128; weight = 11 }) ≡ 263355196006756020649984)
    × (noise_left edge (record { noise = 128; weight = 0 }) ≡ 70228052268669849305088)
    × (noise_left edge (record { noise = 128; weight = 12 }) ≡ 280912209073854763499520)
    × (noise_right edge ≡ 280912209073579885592576)
unfolding q
sides_by_hand = (refl, refl, refl, refl)

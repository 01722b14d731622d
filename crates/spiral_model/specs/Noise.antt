-- The noise of a query made ready, the report that the client makes of it, and the inequality Fits under which it sends.
use Rattle.std.specs.Prelude.{ℕ, ℤ, List, [], ◌∷◌, ◌+◌, ◌-◌, ◌*◌, ◌/◌, ◌^◌, ◌<◌, map, not, nat_eq, sum_by, count_by, slice_index_or, if◌then◌else◌, unsigned_abs, All}
use Rattle.std.specs.List.{range_with_len}
use Rattle.negacyclic.specs.Residues.{norm}
use Rattle.negacyclic.specs.Ring.{ring_sub}
use Rattle.spiral_sets.specs.declared.param_set.ParamSet.{ParamSet}
use Rattle.spiral_sets.specs.Sets.{q, p, q1, q2, rows, digit_count}
use Rattle.spiral_model.specs.Words.{Poly, Cipher, Gsw, poly_of, cipher_at, gsw_at}
use Rattle.spiral_model.specs.Ciphertexts.{phase}
use Rattle.spiral_model.specs.Queries.{first_messages, gsw_messages, selection_bit}
use Rattle.spiral_model.specs.KeySwitching.{DigitKey}
use Rattle.spiral_model.specs.Keys.{key_at, lift_keys}
use Rattle.spiral_model.specs.Answering.{Ready, ready_of}
use Rattle.spiral_model.specs.Dealing.{scalar_secret, secret_rows, query_of, dealt_keys, lift_message}
use Rattle.spiral_model.specs.Sampling.{secret_poly}

-- What the phase has beyond the intended one, in row `row` + 1, whose secret and message have that place in their lists.
unfoldable pub noise : ℕ → List Poly → Cipher → List Poly → ℕ → Poly
noise N secrets cipher messages row = ring_sub q N (phase N (poly_of secrets row) cipher (row + 1)) (poly_of messages row)

-- its norm: the sum of the absolute values of its centred coefficients
unfoldable pub noise_norm : ℕ → List Poly → Cipher → List Poly → ℕ → ℕ
noise_norm N secrets cipher messages row = norm q (noise N secrets cipher messages row)

-- F: the norms in that row over all columns of all places of the first dimension, for the asked index.
unfoldable pub place_noise : ParamSet → List Poly → ℕ → List Cipher → ℕ → ℕ → ℕ
place_noise set secrets index firsts row u =
    sum_by (λ c. noise_norm set.degree secrets (cipher_at firsts (u * rows set + c)) (first_messages set index u (c + 1)) row) (range_with_len 0 (rows set))

unfoldable pub first_noise : ParamSet → List Poly → ℕ → List Cipher → ℕ → ℕ
first_noise set secrets index firsts row = sum_by (place_noise set secrets index firsts row) (range_with_len 0 (2 ^ set.nu1))

-- G: the norms over all columns of all selections.
unfoldable pub row_noise : ParamSet → List Poly → ℕ → Gsw → ℕ → ℕ → ℕ
row_noise set secrets bit gsw row r =
    sum_by (λ k. noise_norm set.degree secrets (cipher_at gsw (r * digit_count set.w_gsw + k)) (gsw_messages set secrets bit r k) row)
    (range_with_len 0 (digit_count set.w_gsw))

unfoldable pub selection_noise : ParamSet → List Poly → ℕ → Gsw → ℕ → ℕ
selection_noise set secrets bit gsw row = sum_by (row_noise set secrets bit gsw row) (range_with_len 0 (rows set + 1))

unfoldable pub gsw_noise : ParamSet → List Poly → ℕ → List Gsw → ℕ → ℕ
gsw_noise set secrets index gsws row =
    sum_by (λ l. selection_noise set secrets (selection_bit set index l) (gsw_at gsws l) row) (range_with_len 0 set.nu2)

-- K: the norms over all ciphertexts of the lift keys, under s_1 to s_n.
unfoldable pub lift_key_noise : ParamSet → Poly → List Poly → DigitKey → ℕ → ℕ → ℕ
lift_key_noise set s secrets key row r =
    sum_by (λ k. noise_norm set.degree secrets (cipher_at key.ciphers k) (lift_message set s r k) row) (range_with_len 0 (digit_count set.w_conv))

unfoldable pub lift_noise : ParamSet → Poly → List Poly → List DigitKey → ℕ → ℕ
lift_noise set s secrets lift row = sum_by (λ r. lift_key_noise set s secrets (key_at lift r) row (r + 1)) (range_with_len 0 set.n)

-- T, the noise that an answer has at most: of the first dimension, whose values are at most p / 2 in size; of the selections and of
-- packing, whose digits are below 2^w; and p / 2 from Delta, which is q / p but for its fraction.
abbrev pub noise_bound : ParamSet → ℕ → ℕ → ℕ → ℕ
noise_bound set first gsw lift = p set / 2 * first + (2 ^ set.w_gsw - 1) * gsw + (2 ^ set.w_conv - 1) * lift + p set / 2

-- S, how many numbers of a secret aren't 0
abbrev pub secret_weight : List ℤ → ℕ
secret_weight numbers = count_by (λ z. not (nat_eq (unsigned_abs z) 0)) numbers

-- A row of the report: T and S of its row.
pub record NoiseRow : Type 0 where
  pub noise : ℕ
  pub weight : ℕ

-- The row of row `row` + 1. Where the set packs, the first dimension and the selections stand in the one scalar row.
abbrev pub scalar_row : ParamSet → ℕ → ℕ
scalar_row set row = if set.pack then 0 else row

-- The lift keys count where the set packs.
abbrev pub packing_noise : ParamSet → Poly → List Poly → List DigitKey → ℕ → ℕ
packing_noise set s secrets lift row = if set.pack then lift_noise set s secrets lift row else 0

-- The secrets as polynomials, and those under which first-dimension and GSW ciphertexts stand.
abbrev pub polys_of : ParamSet → List (List ℤ) → List Poly
polys_of set numbers = map (secret_poly set.degree) numbers

abbrev pub ready_secrets : ParamSet → Poly → List (List ℤ) → List Poly
ready_secrets set s numbers = if set.pack then s ∷ [] else polys_of set numbers

-- What the client reports of a query made ready, with s the scalar secret and the numbers of s_1 to s_n: the row of row `row` + 1.
unfoldable pub report_row : ParamSet → Poly → List (List ℤ) → ℕ → List DigitKey → Ready → ℕ → NoiseRow
report_row set s numbers index lift ready row = record {
  noise = noise_bound set (first_noise set (ready_secrets set s numbers) index ready.firsts (scalar_row set row))
      (gsw_noise set (ready_secrets set s numbers) index ready.gsws (scalar_row set row))
      (packing_noise set s (polys_of set numbers) lift row);
  weight = secret_weight (slice_index_or numbers row []);
}

unfoldable pub report_of : ParamSet → Poly → List (List ℤ) → ℕ → List DigitKey → Ready → List NoiseRow
report_of set s numbers index lift ready = map (report_row set s numbers index lift ready) (range_with_len 0 set.n)

-- The two sides of Fits: the noise of the opened sum, in units of 1 / (2 p q1 q2), with what the two roundings add, and the half that it
-- has to stay below.
abbrev pub noise_left : ParamSet → NoiseRow → ℕ
noise_left set row = 2 * p set * (q1 set * q2 set) * row.noise + p set * q * q2 set + p set * q * q1 set * row.weight

abbrev pub noise_right : ParamSet → ℕ
noise_right set = q * (q1 set * q2 set)

-- In each row the left side is below the right one.
abbrev pub FitsReport : ParamSet → List NoiseRow → Type 0
FitsReport set report = All (λ row. noise_left set row < noise_right set) report

-- The report of what words deal for an index, and Fits of it.
unfoldable pub dealt_report : ParamSet → List ℕ → ℕ → List NoiseRow
dealt_report set words index =
    report_of set (scalar_secret set words) (secret_rows set words) index (lift_keys (dealt_keys set words))
    (ready_of set (dealt_keys set words) (query_of set words index))

abbrev pub Fits : ParamSet → List ℕ → ℕ → Type 0
Fits set words index = FitsReport set (dealt_report set words index)

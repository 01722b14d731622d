-- Selections: the external product with the GSW ciphertext of a bit carries the bit times the phase, so that a selection keeps the phase of the
-- ciphertext that the bit says.
use Rattle.std.proofs.Common.{◌≡◌, ◌≢◌, ℕ, zero, suc, ◌+◌, ◌-◌, ◌*◌, ◌^◌, ◌<◌, ◌≤◌, Bool, true, false, ◌==◌, if◌then◌else◌, ℤ, pos, ◌+ℤ◌, ◌-ℤ◌, ◌*ℤ◌, neg_ℤ, List, [], length, All, refl, sym, ◌∙◌, ap, ap₂, arith, eq-eqb, ne_eqb, le_of_eq}
use Rattle.std.proofs.lemmas.Int.{ints}
use Rattle.std.proofs.lemmas.List.FromFn.{length-map-range_with_len}
use Rattle.negacyclic.specs.Sums.{total}
use Rattle.negacyclic.specs.Digits.{digit_poly}
use Rattle.negacyclic.specs.Ring.{product_at, at, ring_add, ring_sub, ring_total}
use Rattle.negacyclic.proofs.Integers.{ring, zero-mul_ℤ, mul-zero_ℤ}
use Rattle.negacyclic.proofs.Sums.{total_same, total_split}
use Rattle.negacyclic.proofs.Congruence.{Congruent, congruent_equal, congruent_refl, congruent_trans, congruent_add}
use Rattle.negacyclic.proofs.RangeSums.{range_sum-mul}
use Rattle.negacyclic.proofs.Lists.{at_range}
use Rattle.negacyclic.proofs.Lengths.{ring_sub-below}
use Rattle.negacyclic.proofs.Product.{product_at-scale, product_at-comm}
use Rattle.negacyclic.proofs.Stands.{Follows, follows_at, scale_of}
use Rattle.negacyclic.proofs.Phases.{phase_at, phase_sub, Carries, Noisy, carries_phase, carries_most, carries_same, carries_add, carries_total, carries_digit_sum}
use Rattle.spiral_sets.specs.declared.param_set.ParamSet.{ParamSet}
use Rattle.spiral_sets.specs.Sets.{IsSet, q, rows, digit_count}
use Rattle.spiral_sets.proofs.SetBounds.{at_least}
use Rattle.spiral_model.specs.Words.{Poly, Cipher, Gsw, poly_of, row_of, cipher_at}
use Rattle.spiral_model.specs.Gadgets.{digit_sum, external_product, cipher_add, cipher_sub, selected}
use Rattle.spiral_model.specs.Queries.{column_message, gsw_messages}
use Rattle.spiral_model.specs.Noise.{noise, noise_norm, row_noise, selection_noise}
use Rattle.noise_laws.specs.Laws.{SelectionKeeps}
use Rattle.noise_laws.proofs.Measured.{q_some, row_phase, RowCarries, Keeps, carries_rows, near_kept, one_at, constant_follows, product_at-number, message_at, noisy_row, total_chosen, all_below}

-- ---- what the columns have

-- What the columns of row r have in row `row` + 1, but for their powers: -bit times the secret for row 0, else the bit in row r alone.
column_part : Poly → ℕ → ℕ → ℕ → ℕ → ℤ
column_part s bit row r i = if r == 0 then neg_ℤ (pos bit) *ℤ at s i else (if row + 1 == r then pos bit else pos 0) *ℤ one_at i

negative_part : (bit power : ℕ) (x : ℤ) → neg_ℤ (pos (bit * power)) *ℤ x ≡ pos power *ℤ (neg_ℤ (pos bit) *ℤ x)
negative_part bit power x =
    let apart : pos (bit * power) ≡ pos bit *ℤ pos power = refl in ap (λ (z : ℤ). neg_ℤ z *ℤ x) apart ∙ order (pos bit) (pos power) x
  where
    order : (b p x : ℤ) → neg_ℤ (b *ℤ p) *ℤ x ≡ p *ℤ (neg_ℤ b *ℤ x)
    order b p x = simp ring (omega (arith, ints))

chosen_part : (b : Bool) (bit power : ℕ) (x : ℤ) → (if b then pos (bit * power) else pos 0) *ℤ x ≡ pos power *ℤ ((if b then pos bit else pos 0) *ℤ x)
chosen_part true bit power x =
    let apart : pos (bit * power) ≡ pos bit *ℤ pos power = refl in ap (λ (z : ℤ). z *ℤ x) apart ∙ order (pos bit) (pos power) x
  where
    order : (b p x : ℤ) → b *ℤ p *ℤ x ≡ p *ℤ (b *ℤ x)
    order b p x = simp ring (omega (arith, ints))
chosen_part false bit power x = zero-mul_ℤ x ∙ sym (ap (λ (z : ℤ). pos power *ℤ z) (zero-mul_ℤ x) ∙ mul-zero_ℤ (pos power))

follows_chosen : {N : ℕ} {a b : Poly} {f g : ℕ → ℤ} (test : Bool) (z : ℤ) (h l : ℕ → ℤ) → Follows q N a f → Follows q N b g
    → ((k : ℕ) → f k ≡ z *ℤ h k) → ((k : ℕ) → g k ≡ z *ℤ l k) → Follows q N (if test then a else b) (λ k. z *ℤ (if test then h k else l k))
follows_chosen true z h l s t left right = record { place = λ k lt. congruent_trans (s.place k lt) (congruent_equal (left k)) }
follows_chosen false z h l s t left right = record { place = λ k lt. congruent_trans (t.place k lt) (congruent_equal (right k)) }

-- what the message of a column follows
column_follows : (N : ℕ) (secrets : List Poly) (bit power r row : ℕ)
    → Follows q N (column_message N secrets (bit * power) r (row + 1)) (λ k. pos power *ℤ column_part (poly_of secrets row) bit row r k)
unfolding column_message column_part
column_follows N secrets bit power r row =
    let place : row + 1 - 1 ≡ row = omega arith in
    let s : Poly = poly_of secrets (row + 1 - 1) in
    follows_chosen (r == 0) (pos power) (λ k. neg_ℤ (pos bit) *ℤ at (poly_of secrets row) k) (λ k. (if row + 1 == r then pos bit else pos 0) *ℤ one_at k)
    (scale_of q_some (neg_ℤ (pos (bit * power))) (follows_at q N s)).follows
    (constant_follows N (if row + 1 == r then pos (bit * power) else pos 0))
    (λ k. negative_part bit power (at s k) ∙ ap (λ (i : ℕ). pos power *ℤ (neg_ℤ (pos bit) *ℤ at (poly_of secrets i) k)) place)
    (λ k. chosen_part (row + 1 == r) bit power (one_at k))

-- The products with what the columns have add up to the bit times the phase.
columns_gather : (N m row bit : ℕ) (s : Poly) (x : ℕ → Poly) (k : ℕ) → row < m → k < N
    → total (m + 1) (λ r. product_at N (at (x r)) (column_part s bit row r) k) ≡ pos bit *ℤ phase_at N s (x 0) (x (row + 1)) k
unfolding column_part phase_at total
columns_gather N m row bit s x k h lt =
    let term : ℕ → ℤ = λ r. product_at N (at (x r)) (column_part s bit row r) k in
    let order : m + 1 ≡ 1 + m = omega arith in
    let next : 1 + row ≡ row + 1 = omega arith in
    let first : term 0 ≡ neg_ℤ (pos bit) *ℤ product_at N (at s) (at (x 0)) k =
    product_at-scale N (at (x 0)) (at s) (neg_ℤ (pos bit)) k ∙ ap (λ (z : ℤ). neg_ℤ (pos bit) *ℤ z) (product_at-comm N (at (x 0)) (at s) k) in
    let rest : total m (λ r. term (1 + r)) ≡ pos bit *ℤ at (x (row + 1)) k =
    total_same m (λ r. term (1 + r)) (λ r. (if row + 1 == 1 + r then pos bit else pos 0) *ℤ at (x (1 + r)) k) (λ r below. other r)
    ∙ total_chosen m row (pos bit) (λ r. row + 1 == 1 + r) (λ r. at (x (1 + r)) k) h (eq-eqb (row + 1) (1 + row) (omega arith))
    (λ r below ne. ne_eqb (row + 1) (1 + r) (λ e. ne (omega arith)))
    ∙ ap (λ (i : ℕ). pos bit *ℤ at (x i) k) next in
    ap (λ (n : ℕ). total n term) order
    ∙ total_split 1 m term
    ∙ ap₂ (λ (y z : ℤ). pos 0 +ℤ y +ℤ z) first rest
    ∙ together (pos bit) (product_at N (at s) (at (x 0)) k) (at (x (row + 1)) k)
  where
    other : (r : ℕ) → product_at N (at (x (1 + r))) (column_part s bit row (1 + r)) k ≡ (if row + 1 == 1 + r then pos bit else pos 0) *ℤ at (x (1 + r)) k
    other r =
        let some : 1 + r ≢ 0 = omega arith in
        let z : ℤ = if row + 1 == 1 + r then pos bit else pos 0 in
        ap (λ (b : Bool). product_at N (at (x (1 + r))) (λ i. if b then neg_ℤ (pos bit) *ℤ at s i else z *ℤ one_at i) k) (ne_eqb (1 + r) 0 some)
        ∙ product_at-number N (at (x (1 + r))) z k lt

    together : (b y z : ℤ) → pos 0 +ℤ neg_ℤ b *ℤ y +ℤ b *ℤ z ≡ b *ℤ (z -ℤ y)
    together b y z = simp ring (omega (arith, ints))

-- ---- rows of sums, differences and products

sub_row : (N : ℕ) (c d : Cipher) (i : ℕ) → i < length c → row_of (cipher_sub N c d) i ≡ ring_sub q N (row_of c i) (row_of d i)
unfolding cipher_sub
sub_row N c d i h = at_range (λ i. ring_sub q N (row_of c i) (row_of d i)) (length c) i [] h

length-cipher_sub : (N : ℕ) (c d : Cipher) → length (cipher_sub N c d) ≡ length c
unfolding cipher_sub
length-cipher_sub N c d = length-map-range_with_len (λ i. ring_sub q N (row_of c i) (row_of d i)) 0 (length c)

add_row : (N : ℕ) (c d : Cipher) (i : ℕ) → i < length c → row_of (cipher_add N c d) i ≡ ring_add q N (row_of c i) (row_of d i)
unfolding cipher_add
add_row N c d i h = at_range (λ i. ring_add q N (row_of c i) (row_of d i)) (length c) i [] h

-- a selection has the rows of its first ciphertext
pub length-selected : (N w : ℕ) (gsw : Gsw) (low high : Cipher) → length (selected N w gsw low high) ≡ length low
unfolding selected cipher_add
length-selected N w gsw low high =
    length-map-range_with_len (λ i. ring_add q N (row_of low i) (row_of (external_product N w gsw (cipher_sub N high low)) i)) 0 (length low)

selected_row : (N w : ℕ) (gsw : Gsw) (low high : Cipher) (i : ℕ) → i < length low
    → row_of (selected N w gsw low high) i ≡ ring_add q N (row_of low i) (row_of (external_product N w gsw (cipher_sub N high low)) i)
unfolding selected
selected_row N w gsw low high i h = add_row N low (external_product N w gsw (cipher_sub N high low)) i h

-- the columns of row r, and the digit sum of x with them
abbrev row_columns : ℕ → Gsw → ℕ → ℕ → Cipher
row_columns w gsw r k = cipher_at gsw (r * digit_count w + k)

abbrev row_sum : ℕ → ℕ → Gsw → Poly → ℕ → ℕ → Poly
row_sum N w gsw x i r = digit_sum N w x (row_columns w gsw r) i

external_row : (N w n : ℕ) (gsw : Gsw) (d : Cipher) (i : ℕ) → length d ≡ n → i < n
    → row_of (external_product N w gsw d) i ≡ ring_total q N n (λ r. row_sum N w gsw (row_of d r) i r)
unfolding external_product
external_row N w n gsw d i size h =
    at_range (λ i. ring_total q N (length d) (λ r. row_sum N w gsw (row_of d r) i r)) (length d) i [] (omega arith)
    ∙ ap (λ (m : ℕ). ring_total q N m (λ r. row_sum N w gsw (row_of d r) i r)) size

-- ---- the external product

-- the digits of selections reach every residue
gsw_reach : (set : ParamSet) → IsSet set → q ≤ 2 ^ (set.w_gsw * digit_count set.w_gsw)
unfolding q
gsw_reach = at_least (λ set. 2 ^ (set.w_gsw * digit_count set.w_gsw)) q (refl, (refl, (refl, (refl, (refl, (refl, (refl, (refl, (refl, (refl, tt))))))))))

module _ (set : ParamSet) (secrets : List Poly) (bit row : ℕ) (gsw : Gsw) (is : IsSet set) (below : row < rows set) where
  abbrev secret : Poly
  secret = poly_of secrets row

  abbrev gsw_column : ℕ → ℕ → Cipher
  gsw_column r k = row_columns set.w_gsw gsw r k

  abbrev column_noise : ℕ → ℕ → Poly
  column_noise r k = noise set.degree secrets (gsw_column r k) (gsw_messages set secrets bit r k) row

  column_noisy : (r k : ℕ) → Noisy q set.degree secret (row_of (gsw_column r k) 0) (row_of (gsw_column r k) (row + 1)) (column_noise r k)
      (λ i. pos (2 ^ (set.w_gsw * k)) *ℤ column_part secret bit row r i)
  unfolding gsw_messages
  column_noisy r k =
      let power : ℕ = 2 ^ (set.w_gsw * k) in
      noisy_row set.degree secrets (gsw_column r k) (gsw_messages set secrets bit r k) row (λ i. pos power *ℤ column_part secret bit row r i)
      (rw (message_at (column_message set.degree secrets (bit * power) r) (rows set) row below) (column_follows set.degree secrets bit power r row))

  -- the factor of the noise
  abbrev factor : ℕ
  factor = 2 ^ set.w_gsw - 1

  -- row i of the digit sum of x with the columns of row r
  abbrev gsw_sum : Poly → ℕ → ℕ → Poly
  gsw_sum x i r = row_sum set.degree set.w_gsw gsw x i r

  -- what it carries
  sum_carries : (x : Poly) (r : ℕ) → All (λ y. y < q) x
      → Carries q set.degree secret (gsw_sum x 0 r) (gsw_sum x (row + 1) r) (product_at set.degree (at x) (column_part secret bit row r))
      (factor * row_noise set secrets bit gsw row r)
  unfolding digit_sum digit_poly row_noise noise_norm
  sum_carries x r residues =
      carries_digit_sum q set.degree set.w_gsw (digit_count set.w_gsw) secret x (λ k. row_of (gsw_column r k) 0) (λ k. row_of (gsw_column r k) (row + 1))
      (column_noise r) (column_part secret bit row r) q_some (all_below q (2 ^ (set.w_gsw * digit_count set.w_gsw)) x (gsw_reach set is) residues)
      (λ k h. column_noisy r k)

  -- row i of the external product
  product_row : (d : Cipher) (i : ℕ) → length d ≡ rows set + 1 → i < rows set + 1
      → row_of (external_product set.degree set.w_gsw gsw d) i ≡ ring_total q set.degree (rows set + 1) (λ r. gsw_sum (row_of d r) i r)
  product_row d i size h = external_row set.degree set.w_gsw (rows set + 1) gsw d i size h

  -- The external product carries the bit times the phase.
  external_carries : (d : Cipher) → length d ≡ rows set + 1 → ((r : ℕ) → r < rows set + 1 → All (λ y. y < q) (row_of d r))
      → RowCarries set.degree secret (external_product set.degree set.w_gsw gsw d) (row + 1) (λ k. pos bit *ℤ row_phase set.degree secret d (row + 1) k)
      (factor * selection_noise set secrets bit gsw row)
  unfolding selection_noise
  external_carries d size residues =
      carries_rows (product_row d 0 size (omega arith)) (product_row d (row + 1) size (omega arith))
      (carries_most (le_of_eq (range_sum-mul (rows set + 1) factor (row_noise set secrets bit gsw row)))
      (carries_same
      (carries_total (rows set + 1) (λ r. gsw_sum (row_of d r) 0 r) (λ r. gsw_sum (row_of d r) (row + 1) r)
      (λ r. product_at set.degree (at (row_of d r)) (column_part secret bit row r)) (λ r. factor * row_noise set secrets bit gsw row r) q_some
      (λ r h. sum_carries (row_of d r) r (residues r h)))
      (λ k h. congruent_equal (columns_gather set.degree (rows set) row bit secret (row_of d) k below h))))

  -- ---- selection

  -- row `row` + 1 of the phase of a ciphertext
  abbrev selected_phase : Cipher → ℕ → ℤ
  selected_phase c k = row_phase set.degree secret c (row + 1) k

  -- the phase of the difference
  difference_phase : (low high : Cipher) (k : ℕ) → length high ≡ rows set + 1 → k < set.degree
      → Congruent q (selected_phase (cipher_sub set.degree high low) k) (selected_phase high k -ℤ selected_phase low k)
  difference_phase low high k size h =
      rw (sub_row set.degree high low 0 (omega arith), sub_row set.degree high low (row + 1) (omega arith))
      (phase_sub set.degree q_some secret (row_of high 0) (row_of high (row + 1)) (row_of low 0) (row_of low (row + 1)) k h)

  -- A selection keeps the phase of that ciphertext which the bit says.
  pub selection_carries : (low high : Cipher) → bit < 2 → length low ≡ rows set + 1 → length high ≡ rows set + 1
      → Keeps set.degree secret (row + 1) (factor * selection_noise set secrets bit gsw row) (selected set.degree set.w_gsw gsw low high)
      (if bit == 0 then low else high)
  selection_carries low high few low_size high_size =
      let d : Cipher = cipher_sub set.degree high low in
      let size : length d ≡ rows set + 1 = length-cipher_sub set.degree high low ∙ high_size in
      carries_rows (selected_row set.degree set.w_gsw gsw low high 0 (omega arith)) (selected_row set.degree set.w_gsw gsw low high (row + 1) (omega arith))
      (carries_most (omega arith)
      (carries_same
      (carries_add q_some (carries_phase (row_of low 0) (row_of low (row + 1)))
      (external_carries d size
      (λ r h. rw (sub_row set.degree high low r (omega arith)) (ring_sub-below q set.degree (row_of high r) (row_of low r) q_some))))
      (λ k h. chosen_phase bit low high (λ c. selected_phase c k) (selected_phase d k) few (difference_phase low high k high_size h))))
    where
      chosen_phase : (bit : ℕ) (low high : Cipher) (f : Cipher → ℤ) (y : ℤ) → bit < 2 → Congruent q y (f high -ℤ f low)
          → Congruent q (f low +ℤ pos bit *ℤ y) (f (if bit == 0 then low else high))
      chosen_phase zero low high f y few near = congruent_equal (omega (arith, ints))
      chosen_phase (suc zero) low high f y few near =
          let step : Congruent q (pos 1 *ℤ y) (f high -ℤ f low) = congruent_trans (congruent_equal (omega (arith, ints))) near in
          congruent_trans (congruent_add (congruent_refl (f low)) step) (congruent_equal (omega (arith, ints)))
      chosen_phase (suc (suc n)) low high f y few near = absurd (omega arith)

-- Law: a selection keeps the phase of that ciphertext which the bit says, within 2^w - 1 times the noise of its columns.
pub selection_keeps : SelectionKeeps
selection_keeps set secrets bit row gsw low high is below few low_size high_size =
    let chosen : Cipher = if bit == 0 then low else high in
    let result : Cipher = selected set.degree set.w_gsw gsw low high in
    near_kept set (poly_of secrets row) (row + 1) ((2 ^ set.w_gsw - 1) * selection_noise set secrets bit gsw row) result chosen
    (selection_carries set secrets bit row gsw is below low high few low_size high_size)

-- The first dimension: a place's product carries the asked place's Delta times the entry of its row, and so does the sum over all places.
use Rattle.std.proofs.Common.{◌≡◌, ℕ, ◌+◌, ◌*◌, ◌/◌, ◌^◌, ◌<◌, ◌≤◌, ◌==◌, if◌then◌else◌, ℤ, pos, ◌*ℤ◌, unsigned_abs, List, [], All, refl, ◌∙◌, arith, eq-eqb, ne_eqb, le_of_eq, mod-lt}
use Rattle.std.proofs.lemmas.Nat.{pow_pos}
use Rattle.std.proofs.lemmas.List.Elements.{All-nil}
use Rattle.negacyclic.specs.Sums.{total}
use Rattle.negacyclic.specs.Residues.{cen, norm}
use Rattle.negacyclic.specs.Ring.{product_at, at, ring_mul, ring_total, ring_scale}
use Rattle.negacyclic.proofs.Sums.{total_same}
use Rattle.negacyclic.proofs.Congruence.{congruent_equal}
use Rattle.negacyclic.proofs.RangeSums.{range_sum-mul}
use Rattle.negacyclic.proofs.Lists.{at_range}
use Rattle.negacyclic.proofs.Lengths.{ring_total-same}
use Rattle.negacyclic.proofs.Ring.{ring_mul_comm}
use Rattle.negacyclic.proofs.Stands.{Follows, follows_at, scale_of}
use Rattle.negacyclic.proofs.Phases.{Carries, Noisy, carries_most, carries_same, carries_total, carries_mul}
use Rattle.spiral_sets.specs.declared.param_set.ParamSet.{ParamSet}
use Rattle.spiral_sets.specs.Sets.{q, p, delta, rows}
use Rattle.spiral_model.specs.Words.{Poly, Cipher, Matrix, poly_of, row_of, cipher_at, matrix_at, entry_at}
use Rattle.spiral_model.specs.Queries.{first_place, row_message, in_row, first_messages}
use Rattle.spiral_model.specs.Answering.{place_product, first_row, first_product}
use Rattle.spiral_model.specs.Noise.{noise, noise_norm, place_noise, first_noise}
use Rattle.noise_laws.specs.Laws.{FirstDimensionKeeps}
use Rattle.noise_laws.proofs.Measured.{q_some, carries_rows, near_carried, one_at, constant_follows, product_at-number, message_at, noisy_row, total_chosen, all_read}

-- ---- messages

-- z in row r follows z at place 0 of that row, and 0 in the others
in_row_follows : (set : ParamSet) (r row : ℕ) (z : ℤ) → row < rows set
    → Follows q set.degree (poly_of (in_row set r z) row) (λ k. (if row + 1 == r then z else pos 0) *ℤ one_at k)
unfolding in_row row_message
in_row_follows set r row z h =
    rw (message_at (row_message set r z) (rows set) row h) (constant_follows set.degree (if row + 1 == r then z else pos 0))

-- ---- one place

-- centred numbers of at most p / 2 in size
abbrev IsSmall : ParamSet → Poly → Type 0
IsSmall set = All (λ x. unsigned_abs (cen q x) ≤ p set / 2)

module _ (set : ParamSet) (secrets : List Poly) (index row : ℕ) (firsts : List Cipher) (below : row < rows set) where
  -- what the ciphertexts of place u have: Delta at the asked one
  abbrev here : ℕ → ℤ
  here u = if u == first_place set index then pos (delta set) else pos 0

  -- column r of place u, and its noise
  abbrev column : ℕ → ℕ → Cipher
  column u r = cipher_at firsts (u * rows set + r)

  abbrev column_noise : ℕ → ℕ → Poly
  column_noise u r = noise set.degree secrets (column u r) (first_messages set index u (r + 1)) row

  -- what that row of it has
  abbrev row_part : ℕ → ℕ → ℕ → ℤ
  row_part u r k = (if row + 1 == r + 1 then here u else pos 0) *ℤ one_at k

  column_noisy : (u r : ℕ) → Noisy q set.degree (poly_of secrets row) (row_of (column u r) 0) (row_of (column u r) (row + 1)) (column_noise u r) (row_part u r)
  column_noisy u r =
      noisy_row set.degree secrets (column u r) (first_messages set index u (r + 1)) row (row_part u r) (in_row_follows set (r + 1) row (here u) below)

  -- entry (r, c) of a matrix, and its product with row i of column r of place u
  abbrev entry : Matrix → ℕ → ℕ → Poly
  entry matrix c r = poly_of matrix (r * set.n + c)

  abbrev product : ℕ → Matrix → ℕ → ℕ → ℕ → Poly
  product u matrix c i r = ring_mul q set.degree (entry matrix c r) (row_of (column u r) i)

  -- the products of one place, with the entries first
  place_turned : (u c i : ℕ) (matrix : Matrix) → place_product set firsts matrix u c i ≡ ring_total q set.degree (rows set) (product u matrix c i)
  unfolding place_product
  place_turned u c i matrix =
      ring_total-same q set.degree (rows set) (λ r. ring_mul q set.degree (row_of (column u r) i) (entry matrix c r)) (product u matrix c i)
      (λ r h. ring_mul_comm q set.degree (row_of (column u r) i) (entry matrix c r))

  -- the products with what the columns have add up to that of the row
  rows_gather : (u c k : ℕ) (matrix : Matrix) → k < set.degree
      → total (rows set) (λ r. product_at set.degree (at (entry matrix c r)) (row_part u r) k) ≡ here u *ℤ at (entry matrix c row) k
  rows_gather u c k matrix h =
      total_same (rows set) (λ r. product_at set.degree (at (entry matrix c r)) (row_part u r) k)
      (λ r. (if row + 1 == r + 1 then here u else pos 0) *ℤ at (entry matrix c r) k)
      (λ r lt. product_at-number set.degree (at (entry matrix c r)) (if row + 1 == r + 1 then here u else pos 0) k h)
      ∙ total_chosen (rows set) row (here u) (λ r. row + 1 == r + 1) (λ r. at (entry matrix c r) k) below (eq-eqb (row + 1) (row + 1) refl)
      (λ r lt ne. ne_eqb (row + 1) (r + 1) (λ e. ne (omega arith)))

  -- What place u carries.
  place_carries : (u c : ℕ) (matrix : Matrix) → All (IsSmall set) matrix
      → Carries q set.degree (poly_of secrets row) (place_product set firsts matrix u c 0) (place_product set firsts matrix u c (row + 1))
      (λ k. here u *ℤ at (entry matrix c row) k) (p set / 2 * place_noise set secrets index firsts row u)
  unfolding place_noise noise_norm
  place_carries u c matrix small =
      let none : IsSmall set [] = All-nil (λ x. unsigned_abs (cen q x) ≤ p set / 2) in
      carries_rows (place_turned u c 0 matrix) (place_turned u c (row + 1) matrix)
      (carries_most (le_of_eq (range_sum-mul (rows set) (p set / 2) (λ r. norm q (column_noise u r))))
      (carries_same
      (carries_total (rows set) (product u matrix c 0) (product u matrix c (row + 1)) (λ r. product_at set.degree (at (entry matrix c r)) (row_part u r))
      (λ r. p set / 2 * norm q (column_noise u r)) q_some
      (λ r h. carries_mul (p set / 2) (entry matrix c r) q_some (all_read (IsSmall set) matrix (r * set.n + c) [] small none) (column_noisy u r)))
      (λ k h. congruent_equal (rows_gather u c k matrix h))))

  -- ---- all places

  -- What the sum over all places carries.
  row_carries : (j c : ℕ) (matrices : List Matrix) → All (All (IsSmall set)) matrices
      → Carries q set.degree (poly_of secrets row) (first_row set matrices firsts j c 0) (first_row set matrices firsts j c (row + 1))
      (λ k. pos (delta set) *ℤ at (entry_at matrices (j * 2 ^ set.nu1 + first_place set index) (row * set.n + c)) k)
      (p set / 2 * first_noise set secrets index firsts row)
  unfolding first_row first_noise
  row_carries j c matrices small =
      let asked : ℕ = first_place set index in
      let matrix : ℕ → Matrix = λ u. matrix_at matrices (j * 2 ^ set.nu1 + u) in
      carries_most (le_of_eq (range_sum-mul (2 ^ set.nu1) (p set / 2) (place_noise set secrets index firsts row)))
      (carries_same
      (carries_total (2 ^ set.nu1) (λ u. place_product set firsts (matrix u) u c 0) (λ u. place_product set firsts (matrix u) u c (row + 1))
      (λ u k. here u *ℤ at (entry (matrix u) c row) k) (λ u. p set / 2 * place_noise set secrets index firsts row u) q_some
      (λ u h. place_carries u c (matrix u) (all_read (All (IsSmall set)) matrices (j * 2 ^ set.nu1 + u) [] small (All-nil (IsSmall set)))))
      (λ k h.
      congruent_equal
      (total_chosen (2 ^ set.nu1) asked (pos (delta set)) (λ u. u == asked) (λ u. at (entry (matrix u) c row) k) (mod-lt index (pow_pos set.nu1))
      (eq-eqb asked asked refl) (λ u lt ne. ne_eqb u asked ne))))

-- a row of a column of the first dimension
first_product-row : (set : ParamSet) (matrices : List Matrix) (firsts : List Cipher) (j c i : ℕ) → i < rows set + 1
    → row_of (first_product set matrices firsts j c) i ≡ first_row set matrices firsts j c i
unfolding first_product
first_product-row set matrices firsts j c i h = at_range (first_row set matrices firsts j c) (rows set + 1) i [] h

-- The first dimension at folded place j has Delta times the entry of the record at the asked place, within p / 2 times F.
pub first_dimension_keeps : FirstDimensionKeeps
first_dimension_keeps set secrets index row j c matrices firsts h small =
    let entry : Poly = entry_at matrices (j * 2 ^ set.nu1 + first_place set index) (row * set.n + c) in
    near_carried set (poly_of secrets row) (first_product set matrices firsts j c) (row + 1) (p set / 2 * first_noise set secrets index firsts row)
    (ring_scale q set.degree (pos (delta set)) entry) (λ k. pos (delta set) *ℤ at entry k)
    (carries_rows (first_product-row set matrices firsts j c 0 (omega arith)) (first_product-row set matrices firsts j c (row + 1) (omega arith))
    (row_carries set secrets index row firsts h j c matrices small))
    (scale_of q_some (pos (delta set)) (follows_at q set.degree entry)).follows

-- Packing: each entry of a column is lifted into its row, so that row `row` + 1 of their sum carries the phase of the entry of that row.
use Rattle.std.proofs.Common.{◌≡◌, ℕ, ◌+◌, ◌-◌, ◌*◌, ◌^◌, ◌<◌, ◌≤◌, Bool, true, false, ◌==◌, if◌then◌else◌, ℤ, pos, ◌+ℤ◌, ◌*ℤ◌, neg_ℤ, List, [], length, All, refl, sym, ◌∙◌, ap, arith, eq-eqb, ne_eqb, le_of_eq, ◌||◌, not, leb, leb-true}
use Rattle.std.proofs.lemmas.Int.{ints}
use Rattle.negacyclic.specs.Digits.{digit_poly}
use Rattle.negacyclic.specs.Ring.{product_at, at, ring_add, ring_total, ring_scale, ring_zero}
use Rattle.negacyclic.proofs.Integers.{mul-neg_ℤ, mul-zero_ℤ, neg-mul_ℤ}
use Rattle.negacyclic.proofs.Sums.{total_one}
use Rattle.negacyclic.proofs.Congruence.{congruent_equal, congruent_trans}
use Rattle.negacyclic.proofs.RangeSums.{range_sum-mul}
use Rattle.negacyclic.proofs.Lists.{at_range}
use Rattle.negacyclic.proofs.Product.{product_at-neg, product_at-zero, product_at-comm}
use Rattle.negacyclic.proofs.Stands.{Follows, follows_at, stands_equal, scale_of, stands_zero}
use Rattle.negacyclic.proofs.Phases.{phase_at, phase_follows, Carries, Noisy, carries_phase, carries_most, carries_same, carries_add, carries_total, carries_digit_sum}
use Rattle.spiral_sets.specs.declared.param_set.ParamSet.{ParamSet}
use Rattle.spiral_sets.specs.Sets.{IsSet, q, digit_count}
use Rattle.spiral_sets.proofs.SetBounds.{passes}
use Rattle.spiral_model.specs.Words.{Poly, Cipher, poly_of, row_of, cipher_at}
use Rattle.spiral_model.specs.Ciphertexts.{phase}
use Rattle.spiral_model.specs.Gadgets.{digit_sum}
use Rattle.spiral_model.specs.KeySwitching.{DigitKey, key_switched, lifted}
use Rattle.spiral_model.specs.Keys.{key_at}
use Rattle.spiral_model.specs.Packing.{lift_row, packed_row, packed_column}
use Rattle.spiral_model.specs.Dealing.{lift_message}
use Rattle.spiral_model.specs.Noise.{noise, noise_norm, lift_key_noise, lift_noise}
use Rattle.noise_laws.specs.Laws.{AreLiftKeys, PackingKeeps}
use Rattle.noise_laws.proofs.Measured.{q_some, row_phase, RowCarries, phase_row, carries_rows, near_carried, message_at, noisy_row, all_below}

-- ---- what the keys have

-- the digits of lift keys reach every residue, where the set packs
conv_reach : (set : ParamSet) → IsSet set → set.pack ≡ true → q ≤ 2 ^ (set.w_conv * digit_count set.w_conv)
unfolding q
conv_reach set is packs =
    let test : ParamSet → Bool = λ set. not set.pack || leb q (2 ^ (set.w_conv * digit_count set.w_conv)) in
    leb-true q (2 ^ (set.w_conv * digit_count set.w_conv))
    (ap (λ (b : Bool). not b || leb q (2 ^ (set.w_conv * digit_count set.w_conv))) (sym packs)
    ∙ passes test (refl, (refl, (refl, (refl, (refl, (refl, (refl, (refl, (refl, (refl, tt)))))))))) set is)

-- what the lift key of the row that the test says has there, but for its powers: minus the secret
abbrev key_part : Bool → Poly → ℕ → ℤ
key_part b s i = if b then neg_ℤ (at s i) else pos 0

message_follows : (N : ℕ) (b : Bool) (power : ℕ) (s : Poly)
    → Follows q N (if b then ring_scale q N (neg_ℤ (pos power)) s else ring_zero q N) (λ k. pos power *ℤ key_part b s k)
message_follows N true power s =
    (stands_equal (scale_of q_some (neg_ℤ (pos power)) (follows_at q N s)) (λ k h. turned (pos power) (at s k))).follows
  where
    turned : (p x : ℤ) → neg_ℤ p *ℤ x ≡ p *ℤ neg_ℤ x
    turned p x = neg-mul_ℤ p x ∙ sym (mul-neg_ℤ p x)
message_follows N false power s =
    (stands_equal (stands_zero q_some) (λ k h. sym (mul-zero_ℤ (pos power)))).follows

lift_message_follows : (set : ParamSet) (s : Poly) (r k row : ℕ) → row < set.n
    → Follows q set.degree (poly_of (lift_message set s r k) row) (λ i. pos (2 ^ (set.w_conv * k)) *ℤ key_part (row + 1 == r) s i)
unfolding lift_message
lift_message_follows set s r k row h =
    let power : ℕ = 2 ^ (set.w_conv * k) in
    rw (message_at (λ i. if i == r then ring_scale q set.degree (neg_ℤ (pos power)) s else ring_zero q set.degree) set.n row h)
    (message_follows set.degree (row + 1 == r) power s)

-- ---- one entry

-- the polynomial in the row that the test says, else 0
abbrev placed : ℕ → Bool → Poly → Poly
placed N b x = if b then x else ring_zero q N

-- its phase over 0 in row 0
placed_carries : (N : ℕ) (s : Poly) (b : Bool) (x : Poly) → Carries q N s (ring_zero q N) (placed N b x) (λ k. if b then at x k else pos 0) 0
placed_carries N s b x =
    carries_same (carries_phase (ring_zero q N) (placed N b x))
    (λ k h.
    congruent_trans (phase_follows N q_some s k (stands_zero {q = q} {N = N} q_some).follows (follows_placed b) h)
    (congruent_equal (let none = product_at-zero N (at s) k in omega (arith, ints))))
  where
    follows_placed : (b : Bool) → Follows q N (placed N b x) (λ k. if b then at x k else pos 0)
    follows_placed true = follows_at q N x
    follows_placed false = (stands_zero q_some).follows

-- the product with what the key has, and the entry itself: the phase where it is that row
entry_joined : (N : ℕ) (s : Poly) (b : Bool) (x y : Poly) (k : ℕ)
    → (if b then at y k else pos 0) +ℤ product_at N (at x) (key_part b s) k ≡ (if b then phase_at N s x y k else pos 0)
unfolding phase_at
entry_joined N s true x y k =
    let neg = product_at-neg N (at x) (at s) k in
    let order = product_at-comm N (at x) (at s) k in omega (arith, ints)
entry_joined N s false x y k = let none = product_at-zero N (at x) k in omega (arith, ints)

module _ (set : ParamSet) (s : Poly) (secrets : List Poly) (lift : List DigitKey) (row : ℕ) (is : IsSet set) (packs : set.pack ≡ true)
    (keys : AreLiftKeys set lift) (below : row < set.n) where
  abbrev secret : Poly
  secret = poly_of secrets row

  -- the factor of the noise
  abbrev factor : ℕ
  factor = 2 ^ set.w_conv - 1

  -- ciphertext k of the lift key of row r + 1, what that has in row `row` + 1, and its noise there
  abbrev key_cipher : ℕ → ℕ → Cipher
  key_cipher r k = cipher_at (key_at lift r).ciphers k

  abbrev lift_part : ℕ → ℕ → ℤ
  lift_part r = key_part (row + 1 == r + 1) s

  abbrev key_noise : ℕ → ℕ → Poly
  key_noise r k = noise set.degree secrets (key_cipher r k) (lift_message set s (r + 1) k) row

  abbrev row_noise : ℕ → ℕ
  row_noise r = lift_key_noise set s secrets (key_at lift r) row (r + 1)

  key_noisy : (r k : ℕ) → Noisy q set.degree secret (row_of (key_cipher r k) 0) (row_of (key_cipher r k) (row + 1)) (key_noise r k)
      (λ i. pos (2 ^ (set.w_conv * k)) *ℤ lift_part r i)
  key_noisy r k =
      noisy_row set.degree secrets (key_cipher r k) (lift_message set s (r + 1) k) row (λ i. pos (2 ^ (set.w_conv * k)) *ℤ lift_part r i)
      (lift_message_follows set s (r + 1) k row below)

  -- row i of the digit sum of x with that key, and what it carries
  abbrev key_sum : Poly → ℕ → ℕ → Poly
  key_sum x i r = digit_sum set.degree set.w_conv x (key_cipher r) i

  sum_carries : (x : Poly) (r : ℕ) → All (λ y. y < q) x
      → Carries q set.degree secret (key_sum x 0 r) (key_sum x (row + 1) r) (product_at set.degree (at x) (lift_part r)) (factor * row_noise r)
  unfolding digit_sum digit_poly lift_key_noise noise_norm
  sum_carries x r residues =
      carries_digit_sum q set.degree set.w_conv (digit_count set.w_conv) secret x (λ k. row_of (key_cipher r k) 0) (λ k. row_of (key_cipher r k) (row + 1))
      (key_noise r) (lift_part r) q_some (all_below q (2 ^ (set.w_conv * digit_count set.w_conv)) x (conv_reach set is packs) residues) (λ k h. key_noisy r k)

  -- row i of a ciphertext lifted into row r + 1
  lifted_at : (c : Cipher) (r i : ℕ) → r < set.n → i < set.n + 1
      → row_of (lift_row set lift c (r + 1)) i ≡ ring_add q set.degree (placed set.degree (i == r + 1) (row_of c 1)) (key_sum (row_of c 0) i r)
  unfolding lift_row lifted key_switched
  lifted_at c r i h lt =
      let key : DigitKey = key_at lift (r + 1 - 1) in
      let same : r + 1 - 1 ≡ r = omega arith in
      let inside : r < length lift = omega (arith, keys.count) in
      let width : (key_at lift r).w ≡ set.w_conv = keys.widths r (record { w = 1; ciphers = [] }) inside in
      let front : Poly = placed set.degree (i == r + 1) (row_of c 1) in
      let sum : DigitKey → ℕ → Poly = λ key w. ring_add q set.degree front (digit_sum set.degree w (row_of c 0) (cipher_at key.ciphers) i) in
      at_range (λ j. ring_add q set.degree (placed set.degree (j == r + 1) (row_of c 1)) (digit_sum set.degree key.w (row_of c 0) (cipher_at key.ciphers) j))
      (set.n + 1) i [] lt
      ∙ ap (λ (j : ℕ). sum (key_at lift j) (key_at lift j).w) same
      ∙ ap (sum (key_at lift r)) width

  -- What an entry lifted into row r + 1 carries: its phase where it is that row, else 0.
  abbrev entry_part : Cipher → ℕ → ℕ → ℤ
  entry_part c r k = if row + 1 == r + 1 then row_phase set.degree s c 1 k else pos 0

  lift_carries : (c : Cipher) (r : ℕ) → r < set.n → All (λ y. y < q) (row_of c 0)
      → RowCarries set.degree secret (lift_row set lift c (r + 1)) (row + 1) (entry_part c r) (factor * row_noise r)
  lift_carries c r h residues =
      let test : Bool = row + 1 == r + 1 in
      let apart : (0 == r + 1) ≡ false = ne_eqb 0 (r + 1) (omega arith) in
      let zeroth : row_of (lift_row set lift c (r + 1)) 0 ≡ ring_add q set.degree (ring_zero q set.degree) (key_sum (row_of c 0) 0 r) =
      lifted_at c r 0 h (omega arith) ∙ ap (λ (b : Bool). ring_add q set.degree (placed set.degree b (row_of c 1)) (key_sum (row_of c 0) 0 r)) apart in
      carries_rows zeroth (lifted_at c r (row + 1) h (omega arith))
      (carries_most (omega arith)
      (carries_same (carries_add q_some (placed_carries set.degree secret test (row_of c 1)) (sum_carries (row_of c 0) r residues))
      (λ k lt. congruent_equal (entry_joined set.degree s test (row_of c 0) (row_of c 1) k))))

  -- ---- a column

  -- entry (r, c), and row i of its lift
  abbrev entry : List Cipher → ℕ → ℕ → Cipher
  entry ciphers c r = cipher_at ciphers (r * set.n + c)

  abbrev lift_at : List Cipher → ℕ → ℕ → ℕ → Poly
  lift_at ciphers c i r = row_of (lift_row set lift (entry ciphers c r) (r + 1)) i

  -- row i of a packed column
  packed_at : (ciphers : List Cipher) (c i : ℕ) → i < set.n + 1
      → row_of (packed_column set lift ciphers c) i ≡ ring_total q set.degree set.n (lift_at ciphers c i)
  unfolding packed_column packed_row
  packed_at ciphers c i h = at_range (packed_row set lift ciphers c) (set.n + 1) i [] h

  -- What a packed column carries in its row: the phase of the entry of that row.
  column_carries : (ciphers : List Cipher) (c : ℕ) → ((r : ℕ) → r < set.n → All (λ x. x < q) (row_of (entry ciphers c r) 0))
      → RowCarries set.degree secret (packed_column set lift ciphers c) (row + 1) (row_phase set.degree s (entry ciphers c row) 1)
      (factor * lift_noise set s secrets lift row)
  unfolding lift_noise
  column_carries ciphers c residues =
      carries_rows (packed_at ciphers c 0 (omega arith)) (packed_at ciphers c (row + 1) (omega arith))
      (carries_most (le_of_eq (range_sum-mul set.n factor row_noise))
      (carries_same
      (carries_total set.n (lift_at ciphers c 0) (lift_at ciphers c (row + 1)) (λ r. entry_part (entry ciphers c r) r) (λ r. factor * row_noise r) q_some
      (λ r h. lift_carries (entry ciphers c r) r h (residues r h)))
      (λ k h.
      congruent_equal
      (total_one set.n (λ r. entry_part (entry ciphers c r) r k) row below
      (λ r lt ne. ap (λ (b : Bool). if b then row_phase set.degree s (entry ciphers c r) 1 k else pos 0) (ne_eqb (row + 1) (r + 1) (λ e. ne (omega arith))))
      ∙ ap (λ (b : Bool). if b then row_phase set.degree s (entry ciphers c row) 1 k else pos 0) (eq-eqb (row + 1) (row + 1) refl)))))

-- Law: packing keeps the phase of each entry, which then stands in its row, within 2^w - 1 times K.
pub packing_keeps : PackingKeeps
packing_keeps set s secrets lift ciphers row c is packs keys below inside residues =
    let packed : Cipher = packed_column set lift ciphers c in
    let from : Cipher = cipher_at ciphers (row * set.n + c) in
    near_carried set (poly_of secrets row) packed (row + 1) ((2 ^ set.w_conv - 1) * lift_noise set s secrets lift row) (phase set.degree s from 1)
    (row_phase set.degree s from 1) (column_carries set s secrets lift row is packs keys below ciphers c residues) (phase_row set.degree s from 1)

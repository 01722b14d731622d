-- A row opens: both switches, the noise of its phase and the fraction of q / p that Delta lacks leave each coefficient nearest to its value.
use Rattle.std.proofs.Common.{◌≡◌, ℕ, ◌+◌, ◌*◌, ◌/◌, ◌<◌, ◌≤◌, cond, not, nat_eq, ℤ, pos, ◌-ℤ◌, ◌*ℤ◌, unsigned_abs, List, [], ◌∷◌, length, get_or, slice_index, slice_index_or, map, All, sum_by, sym, ◌∙◌, ap, subst, arith, zero-le, mul-le-mul_left, pow_pos, ne_eqb, inl, inr}
use Rattle.std.specs.List.{range_with_len}
use Rattle.std.proofs.Math.ListN.{get_or-map}
use Rattle.std.proofs.lemmas.Bool.{cases_eq}
use Rattle.std.proofs.lemmas.Int.{ints}
use Rattle.std.proofs.lemmas.List.Elements.{All-head, All-tail}
use Rattle.std.proofs.lemmas.List.Sums.{sum_by-cons}
use Rattle.negacyclic.specs.Residues.{residue, nearest}
use Rattle.negacyclic.specs.Ring.{at, product_at, reduced}
use Rattle.negacyclic.proofs.Residues.{residue_of_residue}
use Rattle.negacyclic.proofs.RangeSums.{range_sum-list}
use Rattle.negacyclic.proofs.Rounding.{Switches, nearest_near, switches_nearest, switches_product, nearest_opened}
use Rattle.negacyclic.proofs.Stands.{follows_at, stands_reduced, sub_of, mul_of}
use Rattle.negacyclic.proofs.Within.{Within, within_difference}
use Rattle.spiral_sets.specs.declared.param_set.ParamSet.{ParamSet}
use Rattle.spiral_sets.specs.Sets.{q, p, q1, q2, q1_bits}
use Rattle.spiral_model.specs.Words.{Poly, Cipher, row_of}
use Rattle.spiral_model.specs.Ciphertexts.{phase}
use Rattle.spiral_model.specs.Sampling.{secret_poly}
use Rattle.spiral_model.specs.Replies.{IsTernary, switched, opened}
use Rattle.spiral_model.specs.Noise.{secret_weight}
use Rattle.noise_laws.specs.Laws.{Near, RowOpens}
use Rattle.noise_laws.proofs.Measured.{q_some}

-- ---- the switch of a row

-- 0 switches to 0
switched-zero : (m : ℕ) → 0 < m → switched m 0 ≡ 0
unfolding switched
switched-zero m some =
    let near : nearest (pos (0 * m)) q ≡ pos 0 = nearest_near (pos (0 * m)) (pos 0) (pos 0) q (omega (arith, ints)) (omega (arith, ints, q_some)) in
    ap (residue m) near ∙ residue_of_residue {q = m} {r = 0} some

-- and so the place of a row that is switched is its place, switched, also past its end.
at-switched : (m : ℕ) (a : Poly) (k : ℕ) → 0 < m → at (map (switched m) a) k ≡ pos (switched m (slice_index a k))
unfolding at
at-switched m a k some =
    ap (λ (x : ℕ). pos x) (ap (λ (d : ℕ). get_or (map (switched m) a) k d) (sym (switched-zero m some)) ∙ get_or-map (switched m) a k 0)

-- Each place of a row switches.
switches_at : (m : ℕ) (a : Poly) (k : ℕ) → 0 < m → Switches q m q (at a k) (at (map (switched m) a) k)
unfolding at switched
switches_at m a k some =
    subst (λ (b : ℤ). Switches q m q (pos (slice_index a k)) b) (sym (at-switched m a k some)) (switches_nearest q m (slice_index a k) q_some some)

-- ---- the weight of a secret

one_counts : (n : ℕ) → n ≤ 1 → n ≤ cond (not (nat_eq n 0)) 1 0
one_counts n small = elim (cases_eq n 0) [ inl none ↦ omega arith | inr some ↦ rw (ne_eqb n 0 some) small ]

-- The sizes of ternary numbers add up to how many of them aren't 0.
weight_of_sizes : (numbers : List ℤ) → All IsTernary numbers → sum_by (λ z. unsigned_abs z) numbers ≤ secret_weight numbers
weight_of_sizes [] ternary = zero-le
weight_of_sizes (z ∷ zs) ternary =
    let first : unsigned_abs z ≤ cond (not (nat_eq (unsigned_abs z) 0)) 1 0 = one_counts (unsigned_abs z) (All-head IsTernary z zs ternary) in
    let rest : sum_by (λ y. unsigned_abs y) zs ≤ secret_weight zs = weight_of_sizes zs (All-tail IsTernary z zs ternary) in
    omega (arith, sum_by-cons (λ (y : ℤ). unsigned_abs y) z zs, sum_by-cons (λ (y : ℤ). cond (not (nat_eq (unsigned_abs y) 0)) 1 0) z zs)

-- the same, place by place
weight_of_places : (N : ℕ) (numbers : List ℤ) → length numbers ≡ N → All IsTernary numbers
    → sum_by (λ j. unsigned_abs (slice_index_or numbers j (pos 0))) (range_with_len 0 N) ≤ secret_weight numbers
weight_of_places N numbers size ternary =
    let places : sum_by (λ j. unsigned_abs (slice_index_or numbers j (pos 0))) (range_with_len 0 N) ≡ sum_by (λ (z : ℤ). unsigned_abs z) numbers =
    ap (λ (n : ℕ). sum_by (λ j. unsigned_abs (slice_index_or numbers j (pos 0))) (range_with_len 0 n)) (sym size)
    ∙ range_sum-list (λ (z : ℤ). unsigned_abs z) numbers (pos 0) in
    omega (arith, places, weight_of_sizes numbers ternary)

-- ---- the phase, and the room

-- A phase near a function's residues is near it at each place, over whole numbers.
phase_within : (set : ParamSet) (numbers : List ℤ) (cipher : Cipher) (row m k : ℕ) (f : ℕ → ℤ)
    → Near set m (phase set.degree (secret_poly set.degree numbers) cipher row) (reduced q set.degree f) → k < set.degree
    → Within q m (at (row_of cipher row) k -ℤ product_at set.degree (λ i. slice_index_or numbers i (pos 0)) (at (row_of cipher 0)) k) (f k)
unfolding phase secret_poly
phase_within set numbers cipher row m k f near h =
    let N = set.degree in
    let secret = (stands_reduced N (λ i. slice_index_or numbers i (pos 0)) q_some).follows in
    let product = (mul_of q_some secret (follows_at q N (row_of cipher 0))).follows in
    within_difference k q_some (sub_of q_some (follows_at q N (row_of cipher row)) product).follows (stands_reduced N f q_some).follows near h

-- What Fits leaves, in the order of the errors.
room_left : (P Q m n E half S A : ℕ) → A ≤ Q * S → 2 * P * (m * n) * (E + half) + P * Q * n + P * Q * m * S < Q * (m * n)
    → 2 * (m * n * (P * E + P * half)) + P * n * Q + P * m * A < m * n * Q
room_left P Q m n E half S A bound fits =
    let most : P * m * A ≤ P * m * (Q * S) = mul-le-mul_left (P * m) bound in omega arith

-- A row whose noise is small enough opens, each coefficient to its value.
pub row_opens : RowOpens
unfolding opened
row_opens set numbers cipher row values m k is size ternary small near fits h =
    let s : ℕ → ℤ = λ i. slice_index_or numbers i (pos 0) in
    let sizes : ℕ = sum_by (λ j. unsigned_abs (s j)) (range_with_len 0 set.degree) in
    let mask : Poly = row_of cipher 0 in
    let body : Poly = row_of cipher (row + 1) in
    let first_some : 0 < q1 set = pow_pos (q1_bits set) in
    let second_some : 0 < q2 set = pow_pos set.q2_bits in
    let weight : q * sizes ≤ q * secret_weight numbers = mul-le-mul_left q (weight_of_places set.degree numbers size ternary) in
    nearest_opened (p set) q (q1 set) (q2 set) m q (q * sizes) (values k) (at body k) (product_at set.degree s (at mask) k)
    (at (map (switched (q1 set)) body) k) (product_at set.degree s (at (map (switched (q2 set)) mask)) k) (pow_pos set.p_bits)
    (switches_at (q1 set) body k first_some)
    (switches_product set.degree q (q2 set) s (at mask) (at (map (switched (q2 set)) mask)) k h (λ j. switches_at (q2 set) mask j second_some))
    (phase_within set numbers cipher (row + 1) m k (λ i. pos (q / p set) *ℤ values i) near h) (small k)
    (room_left (p set) q (q1 set) (q2 set) m (p set / 2) (secret_weight numbers) (q * sizes) weight fits)

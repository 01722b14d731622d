-- Rounding to the nearest whole number and residues after a change of the modulus, over whole numbers, and the sizes of the
-- places of a product.
use Rattle.std.proofs.Common.{◌≡◌, ℕ, zero, suc, ◌+◌, ◌-◌, ◌*◌, ◌/◌, ◌%◌, ◌<◌, ◌≤◌, ℤ, pos, negsuc, ◌+ℤ◌, ◌-ℤ◌, ◌*ℤ◌, neg_ℤ, unsigned_abs, sum_by, refl, sym, ◌∙◌, ap, ap₂, arith, mod-lt, mul-le-mul, mul-le-mul_left, mul-le-mul_right, mul_comm, zero-le, inl, inr}
use Rattle.std.specs.List.{range_with_len}
use Rattle.std.proofs.lemmas.Nat.{div-add-mod'}
use Rattle.std.proofs.lemmas.Int.{ints, unsigned_abs-mul}
use Rattle.std.proofs.lemmas.Bool.{cases_lt}
use Rattle.negacyclic.specs.Sums.{total}
use Rattle.negacyclic.specs.Residues.{residue, floor_div, nearest}
use Rattle.negacyclic.specs.Ring.{product_at}
use Rattle.negacyclic.proofs.Integers.{ring, mul_comm_ℤ, add-mul_ℤ, mul-add_ℤ, mul-assoc_ℤ}
use Rattle.negacyclic.proofs.Congruence.{Congruent}
use Rattle.negacyclic.proofs.Residues.{residue-below, residue_congruent, residue_same, unsigned_abs-add, unsigned_abs-sub, unsigned_abs-neg}
use Rattle.negacyclic.proofs.RangeSums.{range_sum-suc, range_sum-le, range_sum-mul}
use Rattle.negacyclic.proofs.Within.{Within}
use Rattle.negacyclic.proofs.Turn.{product_term, product_term-plain, product_term-wrapped, product_at-terms, product_at-same}
use Rattle.negacyclic.proofs.Product.{product_at-comm, product_at-add, product_at-scale, product_at-scale_left}

-- ---- division that rounds down

-- A number is d times its quotient, and its residue.
pub floor_div_is : (z : ℤ) (d : ℕ) → 0 < d → z ≡ floor_div z d *ℤ pos d +ℤ pos (residue d z)
unfolding floor_div residue
floor_div_is (pos a) d some = let split = div-add-mod' a d in omega (arith, ints)
floor_div_is (negsuc a) d some =
    let split = div-add-mod' a d in
    let small = mod-lt a some in omega (arith, ints)

no_multiple : (d r s : ℕ) (t : ℤ) → r < d → s < d → pos r ≡ pos s +ℤ t *ℤ pos d → t ≡ pos 0
no_multiple d r s (pos zero) hr hs e = refl
no_multiple d r s (pos (suc n)) hr hs e = absurd (omega (arith, ints))
no_multiple d r s (negsuc n) hr hs e = absurd (omega (arith, ints))

-- No other number is the quotient.
pub floor_div_only : (z v : ℤ) (d r : ℕ) → r < d → z ≡ v *ℤ pos d +ℤ pos r → floor_div z d ≡ v
floor_div_only z v d r h e =
    let some : 0 < d = omega arith in
    let f : ℤ = floor_div z d in
    let is : z ≡ f *ℤ pos d +ℤ pos (residue d z) = floor_div_is z d some in
    let apart : pos r ≡ pos (residue d z) +ℤ (f -ℤ v) *ℤ pos d = shared f v z (pos d) (pos r) (pos (residue d z)) is e in
    let none : f -ℤ v ≡ pos 0 = no_multiple d r (residue d z) (f -ℤ v) h (residue-below d z some) apart in
    omega (arith, ints)
  where
    shared : (f v z d r s : ℤ) → z ≡ f *ℤ d +ℤ s → z ≡ v *ℤ d +ℤ r → r ≡ s +ℤ (f -ℤ v) *ℤ d
    shared f v z d r s one two = simp ring (omega (arith, ints))

-- ---- the nearest number

twice : (z : ℤ) (d : ℕ) → z *ℤ pos (2 * d) ≡ z *ℤ pos d +ℤ z *ℤ pos d
twice z d =
    let both : pos (2 * d) ≡ pos d +ℤ pos d = omega (arith, ints) in ap (λ (y : ℤ). z *ℤ y) both ∙ mul-add_ℤ z (pos d) (pos d)

-- v is z / d but for at most a half.
pub record Rounds (z : ℤ) (d : ℕ) (v : ℤ) : Type 0 where
  pub error : ℤ
  pub half : 2 * unsigned_abs error ≤ d
  pub is : v *ℤ pos d ≡ z +ℤ error

-- The nearest number is.
pub rounds_nearest : (z : ℤ) (d : ℕ) → 0 < d → Rounds z d (nearest z d)
unfolding nearest
rounds_nearest z d some =
    let f : ℤ = floor_div (pos 2 *ℤ z +ℤ pos d) (2 * d) in
    let r : ℕ = residue (2 * d) (pos 2 *ℤ z +ℤ pos d) in
    let is : pos 2 *ℤ z +ℤ pos d ≡ f *ℤ pos (2 * d) +ℤ pos r = floor_div_is (pos 2 *ℤ z +ℤ pos d) (2 * d) (omega arith) in
    let low : r < 2 * d = residue-below (2 * d) (pos 2 *ℤ z +ℤ pos d) (omega arith) in
    let both : f *ℤ pos (2 * d) ≡ f *ℤ pos d +ℤ f *ℤ pos d = twice f d in
    record { error = f *ℤ pos d -ℤ z; half = omega (arith, ints); is = omega (arith, ints) }

-- Where a number is v d and an error of less than half of d, the nearest number is v.
pub nearest_near : (z v error : ℤ) (d : ℕ) → z ≡ v *ℤ pos d +ℤ error → 2 * unsigned_abs error < d → nearest z d ≡ v
unfolding nearest
nearest_near z v error d is small =
    let r : ℕ = unsigned_abs (pos 2 *ℤ error +ℤ pos d) in
    let both : v *ℤ pos (2 * d) ≡ v *ℤ pos d +ℤ v *ℤ pos d = twice v d in
    let low : r < 2 * d = omega (arith, ints) in
    floor_div_only (pos 2 *ℤ z +ℤ pos d) v (2 * d) r low (omega (arith, ints))

-- So a number from which v d differs by less than half of d has v as its nearest number.
pub rounds_only : (z v : ℤ) (d : ℕ) (h : Rounds z d v) → 2 * unsigned_abs h.error < d → nearest z d ≡ v
rounds_only z v d h small =
    let size : 2 * unsigned_abs (neg_ℤ h.error) < d = rw unsigned_abs-neg small in
    let e : v *ℤ pos d ≡ z +ℤ h.error = h.is in nearest_near z v (neg_ℤ h.error) d (omega (arith, ints)) size

-- The same, Q times over: Q z is v d Q and an error of less than half of d Q.
pub nearest_times : (z v error : ℤ) (d Q : ℕ) → z *ℤ pos Q ≡ v *ℤ pos d *ℤ pos Q +ℤ error → 2 * unsigned_abs error < d * Q → nearest z d ≡ v
nearest_times z v error d Q is small =
    let less : ℤ = z -ℤ v *ℤ pos d in
    let times : less *ℤ pos Q ≡ error = taken z (v *ℤ pos d) (pos Q) error is in
    let size : unsigned_abs error ≡ unsigned_abs less * Q = sym (ap unsigned_abs times) ∙ unsigned_abs-mul less (pos Q) in
    let bound : 2 * unsigned_abs less < d =
    elim (cases_lt (2 * unsigned_abs less) d) [
      | inl below ↦ below
      | inr above ↦ let large : d * Q ≤ 2 * unsigned_abs less * Q = mul-le-mul_right Q above in absurd (omega arith)
    ] in
    nearest_near z v less d (omega (arith, ints)) bound
  where
    taken : (z x Q e : ℤ) → z *ℤ Q ≡ x *ℤ Q +ℤ e → (z -ℤ x) *ℤ Q ≡ e
    taken z x Q e is = simp ring (omega (arith, ints))

-- p times the quotient of q by p is q but for less than p: what that makes of a centred value modulo p.
pub quotient_near : (q p : ℕ) (v : ℤ) → 0 < p → unsigned_abs v ≤ p / 2 → unsigned_abs (pos q *ℤ v -ℤ pos (p * (q / p)) *ℤ v) ≤ p * (p / 2)
quotient_near q p v some small =
    let rest : pos q -ℤ pos (p * (q / p)) ≡ pos (q % p) = let split = div-add-mod' q p in omega (arith, ints) in
    let low : q % p ≤ p = let less = mod-lt q some in omega arith in
    let one : pos q *ℤ v -ℤ pos (p * (q / p)) *ℤ v ≡ pos (q % p) *ℤ v = sym (apart (pos q) (pos (p * (q / p))) v) ∙ ap (λ (z : ℤ). z *ℤ v) rest in
    rw (one, unsigned_abs-mul (pos (q % p)) v) (mul-le-mul low small)
  where
    apart : (x y z : ℤ) → (x -ℤ y) *ℤ z ≡ x *ℤ z -ℤ y *ℤ z
    apart x y z = simp ring (omega (arith, ints))

-- ---- the sizes of the places of a product

-- a sum is at most the sum of the sizes
pub unsigned_abs-total_sizes : (n : ℕ) (f : ℕ → ℤ) → unsigned_abs (total n f) ≤ sum_by (λ i. unsigned_abs (f i)) (range_with_len 0 n)
unfolding total
unsigned_abs-total_sizes zero f = zero-le
unsigned_abs-total_sizes (suc n) f =
    omega (arith, unsigned_abs-total_sizes n f, unsigned_abs-add (total n f) (f n), range_sum-suc n (λ i. unsigned_abs (f i)))

term_size : (m : ℕ) (x y : ℤ) → unsigned_abs y ≤ m → unsigned_abs (x *ℤ y) ≤ m * unsigned_abs x
term_size m x y h = rw (unsigned_abs-mul x y, mul_comm (unsigned_abs x) (unsigned_abs y)) (mul-le-mul_right (unsigned_abs x) h)

-- A place of the product is at most a bound of the one factor times the sum of the sizes of the other.
pub unsigned_abs-product_at_sizes : (N m : ℕ) (f g : ℕ → ℤ) (k : ℕ) → k < N → ((i : ℕ) → i < N → unsigned_abs (f i) ≤ m)
    → unsigned_abs (product_at N f g k) ≤ m * sum_by (λ j. unsigned_abs (g j)) (range_with_len 0 N)
unsigned_abs-product_at_sizes N m f g k h bound =
    let terms : product_at N f g k ≡ total N (product_term N g f k) = product_at-comm N f g k ∙ product_at-terms N g f k h in
    let each : sum_by (λ j. unsigned_abs (product_term N g f k j)) (range_with_len 0 N) ≤ sum_by (λ j. m * unsigned_abs (g j)) (range_with_len 0 N) =
    range_sum-le N (λ j. unsigned_abs (product_term N g f k j)) (λ j. m * unsigned_abs (g j))
    (λ j below.
    elim (cases_lt k j) [
      | inl wraps ↦
          rw (product_term-wrapped N g f k j wraps, unsigned_abs-neg (g j *ℤ f (N + k - j))) (term_size m (g j) (f (N + k - j)) (bound (N + k - j) (omega arith)))
      | inr within ↦ rw (product_term-plain N g f k j within) (term_size m (g j) (f (k - j)) (bound (k - j) (omega arith)))
    ]) in
    rw terms (omega (arith, unsigned_abs-total_sizes N (product_term N g f k), each, range_sum-mul N m (λ j. unsigned_abs (g j))))

-- ---- a change of the modulus

-- b modulo m stands for c modulo Q in proportion: b Q is c m but for half of a bound at most, and turns of m Q.
pub record Switches (Q m bound : ℕ) (c b : ℤ) : Type 0 where
  pub error : ℤ
  pub turns : ℤ
  pub half : 2 * unsigned_abs error ≤ bound
  pub is : b *ℤ pos Q ≡ c *ℤ pos m +ℤ error +ℤ turns *ℤ (pos m *ℤ pos Q)

-- The residue of the nearest number does, with Q as the bound.
pub switches_nearest : (Q m c : ℕ) → 0 < Q → 0 < m → Switches Q m Q (pos c) (pos (residue m (nearest (pos (c * m)) Q)))
switches_nearest Q m c some some_m =
    let v : ℤ = nearest (pos (c * m)) Q in
    let rounds : Rounds (pos (c * m)) Q v = rounds_nearest (pos (c * m)) Q some in
    let near : Congruent m (pos (residue m v)) v = residue_congruent m v some_m in
    record {
      error = rounds.error;
      turns = near.times;
      half = rounds.half;
      is = joined (pos (residue m v)) v near.times (pos m) (pos Q) (pos (c * m)) rounds.error near.differ rounds.is;
    }
  where
    joined : (b v t m Q x e : ℤ) → b ≡ v +ℤ t *ℤ m → v *ℤ Q ≡ x +ℤ e → b *ℤ Q ≡ x +ℤ e +ℤ t *ℤ (m *ℤ Q)
    joined b v t m Q x e one two = rw one (add-mul_ℤ v (t *ℤ m) Q ∙ ap₂ (λ (y z : ℤ). y +ℤ z) two (mul-assoc_ℤ t m Q))

-- So does a place of the product with s, with Q times the sum of the sizes of s as the bound.
pub switches_product : (N Q m : ℕ) (s c b : ℕ → ℤ) (k : ℕ) → k < N → ((j : ℕ) → Switches Q m Q (c j) (b j))
    → Switches Q m (Q * sum_by (λ j. unsigned_abs (s j)) (range_with_len 0 N)) (product_at N s c k) (product_at N s b k)
switches_product N Q m s c b k h each =
    let errors : ℕ → ℤ = λ j. (each j).error in
    let turns : ℕ → ℤ = λ j. (each j).turns in
    let total_error : ℤ = product_at N s errors k in
    let whole : pos 2 *ℤ total_error ≡ product_at N (λ j. pos 2 *ℤ errors j) s k =
    ap (λ (z : ℤ). pos 2 *ℤ z) (product_at-comm N s errors k) ∙ sym (product_at-scale_left N errors s (pos 2) k) in
    let size : unsigned_abs (product_at N (λ j. pos 2 *ℤ errors j) s k) ≤ Q * sum_by (λ j. unsigned_abs (s j)) (range_with_len 0 N) =
    unsigned_abs-product_at_sizes N Q (λ j. pos 2 *ℤ errors j) s k h (λ j below. doubled Q (errors j) (each j).half) in
    record {
      error = total_error;
      turns = product_at N s turns k;
      half = halved (Q * sum_by (λ j. unsigned_abs (s j)) (range_with_len 0 N)) total_error (rw (← whole) at size);
      is = mul_comm_ℤ (product_at N s b k) (pos Q)
          ∙ sym (product_at-scale N s b (pos Q) k)
          ∙ product_at-same N s s (λ j. pos Q *ℤ b j) (λ j. pos m *ℤ c j +ℤ errors j +ℤ pos m *ℤ pos Q *ℤ turns j) k (λ i lt. refl)
          (λ j lt. place (pos Q) (pos m) (b j) (c j) (errors j) (turns j) (each j).is)
          ∙ product_at-add N s (λ j. pos m *ℤ c j +ℤ errors j) (λ j. pos m *ℤ pos Q *ℤ turns j) k
          ∙ ap₂ (λ (y z : ℤ). y +ℤ z) (product_at-add N s (λ j. pos m *ℤ c j) errors k) (product_at-scale N s turns (pos m *ℤ pos Q) k)
          ∙ ap (λ (z : ℤ). z +ℤ total_error +ℤ pos m *ℤ pos Q *ℤ product_at N s turns k) (product_at-scale N s c (pos m) k)
          ∙ back (product_at N s c k) (pos m) total_error (pos m *ℤ pos Q) (product_at N s turns k);
    }
  where
    doubled : (Q : ℕ) (e : ℤ) → 2 * unsigned_abs e ≤ Q → unsigned_abs (pos 2 *ℤ e) ≤ Q
    doubled Q e half = omega (arith, ints)

    halved : (bound : ℕ) (e : ℤ) → unsigned_abs (pos 2 *ℤ e) ≤ bound → 2 * unsigned_abs e ≤ bound
    halved bound e size = omega (arith, ints)

    place : (Q m b c e t : ℤ) → b *ℤ Q ≡ c *ℤ m +ℤ e +ℤ t *ℤ (m *ℤ Q) → Q *ℤ b ≡ m *ℤ c +ℤ e +ℤ m *ℤ Q *ℤ t
    place Q m b c e t is = mul_comm_ℤ Q b ∙ is ∙ simp ring

    back : (x m e w t : ℤ) → m *ℤ x +ℤ e +ℤ w *ℤ t ≡ x *ℤ m +ℤ e +ℤ t *ℤ w
    back x m e w t = simp ring

-- ---- rounding what was switched

-- m n times an error of at most M, and p n and p m times errors of at most half of B and A
all_errors : (p m n M B A : ℕ) (e x y : ℤ) → unsigned_abs e ≤ M → 2 * unsigned_abs x ≤ B → 2 * unsigned_abs y ≤ A
    → 2 * unsigned_abs (pos (m * n) *ℤ e +ℤ pos (p * n) *ℤ x -ℤ pos (p * m) *ℤ y) ≤ 2 * (m * n * M) + p * n * B + p * m * A
all_errors p m n M B A e x y first second third =
    let one : unsigned_abs (pos (m * n) *ℤ e) ≤ m * n * M = rw unsigned_abs-mul (mul-le-mul_left (m * n) first) in
    let two : p * n * (2 * unsigned_abs x) ≤ p * n * B = mul-le-mul_left (p * n) second in
    let three : p * m * (2 * unsigned_abs y) ≤ p * m * A = mul-le-mul_left (p * m) third in
    let two_is : unsigned_abs (pos (p * n) *ℤ x) ≡ p * n * unsigned_abs x = unsigned_abs-mul (pos (p * n)) x in
    let three_is : unsigned_abs (pos (p * m) *ℤ y) ≡ p * m * unsigned_abs y = unsigned_abs-mul (pos (p * m)) y in
    let two_twice : p * n * (2 * unsigned_abs x) ≡ 2 * (p * n * unsigned_abs x) = twice_of (p * n) (unsigned_abs x) in
    let three_twice : p * m * (2 * unsigned_abs y) ≡ 2 * (p * m * unsigned_abs y) = twice_of (p * m) (unsigned_abs y) in
    let size : unsigned_abs (pos (m * n) *ℤ e +ℤ pos (p * n) *ℤ x -ℤ pos (p * m) *ℤ y)
    ≤ unsigned_abs (pos (m * n) *ℤ e) + unsigned_abs (pos (p * n) *ℤ x) + unsigned_abs (pos (p * m) *ℤ y) =
    three_sizes (pos (m * n) *ℤ e) (pos (p * n) *ℤ x) (pos (p * m) *ℤ y) in
    omega arith
  where
    twice_of : (a b : ℕ) → a * (2 * b) ≡ 2 * (a * b)
    twice_of a b = omega arith

    three_sizes : (x y z : ℤ) → unsigned_abs (x +ℤ y -ℤ z) ≤ unsigned_abs x + unsigned_abs y + unsigned_abs z
    three_sizes x y z = omega (arith, ints)

taken_apart : (P M N K b a : ℤ) → P *ℤ (N *ℤ b -ℤ M *ℤ a) *ℤ K ≡ P *ℤ N *ℤ (b *ℤ K) -ℤ P *ℤ M *ℤ (a *ℤ K)
taken_apart P M N K b a = simp ring (omega (arith, ints))

put_in : (P M N K c s x y t u : ℤ)
    → P *ℤ N *ℤ (c *ℤ M +ℤ x +ℤ t *ℤ (M *ℤ K)) -ℤ P *ℤ M *ℤ (s *ℤ N +ℤ y +ℤ u *ℤ (N *ℤ K))
    ≡ M *ℤ N *ℤ (P *ℤ (c -ℤ s)) +ℤ P *ℤ N *ℤ x -ℤ P *ℤ M *ℤ y +ℤ M *ℤ N *ℤ (P *ℤ (t -ℤ u)) *ℤ K
put_in P M N K c s x y t u = simp ring (omega (arith, ints))

message_part : (P K D v difference err h δ : ℤ) → difference ≡ D *ℤ v +ℤ err +ℤ h *ℤ K → K *ℤ v -ℤ P *ℤ D *ℤ v ≡ δ
    → P *ℤ difference ≡ K *ℤ v -ℤ δ +ℤ P *ℤ err +ℤ P *ℤ (h *ℤ K)
message_part P K D v difference err h δ is rest = rw is (let apart = spread P D v err (h *ℤ K) in omega (arith, ints))
  where
    spread : (P D v e x : ℤ) → P *ℤ (D *ℤ v +ℤ e +ℤ x) ≡ P *ℤ D *ℤ v +ℤ P *ℤ e +ℤ P *ℤ x
    spread P D v e x = simp ring (omega (arith, ints))

collected : (P M N K v err h δ x y t u : ℤ)
    → M *ℤ N *ℤ (K *ℤ v -ℤ δ +ℤ P *ℤ err +ℤ P *ℤ (h *ℤ K)) +ℤ P *ℤ N *ℤ x -ℤ P *ℤ M *ℤ y +ℤ M *ℤ N *ℤ (P *ℤ (t -ℤ u)) *ℤ K
    ≡ (v +ℤ P *ℤ (h +ℤ t -ℤ u)) *ℤ (M *ℤ N) *ℤ K +ℤ (M *ℤ N *ℤ (P *ℤ err -ℤ δ) +ℤ P *ℤ N *ℤ x -ℤ P *ℤ M *ℤ y)
collected P M N K v err h δ x y t u = simp ring (omega (arith, ints))

-- A phase c - s that carries v, in proportion Q / p and within E, opens as v modulo p from its two parts b and a, which stand for
-- c modulo m and for s modulo n: where all errors together are less than half of the room.
pub nearest_opened : (p Q m n E B A : ℕ) (v c s b a : ℤ) → 0 < p → Switches Q m B c b → Switches Q n A s a → Within Q E (c -ℤ s) (pos (Q / p) *ℤ v)
    → unsigned_abs v ≤ p / 2 → 2 * (m * n * (p * E + p * (p / 2))) + p * n * B + p * m * A < m * n * Q
    → residue p (nearest (pos p *ℤ (pos n *ℤ b -ℤ pos m *ℤ a)) (m * n)) ≡ residue p v
nearest_opened p Q m n E B A v c s b a some first second phase small room =
    let δ : ℤ = pos Q *ℤ v -ℤ pos (p * (Q / p)) *ℤ v in
    let turns : ℤ = phase.differs.times +ℤ first.turns -ℤ second.turns in
    let error : ℤ = pos (m * n) *ℤ (pos p *ℤ phase.error -ℤ δ) +ℤ pos (p * n) *ℤ first.error -ℤ pos (p * m) *ℤ second.error in
    let message : pos p *ℤ (c -ℤ s) ≡ pos Q *ℤ v -ℤ δ +ℤ pos p *ℤ phase.error +ℤ pos p *ℤ (phase.differs.times *ℤ pos Q) =
    message_part (pos p) (pos Q) (pos (Q / p)) v (c -ℤ s) phase.error phase.differs.times δ phase.differs.differ refl in
    let is : pos p *ℤ (pos n *ℤ b -ℤ pos m *ℤ a) *ℤ pos Q ≡ (v +ℤ pos p *ℤ turns) *ℤ pos (m * n) *ℤ pos Q +ℤ error =
    taken_apart (pos p) (pos m) (pos n) (pos Q) b a
    ∙ ap₂ (λ (y z : ℤ). pos p *ℤ pos n *ℤ y -ℤ pos p *ℤ pos m *ℤ z) first.is second.is
    ∙ put_in (pos p) (pos m) (pos n) (pos Q) c s first.error second.error first.turns second.turns
    ∙ ap (λ (z : ℤ). pos m *ℤ pos n *ℤ z +ℤ pos p *ℤ pos n *ℤ first.error -ℤ pos p *ℤ pos m *ℤ second.error +ℤ pos m *ℤ pos n *ℤ (pos p *ℤ (first.turns -ℤ second.turns)) *ℤ pos Q)
    message
    ∙ collected (pos p) (pos m) (pos n) (pos Q) v phase.error phase.differs.times δ first.error second.error first.turns second.turns in
    let near : unsigned_abs δ ≤ p * (p / 2) = quotient_near Q p v some small in
    let large : unsigned_abs (pos p *ℤ phase.error) ≤ p * E = rw unsigned_abs-mul (mul-le-mul_left p phase.small) in
    let both : unsigned_abs (pos p *ℤ phase.error -ℤ δ) ≤ p * E + p * (p / 2) = omega (arith, unsigned_abs-sub (pos p *ℤ phase.error) δ) in
    let size : 2 * unsigned_abs error ≤ 2 * (m * n * (p * E + p * (p / 2))) + p * n * B + p * m * A =
    all_errors p m n (p * E + p * (p / 2)) B A (pos p *ℤ phase.error -ℤ δ) first.error second.error both first.half second.half in
    ap (residue p) (nearest_times (pos p *ℤ (pos n *ℤ b -ℤ pos m *ℤ a)) (v +ℤ pos p *ℤ turns) error (m * n) Q is (omega arith))
    ∙ residue_same some (record { times = turns; differ = ap (λ (z : ℤ). v +ℤ z) (mul_comm_ℤ (pos p) turns) })

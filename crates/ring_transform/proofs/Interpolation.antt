-- The coefficients from the values: a power of the points adds up to 0 over all of them, but where n divides the exponent.
use Rattle.std.proofs.Common.{◌≡◌, ◌≢◌, ℕ, zero, suc, ◌+◌, ◌-◌, ◌*◌, ◌/◌, ◌%◌, ◌^◌, ◌<◌, ◌≤◌, ℤ, pos, ◌+ℤ◌, ◌*ℤ◌, neg_ℤ, List, length, get_or, All, refl, sym, ◌∙◌, ap, ap₂, arith, inl, inr}
use Rattle.std.proofs.lemmas.Bool.{cases_eq, cases_lt}
use Rattle.std.proofs.lemmas.Int.{ints}
use Rattle.std.proofs.lemmas.List.{ext_get_or}
use Rattle.std.proofs.lemmas.List.Elements.{All-get_or}
use Rattle.std.proofs.lemmas.Nat.{pow-add}
use Rattle.std.proofs.Math.Nat.{pow-zero, pow-suc}
use Rattle.negacyclic.specs.Sums.{total}
use Rattle.negacyclic.specs.Ring.{at}
use Rattle.negacyclic.proofs.Integers.{ring, mul-assoc_ℤ, mul_comm_ℤ}
use Rattle.negacyclic.proofs.Sums.{total_none, total_more, total_same, total_zero, total_mul, total_mul_right, total_swap}
use Rattle.negacyclic.proofs.Congruence.{Congruent, congruent_equal, congruent_refl, congruent_sym, congruent_trans, congruent_add, congruent_mul, congruent_times, congruent_total}
use Rattle.negacyclic.proofs.Residues.{residue_is}
use Rattle.negacyclic.proofs.Stands.{length-reduced, reduced_below}
use Rattle.negacyclic.proofs.Reduction.{get_or-reduced}
use Rattle.ring_transform.specs.Points.{IsPrime, IsDegree, node, depth_of, points}
use Rattle.ring_transform.specs.Values.{value_at, values, inverse_of, coefficients}
use Rattle.ring_transform.proofs.Polynomials.{first_power}
use Rattle.ring_transform.proofs.Nodes.{prime_some, remainder_congruent, node_right, node_root}
use Rattle.ring_transform.proofs.Descent.{congruent_along, node_square}
use Rattle.ring_transform.proofs.Whole.{degree_is, depth_most, points-at, values_congruent}

-- ---- sums of powers of all nodes at a depth

-- a sum by pairs
total_pairs : (n : ℕ) (f : ℕ → ℤ) → total (2 * n) f ≡ total n (λ i. f (2 * i) +ℤ f (2 * i + 1))
total_pairs zero f = total_none f ∙ sym (total_none (λ i. f (2 * i) +ℤ f (2 * i + 1)))
total_pairs (suc n) f =
    let size : 2 * suc n ≡ 2 * n + 1 + 1 = omega arith in
    let next : suc n ≡ n + 1 = omega arith in
    let front = total_pairs n f in
    let last = total_more (2 * n + 1) f in
    let before = total_more (2 * n) f in
    let more = total_more n (λ i. f (2 * i) +ℤ f (2 * i + 1)) in
    ap (λ (m : ℕ). total m f) size ∙ both (total (2 * n + 1 + 1) f) (total (2 * n + 1) f) (total (2 * n) f) (total n (λ i. f (2 * i) +ℤ f (2 * i + 1))) (total (n + 1) (λ i. f (2 * i) +ℤ f (2 * i + 1))) (f (2 * n)) (f (2 * n + 1)) last before front more
    ∙ ap (λ (m : ℕ). total m (λ i. f (2 * i) +ℤ f (2 * i + 1))) (sym next)
  where
    both : (all most some half whole x y : ℤ) → all ≡ most +ℤ y → most ≡ some +ℤ x → some ≡ half → whole ≡ half +ℤ (x +ℤ y) → all ≡ whole
    both all most some half whole x y e f g h = omega (arith, ints)

square_is : (x : ℕ) → x ^ 2 ≡ x * x
square_is x = pow-add x 1 1 ∙ ap₂ (λ (a b : ℕ). a * b) (first_power x) (first_power x)

-- an even power of a square root
even_power : {p : ℕ} (x y m : ℕ) → Congruent p (pos x *ℤ pos x) (pos y) → Congruent p (pos (x ^ (2 * m))) (pos (y ^ m))
even_power {p} x y zero square = congruent_equal (ap pos (pow-zero x ∙ sym (pow-zero y)))
even_power {p} x y (suc m) square =
    let size : 2 * suc m ≡ 2 * m + 2 = omega arith in
    congruent_along (pos (x ^ (2 * suc m))) (pos (y ^ suc m))
    (ap (λ (e : ℕ). pos (x ^ e)) size ∙ ap pos (pow-add x (2 * m) 2) ∙ ap (λ (w : ℕ). pos (x ^ (2 * m) * w)) (square_is x))
    (ap pos (sym (pow-suc y m))) (congruent_mul (even_power x y m square) square)

-- The sum of a power over all nodes at a depth.
power_sum : ℕ → ℕ → ℕ → ℤ
power_sum p e m = total (2 ^ e) (λ i. pos (node p e i ^ m))

-- as pairs of opposite nodes
paired : (p e m : ℕ) → power_sum p (suc e) m ≡ total (2 ^ e) (λ i. pos (node p (suc e) (2 * i) ^ m) +ℤ pos (node p (suc e) (2 * i + 1) ^ m))
unfolding power_sum
paired p e m =
    let twice : 2 ^ suc e ≡ 2 * 2 ^ e = omega (arith, pow-suc 2 e) in
    ap (λ (n : ℕ). total n (λ i. pos (node p (suc e) i ^ m))) twice ∙ total_pairs (2 ^ e) (λ i. pos (node p (suc e) i ^ m))

-- the squares of both are the node above
square_left : (p e i : ℕ) → IsPrime p → e < 11 → Congruent p (pos (node p (suc e) (2 * i)) *ℤ pos (node p (suc e) (2 * i))) (pos (node p e i))
square_left p e i prime deep =
    let above : 2 * i / 2 ≡ i = omega arith in
    congruent_trans (node_square p e (2 * i) prime deep) (congruent_equal (ap (λ (j : ℕ). pos (node p e j)) above))

square_right : (p e i : ℕ) → IsPrime p → e < 11 → Congruent p (pos (node p (suc e) (2 * i + 1)) *ℤ pos (node p (suc e) (2 * i + 1))) (pos (node p e i))
square_right p e i prime deep =
    let above : (2 * i + 1) / 2 ≡ i = omega arith in
    congruent_trans (node_square p e (2 * i + 1) prime deep) (congruent_equal (ap (λ (j : ℕ). pos (node p e j)) above))

-- An even power adds up to twice what half the exponent does one layer above,
even_sum : (p e m : ℕ) → IsPrime p → e < 11 → Congruent p (power_sum p (suc e) (2 * m)) (pos 2 *ℤ power_sum p e m)
unfolding power_sum
even_sum p e m prime deep =
    congruent_along (power_sum p (suc e) (2 * m)) (pos 2 *ℤ power_sum p e m) (paired p e (2 * m)) (total_mul (2 ^ e) (pos 2) (λ i. pos (node p e i ^ m)))
    (congruent_total (2 ^ e) (λ i. pos (node p (suc e) (2 * i) ^ (2 * m)) +ℤ pos (node p (suc e) (2 * i + 1) ^ (2 * m))) (λ i. pos 2 *ℤ pos (node p e i ^ m))
    (λ i h.
    congruent_trans (congruent_add (even_power (node p (suc e) (2 * i)) (node p e i) m (square_left p e i prime deep)) (even_power (node p (suc e) (2 * i + 1)) (node p e i) m (square_right p e i prime deep)))
    (congruent_equal (twice (pos (node p e i ^ m))))))
  where
    twice : (x : ℤ) → x +ℤ x ≡ pos 2 *ℤ x
    twice x = omega (arith, ints)

-- and an odd one to 0.
odd_sum : (p e m : ℕ) → IsPrime p → e < 11 → Congruent p (power_sum p (suc e) (2 * m + 1)) (pos 0)
odd_sum p e m prime deep =
    congruent_along (power_sum p (suc e) (2 * m + 1)) (pos 0) (paired p e (2 * m + 1)) (total_zero (2 ^ e) (λ i. pos 0) (λ i h. refl))
    (congruent_total (2 ^ e) (λ i. pos (node p (suc e) (2 * i) ^ (2 * m + 1)) +ℤ pos (node p (suc e) (2 * i + 1) ^ (2 * m + 1))) (λ i. pos 0)
    (λ i h.
    let x = node p (suc e) (2 * i) in
    let y = node p (suc e) (2 * i + 1) in
    congruent_along (pos (x ^ (2 * m + 1)) +ℤ pos (y ^ (2 * m + 1))) (pos 0) (both x y) (gone (pos (node p e i ^ m)) (pos x))
    (congruent_add (congruent_mul (even_power (node p (suc e) (2 * i)) (node p e i) m (square_left p e i prime deep)) (congruent_refl (pos x)))
    (congruent_mul (even_power (node p (suc e) (2 * i + 1)) (node p e i) m (square_right p e i prime deep)) (node_right p e i prime deep)))))
  where
    odd : (x : ℕ) → x ^ (2 * m + 1) ≡ x ^ (2 * m) * x
    odd x = let next : 2 * m + 1 ≡ suc (2 * m) = omega arith in ap (λ (e : ℕ). x ^ e) next ∙ pow-suc x (2 * m)

    both : (x y : ℕ) → pos (x ^ (2 * m + 1)) +ℤ pos (y ^ (2 * m + 1)) ≡ pos (x ^ (2 * m)) *ℤ pos x +ℤ pos (y ^ (2 * m)) *ℤ pos y
    both x y = let a = ap pos (odd x) in let b = ap pos (odd y) in omega (arith, ints)

    gone : (w x : ℤ) → w *ℤ x +ℤ w *ℤ neg_ℤ x ≡ pos 0
    gone w x = simp ring (omega (arith, ints))

-- A power whose exponent the number of nodes doesn't divide adds up to 0,
other_powers : (e p k r : ℕ) → IsPrime p → e ≤ 11 → 0 < r → r < 2 ^ e → Congruent p (power_sum p e (2 ^ e * k + r)) (pos 0)
other_powers zero p k r prime deep some few = absurd (omega (arith, pow-zero 2))
other_powers (suc e) p k r prime deep some few =
    let twice : 2 ^ suc e ≡ 2 ^ e * 2 = pow-suc 2 e in
    elim (cases_eq (r % 2) 0) [
      | inl even ↦
          congruent_along (power_sum p (suc e) (2 ^ suc e * k + r)) (pos 0) (ap (power_sum p (suc e)) (halved (2 ^ e) (2 ^ suc e) r twice even)) (none (pos 2))
          (congruent_trans (even_sum p e (2 ^ e * k + r / 2) prime (omega arith))
          (congruent_times (pos 2) (other_powers e p k (r / 2) prime (omega arith) (omega arith) (omega arith))))
      | inr odd ↦
          congruent_along (power_sum p (suc e) (2 ^ suc e * k + r)) (pos 0) (ap (power_sum p (suc e)) (halved_odd (2 ^ e) (2 ^ suc e) r twice odd)) refl
          (odd_sum p e (2 ^ e * k + r / 2) prime (omega arith))
    ]
  where
    halved : (w t r : ℕ) → t ≡ w * 2 → r % 2 ≡ 0 → t * k + r ≡ 2 * (w * k + r / 2)
    halved w t r e even = rw e (omega arith)

    halved_odd : (w t r : ℕ) → t ≡ w * 2 → r % 2 ≢ 0 → t * k + r ≡ 2 * (w * k + r / 2) + 1
    halved_odd w t r e odd = rw e (omega arith)

    none : (x : ℤ) → x *ℤ pos 0 ≡ pos 0
    none x = omega (arith, ints)

-- and one whose exponent is twice that number to that number.
turned_twice : (e p : ℕ) → IsPrime p → e ≤ 11 → Congruent p (power_sum p e (2 ^ e * 2)) (pos (2 ^ e))
unfolding power_sum
turned_twice zero p prime deep =
    let root = node_root p 0 prime in
    congruent_along (power_sum p 0 (2 ^ 0 * 2)) (pos (2 ^ 0)) single (refl) (congruent_trans (congruent_mul root root) (congruent_equal refl))
  where
    single : total (2 ^ 0) (λ i. pos (node p 0 i ^ (2 ^ 0 * 2))) ≡ pos (node p 0 0) *ℤ pos (node p 0 0)
    single = let more = total_more 0 (λ i. pos (node p 0 i ^ 2)) in let none = total_none (λ i. pos (node p 0 i ^ 2)) in let square = ap pos (square_is (node p 0 0)) in omega (arith, ints)
turned_twice (suc e) p prime deep =
    let twice : 2 ^ suc e ≡ 2 ^ e * 2 = pow-suc 2 e in
    let size : 2 ^ suc e * 2 ≡ 2 * (2 ^ e * 2) = omega arith in
    congruent_along (power_sum p (suc e) (2 ^ suc e * 2)) (pos (2 ^ suc e)) (ap (power_sum p (suc e)) size) (ap pos (order (2 ^ e) ∙ sym twice))
    (congruent_trans (even_sum p e (2 ^ e * 2) prime (omega arith)) (congruent_times (pos 2) (turned_twice e p prime (omega arith))))
  where
    order : (w : ℕ) → 2 * w ≡ w * 2
    order w = omega arith

-- ---- the coefficients

-- how many there are
pub length-coefficients : (p n : ℕ) (v : List ℕ) → length (coefficients p n v) ≡ n
unfolding coefficients
length-coefficients p n v = length-reduced p n (λ i. pos (inverse_of p n) *ℤ total n (λ k. at v k *ℤ pos (get_or (points p n) k 0 ^ (2 * n - i))))

-- each a residue
pub coefficients-below : (p n : ℕ) (v : List ℕ) → 0 < p → All (λ x. x < p) (coefficients p n v)
unfolding coefficients
coefficients-below p n v some = reduced_below p n (λ i. pos (inverse_of p n) *ℤ total n (λ k. at v k *ℤ pos (get_or (points p n) k 0 ^ (2 * n - i)))) some

-- the inverse of the degree
unit : (p n : ℕ) → IsPrime p → IsDegree n → n * inverse_of p n % p ≡ 1
unfolding inverse_of
unit p n (inl e) (inl f) = rw (e, f) refl
unit p n (inl e) (inr f) = rw (e, f) refl
unit p n (inr e) (inl f) = rw (e, f) refl
unit p n (inr e) (inr f) = rw (e, f) refl

-- the power sum that coefficient j adds to coefficient i
of_coefficient : (p n i j : ℕ) → IsPrime p → IsDegree n → i < n → j < n → j ≢ i → Congruent p (power_sum p (depth_of n) (j + (2 * n - i))) (pos 0)
of_coefficient p n i j prime degree hi hj other =
    let m = depth_of n in
    let size = degree_is n degree in
    elim (cases_lt i j) [
      | inl above ↦
          let e : j + (2 * n - i) ≡ 2 ^ m * 2 + (j - i) = omega (arith, size) in
          congruent_along (power_sum p m (j + (2 * n - i))) (pos 0) (ap (power_sum p m) e) refl (other_powers m p 2 (j - i) prime (depth_most n degree) (omega arith) (omega (arith, size)))
      | inr below ↦
          let e : j + (2 * n - i) ≡ 2 ^ m * 1 + (n + j - i) = omega (arith, size) in
          congruent_along (power_sum p m (j + (2 * n - i))) (pos 0) (ap (power_sum p m) e) refl (other_powers m p 1 (n + j - i) prime (depth_most n degree) (omega arith) (omega (arith, size)))
    ]

own_coefficient : (p n i : ℕ) → IsPrime p → IsDegree n → i < n → Congruent p (power_sum p (depth_of n) (i + (2 * n - i))) (pos n)
own_coefficient p n i prime degree h =
    let m = depth_of n in
    let size = degree_is n degree in
    let e : i + (2 * n - i) ≡ 2 ^ m * 2 = omega (arith, size) in
    congruent_along (power_sum p m (i + (2 * n - i))) (pos n) (ap (power_sum p m) e) (ap pos (sym size)) (turned_twice m p prime (depth_most n degree))

-- a sum whose terms but one are congruent to 0
total_only : {p : ℕ} (n j : ℕ) (f : ℕ → ℤ) → j < n → ((i : ℕ) → i < n → i ≢ j → Congruent p (f i) (pos 0)) → Congruent p (total n f) (f j)
total_only {p} zero j f h others = absurd (omega arith)
total_only {p} (suc n) j f h others =
    let next : suc n ≡ n + 1 = omega arith in
    let more = ap (λ (m : ℕ). total m f) next ∙ total_more n f in
    elim (cases_eq j n) [
      | inl e ↦
          congruent_along (total (suc n) f) (f j) more (zero_and (f n) ∙ ap f (sym e))
          (congruent_add (all_zero n (λ i below. others i (omega arith) (omega arith))) (congruent_refl (f n)))
      | inr ne ↦
          congruent_along (total (suc n) f) (f j) more (and_zero (f j))
          (congruent_add (total_only n j f (omega arith) (λ i below other. others i (omega arith) other)) (others n (omega arith) (λ e. ne (sym e))))
    ]
  where
    all_zero : (m : ℕ) → ((i : ℕ) → i < m → Congruent p (f i) (pos 0)) → Congruent p (total m f) (pos 0)
    all_zero m each = congruent_along (total m f) (pos 0) refl (total_zero m (λ i. pos 0) (λ i h. refl)) (congruent_total m f (λ i. pos 0) each)

    zero_and : (x : ℤ) → pos 0 +ℤ x ≡ x
    zero_and x = omega (arith, ints)

    and_zero : (x : ℤ) → x +ℤ pos 0 ≡ x
    and_zero x = omega (arith, ints)

-- the sum of the values times a power of the points, by the coefficients
by_coefficients : (p n s : ℕ) (f : ℕ → ℤ) → IsDegree n
    → total n (λ k. value_at n f (node p (depth_of n) k) *ℤ pos (node p (depth_of n) k ^ s)) ≡ total n (λ j. f j *ℤ power_sum p (depth_of n) (j + s))
unfolding value_at power_sum
by_coefficients p n s f degree =
    let m = depth_of n in
    total_same n (λ k. total n (λ j. f j *ℤ pos (node p m k ^ j)) *ℤ pos (node p m k ^ s)) (λ k. total n (λ j. f j *ℤ pos (node p m k ^ (j + s))))
    (λ k h.
    sym (total_mul_right n (λ j. f j *ℤ pos (node p m k ^ j)) (pos (node p m k ^ s)))
    ∙ total_same n (λ j. f j *ℤ pos (node p m k ^ j) *ℤ pos (node p m k ^ s)) (λ j. f j *ℤ pos (node p m k ^ (j + s)))
    (λ j g. mul-assoc_ℤ (f j) (pos (node p m k ^ j)) (pos (node p m k ^ s)) ∙ ap (λ (x : ℕ). f j *ℤ pos x) (sym (pow-add (node p m k) j s))))
    ∙ total_swap n n (λ k j. f j *ℤ pos (node p m k ^ (j + s)))
    ∙ total_same n (λ j. total n (λ k. f j *ℤ pos (node p m k ^ (j + s)))) (λ j. f j *ℤ total (2 ^ m) (λ k. pos (node p m k ^ (j + s))))
    (λ j h. total_mul n (f j) (λ k. pos (node p m k ^ (j + s))) ∙ ap (λ (c : ℕ). f j *ℤ total c (λ k. pos (node p m k ^ (j + s)))) (degree_is n degree))

-- What has the values of a polynomial of n residues is that polynomial.
pub coefficients_of_values : (p n : ℕ) (a : List ℕ) → IsPrime p → IsDegree n → length a ≡ n → All (λ x. x < p) a → coefficients p n (values p (points p n) a) ≡ a
unfolding coefficients at
coefficients_of_values p n a prime degree size below =
    let m = depth_of n in
    let v = values p (points p n) a in
    ext_get_or 0 (coefficients p n v) a (length-coefficients p n v ∙ sym size)
    (λ i h.
    let within : i < n = omega (arith, length-coefficients p n v) in
    let s = 2 * n - i in
    let by_values : Congruent p (total n (λ k. at v k *ℤ pos (get_or (points p n) k 0 ^ s))) (total n (λ k. value_at n (at a) (node p m k) *ℤ pos (node p m k ^ s))) = congruent_total n (λ k. at v k *ℤ pos (get_or (points p n) k 0 ^ s)) (λ k. value_at n (at a) (node p m k) *ℤ pos (node p m k ^ s)) (λ k lt. congruent_mul (values_congruent p n k a prime lt size) (congruent_equal (ap (λ (z : ℕ). pos (z ^ s)) (points-at p n k 0 lt)))) in
    let only : Congruent p (total n (λ j. at a j *ℤ power_sum p m (j + s))) (at a i *ℤ power_sum p m (i + s)) = total_only n i (λ j. at a j *ℤ power_sum p m (j + s)) within (λ j lt other. congruent_along (at a j *ℤ power_sum p m (j + s)) (pos 0) refl (none (at a j)) (congruent_times (at a j) (of_coefficient p n i j prime degree within lt other))) in
    let whole : Congruent p (total n (λ k. at v k *ℤ pos (get_or (points p n) k 0 ^ s))) (at a i *ℤ pos n) = congruent_trans by_values (congruent_trans (congruent_equal (by_coefficients p n s (at a) degree)) (congruent_trans only (congruent_times (at a i) (own_coefficient p n i prime degree within)))) in
    let one : Congruent p (pos (n * inverse_of p n)) (pos 1) = congruent_trans (congruent_sym (remainder_congruent p (n * inverse_of p n) (prime_some p prime))) (congruent_equal (ap pos (unit p n prime degree))) in
    get_or-reduced p n (λ i. pos (inverse_of p n) *ℤ total n (λ k. at v k *ℤ pos (get_or (points p n) k 0 ^ (2 * n - i)))) i within
    ∙ residue_is (prime_some p prime) (All-get_or (λ x. x < p) a i 0 (omega (arith, size)) below)
    (congruent_sym
    (congruent_trans (congruent_times (pos (inverse_of p n)) whole)
    (congruent_along (pos (inverse_of p n) *ℤ (at a i *ℤ pos n)) (at a i) (order (at a i) n (inverse_of p n)) (one_times (at a i)) (congruent_mul one (congruent_refl (at a i)))))))
  where
    none : (x : ℤ) → x *ℤ pos 0 ≡ pos 0
    none x = omega (arith, ints)

    order : (x : ℤ) (n s : ℕ) → pos s *ℤ (x *ℤ pos n) ≡ pos (n * s) *ℤ x
    order x n s = ap (λ (y : ℤ). pos s *ℤ y) (mul_comm_ℤ x (pos n)) ∙ sym (mul-assoc_ℤ (pos s) (pos n) x) ∙ ap (λ (y : ℤ). y *ℤ x) (mul_comm_ℤ (pos s) (pos n))

    one_times : (x : ℤ) → pos 1 *ℤ x ≡ x
    one_times x = omega (arith, ints)

-- From the remainders of all layers to lists of values, and back.
use Rattle.std.proofs.Common.{◌≡◌, ℕ, ◌+◌, ◌-◌, ◌*◌, ◌%◌, ◌^◌, ◌<◌, ◌≤◌, ℤ, pos, negsuc, ◌+ℤ◌, ◌-ℤ◌, ◌*ℤ◌, neg_ℤ, List, length, get_or, replicate, All, refl, sym, ◌∙◌, ap, ap₂, arith, mod-lt, inl, inr}
use Rattle.std.proofs.lemmas.Int.{ints}
use Rattle.std.proofs.lemmas.List.{ext_get_or, length-map, get_or-map, length-replicate}
use Rattle.std.proofs.lemmas.List.Elements.{All-get_or, All-from_get_or, All-map}
use Rattle.std.proofs.lemmas.List.FromFn.{length-map-range_with_len, get_or-map-range_with_len}
use Rattle.negacyclic.specs.Residues.{residue}
use Rattle.negacyclic.specs.Ring.{at, reduced, ring_add, ring_sub, ring_mul}
use Rattle.negacyclic.proofs.Integers.{mul-assoc_ℤ, mul_comm_ℤ}
use Rattle.negacyclic.proofs.Congruence.{Congruent, congruent_equal, congruent_refl, congruent_sym, congruent_trans, congruent_add, congruent_sub, congruent_mul, congruent_times}
use Rattle.negacyclic.proofs.Residues.{residue-below, residue_congruent, residue_same, residue_is, same_from_congruent}
use Rattle.negacyclic.proofs.Stands.{Stands, follows_at, add_of, sub_of, mul_of, length-reduced}
use Rattle.negacyclic.proofs.Reduction.{get_or-reduced}
use Rattle.negacyclic.proofs.Lengths.{zeros_below, at-zeros, length-ring_add, length-ring_sub, length-ring_mul}
use Rattle.word_prime.specs.Lanes.{products}
use Rattle.ring_transform.specs.Points.{IsPrime, IsDegree, node, depth_of, points}
use Rattle.ring_transform.specs.Values.{value_at, values}
use Rattle.ring_transform.specs.Remainders.{Remainders}
use Rattle.ring_transform.proofs.Polynomials.{first_power, value_at-one, value_at-same, value_at-zero, value_at-congruent, value_at-add, value_at-sub, value_at-scaled}
use Rattle.ring_transform.proofs.Nodes.{prime_some, remainder_congruent, node-below}
use Rattle.ring_transform.proofs.Descent.{congruent_along, leaf_turns}
use Rattle.ring_transform.proofs.Determined.{NoValue, zero_from_values}
use Rattle.ring_transform.proofs.Products.{value_at-product}

-- ---- points and values

-- the number of points is a power of 2
pub degree_is : (n : ℕ) → IsDegree n → n ≡ 2 ^ depth_of n
unfolding depth_of
degree_is n (inl e) = rw e refl
degree_is n (inr e) = rw e refl

pub depth_most : (n : ℕ) → IsDegree n → depth_of n ≤ 11
unfolding depth_of
depth_most n (inl e) = rw e (omega arith)
depth_most n (inr e) = rw e (omega arith)

-- how many there are
pub length-points : (p n : ℕ) → length (points p n) ≡ n
unfolding points
length-points p n = length-map-range_with_len (node p (depth_of n)) 0 n

-- and which
pub points-at : (p n k d : ℕ) → k < n → get_or (points p n) k d ≡ node p (depth_of n) k
unfolding points
points-at p n k d h = get_or-map-range_with_len (node p (depth_of n)) 0 n k k d h (omega arith)

pub length-values : (p n : ℕ) (a : List ℕ) → length (values p (points p n) a) ≡ n
unfolding values
length-values p n a = length-map (points p n) (λ z. residue p (value_at (length a) (at a) z)) ∙ length-points p n

pub values-at : (p n k : ℕ) (a : List ℕ) → k < n → length a ≡ n → get_or (values p (points p n) a) k 0 ≡ residue p (value_at n (at a) (node p (depth_of n) k))
unfolding values
values-at p n k a h size =
    get_or-map (λ z. residue p (value_at (length a) (at a) z)) (points p n) k 0 0 (omega (arith, length-points p n))
    ∙ ap₂ (λ (m z : ℕ). residue p (value_at m (at a) z)) size (points-at p n k 0 h)

-- they are residues
pub values-below : (p : ℕ) (leaves a : List ℕ) → 0 < p → All (λ x. x < p) (values p leaves a)
unfolding values
values-below p leaves a some =
    All-map (λ x. x < p) (λ z. residue p (value_at (length a) (at a) z)) leaves (λ k d h. residue-below p (value_at (length a) (at a) (get_or leaves k d)) some)

-- the n-th power of a point is -1
pub point_turns : (p n k : ℕ) → IsPrime p → IsDegree n → k < n → Congruent p (pos (node p (depth_of n) k ^ n)) (neg_ℤ (pos 1))
point_turns p n k prime degree h =
    let size = degree_is n degree in
    let within : k < 2 ^ depth_of n = omega (arith, size) in
    congruent_along (pos (node p (depth_of n) k ^ n)) (neg_ℤ (pos 1)) (ap (λ (m : ℕ). pos (node p (depth_of n) k ^ m)) size) refl
    (leaf_turns (depth_of n) p k (node p (depth_of n) k) prime (depth_most n degree) within (congruent_refl (pos (node p (depth_of n) k))))

pub points-powers : (p n : ℕ) → IsPrime p → IsDegree n → All (λ z. z ^ n % p ≡ p - 1) (points p n)
points-powers p n prime degree =
    All-from_get_or (λ z. z ^ n % p ≡ p - 1) (points p n) 0
    (λ k h.
    let within : k < n = omega (arith, length-points p n) in
    let some = prime_some p prime in
    rw (points-at p n k 0 within)
    (same_from_congruent (mod-lt (node p (depth_of n) k ^ n) some) (omega arith)
    (congruent_trans (remainder_congruent p (node p (depth_of n) k ^ n) some)
    (congruent_trans (point_turns p n k prime degree within) (record { times = negsuc 0; differ = minus_one p some })))))
  where
    minus_one : (p : ℕ) → 0 < p → neg_ℤ (pos 1) ≡ pos (p - 1) +ℤ negsuc 0 *ℤ pos p
    minus_one p some = omega (arith, ints)

-- each is a residue
pub points-below : (p n : ℕ) → IsPrime p → All (λ z. z < p) (points p n)
points-below p n prime =
    All-from_get_or (λ z. z < p) (points p n) 0
    (λ k h. rw (points-at p n k 0 (omega (arith, length-points p n))) (node-below p (depth_of n) k prime))

-- ---- lists of values

-- a list of n residues that are congruent to the values of a is the list of values
pub values_from_places : (p n : ℕ) (a xs : List ℕ) → IsPrime p → length a ≡ n → length xs ≡ n → All (λ x. x < p) xs
    → ((k : ℕ) → k < n → Congruent p (at xs k) (value_at n (at a) (node p (depth_of n) k))) → values p (points p n) a ≡ xs
unfolding at
values_from_places p n a xs prime size size_xs below places =
    ext_get_or 0 (values p (points p n) a) xs (length-values p n a ∙ sym size_xs)
    (λ k h.
    let within : k < n = omega (arith, length-values p n a) in
    values-at p n k a within size
    ∙ residue_is (prime_some p prime) (All-get_or (λ x. x < p) xs k 0 (omega arith) below) (places k within))

-- the values of 0
pub values_of_zeros : (p n : ℕ) → IsPrime p → values p (points p n) (replicate n 0) ≡ replicate n 0
values_of_zeros p n prime =
    let size : length (replicate n 0) ≡ n = length-replicate {A = ℕ} n 0 in
    values_from_places p n (replicate n 0) (replicate n 0) prime size size (zeros_below p n (prime_some p prime))
    (λ k h.
    let z = node p (depth_of n) k in
    congruent_equal (at-zeros n k h ∙ sym (value_at-same n (at (replicate n 0)) (λ i. pos 0) z (λ i lt. at-zeros n i lt) ∙ value_at-zero n z)))

-- number k of the values is congruent to the value
pub values_congruent : (p n k : ℕ) (a : List ℕ) → IsPrime p → k < n → length a ≡ n → Congruent p (at (values p (points p n) a) k) (value_at n (at a) (node p (depth_of n) k))
unfolding at
values_congruent p n k a prime h size =
    congruent_trans (congruent_equal (ap pos (values-at p n k a h size))) (residue_congruent p (value_at n (at a) (node p (depth_of n) k)) (prime_some p prime))

-- ---- all layers

-- the value at a leaf
leaf_value : (p n k factor : ℕ) (whole parts : ℕ → ℤ) → IsDegree n → k < n → Remainders p 1 (depth_of n) 0 0 factor whole parts
    → Congruent p (pos factor *ℤ parts k) (value_at n whole (node p (depth_of n) k))
leaf_value p n k factor whole parts degree h known =
    let m = depth_of n in
    let z = node p m k in
    let size = degree_is n degree in
    let within : k < 2 ^ m = omega (arith, size) in
    let here : pos (z ^ 1) ≡ pos (node p (0 + m) (0 * 2 ^ m + k)) = ap pos (first_power z) ∙ ap₂ (λ (d i : ℕ). pos (node p d i)) depth place in
    congruent_along (pos factor *ℤ parts k) (value_at n whole z)
    (ap (λ (y : ℤ). pos factor *ℤ y) (sym (value_at-one (λ t. parts (k * 1 + t)) z ∙ ap parts own)))
    (ap (λ (c : ℕ). value_at c whole z) (sym (size ∙ once)))
    (known.part k z within (congruent_equal here))
  where
    depth : depth_of n ≡ 0 + depth_of n
    depth = omega arith

    place : k ≡ 0 * 2 ^ depth_of n + k
    place = omega arith

    own : k * 1 + 0 ≡ k
    own = omega arith

    once : 2 ^ depth_of n ≡ 2 ^ depth_of n * 1
    once = omega arith

-- What all layers of the transform give are the values.
pub forward_values : (p n : ℕ) (old new : List ℕ) → IsPrime p → IsDegree n → length old ≡ n → length new ≡ n → All (λ x. x < p) new
    → Remainders p 1 (depth_of n) 0 0 1 (at old) (at new) → new ≡ values p (points p n) old
forward_values p n old new prime degree size size_new below known =
    sym
    (values_from_places p n old new prime size size_new below
    (λ k h. congruent_along (at new k) (value_at n (at old) (node p (depth_of n) k)) (sym (one_times (at new k))) refl (leaf_value p n k 1 (at old) (at new) degree h known)))
  where
    one_times : (x : ℤ) → pos 1 *ℤ x ≡ x
    one_times x = omega (arith, ints)

-- What all layers of the inverse give, times the inverse of n, has the values that there were.
pub inverse_values : (p n scale : ℕ) (old mid new : List ℕ) → IsPrime p → IsDegree n → length new ≡ n → length old ≡ n → All (λ x. x < p) old
    → n * scale % p ≡ 1 → ((k : ℕ) → k < n → Congruent p (at new k) (pos scale *ℤ at mid k))
    → Remainders p 1 (depth_of n) 0 0 n (at mid) (at old) → values p (points p n) new ≡ old
inverse_values p n scale old mid new prime degree size size_old below unit scaled known =
    values_from_places p n new old prime size size_old below
    (λ k h.
    let z = node p (depth_of n) k in
    let leaf = leaf_value p n k n (at mid) (at old) degree h known in
    let value : Congruent p (value_at n (at new) z) (value_at n (λ t. pos scale *ℤ at mid t) z) = value_at-congruent n (at new) (λ t. pos scale *ℤ at mid t) z scaled in
    let one : Congruent p (pos (n * scale)) (pos 1) = congruent_trans (congruent_sym (remainder_congruent p (n * scale) (prime_some p prime))) (congruent_equal (ap pos unit)) in
    congruent_sym
    (congruent_trans value
    (congruent_trans (congruent_equal (value_at-scaled n (at mid) (pos scale) z))
    (congruent_trans (congruent_times (pos scale) (congruent_sym leaf))
    (congruent_along (pos scale *ℤ (pos n *ℤ at old k)) (at old k) (order n scale (at old k)) (one_times (at old k)) (congruent_mul one (congruent_refl (at old k))))))))
  where
    order : (n scale : ℕ) (x : ℤ) → pos scale *ℤ (pos n *ℤ x) ≡ pos (n * scale) *ℤ x
    order n scale x = sym (mul-assoc_ℤ (pos scale) (pos n) x) ∙ ap (λ (y : ℤ). y *ℤ x) (mul_comm_ℤ (pos scale) (pos n))

    one_times : (x : ℤ) → pos 1 *ℤ x ≡ x
    one_times x = omega (arith, ints)

-- ---- laws

-- Lists of n residues with the same values are the same.
pub values_determine : (p n : ℕ) (a b : List ℕ) → IsPrime p → IsDegree n → length a ≡ n → length b ≡ n → All (λ x. x < p) a → All (λ x. x < p) b
    → values p (points p n) a ≡ values p (points p n) b → a ≡ b
unfolding at
values_determine p n a b prime degree size_a size_b below_a below_b same =
    let m = depth_of n in
    let size = degree_is n degree in
    let some = prime_some p prime in
    let none : NoValue p 0 m 0 (λ t. at a t -ℤ at b t) = record {
      leaf = λ i z within is.
          let inside : i < n = omega (arith, size) in
          let here : z ≡ node p m i = is ∙ ap₂ (λ (d k : ℕ). node p d k) (sym (depth m)) (sym (place m i)) in
          let value_a = values_congruent p n i a prime inside size_a in
          let value_b = values_congruent p n i b prime inside size_b in
          let equal : at (values p (points p n) a) i ≡ at (values p (points p n) b) i = ap (λ (xs : List ℕ). at xs i) same in
          let near : Congruent p (value_at n (at a) (node p m i)) (value_at n (at b) (node p m i)) = congruent_trans (congruent_sym value_a) (congruent_trans (congruent_equal equal) value_b) in
          congruent_along (value_at (2 ^ m) (λ t. at a t -ℤ at b t) z) (pos 0)
          (ap₂ (λ (c y : ℕ). value_at c (λ t. at a t -ℤ at b t) y) (sym size) here ∙ value_at-sub n (at a) (at b) (node p m i)) (nothing (value_at n (at b) (node p m i)))
          (congruent_sub near (congruent_refl (value_at n (at b) (node p m i))));
    } in
    ext_get_or 0 a b (size_a ∙ sym size_b)
    (λ k h.
    let within : k < 2 ^ m = omega (arith, size) in
    let gone = zero_from_values m p 0 0 (λ t. at a t -ℤ at b t) prime (omega (arith, depth_most n degree)) none k within in
    same_from_congruent (All-get_or (λ x. x < p) a k 0 h below_a) (All-get_or (λ x. x < p) b k 0 (omega arith) below_b)
    (congruent_along (at a k) (at b k) (back (at a k) (at b k)) (front (at b k)) (congruent_add gone (congruent_refl (at b k)))))
  where
    depth : (m : ℕ) → m ≡ 0 + m
    depth m = omega arith

    place : (m i : ℕ) → i ≡ 0 * 2 ^ m + i
    place m i = omega arith

    nothing : (x : ℤ) → x -ℤ x ≡ pos 0
    nothing x = omega (arith, ints)

    back : (x y : ℤ) → x ≡ x -ℤ y +ℤ y
    back x y = omega (arith, ints)

    front : (y : ℤ) → pos 0 +ℤ y ≡ y
    front y = omega (arith, ints)

-- the values of a list that stands for f
value_of : {p n : ℕ} {a : List ℕ} {f : ℕ → ℤ} (z : ℕ) → Stands p n a f → Congruent p (value_at n (at a) z) (value_at n f z)
value_of {p} {n} {a} {f} z s = value_at-congruent n (at a) f z s.follows.place

-- a list with the values of a, by those at each point
same_values : (p n : ℕ) (a : List ℕ) (f : ℕ → ℤ) → IsPrime p → length a ≡ n → ((k : ℕ) → k < n → Congruent p (value_at n (at a) (node p (depth_of n) k)) (f k))
    → values p (points p n) a ≡ reduced p n f
same_values p n a f prime size places =
    let some = prime_some p prime in
    ext_get_or 0 (values p (points p n) a) (reduced p n f) (length-values p n a ∙ sym (length-reduced p n f))
    (λ k h.
    let within : k < n = omega (arith, length-values p n a) in
    values-at p n k a within size ∙ residue_same some (places k within) ∙ sym (get_or-reduced p n f k within))

-- The values of a sum,
pub values_of_sum : (p n : ℕ) (a b : List ℕ) → IsPrime p → IsDegree n → length a ≡ n → length b ≡ n
    → values p (points p n) (ring_add p n a b) ≡ ring_add p n (values p (points p n) a) (values p (points p n) b)
unfolding ring_add
values_of_sum p n a b prime degree size_a size_b =
    same_values p n (ring_add p n a b) (λ k. at (values p (points p n) a) k +ℤ at (values p (points p n) b) k) prime (length-ring_add p n a b)
    (λ k h.
    let z = node p (depth_of n) k in
    let sum = add_of (prime_some p prime) (follows_at p n a) (follows_at p n b) in
    congruent_trans (value_of z sum)
    (congruent_trans (congruent_equal (value_at-add n (at a) (at b) z))
    (congruent_add (congruent_sym (values_congruent p n k a prime h size_a)) (congruent_sym (values_congruent p n k b prime h size_b)))))

-- those of a difference
pub values_of_difference : (p n : ℕ) (a b : List ℕ) → IsPrime p → IsDegree n → length a ≡ n → length b ≡ n
    → values p (points p n) (ring_sub p n a b) ≡ ring_sub p n (values p (points p n) a) (values p (points p n) b)
unfolding ring_sub
values_of_difference p n a b prime degree size_a size_b =
    same_values p n (ring_sub p n a b) (λ k. at (values p (points p n) a) k -ℤ at (values p (points p n) b) k) prime (length-ring_sub p n a b)
    (λ k h.
    let z = node p (depth_of n) k in
    let difference = sub_of (prime_some p prime) (follows_at p n a) (follows_at p n b) in
    congruent_trans (value_of z difference)
    (congruent_trans (congruent_equal (value_at-sub n (at a) (at b) z))
    (congruent_sub (congruent_sym (values_congruent p n k a prime h size_a)) (congruent_sym (values_congruent p n k b prime h size_b)))))

-- and those of the negacyclic product.
pub values_of_product : (p n : ℕ) (a b : List ℕ) → IsPrime p → IsDegree n → length a ≡ n → length b ≡ n
    → values p (points p n) (ring_mul p n a b) ≡ products p (values p (points p n) a) (values p (points p n) b)
unfolding products
values_of_product p n a b prime degree size_a size_b =
    same_values p n (ring_mul p n a b) (λ k. at (values p (points p n) a) k *ℤ at (values p (points p n) b) k) prime (length-ring_mul p n a b)
    (λ k h.
    let z = node p (depth_of n) k in
    let product = mul_of (prime_some p prime) (follows_at p n a) (follows_at p n b) in
    congruent_trans (value_of z product)
    (congruent_trans (value_at-product p n z (point_turns p n k prime degree h) (at a) (at b))
    (congruent_mul (congruent_sym (values_congruent p n k a prime h size_a)) (congruent_sym (values_congruent p n k b prime h size_b)))))
    ∙ ap (λ (m : ℕ). reduced p m (λ k. at (values p (points p n) a) k *ℤ at (values p (points p n) b) k)) (sym (length-values p n a))

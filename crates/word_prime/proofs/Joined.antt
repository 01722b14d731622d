-- The list that two halves are those of. What both stand for, each modulo its prime, it stands for modulo q. So each operation on
-- lists of residues modulo q is the same operation on their halves.
use Rattle.std.proofs.Common.{◌≡◌, ℕ, ◌*◌, ◌%◌, ◌<◌, ℤ, pos, ◌+ℤ◌, ◌*ℤ◌, List, length, get_or, replicate, All, refl, sym, ◌∙◌, ap, arith, lit<}
use Rattle.std.proofs.lemmas.Int.{ints}
use Rattle.negacyclic.specs.Residues.{residue}
use Rattle.negacyclic.specs.Ring.{at, reduced, ring_zero, ring_add, ring_sub, ring_mul, ring_scale, ring_shift, tau}
use Rattle.negacyclic.proofs.Congruence.{Congruent, congruent_equal, congruent_sym, congruent_trans}
use Rattle.negacyclic.proofs.Residues.{residue_congruent, residue_is}
use Rattle.negacyclic.proofs.Stands.{Follows, Stands, length-reduced, at-reduced, reduced_below, stands_at, stands_same, stands_congruent, stands_reduced, add_of, sub_of, mul_of, scale_of, shift_of, tau_of}
use Rattle.negacyclic.proofs.Lengths.{stands_zeros, zeros_ring}
use Rattle.negacyclic.proofs.Reduction.{get_or-reduced}
use Rattle.spiral_sets.specs.Sets.{q}
use Rattle.word_prime.specs.Halves.{p1, p2, half, joined, AreHalves}
use Rattle.word_prime.proofs.Halves.{congruent_factor, half-below, length-half, stands_half}

-- ---- the two primes

pub some_first : 0 < p1
some_first = lit< tt

pub some_second : 0 < p2
some_second = lit< tt

some_q : 0 < q
unfolding q
some_q = lit< tt

first_divides : q ≡ 249561089 * p1
unfolding q
first_divides = refl

second_divides : q ≡ 268369921 * p2
unfolding q
second_divides = refl

-- the number that x and y stand for, modulo each prime
near_first : (x y : ℤ) → Congruent p1 (pos 40838229011788690 *ℤ x +ℤ pos 26136460727815280 *ℤ y) x
near_first x y = record { times = pos 152171409 *ℤ x +ℤ pos 97389680 *ℤ y; differ = omega (arith, ints) }

near_second : (x y : ℤ) → Congruent p2 (pos 40838229011788690 *ℤ x +ℤ pos 26136460727815280 *ℤ y) y
near_second x y = record { times = pos 163640210 *ℤ x +ℤ pos 104729711 *ℤ y; differ = omega (arith, ints) }

-- what is congruent to z modulo both is congruent to it modulo q
near_both : (x y z : ℤ) → Congruent p1 x z → Congruent p2 y z → Congruent q (pos 40838229011788690 *ℤ x +ℤ pos 26136460727815280 *ℤ y) z
unfolding q
near_both x y z h k =
    let e : x ≡ z +ℤ h.times *ℤ pos p1 = h.differ in
    let f : y ≡ z +ℤ k.times *ℤ pos p2 = k.differ in
    record { times = z +ℤ pos 163640210 *ℤ h.times +ℤ pos 97389680 *ℤ k.times; differ = omega (arith, ints) }

-- ---- the joined list

pub length-joined : (a b : List ℕ) → length (joined a b) ≡ length a
unfolding joined
length-joined a b = length-reduced q (length a) (λ k. pos 40838229011788690 *ℤ at a k +ℤ pos 26136460727815280 *ℤ at b k)

pub joined-below : (a b : List ℕ) → All (λ x. x < q) (joined a b)
unfolding joined
joined-below a b = reduced_below q (length a) (λ k. pos 40838229011788690 *ℤ at a k +ℤ pos 26136460727815280 *ℤ at b k) some_q

-- Each half follows it.
pub first_follows : (N : ℕ) (a b : List ℕ) → length a ≡ N → Follows p1 N a (at (joined a b))
unfolding joined
first_follows N a b size =
    record {
      place = λ k h.
          let f : ℕ → ℤ = λ i. pos 40838229011788690 *ℤ at a i +ℤ pos 26136460727815280 *ℤ at b i in
          congruent_sym
          (congruent_trans (congruent_equal (at-reduced q (length a) f k (omega (arith, size))))
          (congruent_trans (congruent_factor 249561089 q first_divides (residue_congruent q (f k) some_q)) (near_first (at a k) (at b k))));
    }

pub second_follows : (N : ℕ) (a b : List ℕ) → length a ≡ N → Follows p2 N b (at (joined a b))
unfolding joined
second_follows N a b size =
    record {
      place = λ k h.
          let f : ℕ → ℤ = λ i. pos 40838229011788690 *ℤ at a i +ℤ pos 26136460727815280 *ℤ at b i in
          congruent_sym
          (congruent_trans (congruent_equal (at-reduced q (length a) f k (omega (arith, size))))
          (congruent_trans (congruent_factor 268369921 q second_divides (residue_congruent q (f k) some_q)) (near_second (at a k) (at b k))));
    }

-- What both halves stand for.
pub joined_of : {N : ℕ} {a b : List ℕ} {f : ℕ → ℤ} → Stands p1 N a f → Stands p2 N b f → joined a b ≡ reduced q N f
unfolding joined
joined_of {N} {a} {b} {f} s t =
    let g : ℕ → ℤ = λ i. pos 40838229011788690 *ℤ at a i +ℤ pos 26136460727815280 *ℤ at b i in
    ap (λ (n : ℕ). reduced q n g) s.size
    ∙ stands_same (stands_congruent (stands_reduced N g some_q) (λ k h. near_both (at a k) (at b k) (f k) (s.follows.place k h) (t.follows.place k h))) (stands_reduced N f some_q)
    (λ k h. refl)

-- Residues modulo q are joined from their halves.
pub joined_halves : (c : List ℕ) → All (λ x. x < q) c → joined (half p1 c) (half p2 c) ≡ c
joined_halves c below =
    let own : Stands q (length c) c (at c) = stands_at some_q refl below in
    joined_of (stands_half 249561089 some_first first_divides own) (stands_half 268369921 some_second second_divides own)
    ∙ stands_same (stands_reduced (length c) (at c) some_q) own (λ k h. refl)

pub halves_are : (c : List ℕ) → AreHalves (half p1 c) (half p2 c)
halves_are c =
    record { same = length-half p2 c ∙ sym (length-half p1 c); first = half-below p1 c some_first; second = half-below p2 c some_second }

-- the number at a place, by its two residues
pub joined-at : (a b : List ℕ) (k x : ℕ) → k < length a → x < q → x % p1 ≡ get_or a k 0 → x % p2 ≡ get_or b k 0 → get_or (joined a b) k 0 ≡ x
unfolding joined at residue
joined-at a b k x h below first second =
    get_or-reduced q (length a) (λ i. pos 40838229011788690 *ℤ pos (get_or a i 0) +ℤ pos 26136460727815280 *ℤ pos (get_or b i 0)) k h
    ∙ residue_is some_q below
    (congruent_sym
    (near_both (pos (get_or a k 0)) (pos (get_or b k 0)) (pos x) (congruent_trans (congruent_equal (ap pos (sym first))) (residue_congruent p1 (pos x) some_first))
    (congruent_trans (congruent_equal (ap pos (sym second))) (residue_congruent p2 (pos x) some_second))))

-- ---- the operations

-- zeros
pub joined_zeros : (N : ℕ) → joined (replicate N 0) (replicate N 0) ≡ replicate N 0
unfolding ring_zero
joined_zeros N = joined_of (stands_zeros p1 N some_first) (stands_zeros p2 N some_second) ∙ sym (zeros_ring q N some_q)

-- the residues of two functions are halves
pub reduced_halves : (N : ℕ) (f g : ℕ → ℤ) → AreHalves (reduced p1 N f) (reduced p2 N g)
reduced_halves N f g =
    record { same = length-reduced p2 N g ∙ sym (length-reduced p1 N f); first = reduced_below p1 N f some_first; second = reduced_below p2 N g some_second }

-- the residues of one are those of the joined list
pub joined_reduced : (N : ℕ) (f : ℕ → ℤ) → joined (reduced p1 N f) (reduced p2 N f) ≡ reduced q N f
joined_reduced N f = joined_of (stands_reduced N f some_first) (stands_reduced N f some_second)

module _ (N : ℕ) (a b : List ℕ) (size : length a ≡ N) where
  -- a multiple
  pub joined_scale : (z : ℤ) → joined (ring_scale p1 N z a) (ring_scale p2 N z b) ≡ ring_scale q N z (joined a b)
  unfolding ring_scale
  joined_scale z = joined_of (scale_of some_first z (first_follows N a b size)) (scale_of some_second z (second_follows N a b size))

  -- a product with a power of x
  pub joined_shift : (s : ℕ) → joined (ring_shift p1 N s a) (ring_shift p2 N s b) ≡ ring_shift q N s (joined a b)
  unfolding ring_shift
  joined_shift s = joined_of (shift_of some_first s (first_follows N a b size)) (shift_of some_second s (second_follows N a b size))

  -- an automorphism
  pub joined_tau : (g : ℕ) → joined (tau p1 N g a) (tau p2 N g b) ≡ tau q N g (joined a b)
  unfolding tau
  joined_tau g = joined_of (tau_of some_first g (first_follows N a b size)) (tau_of some_second g (second_follows N a b size))

  module _ (c d : List ℕ) (size_c : length c ≡ N) where
    -- a sum
    pub joined_add : joined (ring_add p1 N a c) (ring_add p2 N b d) ≡ ring_add q N (joined a b) (joined c d)
    unfolding ring_add
    joined_add =
        joined_of (add_of some_first (first_follows N a b size) (first_follows N c d size_c)) (add_of some_second (second_follows N a b size) (second_follows N c d size_c))

    -- a difference
    pub joined_sub : joined (ring_sub p1 N a c) (ring_sub p2 N b d) ≡ ring_sub q N (joined a b) (joined c d)
    unfolding ring_sub
    joined_sub =
        joined_of (sub_of some_first (first_follows N a b size) (first_follows N c d size_c)) (sub_of some_second (second_follows N a b size) (second_follows N c d size_c))

    -- a product
    pub joined_mul : joined (ring_mul p1 N a c) (ring_mul p2 N b d) ≡ ring_mul q N (joined a b) (joined c d)
    unfolding ring_mul
    joined_mul =
        joined_of (mul_of some_first (first_follows N a b size) (first_follows N c d size_c)) (mul_of some_second (second_follows N a b size) (second_follows N c d size_c))

-- Pairs of lists and the polynomial that they hold: what is done with each modulo its prime is done with the polynomial.
use Rattle.std.proofs.Common.{◌≡◌, ℕ, ℤ, ◌%◌, ◌<◌, ◌+ℤ◌, ◌-ℤ◌, ◌*ℤ◌, List, ◌++◌, length, map, take, replicate, All, refl, sym, ◌∙◌, ap, ap₂, subst}
use Rattle.negacyclic.specs.Ring.{at, product_at, shift_at, tau_at, reduced, ring_add, ring_sub, ring_mul, ring_scale, ring_shift, tau}
use Rattle.negacyclic.proofs.Lengths.{zeros_below}
use Rattle.negacyclic.proofs.Lists.{refilled}
use Rattle.spiral_sets.specs.Sets.{q}
use Rattle.word_prime.specs.Halves.{p1, p2, half, joined, AreHalves}
use Rattle.word_prime.proofs.Joined.{some_first, some_second, length-joined, reduced_halves, halves_are, joined_halves, joined_zeros, joined_reduced, joined_add, joined_sub, joined_mul, joined_scale, joined_shift, joined_tau}

-- x and y hold the polynomial c
pub record Holds (c x y : List ℕ) : Type 0 where
  pub view : joined x y ≡ c
  pub halves : AreHalves x y

-- the same pair, written otherwise
held_as : (c x y u v : List ℕ) → x ≡ u → y ≡ v → joined u v ≡ c → AreHalves u v → Holds c x y
held_as c x y u v first second view halves =
    record { view = ap₂ (λ (s t : List ℕ). joined s t) first second ∙ view; halves = subst (λ (s : List ℕ). AreHalves s y) (sym first) (subst (λ (t : List ℕ). AreHalves u t) (sym second) halves) }

-- zeros
pub zeros_hold : (n : ℕ) (x y : List ℕ) → x ≡ replicate n 0 → y ≡ replicate n 0 → Holds (replicate n 0) x y
zeros_hold n x y first second =
    held_as (replicate n 0) x y (replicate n 0) (replicate n 0) first second (joined_zeros n)
    (record { same = refl; first = zeros_below p1 n some_first; second = zeros_below p2 n some_second })

-- the residues of coefficients
pub coefficients_hold : (c x y : List ℕ) → All (λ v. v < q) c → x ≡ map (λ v. v % p1) c → y ≡ map (λ v. v % p2) c → Holds c x y
unfolding half
coefficients_hold c x y below first second = held_as c x y (half p1 c) (half p2 c) first second (joined_halves c below) (halves_are c)

-- the residues of a function
pub function_holds : (n : ℕ) (f : ℕ → ℤ) (x y : List ℕ) → x ≡ reduced p1 n f → y ≡ reduced p2 n f → Holds (reduced q n f) x y
function_holds n f x y first second = held_as (reduced q n f) x y (reduced p1 n f) (reduced p2 n f) first second (joined_reduced n f) (reduced_halves n f f)

-- ---- the operations, where s and t are the polynomials and the code read a' for a

-- how many coefficients there are
pub size_of : (s a b : List ℕ) → joined a b ≡ s → length a ≡ length s
size_of s a b is = sym (length-joined a b) ∙ ap length is

-- zeros
pub zeros_held : (s a b a' b' x y : List ℕ) → joined a b ≡ s → AreHalves a b → a' ≡ a → b' ≡ b → x ≡ replicate (length a') 0 → y ≡ replicate (length b') 0 → Holds (replicate (length s) 0) x y
zeros_held s a b a' b' x y is halves is_a is_b first second =
    let size = size_of s a b is in
    zeros_hold (length s) x y (first ∙ ap (λ (n : ℕ). replicate n 0) (ap length is_a ∙ size)) (second ∙ ap (λ (n : ℕ). replicate n 0) (ap length is_b ∙ halves.same ∙ size))

-- the residues of a function
pub function_held : (f : ℕ → ℤ) (s a b a' b' x y : List ℕ) → joined a b ≡ s → AreHalves a b → a' ≡ a → b' ≡ b → x ≡ reduced p1 (length a') f → y ≡ reduced p2 (length b') f
    → Holds (reduced q (length s) f) x y
function_held f s a b a' b' x y is halves is_a is_b first second =
    let size = size_of s a b is in
    function_holds (length s) f x y (first ∙ ap (λ (n : ℕ). reduced p1 n f) (ap length is_a ∙ size)) (second ∙ ap (λ (n : ℕ). reduced p2 n f) (ap length is_b ∙ halves.same ∙ size))

module _ (n : ℕ) (s a b a' b' x y : List ℕ) (is : joined a b ≡ s) (halves : AreHalves a b) (many : length s ≡ n) (is_a : a' ≡ a) (is_b : b' ≡ b) where
  size : length a ≡ n
  size = size_of s a b is ∙ many

  first_size : length a' ≡ n
  first_size = ap length is_a ∙ size

  second_size : length b' ≡ n
  second_size = ap length is_b ∙ halves.same ∙ size

  -- a multiple
  pub multiple_held : (z : ℤ) → x ≡ ring_scale p1 (length a') z a' → y ≡ ring_scale p2 (length b') z b' → Holds (ring_scale q n z s) x y
  unfolding ring_scale
  multiple_held z first second =
      held_as (ring_scale q n z s) x y (ring_scale p1 n z a) (ring_scale p2 n z b) (first ∙ ap₂ (λ (m : ℕ) (c : List ℕ). ring_scale p1 m z c) first_size is_a)
      (second ∙ ap₂ (λ (m : ℕ) (c : List ℕ). ring_scale p2 m z c) second_size is_b) (joined_scale n a b size z ∙ ap (ring_scale q n z) is)
      (reduced_halves n (λ k. z *ℤ at a k) (λ k. z *ℤ at b k))

  -- a product with a power of x
  pub shifted_held : (e : ℕ) → x ≡ ring_shift p1 (length a') e a' → y ≡ ring_shift p2 (length b') e b' → Holds (ring_shift q n e s) x y
  unfolding ring_shift
  shifted_held e first second =
      held_as (ring_shift q n e s) x y (ring_shift p1 n e a) (ring_shift p2 n e b) (first ∙ ap₂ (λ (m : ℕ) (c : List ℕ). ring_shift p1 m e c) first_size is_a)
      (second ∙ ap₂ (λ (m : ℕ) (c : List ℕ). ring_shift p2 m e c) second_size is_b) (joined_shift n a b size e ∙ ap (ring_shift q n e) is)
      (reduced_halves n (shift_at n e (at a)) (shift_at n e (at b)))

  -- an automorphism
  pub image_held : (g : ℕ) → x ≡ tau p1 (length a') g a' → y ≡ tau p2 (length b') g b' → Holds (tau q n g s) x y
  unfolding tau
  image_held g first second =
      held_as (tau q n g s) x y (tau p1 n g a) (tau p2 n g b) (first ∙ ap₂ (λ (m : ℕ) (c : List ℕ). tau p1 m g c) first_size is_a)
      (second ∙ ap₂ (λ (m : ℕ) (c : List ℕ). tau p2 m g c) second_size is_b) (joined_tau n a b size g ∙ ap (tau q n g) is)
      (reduced_halves n (tau_at n g (at a)) (tau_at n g (at b)))

  module _ (t c d c' d' : List ℕ) (is_t : joined c d ≡ t) (many_t : length t ≡ n) (is_c : c' ≡ c) (is_d : d' ≡ d) where
    size_t : length c ≡ n
    size_t = size_of t c d is_t ∙ many_t

    -- a sum
    pub sum_held : x ≡ ring_add p1 (length a') a' c' → y ≡ ring_add p2 (length b') b' d' → Holds (ring_add q n s t) x y
    unfolding ring_add
    sum_held first second =
        held_as (ring_add q n s t) x y (ring_add p1 n a c) (ring_add p2 n b d) (first ∙ ap (λ (m : ℕ). ring_add p1 m a' c') first_size ∙ ap₂ (ring_add p1 n) is_a is_c)
        (second ∙ ap (λ (m : ℕ). ring_add p2 m b' d') second_size ∙ ap₂ (ring_add p2 n) is_b is_d) (joined_add n a b size c d size_t ∙ ap₂ (ring_add q n) is is_t)
        (reduced_halves n (λ k. at a k +ℤ at c k) (λ k. at b k +ℤ at d k))

    -- a difference
    pub difference_held : x ≡ ring_sub p1 (length a') a' c' → y ≡ ring_sub p2 (length b') b' d' → Holds (ring_sub q n s t) x y
    unfolding ring_sub
    difference_held first second =
        held_as (ring_sub q n s t) x y (ring_sub p1 n a c) (ring_sub p2 n b d) (first ∙ ap (λ (m : ℕ). ring_sub p1 m a' c') first_size ∙ ap₂ (ring_sub p1 n) is_a is_c)
        (second ∙ ap (λ (m : ℕ). ring_sub p2 m b' d') second_size ∙ ap₂ (ring_sub p2 n) is_b is_d) (joined_sub n a b size c d size_t ∙ ap₂ (ring_sub q n) is is_t)
        (reduced_halves n (λ k. at a k -ℤ at c k) (λ k. at b k -ℤ at d k))

    -- a product
    pub product_held : x ≡ ring_mul p1 n a' c' → y ≡ ring_mul p2 n b' d' → Holds (ring_mul q n s t) x y
    unfolding ring_mul
    product_held first second =
        held_as (ring_mul q n s t) x y (ring_mul p1 n a c) (ring_mul p2 n b d) (first ∙ ap₂ (ring_mul p1 n) is_a is_c) (second ∙ ap₂ (ring_mul p2 n) is_b is_d)
        (joined_mul n a b size c d size_t ∙ ap₂ (ring_mul q n) is is_t) (reduced_halves n (product_at n (at a) (at c)) (product_at n (at b) (at d)))

-- ---- written back

-- the pair after a write to all of both lists
pub held_again : {c : List ℕ} (n m : ℕ) (x y u v : List ℕ) → n ≡ length x → m ≡ length y → Holds c x y → joined (take n (x ++ u)) (take m (y ++ v)) ≡ c
held_again n m x y u v full_x full_y held = ap₂ (λ (s t : List ℕ). joined s t) (refilled n x u full_x) (refilled m y v full_y) ∙ held.view

pub halves_again : {c : List ℕ} (n m : ℕ) (x y u v : List ℕ) → n ≡ length x → m ≡ length y → Holds c x y → AreHalves (take n (x ++ u)) (take m (y ++ v))
halves_again n m x y u v full_x full_y held =
    subst (λ (s : List ℕ). AreHalves s (take m (y ++ v))) (sym (refilled n x u full_x)) (subst (λ (t : List ℕ). AreHalves x t) (sym (refilled m y v full_y)) held.halves)

-- Lists of N residues that stand for functions of the place. What an operation of the ring gives for lists that
-- stand for f and g stands for the same operation on f and g over the whole numbers, and two lists that stand for
-- equal functions are equal: so a law of the ring follows from the law of whole numbers.
use Rattle.std.proofs.Common.{◌≡◌, ℕ, ◌+◌, ◌*◌, ◌<◌, ◌==◌, if◌then◌else◌, ℤ, pos, ◌+ℤ◌, ◌-ℤ◌, ◌*ℤ◌, List, length, get_or, All, sym, ◌∙◌, ap, arith}
use Rattle.std.proofs.lemmas.List.{ext_get_or}
use Rattle.std.proofs.lemmas.List.Elements.{All-get_or, All-from_get_or}
use Rattle.std.proofs.lemmas.List.FromFn.{length-map-range_with_len, get_or-map-range_with_len}
use Rattle.negacyclic.specs.Sums.{total}
use Rattle.negacyclic.specs.Residues.{residue}
use Rattle.negacyclic.specs.Ring.{turn, product_at, shift_at, tau_at, at, reduced, ring_zero, ring_one, ring_add, ring_sub, ring_total, ring_mul, ring_scale, ring_shift, tau}
use Rattle.negacyclic.proofs.Congruence.{Congruent, congruent_equal, congruent_refl, congruent_sym, congruent_trans, congruent_add, congruent_sub, congruent_mul, congruent_times, congruent_total}
use Rattle.negacyclic.proofs.Residues.{residue-below, residue_congruent, same_from_congruent}

-- ---- coefficients

-- a list of residues has N of them
pub length-reduced : (q N : ℕ) (f : ℕ → ℤ) → length (reduced q N f) ≡ N
unfolding reduced
length-reduced q N f = length-map-range_with_len (λ k. residue q (f k)) 0 N

-- the coefficient of a list of residues
pub at-reduced : (q N : ℕ) (f : ℕ → ℤ) (k : ℕ) → k < N → at (reduced q N f) k ≡ pos (residue q (f k))
unfolding at reduced
at-reduced q N f k h = ap pos (get_or-map-range_with_len (λ i. residue q (f i)) 0 N k k 0 h (omega arith))

-- each below q
pub reduced_below : (q N : ℕ) (f : ℕ → ℤ) → 0 < q → All (λ x. x < q) (reduced q N f)
unfolding reduced
reduced_below q N f some =
    All-from_get_or (λ x. x < q) (reduced q N f) 0
    (λ k lt.
    let h : k < N = omega (arith, length-reduced q N f) in
    rw (get_or-map-range_with_len (λ i. residue q (f i)) 0 N k k 0 h (omega arith)) (residue-below q (f k) some))

at_below : {q : ℕ} (a : List ℕ) (k : ℕ) → All (λ x. x < q) a → k < length a → get_or a k 0 < q
at_below {q} a k below h = All-get_or (λ x. x < q) a k 0 h below

-- equal functions have equal lists of residues
pub reduced_same : (q N : ℕ) (f g : ℕ → ℤ) → ((k : ℕ) → k < N → f k ≡ g k) → reduced q N f ≡ reduced q N g
unfolding reduced
reduced_same q N f g same =
    ext_get_or 0 (reduced q N f) (reduced q N g) (length-reduced q N f ∙ sym (length-reduced q N g))
    (λ k lt.
    let h : k < N = omega (arith, length-reduced q N f) in
    get_or-map-range_with_len (λ i. residue q (f i)) 0 N k k 0 h (omega arith)
    ∙ ap (residue q) (same k h)
    ∙ sym (get_or-map-range_with_len (λ i. residue q (g i)) 0 N k k 0 h (omega arith)))

-- lists of residues whose coefficients are congruent are equal
same_from_places : {q N : ℕ} {a b : List ℕ} → length a ≡ N → length b ≡ N → All (λ x. x < q) a → All (λ x. x < q) b
    → ((k : ℕ) → k < N → Congruent q (at a k) (at b k)) → a ≡ b
unfolding at
same_from_places {q} {N} {a} {b} ea eb below_a below_b places =
    ext_get_or 0 a b (ea ∙ sym eb)
    (λ k h. same_from_congruent (at_below a k below_a h) (at_below b k below_b (omega arith)) (places k (omega arith)))

-- ---- lists and functions of the place

-- the coefficients of a at the places below N are congruent to f
pub record Follows (q N : ℕ) (a : List ℕ) (f : ℕ → ℤ) : Type 0 where
  pub place : (k : ℕ) → k < N → Congruent q (at a k) (f k)

-- a is a list of N residues, and they are congruent to f
pub record Stands (q N : ℕ) (a : List ℕ) (f : ℕ → ℤ) : Type 0 where
  pub some : 0 < q
  pub size : length a ≡ N
  pub below : All (λ x. x < q) a
  pub follows : Follows q N a f

-- a list follows its own coefficients
pub follows_at : (q N : ℕ) (a : List ℕ) → Follows q N a (at a)
follows_at q N a = record { place = λ k h. congruent_refl (at a k) }

-- and a list of N residues stands for them
pub stands_at : {q N : ℕ} {a : List ℕ} → 0 < q → length a ≡ N → All (λ x. x < q) a → Stands q N a (at a)
stands_at {q} {N} {a} some size below = record { some = some; size = size; below = below; follows = follows_at q N a }

-- lists that stand for equal functions are equal
pub stands_same : {q N : ℕ} {a b : List ℕ} {f g : ℕ → ℤ} → Stands q N a f → Stands q N b g
    → ((k : ℕ) → k < N → f k ≡ g k) → a ≡ b
stands_same s t same =
    same_from_places s.size t.size s.below t.below
    (λ k h. congruent_trans (s.follows.place k h) (congruent_trans (congruent_equal (same k h)) (congruent_sym (t.follows.place k h))))

-- a list stands for each function that is congruent to its own
pub stands_congruent : {q N : ℕ} {a : List ℕ} {f g : ℕ → ℤ} → Stands q N a f → ((k : ℕ) → k < N → Congruent q (f k) (g k)) → Stands q N a g
stands_congruent s near =
    record {
      some = s.some;
      size = s.size;
      below = s.below;
      follows = record { place = λ k h. congruent_trans (s.follows.place k h) (near k h) };
    }

-- and each function that is equal to it
pub stands_equal : {q N : ℕ} {a : List ℕ} {f g : ℕ → ℤ} → Stands q N a f → ((k : ℕ) → k < N → f k ≡ g k) → Stands q N a g
stands_equal s same = stands_congruent s (λ k h. congruent_equal (same k h))

-- the residues of a function stand for it
pub stands_reduced : {q : ℕ} (N : ℕ) (f : ℕ → ℤ) → 0 < q → Stands q N (reduced q N f) f
stands_reduced {q} N f some =
    record {
      some = some;
      size = length-reduced q N f;
      below = reduced_below q N f some;
      follows = record {
        place = λ k h. congruent_trans (congruent_equal (at-reduced q N f k h)) (residue_congruent q (f k) some);
      };
    }

-- ---- congruent factors and powers

-- products of congruent factors
pub product_at-congruent : {q : ℕ} (N : ℕ) (a c b d : ℕ → ℤ) (k : ℕ) → ((i : ℕ) → i < N → Congruent q (a i) (c i))
    → ((j : ℕ) → j < N → Congruent q (b j) (d j)) → Congruent q (product_at N a b k) (product_at N c d k)
unfolding product_at
product_at-congruent N a c b d k first second =
    congruent_total N (λ i. total N (λ j. turn N k (i + j) *ℤ (a i *ℤ b j))) (λ i. total N (λ j. turn N k (i + j) *ℤ (c i *ℤ d j)))
    (λ i h.
    congruent_total N (λ j. turn N k (i + j) *ℤ (a i *ℤ b j)) (λ j. turn N k (i + j) *ℤ (c i *ℤ d j))
    (λ j g. congruent_times (turn N k (i + j)) (congruent_mul (first i h) (second j g))))

-- products with a power of x
pub shift_at-congruent : {q : ℕ} (N s : ℕ) (a b : ℕ → ℤ) (k : ℕ) → ((i : ℕ) → i < N → Congruent q (a i) (b i))
    → Congruent q (shift_at N s a k) (shift_at N s b k)
unfolding shift_at
shift_at-congruent N s a b k near =
    congruent_total N (λ i. turn N k (s + i) *ℤ a i) (λ i. turn N k (s + i) *ℤ b i) (λ i h. congruent_times (turn N k (s + i)) (near i h))

-- and automorphisms
pub tau_at-congruent : {q : ℕ} (N g : ℕ) (a b : ℕ → ℤ) (k : ℕ) → ((i : ℕ) → i < N → Congruent q (a i) (b i))
    → Congruent q (tau_at N g a k) (tau_at N g b k)
unfolding tau_at
tau_at-congruent N g a b k near =
    congruent_total N (λ i. turn N k (g * i) *ℤ a i) (λ i. turn N k (g * i) *ℤ b i) (λ i h. congruent_times (turn N k (g * i)) (near i h))

-- ---- what the operations give for any lists that follow functions

module _ {q N : ℕ} (some : 0 < q) where
  -- 0
  pub stands_zero : Stands q N (ring_zero q N) (λ k. pos 0)
  unfolding ring_zero
  stands_zero = stands_reduced N (λ k. pos 0) some

  -- 1
  pub stands_one : Stands q N (ring_one q N) (λ k. if k == 0 then pos 1 else pos 0)
  unfolding ring_one
  stands_one = stands_reduced N (λ k. if k == 0 then pos 1 else pos 0) some

  -- a sum
  pub add_of : {a b : List ℕ} {f g : ℕ → ℤ} → Follows q N a f → Follows q N b g → Stands q N (ring_add q N a b) (λ k. f k +ℤ g k)
  unfolding ring_add
  add_of {a} {b} s t =
      stands_congruent (stands_reduced N (λ k. at a k +ℤ at b k) some) (λ k h. congruent_add (s.place k h) (t.place k h))

  -- a difference
  pub sub_of : {a b : List ℕ} {f g : ℕ → ℤ} → Follows q N a f → Follows q N b g → Stands q N (ring_sub q N a b) (λ k. f k -ℤ g k)
  unfolding ring_sub
  sub_of {a} {b} s t =
      stands_congruent (stands_reduced N (λ k. at a k -ℤ at b k) some) (λ k h. congruent_sub (s.place k h) (t.place k h))

  -- a product
  pub mul_of : {a b : List ℕ} {f g : ℕ → ℤ} → Follows q N a f → Follows q N b g → Stands q N (ring_mul q N a b) (product_at N f g)
  unfolding ring_mul
  mul_of {a} {b} {f} {g} s t =
      stands_congruent (stands_reduced N (product_at N (at a) (at b)) some) (λ k h. product_at-congruent N (at a) f (at b) g k s.place t.place)

  -- a multiple
  pub scale_of : {a : List ℕ} {f : ℕ → ℤ} (z : ℤ) → Follows q N a f → Stands q N (ring_scale q N z a) (λ k. z *ℤ f k)
  unfolding ring_scale
  scale_of {a} z s = stands_congruent (stands_reduced N (λ k. z *ℤ at a k) some) (λ k h. congruent_times z (s.place k h))

  -- a product with a power of x
  pub shift_of : {a : List ℕ} {f : ℕ → ℤ} (s : ℕ) → Follows q N a f → Stands q N (ring_shift q N s a) (shift_at N s f)
  unfolding ring_shift
  shift_of {a} {f} s t = stands_congruent (stands_reduced N (shift_at N s (at a)) some) (λ k h. shift_at-congruent N s (at a) f k t.place)

  -- an automorphism
  pub tau_of : {a : List ℕ} {f : ℕ → ℤ} (g : ℕ) → Follows q N a f → Stands q N (tau q N g a) (tau_at N g f)
  unfolding tau
  tau_of {a} {f} g t = stands_congruent (stands_reduced N (tau_at N g (at a)) some) (λ k h. tau_at-congruent N g (at a) f k t.place)

  -- a sum of many
  pub total_of : (count : ℕ) (a : ℕ → List ℕ) (f : ℕ → ℕ → ℤ) → ((i : ℕ) → i < count → Follows q N (a i) (f i))
      → Stands q N (ring_total q N count a) (λ k. total count (λ i. f i k))
  unfolding ring_total
  total_of count a f each =
      stands_congruent (stands_reduced N (λ k. total count (λ i. at (a i) k)) some)
      (λ k h. congruent_total count (λ i. at (a i) k) (λ i. f i k) (λ i g. (each i g).place k h))

-- ---- and for lists that stand for functions

module _ {q N : ℕ} where
  -- a sum
  pub stands_add : {a b : List ℕ} {f g : ℕ → ℤ} → Stands q N a f → Stands q N b g → Stands q N (ring_add q N a b) (λ k. f k +ℤ g k)
  stands_add s t = add_of s.some s.follows t.follows

  -- a difference
  pub stands_sub : {a b : List ℕ} {f g : ℕ → ℤ} → Stands q N a f → Stands q N b g → Stands q N (ring_sub q N a b) (λ k. f k -ℤ g k)
  stands_sub s t = sub_of s.some s.follows t.follows

  -- a product
  pub stands_mul : {a b : List ℕ} {f g : ℕ → ℤ} → Stands q N a f → Stands q N b g → Stands q N (ring_mul q N a b) (product_at N f g)
  stands_mul s t = mul_of s.some s.follows t.follows

  -- a multiple
  pub stands_scale : {a : List ℕ} {f : ℕ → ℤ} (z : ℤ) → Stands q N a f → Stands q N (ring_scale q N z a) (λ k. z *ℤ f k)
  stands_scale z s = scale_of s.some z s.follows

  -- a product with a power of x
  pub stands_shift : {a : List ℕ} {f : ℕ → ℤ} (s : ℕ) → Stands q N a f → Stands q N (ring_shift q N s a) (shift_at N s f)
  stands_shift s t = shift_of t.some s t.follows

  -- an automorphism
  pub stands_tau : {a : List ℕ} {f : ℕ → ℤ} (g : ℕ) → Stands q N a f → Stands q N (tau q N g a) (tau_at N g f)
  stands_tau g t = tau_of t.some g t.follows

  -- a sum of many
  pub stands_total : (count : ℕ) (a : ℕ → List ℕ) (f : ℕ → ℕ → ℤ) → 0 < q → ((i : ℕ) → i < count → Stands q N (a i) (f i))
      → Stands q N (ring_total q N count a) (λ k. total count (λ i. f i k))
  stands_total count a f some each = total_of some count a f (λ i h. (each i h).follows)

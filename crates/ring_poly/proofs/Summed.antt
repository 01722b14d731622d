-- Sums of products as they are held, each a sum of values modulo one of the two primes, and the polynomial that they show.
use Rattle.std.proofs.Common.{◌≡◌, ℕ, ◌+◌, ◌-◌, ◌*◌, ◌%◌, ◌^◌, ◌<◌, ◌≤◌, List, ◌++◌, length, take, get_or, map, replicate, All, refl, sym, ◌∙◌, ap, ap₂, subst, arith, mul-le-mul, le_refl, lit<}
use Rattle.std.proofs.Math.Nat.{zero-mod}
use Rattle.std.proofs.lemmas.List.{same_lists, get_or-map, length-map, length-replicate, get_or-replicate}
use Rattle.std.proofs.lemmas.List.Elements.{All-replicate, All-same}
use Rattle.negacyclic.specs.Ring.{ring_add, ring_mul}
use Rattle.negacyclic.proofs.Lists.{refilled}
use Rattle.spiral_sets.specs.Sets.{q}
use Rattle.word_prime.specs.Lanes.{products, accumulated}
use Rattle.word_prime.specs.Halves.{p1, p2}
use Rattle.word_prime.proofs.Joined.{some_first, some_second}
use Rattle.word_prime.proofs.Places.{reduced_accumulated}
use Rattle.ring_poly.specs.Polynomials.{IsDegree, interpolated, AreValues}
use Rattle.ring_poly.specs.Sums.{ProductSum, AreSums, residues_of, sum_held}
use Rattle.ring_poly.proofs.Values.{Shows, size_of_values, zeros_show, shown_as, product_shown, sum_shown}

-- ---- numbers below the smaller prime

pub below_first : (c : List ℕ) → All (λ x. x < p2) c → All (λ x. x < p1) c
below_first c small k d h = let below : get_or c k d < p2 = small k d h in omega (arith, below)

pub small_below : (c : List ℕ) → All (λ x. x < p2) c → All (λ x. x < q) c
unfolding q
small_below c small k d h = let below : get_or c k d < p2 = small k d h in omega (arith, below)

-- ---- sums as they are held

abbrev pub summed : List ℕ → ℕ → ProductSum
summed value count = record { value = value; count = count }

-- x and y hold a sum of k products, the polynomial c
pub record HoldsSum (c : List ℕ) (k : ℕ) (x y : List ℕ) : Type 0 where
  pub view : sum_held x y k ≡ record { value = c; count = k }
  pub valid : AreSums k x y

-- sums whose residues show a polynomial
pub sum_holds : (n : ℕ) (c : List ℕ) (k : ℕ) (x y : List ℕ) → Shows n c (residues_of p1 x) (residues_of p2 y) → k ≤ 256
    → All (λ s. s ≤ k * ((p1 - 1) * (p1 - 1))) x → All (λ s. s ≤ k * ((p2 - 1) * (p2 - 1))) y → HoldsSum c k x y
sum_holds n c k x y shown few first second = record {
  view = ap (λ (v : List ℕ). summed v k) shown.view;
  valid = record { few = few; values = shown.valid; first_most = first; second_most = second };
}

-- written back over all of two lists
pub holds_again : (c : List ℕ) (k i j : ℕ) (x y u v : List ℕ) → i ≡ length x → j ≡ length y → HoldsSum c k x y → HoldsSum c k (take i (x ++ u)) (take j (y ++ v))
holds_again c k i j x y u v full_x full_y holds =
    subst (λ (s : List ℕ). HoldsSum c k s (take j (y ++ v))) (sym (refilled i x u full_x)) (subst (λ (t : List ℕ). HoldsSum c k x t) (sym (refilled j y v full_y)) holds)

-- how many sums there are
pub size_of_sums : (s : ProductSum) (x y : List ℕ) (k : ℕ) → sum_held x y k ≡ s → length x ≡ length s.value
size_of_sums s x y k is = sym (length-map x (λ (z : ℕ). z % p1)) ∙ size_of_values s.value (residues_of p1 x) (residues_of p2 y) (ap (λ (t : ProductSum). t.value) is)

pub size_of_second : (s : ProductSum) (x y : List ℕ) (k : ℕ) → sum_held x y k ≡ s → AreSums k x y → length y ≡ length s.value
size_of_second s x y k is valid =
    sym (length-map y (λ (z : ℕ). z % p2)) ∙ valid.values.same ∙ length-map x (λ (z : ℕ). z % p1) ∙ size_of_sums s x y k is

-- ---- no products

zeros_reduced : (m n : ℕ) → map (λ s. s % m) (replicate n 0) ≡ replicate n 0
zeros_reduced m n =
    let by : ℕ → ℕ = λ s. s % m in
    let zeros : List ℕ = replicate n 0 in
    let size : length zeros ≡ n = length-replicate {A = ℕ} n 0 in
    same_lists (map by zeros) zeros (length-map zeros by)
    (λ k d h.
    let low : k < n = omega (arith, length-map zeros by) in
    get_or-map by zeros k 0 d (omega arith) ∙ ap by (get_or-replicate n k 0 0 low) ∙ zero-mod m ∙ sym (get_or-replicate n k 0 d low))

pub no_products : (n : ℕ) (x y : List ℕ) → IsDegree n → x ≡ replicate n 0 → y ≡ replicate n 0 → HoldsSum (replicate n 0) 0 x y
no_products n x y degree first second =
    sum_holds n (replicate n 0) 0 x y
    (shown_as (ap (residues_of p1) first ∙ zeros_reduced p1 n) (ap (residues_of p2) second ∙ zeros_reduced p2 n) (zeros_show n degree))
    (omega arith)
    (All-same (λ s. s ≤ 0 * ((p1 - 1) * (p1 - 1))) x (replicate n 0) first (All-replicate (λ s. s ≤ 0 * ((p1 - 1) * (p1 - 1))) n 0 (omega arith)))
    (All-same (λ s. s ≤ 0 * ((p2 - 1) * (p2 - 1))) y (replicate n 0) second (All-replicate (λ s. s ≤ 0 * ((p2 - 1) * (p2 - 1))) n 0 (omega arith)))

-- ---- one product more

-- there is room for it
pub room_for_product : (p k : ℕ) (x a b : List ℕ) → 256 * ((p - 1) * (p - 1)) < 2 ^ 64 → k < 256 → length a ≡ length x → length b ≡ length x
    → All (λ s. s ≤ k * ((p - 1) * (p - 1))) x → All (λ v. v < p) a → All (λ v. v < p) b → (i : ℕ) → i < length x → get_or x i 0 + get_or a i 0 * get_or b i 0 < 2 ^ 64
room_for_product p k x a b room few size_a size_b most below_a below_b i h =
    let here : get_or x i 0 ≤ k * ((p - 1) * (p - 1)) = most i 0 h in
    let u : get_or a i 0 < p = below_a i 0 (omega arith) in
    let v : get_or b i 0 < p = below_b i 0 (omega arith) in
    let u_most : get_or a i 0 ≤ p - 1 = omega arith in
    let v_most : get_or b i 0 ≤ p - 1 = omega arith in
    let product : get_or a i 0 * get_or b i 0 ≤ (p - 1) * (p - 1) = mul-le-mul u_most v_most in
    let more : k + 1 ≤ 256 = omega arith in
    let all : (k + 1) * ((p - 1) * (p - 1)) ≤ 256 * ((p - 1) * (p - 1)) = mul-le-mul more (le_refl ((p - 1) * (p - 1))) in
    joined k ((p - 1) * (p - 1)) (get_or x i 0) (get_or a i 0 * get_or b i 0) here product all room
  where
    joined : (k w s t : ℕ) → s ≤ k * w → t ≤ w → (k + 1) * w ≤ 256 * w → 256 * w < 2 ^ 64 → s + t < 2 ^ 64
    joined k w s t h g l m = omega (arith, h, g, l, m)

-- The sums with the products of f and g, which the code read as u' and a', show the sum of all.
pub product_summed : (s : ProductSum) (f g x y x' y' u v u' v' a b a' b' z w : List ℕ) (k : ℕ) → sum_held x y k ≡ s → AreSums k x y → interpolated u v ≡ f → AreValues u v
    → interpolated a b ≡ g → AreValues a b → length f ≡ length s.value → length g ≡ length s.value → x' ≡ x → y' ≡ y → u' ≡ u → v' ≡ v → a' ≡ a → b' ≡ b → k < 256
    → z ≡ accumulated x' u' a' → w ≡ accumulated y' v' b' → All (λ t. t ≤ (k + 1) * ((p1 - 1) * (p1 - 1))) z → All (λ t. t ≤ (k + 1) * ((p2 - 1) * (p2 - 1))) w
    → HoldsSum (ring_add q (length s.value) s.value (ring_mul q (length s.value) f g)) (k + 1) z w
product_summed s f g x y x' y' u v u' v' a b a' b' z w k is valid is_f valid_f is_g valid_g many_f many_g is_x is_y is_u is_v is_a is_b few first second most_z most_w =
    let n : ℕ = length s.value in
    let size_x : length x ≡ n = size_of_sums s x y k is in
    let size_y : length y ≡ n = size_of_second s x y k is valid in
    let size_u : length u ≡ n = size_of_values f u v is_f ∙ many_f in
    let size_v : length v ≡ n = valid_f.same ∙ size_u in
    let value : interpolated (residues_of p1 x) (residues_of p2 y) ≡ s.value = ap (λ (t : ProductSum). t.value) is in
    let one : residues_of p1 z ≡ ring_add p1 (length (residues_of p1 x)) (residues_of p1 x) (products p1 u' a') =
    ap (residues_of p1) first
    ∙ reduced_accumulated p1 x' u' a' some_first (ap length is_u ∙ size_u ∙ sym size_x ∙ sym (ap length is_x))
    ∙ ap (λ (t : List ℕ). ring_add p1 (length t) (residues_of p1 t) (products p1 u' a')) is_x
    ∙ ap (λ (m : ℕ). ring_add p1 m (residues_of p1 x) (products p1 u' a')) (sym (length-map x (λ (t : ℕ). t % p1))) in
    let two : residues_of p2 w ≡ ring_add p2 (length (residues_of p2 y)) (residues_of p2 y) (products p2 v' b') =
    ap (residues_of p2) second
    ∙ reduced_accumulated p2 y' v' b' some_second (ap length is_v ∙ size_v ∙ sym size_y ∙ sym (ap length is_y))
    ∙ ap (λ (t : List ℕ). ring_add p2 (length t) (residues_of p2 t) (products p2 v' b')) is_y
    ∙ ap (λ (m : ℕ). ring_add p2 m (residues_of p2 y) (products p2 v' b')) (sym (length-map y (λ (t : ℕ). t % p2))) in
    sum_holds n (ring_add q n s.value (ring_mul q n f g)) (k + 1) z w
    (product_shown n s.value f g (residues_of p1 x) (residues_of p2 y) (residues_of p1 x) (residues_of p2 y) u v u' v' a b a' b' (residues_of p1 z) (residues_of p2 w) value valid.values is_f valid_f is_g valid_g
    refl many_f many_g refl refl is_u is_v is_a is_b one two)
    (omega arith) most_z most_w

-- ---- the sum added to a polynomial

-- Values to which the residues of sums are added show the sum of both.
pub sum_added : (t : List ℕ) (s : ProductSum) (a b a' b' x y x' y' z w : List ℕ) (k : ℕ) → interpolated a b ≡ t → AreValues a b → sum_held x y k ≡ s → AreSums k x y
    → length s.value ≡ length t → a' ≡ a → b' ≡ b → x' ≡ x → y' ≡ y → z ≡ ring_add p1 (length a') a' (residues_of p1 x') → w ≡ ring_add p2 (length b') b' (residues_of p2 y')
    → Shows (length t) (ring_add q (length t) t s.value) z w
sum_added t s a b a' b' x y x' y' z w k is_t valid_t is valid many is_a is_b is_x is_y first second =
    sum_shown t s.value a b a' b' (residues_of p1 x) (residues_of p2 y) (residues_of p1 x') (residues_of p2 y') z w is_t valid_t (ap (λ (u : ProductSum). u.value) is) valid.values many is_a is_b
    (ap (residues_of p1) is_x) (ap (residues_of p2) is_y) first second

-- the sum of no products in place of a sum
pub cleared : (s : ProductSum) (x y x' y' z w : List ℕ) (k : ℕ) → sum_held x y k ≡ s → AreSums k x y → x' ≡ x → y' ≡ y → z ≡ replicate (length x') 0 → w ≡ replicate (length y') 0
    → HoldsSum (replicate (length s.value) 0) 0 z w
cleared s x y x' y' z w k is valid is_x is_y first second =
    let size : length x ≡ length s.value = size_of_sums s x y k is in
    no_products (length s.value) z w (subst IsDegree (length-map x (λ (t : ℕ). t % p1) ∙ size) valid.values.degree) (first ∙ ap (λ (n : ℕ). replicate n 0) (ap length is_x ∙ size))
    (second ∙ ap (λ (n : ℕ). replicate n 0) (ap length is_y ∙ size_of_second s x y k is valid))

-- Lists of values and the polynomial that they show: what is done with values is done with the polynomial.
use Rattle.std.proofs.Common.{◌≡◌, ℕ, ◌<◌, ◌+ℤ◌, List, ◌++◌, length, take, replicate, All, refl, sym, ◌∙◌, ap, ap₂, subst, inl, inr}
use Rattle.std.proofs.lemmas.List.{length-replicate}
use Rattle.std.proofs.lemmas.List.Elements.{All-same}
use Rattle.negacyclic.specs.Ring.{at, product_at, ring_add, ring_mul}
use Rattle.negacyclic.proofs.Stands.{length-reduced}
use Rattle.negacyclic.proofs.Lengths.{zeros_below}
use Rattle.negacyclic.proofs.Lists.{refilled}
use Rattle.spiral_sets.specs.Sets.{q}
use Rattle.word_prime.specs.Lanes.{products}
use Rattle.word_prime.specs.Halves.{p1, p2, joined, AreHalves}
use Rattle.word_prime.proofs.Joined.{some_first, some_second, length-joined, reduced_halves, joined_zeros, joined_add, joined_mul}
use Rattle.ring_transform.specs.Points.{IsPrime, points}
use Rattle.ring_transform.specs.Values.{values, coefficients}
use Rattle.ring_transform.proofs.Whole.{length-values, values-below, values_of_zeros, values_of_sum, values_of_product}
use Rattle.ring_transform.proofs.Interpolation.{length-coefficients, coefficients-below, coefficients_of_values}
use Rattle.ring_poly.specs.Polynomials.{IsDegree, interpolated, AreValues}
use Rattle.ring_poly.proofs.Held.{Holds}

first_is : IsPrime p1
first_is = inl refl

second_is : IsPrime p2
second_is = inr refl

-- ---- from polynomials to their values

-- x has the values of a modulo p
record ListShown (p n : ℕ) (a x : List ℕ) : Type 0 where
  pub size : length x ≡ n
  pub back : coefficients p n x ≡ a
  pub again : values p (points p n) (coefficients p n x) ≡ x
  pub below : All (λ v. v < p) x

list_shown : (p n : ℕ) (a x : List ℕ) → 0 < p → IsPrime p → IsDegree n → length a ≡ n → All (λ v. v < p) a → x ≡ values p (points p n) a → ListShown p n a x
list_shown p n a x some prime degree size below is =
    let back : coefficients p n x ≡ a = ap (coefficients p n) is ∙ coefficients_of_values p n a prime degree size below in
    record {
      size = ap length is ∙ length-values p n a;
      back = back;
      again = ap (values p (points p n)) back ∙ sym is;
      below = All-same (λ v. v < p) x (values p (points p n) a) is (values-below p (points p n) a some);
    }

-- x and y are n values each, and show the polynomial c
pub record Shows (n : ℕ) (c x y : List ℕ) : Type 0 where
  pub size : length x ≡ n
  pub view : interpolated x y ≡ c
  pub valid : AreValues x y

-- the same, written otherwise
pub shown_as : {n : ℕ} {c x y u v : List ℕ} → x ≡ u → y ≡ v → Shows n c u v → Shows n c x y
shown_as {n} {c} {x} {y} {u} {v} first second shown = subst (λ (s : List ℕ). Shows n c s y) (sym first) (subst (λ (t : List ℕ). Shows n c u t) (sym second) shown)

-- written back over all of two lists
pub shown_again : {n : ℕ} {c : List ℕ} (i j : ℕ) (x y u v : List ℕ) → i ≡ length x → j ≡ length y → Shows n c x y → Shows n c (take i (x ++ u)) (take j (y ++ v))
shown_again i j x y u v full_x full_y shown = shown_as (refilled i x u full_x) (refilled j y v full_y) shown

-- The values of the halves of a polynomial show it.
pub values_shown : (n : ℕ) (a b x y : List ℕ) → IsDegree n → AreHalves a b → length a ≡ n → x ≡ values p1 (points p1 n) a → y ≡ values p2 (points p2 n) b
    → Shows n (joined a b) x y
unfolding interpolated
values_shown n a b x y degree halves size is_x is_y =
    let first = list_shown p1 n a x some_first first_is degree size halves.first is_x in
    let second = list_shown p2 n b y some_second second_is degree (halves.same ∙ size) halves.second is_y in
    record {
      size = first.size;
      view = ap (λ (m : ℕ). joined (coefficients p1 m x) (coefficients p2 m y)) first.size ∙ ap₂ (λ (u v : List ℕ). joined u v) first.back second.back;
      valid = record {
        degree = subst IsDegree (sym first.size) degree;
        same = second.size ∙ sym first.size;
        first = ap (λ (m : ℕ). values p1 (points p1 m) (coefficients p1 m x)) first.size ∙ first.again;
        second = ap (λ (m : ℕ). values p2 (points p2 m) (coefficients p2 m y)) first.size ∙ second.again;
        first_residues = first.below;
        second_residues = second.below;
      };
    }

-- ---- and back

-- the polynomial that n values each show, by its halves
pub record Under (n : ℕ) (a b x y : List ℕ) : Type 0 where
  pub degree : IsDegree n
  pub halves : AreHalves a b
  pub size : length a ≡ n
  pub first : x ≡ values p1 (points p1 n) a
  pub second : y ≡ values p2 (points p2 n) b
  pub view : interpolated x y ≡ joined a b

pub under : (n : ℕ) (x y : List ℕ) → length x ≡ n → AreValues x y → Under n (coefficients p1 n x) (coefficients p2 n y) x y
unfolding interpolated
under n x y size valid =
    record {
      degree = subst IsDegree size valid.degree;
      halves = record {
        same = length-coefficients p2 n y ∙ sym (length-coefficients p1 n x);
        first = coefficients-below p1 n x some_first;
        second = coefficients-below p2 n y some_second;
      };
      size = length-coefficients p1 n x;
      first = sym valid.first ∙ ap (λ (m : ℕ). values p1 (points p1 m) (coefficients p1 m x)) size;
      second = sym valid.second ∙ ap (λ (m : ℕ). values p2 (points p2 m) (coefficients p2 m y)) size;
      view = ap (λ (m : ℕ). joined (coefficients p1 m x) (coefficients p2 m y)) size;
    }

-- how many they are
pub size_of_values : (s x y : List ℕ) → interpolated x y ≡ s → length x ≡ length s
unfolding interpolated
size_of_values s x y is = sym (length-joined (coefficients p1 (length x) x) (coefficients p2 (length x) y) ∙ length-coefficients p1 (length x) x) ∙ ap length is

-- ---- the operations

-- zeros
pub zeros_show : (n : ℕ) → IsDegree n → Shows n (replicate n 0) (replicate n 0) (replicate n 0)
zeros_show n degree =
    let size : length (replicate n 0) ≡ n = length-replicate {A = ℕ} n 0 in
    let halves : AreHalves (replicate n 0) (replicate n 0) = record { same = refl; first = zeros_below p1 n some_first; second = zeros_below p2 n some_second } in
    let shown = values_shown n (replicate n 0) (replicate n 0) (replicate n 0) (replicate n 0) degree halves size (sym (values_of_zeros p1 n first_is)) (sym (values_of_zeros p2 n second_is)) in
    record { size = size; view = shown.view ∙ joined_zeros n; valid = shown.valid }

halves_of_sum : (n : ℕ) (a b c d : List ℕ) → AreHalves (ring_add p1 n a c) (ring_add p2 n b d)
unfolding ring_add
halves_of_sum n a b c d = reduced_halves n (λ k. at a k +ℤ at c k) (λ k. at b k +ℤ at d k)

size_of_sum : (p n : ℕ) (a b : List ℕ) → length (ring_add p n a b) ≡ n
unfolding ring_add
size_of_sum p n a b = length-reduced p n (λ k. at a k +ℤ at b k)

size_of_product : (p n : ℕ) (a b : List ℕ) → length (ring_mul p n a b) ≡ n
unfolding ring_mul
size_of_product p n a b = length-reduced p n (product_at n (at a) (at b))

-- Sums of values show the sum.
pub sum_shows : (n : ℕ) (x y u v : List ℕ) → length x ≡ n → length u ≡ n → AreValues x y → AreValues u v
    → Shows n (ring_add q n (interpolated x y) (interpolated u v)) (ring_add p1 n x u) (ring_add p2 n y v)
sum_shows n x y u v size_x size_u valid valid_u =
    let f = under n x y size_x valid in
    let g = under n u v size_u valid_u in
    let a = coefficients p1 n x in
    let b = coefficients p2 n y in
    let c = coefficients p1 n u in
    let d = coefficients p2 n v in
    let first : ring_add p1 n x u ≡ values p1 (points p1 n) (ring_add p1 n a c) = ap₂ (ring_add p1 n) f.first g.first ∙ sym (values_of_sum p1 n a c first_is f.degree f.size g.size) in
    let second : ring_add p2 n y v ≡ values p2 (points p2 n) (ring_add p2 n b d) = ap₂ (ring_add p2 n) f.second g.second ∙ sym (values_of_sum p2 n b d second_is f.degree (f.halves.same ∙ f.size) (g.halves.same ∙ g.size)) in
    let shown = values_shown n (ring_add p1 n a c) (ring_add p2 n b d) (ring_add p1 n x u) (ring_add p2 n y v) f.degree (halves_of_sum n a b c d) (size_of_sum p1 n a c) first second in
    record {
      size = shown.size;
      view = shown.view ∙ joined_add n a b f.size c d g.size ∙ ap₂ (ring_add q n) (sym f.view) (sym g.view);
      valid = shown.valid;
    }

-- Products of values, added to values, show the sum and the product.
pub product_shows : (n : ℕ) (s t x y u v : List ℕ) → length s ≡ n → length x ≡ n → length u ≡ n → AreValues s t → AreValues x y → AreValues u v
    → Shows n (ring_add q n (interpolated s t) (ring_mul q n (interpolated x y) (interpolated u v))) (ring_add p1 n s (products p1 x u)) (ring_add p2 n t (products p2 y v))
product_shows n s t x y u v size_s size_x size_u valid_s valid_x valid_u =
    let e = under n s t size_s valid_s in
    let f = under n x y size_x valid_x in
    let g = under n u v size_u valid_u in
    let a = coefficients p1 n s in
    let b = coefficients p2 n t in
    let c = ring_mul p1 n (coefficients p1 n x) (coefficients p1 n u) in
    let d = ring_mul p2 n (coefficients p2 n y) (coefficients p2 n v) in
    let size_c : length c ≡ n = size_of_product p1 n (coefficients p1 n x) (coefficients p1 n u) in
    let size_d : length d ≡ n = size_of_product p2 n (coefficients p2 n y) (coefficients p2 n v) in
    let one : products p1 x u ≡ values p1 (points p1 n) c = ap₂ (products p1) f.first g.first ∙ sym (values_of_product p1 n (coefficients p1 n x) (coefficients p1 n u) first_is f.degree f.size g.size) in
    let two : products p2 y v ≡ values p2 (points p2 n) d = ap₂ (products p2) f.second g.second ∙ sym (values_of_product p2 n (coefficients p2 n y) (coefficients p2 n v) second_is f.degree (f.halves.same ∙ f.size) (g.halves.same ∙ g.size)) in
    let first : ring_add p1 n s (products p1 x u) ≡ values p1 (points p1 n) (ring_add p1 n a c) = ap₂ (ring_add p1 n) e.first one ∙ sym (values_of_sum p1 n a c first_is f.degree e.size size_c) in
    let second : ring_add p2 n t (products p2 y v) ≡ values p2 (points p2 n) (ring_add p2 n b d) = ap₂ (ring_add p2 n) e.second two ∙ sym (values_of_sum p2 n b d second_is f.degree (e.halves.same ∙ e.size) size_d) in
    let shown = values_shown n (ring_add p1 n a c) (ring_add p2 n b d) (ring_add p1 n s (products p1 x u)) (ring_add p2 n t (products p2 y v)) f.degree (halves_of_sum n a b c d) (size_of_sum p1 n a c) first second in
    record {
      size = shown.size;
      view = shown.view ∙ joined_add n a b e.size c d size_c
          ∙ ap₂ (ring_add q n) (sym e.view)
          (joined_mul n (coefficients p1 n x) (coefficients p2 n y) f.size (coefficients p1 n u) (coefficients p2 n v) g.size ∙ ap₂ (ring_mul q n) (sym f.view) (sym g.view));
      valid = shown.valid;
    }

-- ---- the same, where s and t are the polynomials and the code read x' for x

-- a sum
pub sum_shown : (s t x y x' y' u v u' v' z w : List ℕ) → interpolated x y ≡ s → AreValues x y → interpolated u v ≡ t → AreValues u v → length t ≡ length s
    → x' ≡ x → y' ≡ y → u' ≡ u → v' ≡ v → z ≡ ring_add p1 (length x') x' u' → w ≡ ring_add p2 (length y') y' v' → Shows (length s) (ring_add q (length s) s t) z w
sum_shown s t x y x' y' u v u' v' z w is valid is_t valid_t many is_x is_y is_u is_v first second =
    let n = length s in
    let size = size_of_values s x y is in
    let shown = sum_shows n x y u v size (size_of_values t u v is_t ∙ many) valid valid_t in
    subst (λ (c : List ℕ). Shows n c z w) (ap₂ (ring_add q n) is is_t)
    (shown_as (first ∙ ap (λ (m : ℕ). ring_add p1 m x' u') (ap length is_x ∙ size) ∙ ap₂ (ring_add p1 n) is_x is_u)
    (second ∙ ap (λ (m : ℕ). ring_add p2 m y' v') (ap length is_y ∙ valid.same ∙ size) ∙ ap₂ (ring_add p2 n) is_y is_v) shown)

-- a sum and a product
pub product_shown : (n : ℕ) (r s t a b a' b' x y x' y' u v u' v' z w : List ℕ) → interpolated a b ≡ r → AreValues a b → interpolated x y ≡ s → AreValues x y → interpolated u v ≡ t → AreValues u v
    → length r ≡ n → length s ≡ n → length t ≡ n → a' ≡ a → b' ≡ b → x' ≡ x → y' ≡ y → u' ≡ u → v' ≡ v
    → z ≡ ring_add p1 (length a') a' (products p1 x' u') → w ≡ ring_add p2 (length b') b' (products p2 y' v') → Shows n (ring_add q n r (ring_mul q n s t)) z w
product_shown n r s t a b a' b' x y x' y' u v u' v' z w is_r valid_r is_s valid_s is_t valid_t many_r many_s many_t is_a is_b is_x is_y is_u is_v first second =
    let size = size_of_values r a b is_r ∙ many_r in
    let shown = product_shows n a b x y u v size (size_of_values s x y is_s ∙ many_s) (size_of_values t u v is_t ∙ many_t) valid_r valid_s valid_t in
    subst (λ (c : List ℕ). Shows n c z w) (ap₂ (ring_add q n) is_r (ap₂ (ring_mul q n) is_s is_t))
    (shown_as (first ∙ ap (λ (m : ℕ). ring_add p1 m a' (products p1 x' u')) (ap length is_a ∙ size) ∙ ap₂ (ring_add p1 n) is_a (ap₂ (products p1) is_x is_u))
    (second ∙ ap (λ (m : ℕ). ring_add p2 m b' (products p2 y' v')) (ap length is_b ∙ valid_r.same ∙ size) ∙ ap₂ (ring_add p2 n) is_b (ap₂ (products p2) is_y is_v)) shown)

-- the values of a polynomial
pub written : (n m k : ℕ) (s a b a' b' x y : List ℕ) → IsDegree n → m ≡ n → k ≡ n → joined a b ≡ s → AreHalves a b → length a ≡ n → a' ≡ a → b' ≡ b
    → x ≡ values p1 (points p1 m) a' → y ≡ values p2 (points p2 k) b' → Shows n s x y
written n m k s a b a' b' x y degree is_m is_k is halves size is_a is_b first second =
    subst (λ (c : List ℕ). Shows n c x y) is
    (values_shown n a b x y degree halves size (first ∙ ap₂ (λ (i : ℕ) (c : List ℕ). values p1 (points p1 i) c) is_m is_a)
    (second ∙ ap₂ (λ (i : ℕ) (c : List ℕ). values p2 (points p2 i) c) is_k is_b))

-- and the polynomial of values
pub read_back : (n m k : ℕ) (s x y x' y' a b : List ℕ) → IsDegree n → m ≡ n → k ≡ n → interpolated x y ≡ s → length a ≡ n → AreHalves a b → x' ≡ x → y' ≡ y
    → values p1 (points p1 m) a ≡ x' → values p2 (points p2 k) b ≡ y' → Holds s a b
read_back n m k s x y x' y' a b degree is_m is_k is size halves is_x is_y first second =
    let shown = written n m k (joined a b) a b a b x y degree is_m is_k refl halves size refl refl (sym (first ∙ is_x)) (sym (second ∙ is_y)) in
    record { view = sym shown.view ∙ is; halves = halves }

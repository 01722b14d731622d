-- Sums of products, place by place, and how large they are.
use Rattle.std.proofs.Common.{◌≡◌, ℕ, ◌+◌, ◌-◌, ◌*◌, ◌%◌, ◌<◌, ◌≤◌, pos, ◌+ℤ◌, ◌*ℤ◌, List, length, get_or, map, All, refl, sym, ◌∙◌, ap, arith, mul-le-mul}
use Rattle.std.specs.List.{range_with_len}
use Rattle.std.proofs.Math.Nat.{mod-add-mod}
use Rattle.std.proofs.lemmas.List.{get_or-map, length-map, get_or_past}
use Rattle.std.proofs.lemmas.List.FromFn.{length-map-range_with_len}
use Rattle.negacyclic.specs.Residues.{residue}
use Rattle.negacyclic.specs.Ring.{at, reduced, ring_add}
use Rattle.negacyclic.proofs.Filled.{Filled, filled_reduced}
use Rattle.negacyclic.proofs.Lists.{all_range, at_range}
use Rattle.negacyclic.proofs.Stands.{Follows, follows_at, stands_reduced, stands_same, add_of}
use Rattle.word_prime.specs.Lanes.{accumulated, products}
use Rattle.word_prime.proofs.Steps.{sum_of_product_reduced}

-- One product of residues more.
pub one_product_more : (m count : ℕ) (sums a b : List ℕ) → length a ≡ length sums → length b ≡ length sums
    → All (λ s. s ≤ count * ((m - 1) * (m - 1))) sums → All (λ x. x < m) a → All (λ x. x < m) b
    → All (λ s. s ≤ (count + 1) * ((m - 1) * (m - 1))) (accumulated sums a b)
unfolding accumulated
one_product_more m count sums a b size_a size_b most below_a below_b =
    all_range (λ s. s ≤ (count + 1) * ((m - 1) * (m - 1))) (λ k. get_or sums k 0 + get_or a k 0 * get_or b k 0) (length sums)
    (λ k h.
    let here : get_or sums k 0 ≤ count * ((m - 1) * (m - 1)) = most k 0 h in
    let x : get_or a k 0 < m = below_a k 0 (omega arith) in
    let y : get_or b k 0 < m = below_b k 0 (omega arith) in
    let x_most : get_or a k 0 ≤ m - 1 = omega arith in
    let y_most : get_or b k 0 ≤ m - 1 = omega arith in
    let product : get_or a k 0 * get_or b k 0 ≤ (m - 1) * (m - 1) = mul-le-mul x_most y_most in
    more count ((m - 1) * (m - 1)) (get_or sums k 0) (get_or a k 0 * get_or b k 0) here product)
  where
    more : (count w s p : ℕ) → s ≤ count * w → p ≤ w → s + p ≤ (count + 1) * w
    more count w s p h g = omega arith

-- Sums to which products are added modulo m are the sums of both.
pub products_added : (m : ℕ) (old a b : List ℕ) (i : ℕ) (xs : List ℕ) → 0 < m → length a ≡ length old → length old ≤ i
    → Filled (λ k. residue m (at old k +ℤ at a k *ℤ at b k)) old i xs → xs ≡ ring_add m (length old) old (products m a b)
unfolding products
products_added m old a b i xs some size past so_far =
    let product = stands_reduced (length a) (λ k. at a k *ℤ at b k) some in
    let follows : Follows m (length old) (reduced m (length a) (λ k. at a k *ℤ at b k)) (λ k. at a k *ℤ at b k) = record { place = λ k h. product.follows.place k (omega (arith, size)) } in
    filled_reduced m (length old) (λ k. at old k +ℤ at a k *ℤ at b k) old i xs refl past so_far
    ∙ stands_same (stands_reduced (length old) (λ k. at old k +ℤ at a k *ℤ at b k) some)
    (add_of some (follows_at m (length old) old) follows) (λ k h. refl)

-- Sums to which products are added, reduced, are the reduced sums to which the products are added modulo m.
pub reduced_accumulated : (m : ℕ) (sums a b : List ℕ) → 0 < m → length a ≡ length sums
    → map (λ s. s % m) (accumulated sums a b) ≡ ring_add m (length sums) (map (λ s. s % m) sums) (products m a b)
unfolding accumulated at
reduced_accumulated m sums a b some size =
    let by : ℕ → ℕ = λ s. s % m in
    let new : ℕ → ℕ = λ k. get_or sums k 0 + get_or a k 0 * get_or b k 0 in
    let old : List ℕ = map by sums in
    let many : length old ≡ length sums = length-map sums by in
    let all : length (map new (range_with_len 0 (length sums))) ≡ length sums = length-map-range_with_len new 0 (length sums) in
    let reached : length (map by (map new (range_with_len 0 (length sums)))) ≡ length old = length-map (map new (range_with_len 0 (length sums))) by ∙ all ∙ sym many in
    let filled : Filled (λ k. residue m (at old k +ℤ at a k *ℤ at b k)) old (length old) (map by (map new (range_with_len 0 (length sums)))) =
    record {
      count = reached;
      within = omega arith;
      done = λ k d h.
          let low : k < length sums = omega (arith, many) in
          get_or-map by (map new (range_with_len 0 (length sums))) k 0 d (omega (arith, all))
          ∙ ap by (at_range new (length sums) k 0 low)
          ∙ sym (mod-add-mod (get_or sums k 0) m (get_or a k 0 * get_or b k 0))
          ∙ sum_of_product_reduced m (get_or sums k 0 % m) (get_or a k 0) (get_or b k 0)
          ∙ ap (λ (x : ℕ). residue m (pos x +ℤ pos (get_or a k 0) *ℤ pos (get_or b k 0))) (sym (get_or-map by sums k 0 0 low));
      rest = λ k d h. get_or_past (map by (map new (range_with_len 0 (length sums)))) k d (omega (arith, reached)) ∙ sym (get_or_past old k d h);
    } in
    products_added m old a b (length old) (map by (map new (range_with_len 0 (length sums)))) some (size ∙ sym many) (omega arith) filled
    ∙ ap (λ (n : ℕ). ring_add m n old (products m a b)) many

-- Lists of messages, as many for each ciphertext.
use Rattle.std.proofs.Common.{◌≡◌, ℕ, ◌+◌, ◌*◌, ◌<◌, List, ◌++◌, length, map, All, arith, length-append}
use Rattle.std.specs.List.{range_with_len, flat_map}
use Rattle.std.proofs.lemmas.List.Elements.{All-append}
use Rattle.std.proofs.lemmas.List.FromFn.{length-map-range_with_len}
use Rattle.negacyclic.proofs.Lists.{all_range, all_pieces, length-pieces}
use Rattle.spiral_model.specs.Words.{Poly}

-- n lists of m messages each
pub record AreLists (m n : ℕ) (xs : List (List Poly)) : Type 0 where
  pub many : length xs ≡ n
  pub each : All (λ x. length x ≡ m) xs

-- further ones behind them
pub lists-append : (m a b : ℕ) (xs ys : List (List Poly)) → AreLists m a xs → AreLists m b ys → AreLists m (a + b) (xs ++ ys)
lists-append m a b xs ys first second = record {
  many = omega (arith, length-append xs ys, first.many, second.many);
  each = All-append (λ (x : List Poly). length x ≡ m) xs ys first.each second.each;
}

-- those of a function of the place
pub lists-range : (m n : ℕ) (f : ℕ → List Poly) → ((i : ℕ) → i < n → length (f i) ≡ m) → AreLists m n (map f (range_with_len 0 n))
lists-range m n f each = record {
  many = length-map-range_with_len f 0 n;
  each = all_range (λ (x : List Poly). length x ≡ m) f n each;
}

-- k of them for each place
pub lists-pieces : (m k n : ℕ) (f : ℕ → List (List Poly)) → ((i : ℕ) → i < n → AreLists m k (f i)) → AreLists m (n * k) (flat_map f (range_with_len 0 n))
lists-pieces m k n f each = record {
  many = length-pieces f k n (λ i h. (each i h).many);
  each = all_pieces (λ (x : List Poly). length x ≡ m) f n (λ i h. (each i h).each);
}

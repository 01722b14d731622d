-- Sums of ciphertexts, row by row.
use Rattle.std.proofs.Common.{◌≡◌, ℕ, length, ◌∙◌}
use Rattle.std.specs.List.{range_with_len}
use Rattle.std.proofs.lemmas.List.Elements.{All-map}
use Rattle.std.proofs.lemmas.List.FromFn.{length-map-range_with_len}
use Rattle.negacyclic.specs.Ring.{ring_add}
use Rattle.negacyclic.proofs.Lengths.{length-ring_add}
use Rattle.spiral_sets.specs.Sets.{q}
use Rattle.spiral_model.specs.Words.{Poly, Cipher, row_of}
use Rattle.spiral_model.specs.Gadgets.{cipher_add}
use Rattle.regev_code.specs.Products.{HasShape}

-- a sum has the rows of its first ciphertext
pub sum-shape : (N count : ℕ) (c d : Cipher) → length c ≡ count → HasShape N count (cipher_add N c d)
unfolding cipher_add
sum-shape N count c d size = record {
  rows_count = length-map-range_with_len (λ i. ring_add q N (row_of c i) (row_of d i)) 0 (length c) ∙ size;
  degree = All-map (λ (a : Poly). length a ≡ N) (λ i. ring_add q N (row_of c i) (row_of d i)) (range_with_len 0 (length c)) (λ k d h. length-ring_add q N _ _);
}

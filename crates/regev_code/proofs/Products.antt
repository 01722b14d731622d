-- What ciphertexts keep where a loop writes their rows, and sums of products with digits.
use Rattle.std.proofs.Common.{◌≡◌, ℕ, ◌<◌, [], length, get_or, replicate, All, map, sym, ◌∙◌, ap, arith}
use Rattle.std.specs.List.{range_with_len}
use Rattle.std.proofs.lemmas.List.{ext_get_or, get_or-replicate, length-replicate}
use Rattle.std.proofs.lemmas.List.Elements.{All-same, All-replicate}
use Rattle.std.proofs.lemmas.List.FromFn.{length-map-range_with_len}
use Rattle.negacyclic.specs.Ring.{ring_add, ring_mul}
use Rattle.negacyclic.proofs.Lengths.{length-ring_add}
use Rattle.negacyclic.proofs.Lists.{all_range, at_range}
use Rattle.spiral_model.specs.Sets.{q}
use Rattle.spiral_model.specs.Words.{Poly, Cipher, row_of}
use Rattle.regev_code.specs.Products.{HasShape}
use Rattle.regev_code.specs.Shapes.{IsCipher}

-- ---- what a ciphertext keeps

pub cipher_kept : (N : ℕ) (old new : Cipher) → IsCipher old → length new ≡ length old → All (λ a. length a ≡ N) new → IsCipher new
cipher_kept N old new is count degree =
    let some = is.some in
    let few = is.few in
    record {
      some = omega arith;
      few = omega arith;
      same = λ k d within. degree k d within ∙ sym (degree 0 [] (omega arith));
    }

-- rows of zeros
pub cleared_all : (N : ℕ) (old new : Cipher) → All (λ a. length a ≡ N) old → new ≡ map (λ i. replicate {A = ℕ} (length (row_of old i)) 0) (range_with_len 0 (length old))
    → new ≡ replicate (length old) (replicate {A = ℕ} N 0)
cleared_all N old new degree is =
    let count : length new ≡ length old = ap length is ∙ length-map-range_with_len (λ i. replicate {A = ℕ} (length (row_of old i)) 0) 0 (length old) in
    ext_get_or [] new (replicate (length old) (replicate {A = ℕ} N 0)) (count ∙ sym (length-replicate (length old) (replicate {A = ℕ} N 0)))
    (λ k h.
    let within : k < length old = omega arith in
    ap (λ (xs : Cipher). get_or xs k []) is
    ∙ at_range (λ i. replicate {A = ℕ} (length (row_of old i)) 0) (length old) k [] within
    ∙ ap (λ (n : ℕ). replicate {A = ℕ} n 0) (degree k [] within)
    ∙ sym (get_or-replicate (length old) k (replicate {A = ℕ} N 0) [] within))

zeros-degree : (N count : ℕ) → All (λ a. length a ≡ N) (replicate count (replicate {A = ℕ} N 0))
zeros-degree N count = All-replicate (λ (a : Poly). length a ≡ N) count (replicate {A = ℕ} N 0) (length-replicate {A = ℕ} N 0)

pub cleared_kept : (old new : Cipher) → IsCipher old → new ≡ replicate (length old) (replicate {A = ℕ} (length (row_of old 0)) 0) → IsCipher new
cleared_kept old new is zeros =
    cipher_kept (length (row_of old 0)) old new is (ap length zeros ∙ length-replicate (length old) (replicate {A = ℕ} (length (row_of old 0)) 0))
    (All-same (λ (a : Poly). length a ≡ length (row_of old 0)) new _ zeros (zeros-degree (length (row_of old 0)) (length old)))

-- ---- sums of products

-- what the product with a polynomial adds to each row
abbrev pub with_product : ℕ → Poly → Cipher → Cipher → Cipher
with_product N a key sum = map (λ i. ring_add q N (row_of sum i) (ring_mul q N a (row_of key i))) (range_with_len 0 (length sum))

pub length-with_product : (N : ℕ) (a : Poly) (key sum : Cipher) → length (with_product N a key sum) ≡ length sum
length-with_product N a key sum = length-map-range_with_len (λ i. ring_add q N (row_of sum i) (ring_mul q N a (row_of key i))) 0 (length sum)

pub with_product-degree : (N : ℕ) (a : Poly) (key sum : Cipher) → All (λ b. length b ≡ N) (with_product N a key sum)
with_product-degree N a key sum =
    all_range (λ (b : Poly). length b ≡ N) (λ i. ring_add q N (row_of sum i) (ring_mul q N a (row_of key i))) (length sum) (λ k h. length-ring_add q N _ _)

-- Rows of zeros have their shape.
pub zeros_shape : (N count : ℕ) (c : Cipher) → c ≡ replicate count (replicate {A = ℕ} N 0) → HasShape N count c
zeros_shape N count c is =
    record {
      rows_count = ap length is ∙ length-replicate count (replicate {A = ℕ} N 0);
      degree = All-same (λ (a : Poly). length a ≡ N) c (replicate count (replicate {A = ℕ} N 0)) is (zeros-degree N count);
    }

-- Key switching: a ciphertext under one secret is brought under others by digit sums with a key. One form serves automorphisms,
-- lifts and conversion.
use Rattle.std.specs.Prelude.{ℕ, List, ◌+◌, ◌==◌, map, if◌then◌else◌}
use Rattle.std.specs.List.{range_with_len}
use Rattle.negacyclic.specs.Ring.{ring_add, ring_zero, tau}
use Rattle.spiral_sets.specs.Sets.{q}
use Rattle.spiral_model.specs.Words.{Poly, Cipher, row_of, cipher_at}
use Rattle.spiral_model.specs.Gadgets.{digit_sum}

-- A switching key: t ciphertexts that encrypt multiples by 2^(w k) of what the secret is switched from, and the width w.
pub record DigitKey : Type 0 where
  pub w : ℕ
  pub ciphers : List Cipher

-- The ciphertext with rows 0 to m that has b in row r and 0 in the others, plus the digit sum of a with the key.
unfoldable pub key_switched : ℕ → ℕ → ℕ → DigitKey → Poly → Poly → Cipher
key_switched N m r key b a =
    map (λ i. ring_add q N (if i == r then b else ring_zero q N) (digit_sum N key.w a (cipher_at key.ciphers) i)) (range_with_len 0 (m + 1))

-- The automorphism x -> x^g of a scalar ciphertext: (0, tau_g(c_1)) + DS(tau_g(c_0), W), where W_k encrypts -tau_g(s) 2^(w k).
-- Its phase is about tau_g of the phase of c.
unfoldable pub auto_applied : ℕ → ℕ → DigitKey → Cipher → Cipher
auto_applied N g key c = key_switched N 1 1 key (tau q N g (row_of c 1)) (tau q N g (row_of c 0))

-- A scalar ciphertext lifted into row r of a ciphertext with rows 0 to m: c_1 in row r, plus DS(c_0, L_r), where L_(r,k) encrypts
-- -s 2^(w k) in row r and 0 in the others. Its phase in row r is about that of c, in the others about 0.
unfoldable pub lifted : ℕ → ℕ → ℕ → DigitKey → Cipher → Cipher
lifted N m r key c = key_switched N m r key (row_of c 1) (row_of c 0)

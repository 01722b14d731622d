-- The expansion of a query's one ciphertext into many: each round doubles their number.
use Rattle.std.specs.Prelude.{ℕ, List, [], ◌∷◌, ◌++◌, ◌+◌, ◌-◌, ◌*◌, ◌/◌, ◌^◌, map}
use Rattle.negacyclic.specs.Ring.{ring_shift}
use Rattle.spiral_sets.specs.Sets.{q}
use Rattle.spiral_model.specs.Words.{Cipher, cipher_at}
use Rattle.spiral_model.specs.Gadgets.{cipher_add}
use Rattle.spiral_model.specs.KeySwitching.{DigitKey, auto_applied}
use Rattle.spiral_model.specs.Keys.{SetKeys}

-- g_j = N / 2^j + 1, the automorphism of round j
abbrev pub round_power : ℕ → ℕ → ℕ
round_power N j = N / 2 ^ j + 1

-- c + Auto_g(c)
unfoldable pub with_auto : ℕ → ℕ → DigitKey → Cipher → Cipher
with_auto N g key c = cipher_add N c (auto_applied N g key c)

-- x^s c, row by row
unfoldable pub cipher_shift : ℕ → ℕ → Cipher → Cipher
cipher_shift N s c = map (ring_shift q N s) c

-- c + Auto(c), and d + Auto(d) with d = x^(-2^j) c, for the automorphism of round j
unfoldable pub even_half : ℕ → ℕ → DigitKey → Cipher → Cipher
even_half N j key c = with_auto N (round_power N j) key c

unfoldable pub odd_half : ℕ → ℕ → DigitKey → Cipher → Cipher
odd_half N j key c = with_auto N (round_power N j) key (cipher_shift N (2 * N - 2 ^ j) c)

-- Round j: c + Auto(c) of each ciphertext of a list, followed by d + Auto(d) of each. Where the phase of c holds numbers at the places
-- that 2^j divides, the one keeps those that 2^(j+1) divides, doubled, and the other the rest, moved down by 2^j.
unfoldable pub expand_round : ℕ → ℕ → DigitKey → List Cipher → List Cipher
expand_round N j key ciphers = map (even_half N j key) ciphers ++ map (odd_half N j key) ciphers

-- The rounds from j on, one for each key.
unfoldable pub expanded : ℕ → ℕ → List DigitKey → List Cipher → List Cipher
expanded N j [] ciphers = ciphers
expanded N j (key ∷ keys) ciphers = expanded N (j + 1) keys (expand_round N j key ciphers)

-- Round 0 makes two of a query's ciphertext: that of the even places, for the first dimension, and that of the odd ones, for the
-- selections.
unfoldable pub sides : ℕ → SetKeys → Cipher → List Cipher
sides N keys c = expanded N 0 keys.round0 (c ∷ [])

-- The scalar ciphertexts of the first dimension by place, and those of the selections' bits by l, within l by digit.
unfoldable pub left_side : ℕ → SetKeys → Cipher → List Cipher
left_side N keys c = expanded N 1 keys.left (cipher_at (sides N keys c) 0 ∷ [])

unfoldable pub right_side : ℕ → SetKeys → Cipher → List Cipher
right_side N keys c = expanded N 1 keys.right (cipher_at (sides N keys c) 1 ∷ [])

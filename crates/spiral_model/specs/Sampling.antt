-- What is sampled from words: a query takes a list of 64-bit words, from its front.
use Rattle.std.specs.Prelude.{ℕ, ℤ, List, ◌+◌, ◌*◌, ◌/◌, ◌%◌, ◌^◌, map, slice_index, slice_index_or, count_ones, pos, ◌-ℤ◌}
use Rattle.std.specs.List.{range_with_len}
use Rattle.rand_chacha.specs.ChaCha.{word_at, key_of}
use Rattle.negacyclic.specs.Ring.{reduced}
use Rattle.spiral_sets.specs.Sets.{q}

-- A residue, nearly uniform: the 128-bit number of two words, the first one high, modulo q.
abbrev pub uniform_number : ℕ → ℕ → ℕ
uniform_number high low = (high * 2 ^ 64 + low) % q

-- A number of the centred binomial distribution: the ones among bits 0 to 15 of a word, less those among bits 16 to 31.
abbrev pub error_number : ℕ → ℤ
error_number word = pos (count_ones (word % 2 ^ 16)) -ℤ pos (count_ones (word / 2 ^ 16 % 2 ^ 16))

-- A number of a secret: -1, 0 or 1.
abbrev pub secret_number : ℕ → ℤ
secret_number word = pos (word % 3) -ℤ pos 1

-- The uniform part of a ciphertext, of 2N words from `start` on, two for each place.
unfoldable pub uniform_poly : ℕ → List ℕ → ℕ → List ℕ
uniform_poly N words start = map (λ k. uniform_number (slice_index words (start + 2 * k)) (slice_index words (start + 2 * k + 1))) (range_with_len 0 N)

-- The error of a row, of N words from `start` on.
unfoldable pub error_poly : ℕ → List ℕ → ℕ → List ℕ
error_poly N words start = reduced q N (λ k. error_number (slice_index words (start + k)))

-- The numbers of a secret, of N words from `start` on.
unfoldable pub secret_numbers : ℕ → List ℕ → ℕ → List ℤ
secret_numbers N words start = map (λ k. secret_number (slice_index words (start + k))) (range_with_len 0 N)

-- A secret as a polynomial.
unfoldable pub secret_poly : ℕ → List ℤ → List ℕ
secret_poly N numbers = reduced q N (λ k. slice_index_or numbers k (pos 0))

-- Word i that a 32-byte seed gives: 32-bit words 2i and 2i + 1, the first one low, of stream 0 of ChaCha20 (ten
-- double rounds) with the seed as its key.
unfoldable pub seeded_word : List ℕ → ℕ → ℕ
seeded_word seed i = word_at 10 (key_of seed) 0 (2 * i) + 2 ^ 32 * word_at 10 (key_of seed) 0 (2 * i + 1)

-- The first `count` words of a seed.
unfoldable pub seeded_words : List ℕ → ℕ → List ℕ
seeded_words seed count = map (seeded_word seed) (range_with_len 0 count)

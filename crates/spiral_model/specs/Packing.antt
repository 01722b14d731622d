-- Scalar ciphertexts made into matrix ciphertexts: lifts of the first dimension, the translation of Regev ciphertexts into a GSW
-- ciphertext, and the packing of results.
use Rattle.std.specs.Prelude.{ℕ, List, [], ◌+◌, ◌-◌, ◌*◌, ◌==◌, map, if◌then◌else◌, Option, Some, None}
use Rattle.std.specs.List.{range_with_len, flat_map}
use Rattle.negacyclic.specs.Ring.{ring_total}
use Rattle.spiral_sets.specs.declared.param_set.ParamSet.{ParamSet}
use Rattle.spiral_sets.specs.Sets.{q, digit_count, rows}
use Rattle.spiral_model.specs.Words.{Poly, Cipher, Gsw, row_of, cipher_at}
use Rattle.spiral_model.specs.KeySwitching.{DigitKey, lifted}
use Rattle.spiral_model.specs.Keys.{SetKeys, key_at}

-- A scalar ciphertext lifted into row r from 1 to n, with that row's lift key.
unfoldable pub lift_row : ParamSet → List DigitKey → Cipher → ℕ → Cipher
lift_row set lift c r = lifted set.degree set.n r (key_at lift (r - 1)) c

-- The lifts of a scalar ciphertext into rows 1 to n, the columns of its first-dimension matrix.
unfoldable pub lift_matrix : ParamSet → List DigitKey → Cipher → List Cipher
lift_matrix set lift c = map (lift_row set lift c) (range_with_len 1 set.n)

-- ---- translation

-- the conversion key of an option; where there is none, a key of no ciphertexts
abbrev pub conversion_key : Option DigitKey → DigitKey
conversion_key (Some key) = key
conversion_key None = record { w = 1; ciphers = [] }

-- Column (r, k) of the GSW ciphertext of a bit, from the scalar ciphertext c that encrypts bit 2^(w k). For r = 0 it has c_1 in row 0,
-- plus DS(c_0, V), where V_k encrypts s_i s 2^(w k) in each row i: its phase in row i is about -s_i times that of c. For r from 1 on it
-- is c lifted into row r, or c itself where the set packs.
unfoldable pub translated_column : ParamSet → SetKeys → Cipher → ℕ → Cipher
translated_column set keys c r =
    if r == 0 then lifted set.degree (rows set) 0 (conversion_key keys.conv) c else (if set.pack then c else lift_row set keys.lift c r)

-- the columns of row r, by digit
unfoldable pub translated_row : ParamSet → SetKeys → List Cipher → ℕ → List Cipher
translated_row set keys bits r = map (λ k. translated_column set keys (cipher_at bits k) r) (range_with_len 0 (digit_count set.w_gsw))

-- The GSW ciphertext of a bit, from the t scalar ciphertexts of its digits.
unfoldable pub translated : ParamSet → SetKeys → List Cipher → Gsw
translated set keys bits = flat_map (translated_row set keys bits) (range_with_len 0 (rows set + 1))

-- ---- packing

-- Row i of packed column c: the sum over r of entry (r, c) lifted into row r.
unfoldable pub packed_row : ParamSet → List DigitKey → List Cipher → ℕ → ℕ → Poly
packed_row set lift ciphers c i =
    ring_total q set.degree set.n (λ r. row_of (lift_row set lift (cipher_at ciphers (r * set.n + c)) (r + 1)) i)

-- Column c, from 0, of the matrix ciphertext packed of n times n scalar ciphertexts, row by row.
unfoldable pub packed_column : ParamSet → List DigitKey → List Cipher → ℕ → Cipher
packed_column set lift ciphers c = map (packed_row set lift ciphers c) (range_with_len 0 (set.n + 1))

unfoldable pub packed : ParamSet → List DigitKey → List Cipher → List Cipher
packed set lift ciphers = map (packed_column set lift ciphers) (range_with_len 0 set.n)

-- What words deal: the secrets, the keys' ciphertexts and a query's. The words are used from their front, in this order.
use Rattle.std.specs.Prelude.{ℕ, ℤ, List, [], ◌∷◌, ◌++◌, ◌+◌, ◌*◌, ◌^◌, ◌==◌, map, if◌then◌else◌, pos, neg_ℤ, Option, Some, None}
use Rattle.std.specs.List.{range_with_len, flat_map}
use Rattle.negacyclic.specs.Ring.{ring_zero, ring_mul, ring_scale, tau}
use Rattle.spiral_sets.specs.declared.param_set.ParamSet.{ParamSet}
use Rattle.spiral_sets.specs.Sets.{q, digit_count, rho, has_keys}
use Rattle.spiral_sets.specs.Counts.{words_of, secret_words, round_ciphertexts, lift_ciphertexts, setup_ciphertexts}
use Rattle.spiral_model.specs.Words.{Poly, Cipher}
use Rattle.spiral_model.specs.Sampling.{secret_numbers, secret_poly}
use Rattle.spiral_model.specs.Ciphertexts.{encrypted_all}
use Rattle.spiral_model.specs.Replies.{QueryState}
use Rattle.spiral_model.specs.Bodies.{CipherBody}
use Rattle.spiral_model.specs.Queries.{query_messages, query_poly}
use Rattle.spiral_model.specs.Expansion.{round_power}
use Rattle.spiral_model.specs.Keys.{SetKeys, keys_in}

-- ---- secrets

-- The scalar secret s, of the first N words, where the set has keys.
unfoldable pub scalar_secret : ParamSet → List ℕ → Poly
scalar_secret set words = secret_poly set.degree (secret_numbers set.degree words 0)

-- The numbers of the secrets s_1 to s_n, each of N words, behind those of the scalar secret where there is one.
unfoldable pub secret_rows : ParamSet → List ℕ → List (List ℤ)
secret_rows set words =
    map (λ r. secret_numbers set.degree words ((if has_keys set then r + 1 else r) * set.degree)) (range_with_len 0 set.n)

-- the secrets s_1 to s_n as polynomials
abbrev pub secret_polys : ParamSet → List ℕ → List Poly
secret_polys set words = map (secret_poly set.degree) (secret_rows set words)

-- The secrets under which first-dimension and GSW ciphertexts stand: s_1 to s_n, or s alone where the set packs.
abbrev pub row_secrets : ParamSet → List ℕ → List Poly
row_secrets set words = if set.pack then scalar_secret set words ∷ [] else secret_polys set words

-- ---- the messages of keys, with secret s: each has one ciphertext for each digit k, of a message times 2^(w k)

-- automorphism g: -tau_g(s) 2^(w k)
unfoldable pub auto_message : ℕ → ℕ → ℕ → Poly → ℕ → List Poly
auto_message N g w s k = ring_scale q N (neg_ℤ (pos (2 ^ (w * k)))) (tau q N g s) ∷ []

unfoldable pub auto_messages : ℕ → ℕ → ℕ → Poly → List (List Poly)
auto_messages N g w s = map (auto_message N g w s) (range_with_len 0 (digit_count w))

-- the automorphism keys of rounds `first` on, of one width, as many as there are
unfoldable pub rounds_messages : ℕ → ℕ → ℕ → ℕ → Poly → List (List Poly)
rounds_messages N first count w s = flat_map (λ j. auto_messages N (round_power N j) w s) (range_with_len first count)

-- all rounds of a set: round 0, left rounds 1 to nu1, right rounds 1 to rho
unfoldable pub round_messages : ParamSet → Poly → List (List Poly)
round_messages set s =
    if set.direct then [] else
    rounds_messages set.degree 0 1 set.w_right s
    ++ rounds_messages set.degree 1 set.nu1 set.w_left s
    ++ rounds_messages set.degree 1 (rho set) set.w_right s

-- lift into row r: -s 2^(w k) in row r, 0 in the others
unfoldable pub lift_message : ParamSet → Poly → ℕ → ℕ → List Poly
lift_message set s r k =
    map (λ i. if i == r then ring_scale q set.degree (neg_ℤ (pos (2 ^ (set.w_conv * k)))) s else ring_zero q set.degree) (range_with_len 1 set.n)

unfoldable pub lift_row_messages : ParamSet → Poly → ℕ → List (List Poly)
lift_row_messages set s r = map (lift_message set s r) (range_with_len 0 (digit_count set.w_conv))

unfoldable pub lift_messages : ParamSet → Poly → List (List Poly)
lift_messages set s = if has_keys set then flat_map (lift_row_messages set s) (range_with_len 1 set.n) else []

-- conversion: s_i s 2^(w k) in each row i
unfoldable pub conversion_message : ParamSet → Poly → List Poly → ℕ → List Poly
conversion_message set s secrets k = map (λ secret. ring_scale q set.degree (pos (2 ^ (set.w_conv * k))) (ring_mul q set.degree secret s)) secrets

unfoldable pub conversion_messages : ParamSet → Poly → List Poly → List (List Poly)
conversion_messages set s secrets = if set.direct then [] else map (conversion_message set s secrets) (range_with_len 0 (digit_count set.w_conv))

-- ---- ciphertexts

-- where the words of the lift keys, of the conversion key and of the query begin
abbrev pub lift_words : ParamSet → ℕ
lift_words set = secret_words set + words_of set (round_ciphertexts set)

abbrev pub conversion_words : ParamSet → ℕ
conversion_words set = lift_words set + words_of set (lift_ciphertexts set)

abbrev pub query_words : ParamSet → ℕ
query_words set = secret_words set + words_of set (setup_ciphertexts set)

-- The keys' ciphertexts: those of the rounds under s, the lift keys under s_1 to s_n, the conversion key under the secrets of
-- GSW ciphertexts. A set without keys has none.
unfoldable pub keys_of : ParamSet → List ℕ → List Cipher
keys_of set words =
    let s = scalar_secret set words in
    encrypted_all set.degree words (secret_words set) (s ∷ []) (round_messages set s)
    ++ encrypted_all set.degree words (lift_words set) (secret_polys set words) (lift_messages set s)
    ++ encrypted_all set.degree words (conversion_words set) (row_secrets set words) (conversion_messages set s (row_secrets set words))

-- The query's ciphertexts: in a direct set those of the intended phases, else one under s of the query's polynomial.
unfoldable pub query_of : ParamSet → List ℕ → ℕ → List Cipher
query_of set words index =
    if set.direct then encrypted_all set.degree words (query_words set) (row_secrets set words) (query_messages set (row_secrets set words) index)
    else encrypted_all set.degree words (query_words set) (scalar_secret set words ∷ []) ((query_poly set index ∷ []) ∷ [])

-- All that words deal for an index.
pub record Dealt : Type 0 where
  pub scalar : Poly
  pub secrets : List (List ℤ)
  pub keys : List Cipher
  pub query : List Cipher

abbrev pub dealt : ParamSet → List ℕ → ℕ → Dealt
dealt set words index = record {
  scalar = scalar_secret set words;
  secrets = secret_rows set words;
  keys = keys_of set words;
  query = query_of set words index;
}

-- What a client keeps and sends for an index: its state, its keys where the set has them, and its query.
unfoldable pub state_of : ParamSet → List ℕ → ℕ → QueryState
state_of set words index = record { set = set; index = index; secret = flat_map (λ row. row) (secret_rows set words) }

unfoldable pub key_body_of : ParamSet → List ℕ → CipherBody
key_body_of set words = record { set = set; ciphers = keys_of set words }

unfoldable pub query_body_of : ParamSet → List ℕ → ℕ → CipherBody
query_body_of set words index = record { set = set; ciphers = query_of set words index }

-- the keys as a server uses them
unfoldable pub dealt_keys : ParamSet → List ℕ → Option SetKeys
dealt_keys set words = if has_keys set then Some (keys_in (key_body_of set words)) else None

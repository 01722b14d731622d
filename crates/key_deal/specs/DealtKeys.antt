-- The keys that words deal from a place on, under secrets that are given.
use Rattle.std.specs.Prelude.{ℕ, List, false, ◌++◌, ◌+◌, [], ◌∷◌}
use Rattle.spiral_sets.specs.declared.param_set.ParamSet.{ParamSet}
use Rattle.spiral_sets.specs.Counts.{words_of, round_ciphertexts, lift_ciphertexts}
use Rattle.spiral_model.specs.Words.{Poly, Cipher}
use Rattle.spiral_model.specs.Ciphertexts.{encrypted_all}
use Rattle.spiral_model.specs.Dealing.{round_messages, lift_messages, conversion_messages}
use Rattle.regev_code.specs.Seen.{Secrets, Cursor}
use Rattle.regev_code.specs.Shapes.{under}
pub use Rattle.regev_code.specs.Shapes.{scalar_of}

-- The keys of a set, by the words from `start` on: those of the rounds under s, the lift keys under s_1 to s_n, the conversion key
-- under the secrets of GSW ciphertexts. At the words behind the secrets they are the keys that the words deal.
unfoldable pub keys_from : ParamSet → List ℕ → ℕ → Poly → List Poly → List Poly → List Cipher
keys_from set words start s secrets row_secrets =
    encrypted_all set.degree words start (s ∷ []) (round_messages set s)
    ++ encrypted_all set.degree words (start + words_of set (round_ciphertexts set)) secrets (lift_messages set s)
    ++ encrypted_all set.degree words (start + words_of set (round_ciphertexts set) + words_of set (lift_ciphertexts set)) row_secrets
    (conversion_messages set s row_secrets)

-- the keys by the next words of a cursor
abbrev pub keys_behind : ParamSet → Secrets → Cursor → List Cipher
keys_behind set secrets cursor =
    keys_from set cursor.words cursor.used (scalar_of set.degree secrets) (under set.degree secrets false) (under set.degree secrets set.pack)

-- The parts of an expanded query.
use Rattle.std.specs.Prelude.{ℕ, List, ◌*◌, map, take, drop, if◌then◌else◌}
use Rattle.std.specs.List.{range_with_len, flat_map}
use Rattle.spiral_sets.specs.declared.param_set.ParamSet.{ParamSet}
use Rattle.spiral_sets.specs.Sets.{digit_count}
use Rattle.spiral_model.specs.Words.{Cipher, Gsw}
use Rattle.spiral_model.specs.KeySwitching.{DigitKey}
use Rattle.spiral_model.specs.Keys.{SetKeys}
use Rattle.spiral_model.specs.Packing.{lift_matrix, translated}
use Rattle.spiral_model.specs.Answering.{Ready, expanded_firsts, expanded_gsws}

-- The first dimension of the scalar ciphertexts of its places: where the set packs these as they are, else the lifts of each.
abbrev pub firsts_from : ParamSet → List DigitKey → List Cipher → List Cipher
firsts_from set lift ciphers = if set.pack then ciphers else flat_map (lift_matrix set lift) ciphers

-- the GSW ciphertext of selection l, translated from elements l t to l t + t - 1 of the right side
abbrev pub translated_part : ParamSet → SetKeys → List Cipher → ℕ → Gsw
translated_part set keys ciphers l = translated set keys (take (digit_count set.w_gsw) (drop (l * digit_count set.w_gsw) ciphers))

-- The GSW ciphertexts of all selections, from the scalar ciphertexts of their bits' digits.
abbrev pub gsws_from : ParamSet → SetKeys → List Cipher → List Gsw
gsws_from set keys ciphers = map (translated_part set keys ciphers) (range_with_len 0 set.nu2)

-- Both parts that a query's one ciphertext expands to.
abbrev pub both_parts : ParamSet → SetKeys → Cipher → Ready
both_parts set keys c = record { firsts = expanded_firsts set keys c; gsws = expanded_gsws set keys c }

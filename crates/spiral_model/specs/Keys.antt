-- The keys of a set, by their use.
use Rattle.std.specs.Prelude.{ℕ, List, [], ◌+◌, ◌*◌, map, take, drop, slice_index_or, if◌then◌else◌, Option, Some, None}
use Rattle.std.specs.List.{range_with_len}
use Rattle.spiral_sets.specs.declared.param_set.ParamSet.{ParamSet}
use Rattle.spiral_sets.specs.Sets.{digit_count, rho}
use Rattle.spiral_sets.specs.Counts.{ciphertext_count, round_ciphertexts, lift_ciphertexts}
use Rattle.spiral_model.specs.Words.{Cipher}
use Rattle.spiral_model.specs.KeySwitching.{DigitKey}
use Rattle.spiral_model.specs.Bodies.{CipherBody}

-- The keys of a set: of expansion's round 0, of its left rounds 1 to nu1 and right rounds 1 to rho; the lift keys of rows 1 to n;
-- the conversion key. A direct set has lift keys at most.
pub record SetKeys : Type 0 where
  pub set : ParamSet
  pub round0 : List DigitKey
  pub left : List DigitKey
  pub right : List DigitKey
  pub lift : List DigitKey
  pub conv : Option DigitKey

-- a key of a list; where there is none, one of no ciphertexts
abbrev pub key_at : List DigitKey → ℕ → DigitKey
key_at keys i = slice_index_or keys i (record { w = 1; ciphers = [] })

-- The key of width w whose ciphertexts stand from `start` on.
abbrev pub key_cut : ℕ → List Cipher → ℕ → DigitKey
key_cut w ciphers start = record { w = w; ciphers = take (digit_count w) (drop start ciphers) }

-- So many keys of width w, one after the other from `start` on.
unfoldable pub keys_cut : ℕ → ℕ → List Cipher → ℕ → List DigitKey
keys_cut w count ciphers start = map (λ j. key_cut w ciphers (start + j * digit_count w)) (range_with_len 0 count)

-- where the keys of the left and right rounds, the lift keys and the conversion key begin in a Setup body
abbrev pub left_start : ParamSet → ℕ
left_start set = digit_count set.w_right

abbrev pub right_start : ParamSet → ℕ
right_start set = left_start set + set.nu1 * digit_count set.w_left

abbrev pub lift_start : ParamSet → ℕ
lift_start set = ciphertext_count (round_ciphertexts set)

abbrev pub conversion_start : ParamSet → ℕ
conversion_start set = lift_start set + ciphertext_count (lift_ciphertexts set)

-- The keys that a Setup body carries, in its order.
unfoldable pub keys_in : CipherBody → SetKeys
keys_in body =
    let set = body.set in
    record {
      set = set;
      round0 = if set.direct then [] else keys_cut set.w_right 1 body.ciphers 0;
      left = if set.direct then [] else keys_cut set.w_left set.nu1 body.ciphers (left_start set);
      right = if set.direct then [] else keys_cut set.w_right (rho set) body.ciphers (right_start set);
      lift = keys_cut set.w_conv set.n body.ciphers (lift_start set);
      conv = if set.direct then None else Some (key_cut set.w_conv body.ciphers (conversion_start set));
    }

-- the keys of an option; where there are none, those of an empty body
abbrev pub lift_keys : Option SetKeys → List DigitKey
lift_keys (Some keys) = keys.lift
lift_keys None = []

-- What words deal: the secrets are ternary, the keys have lift keys where the set packs, and the query made ready has a GSW ciphertext
-- for each selection; so its reply opens to the record.
use Rattle.std.proofs.Common.{◌≡◌, ℕ, ◌+◌, ◌*◌, ◌%◌, ◌<◌, Bool, true, false, not, if◌then◌else◌, ℤ, List, length, slice_index, All, Option, Some, None, sym, ◌∙◌, ap, subst, arith, refl, inl, inr}
use Rattle.std.proofs.lemmas.Bool.{cases_Bool, or_left, or_right, not_from_false}
use Rattle.std.proofs.lemmas.Int.{ints}
use Rattle.std.proofs.lemmas.List.FromFn.{length-map-range_with_len}
use Rattle.negacyclic.proofs.Lists.{all_range}
use Rattle.spiral_sets.specs.declared.param_set.ParamSet.{ParamSet}
use Rattle.spiral_sets.specs.Sets.{digit_count, has_keys}
use Rattle.spiral_model.specs.Words.{Cipher, cipher_at}
use Rattle.spiral_model.specs.Sampling.{secret_number, secret_numbers}
use Rattle.spiral_model.specs.KeySwitching.{DigitKey}
use Rattle.spiral_model.specs.Keys.{SetKeys, key_cut, keys_cut, keys_in, lift_start, lift_keys}
use Rattle.spiral_model.specs.Replies.{IsTernary}
use Rattle.spiral_model.specs.Answering.{Ready, gsw_of, gsws_of, firsts_of, expanded_gsw, expanded_gsws, ready_by, ready_of, answer_of}
use Rattle.spiral_model.specs.Dealing.{scalar_secret, secret_rows, key_body_of, dealt_keys, query_of, state_of}
use Rattle.spiral_model.specs.Noise.{dealt_report}
use Rattle.noise_laws.specs.Laws.{AreSecrets, AreLiftKeys, DealtOpens}
use Rattle.noise_laws.proofs.Opening.{ready_opens}

-- ---- the secrets

ternary_number : (word : ℕ) → IsTernary (secret_number word)
ternary_number word = let small : word % 3 < 3 = omega arith in omega (arith, ints)

-- the numbers of one secret
numbers_are : (N : ℕ) (words : List ℕ) (start : ℕ) → (length (secret_numbers N words start) ≡ N) × All IsTernary (secret_numbers N words start)
unfolding secret_numbers
numbers_are N words start = (
  length-map-range_with_len (λ k. secret_number (slice_index words (start + k))) 0 N,
  all_range IsTernary (λ k. secret_number (slice_index words (start + k))) N (λ k h. ternary_number (slice_index words (start + k))),
)

-- The secrets that words deal are a set's.
pub dealt_secrets : (set : ParamSet) (words : List ℕ) → AreSecrets set (secret_rows set words)
unfolding secret_rows
dealt_secrets set words =
    let row : ℕ → List ℤ = λ r. secret_numbers set.degree words ((if has_keys set then r + 1 else r) * set.degree) in
    record {
      count = length-map-range_with_len row 0 set.n;
      rows = all_range (λ (xs : List ℤ). (length xs ≡ set.degree) × All IsTernary xs) row set.n
          (λ r h. numbers_are set.degree words ((if has_keys set then r + 1 else r) * set.degree));
    }

-- ---- the keys

-- a set that packs has keys, and so has one that isn't direct
packs_with_keys : (set : ParamSet) → set.pack ≡ true → has_keys set ≡ true
packs_with_keys set packs = or_right (not set.direct) set.pack packs

expands_with_keys : (set : ParamSet) → set.direct ≡ false → has_keys set ≡ true
expands_with_keys set expands = or_left (not set.direct) set.pack (not_from_false set.direct expands)

keys_are : (set : ParamSet) (words : List ℕ) → has_keys set ≡ true → dealt_keys set words ≡ Some (keys_in (key_body_of set words))
unfolding dealt_keys
keys_are set words has = ap (λ (b : Bool). if b then Some (keys_in (key_body_of set words)) else None) has

-- keys cut from ciphertexts
cut_keys : (set : ParamSet) (ciphers : List Cipher) (start : ℕ) → AreLiftKeys set (keys_cut set.w_conv set.n ciphers start)
unfolding keys_cut
cut_keys set ciphers start =
    let key : ℕ → DigitKey = λ j. key_cut set.w_conv ciphers (start + j * digit_count set.w_conv) in
    record { count = length-map-range_with_len key 0 set.n; widths = all_range (λ (k : DigitKey). k.w ≡ set.w_conv) key set.n (λ j h. refl) }

-- Those of a body have its lift keys,
body_keys : (set : ParamSet) (words : List ℕ) → AreLiftKeys set (lift_keys (Some (keys_in (key_body_of set words))))
unfolding keys_in key_body_of
body_keys set words = cut_keys set (key_body_of set words).ciphers (lift_start set)

-- and so have those that words deal where the set packs.
pub dealt_lift : (set : ParamSet) (words : List ℕ) → set.pack ≡ true → AreLiftKeys set (lift_keys (dealt_keys set words))
dealt_lift set words packs =
    subst (λ (keys : Option SetKeys). AreLiftKeys set (lift_keys keys)) (sym (keys_are set words (packs_with_keys set packs))) (body_keys set words)

-- ---- the selections

-- a direct set's query as it was sent
abbrev sent : ParamSet → List Cipher → Ready
sent set ciphers = record { firsts = firsts_of set ciphers; gsws = gsws_of set ciphers }

sent_selections : (set : ParamSet) (keys : Option SetKeys) (ciphers : List Cipher) → set.direct ≡ true → length (ready_of set keys ciphers).gsws ≡ set.nu2
unfolding ready_of gsws_of
sent_selections set keys ciphers direct =
    ap (λ (b : Bool). length (if b then sent set ciphers else ready_by set keys ciphers).gsws) direct
    ∙ length-map-range_with_len (gsw_of set ciphers) 0 set.nu2

expanded_selections : (set : ParamSet) (keys : SetKeys) (ciphers : List Cipher) → set.direct ≡ false → length (ready_of set (Some keys) ciphers).gsws ≡ set.nu2
unfolding ready_of expanded_gsws
expanded_selections set keys ciphers expands =
    ap (λ (b : Bool). length (if b then sent set ciphers else ready_by set (Some keys) ciphers).gsws) expands
    ∙ length-map-range_with_len (expanded_gsw set keys (cipher_at ciphers 0)) 0 set.nu2

-- The query that words deal has a GSW ciphertext for each selection, once it is made ready.
pub dealt_selections : (set : ParamSet) (words : List ℕ) (ciphers : List Cipher) → length (ready_of set (dealt_keys set words) ciphers).gsws ≡ set.nu2
dealt_selections set words ciphers =
    elim (cases_Bool set.direct) [
      | inl direct ↦ sent_selections set (dealt_keys set words) ciphers direct
      | inr expands ↦
          ap (λ (keys : Option SetKeys). length (ready_of set keys ciphers).gsws) (keys_are set words (expands_with_keys set expands))
          ∙ expanded_selections set (keys_in (key_body_of set words)) ciphers expands
    ]

-- From any words the reply to the query that they deal opens to the record.
pub dealt_opens : DealtOpens
unfolding state_of answer_of dealt_report
dealt_opens table words index is h fits =
    let set = table.set in
    let keys : Option SetKeys = dealt_keys set words in
    ready_opens table (scalar_secret set words) (secret_rows set words) index (lift_keys keys) (ready_of set keys (query_of set words index)) is
    (dealt_secrets set words) (dealt_lift set words) (dealt_selections set words (query_of set words index)) h fits

-- How many words and ciphertexts the query of a set takes, and whether it is sent or expanded.
use Rattle.std.proofs.Common.{◌≡◌, ℕ, ◌+◌, ◌*◌, ◌||◌, not, Bool, true, false, if◌then◌else◌, List, [], ◌∷◌, refl, sym, ◌∙◌, ap, arith}
use Rattle.std.proofs.lemmas.Bool.{true≢false}
use Rattle.spiral_sets.specs.declared.param_set.ParamSet.{ParamSet}
use Rattle.spiral_sets.specs.Sets.{rows, has_keys}
use Rattle.spiral_sets.specs.Counts.{firsts_count, gsw_count, ciphertext_count, query_ciphertexts, words_of}
use Rattle.spiral_model.specs.Words.{Cipher}
use Rattle.spiral_model.specs.Ciphertexts.{words_taken, encrypted_all}
use Rattle.spiral_model.specs.Queries.{query_messages, query_poly}
use Rattle.spiral_model.specs.Dealing.{scalar_secret, row_secrets, query_words, query_of}

parts-words : (a b T : ℕ) → (a + b) * T ≡ a * T + b * T
parts-words a b T = omega arith

-- the words of the first dimension and those of the selections
pub query_words-are : (set : ParamSet) → set.direct ≡ true
    → words_of set (query_ciphertexts set) ≡ firsts_count set * words_taken set.degree (rows set) + set.nu2 * gsw_count set * words_taken set.degree (rows set)
query_words-are set direct = rw direct (omega arith)

pub query_count-is : (set : ParamSet) → set.direct ≡ true → ciphertext_count (query_ciphertexts set) ≡ firsts_count set + set.nu2 * gsw_count set
query_count-is set direct = rw direct (omega arith)

-- each of those ciphertexts takes as many words
pub query_count-words : (set : ParamSet) → set.direct ≡ true
    → ciphertext_count (query_ciphertexts set) * words_taken set.degree (rows set) ≡ words_of set (query_ciphertexts set)
query_count-words set direct =
    let parts = parts-words (firsts_count set) (set.nu2 * gsw_count set) (words_taken set.degree (rows set)) in
    let words = query_words-are set direct in
    rw (query_count-is set direct) (omega (arith, parts, words))

-- the words of the one ciphertext of a query that is expanded
pub query_words-one : (set : ParamSet) → set.direct ≡ false → words_of set (query_ciphertexts set) ≡ 1 * words_taken set.degree 1
query_words-one set expands = rw expands (omega arith)

-- the query's ciphertexts, sent or one that is expanded
abbrev query_by : ParamSet → List ℕ → ℕ → Bool → List Cipher
query_by set words index true = encrypted_all set.degree words (query_words set) (row_secrets set words) (query_messages set (row_secrets set words) index)
query_by set words index false = encrypted_all set.degree words (query_words set) (scalar_secret set words ∷ []) ((query_poly set index ∷ []) ∷ [])

chosen : {A : Type 0} (f : Bool → A) (b : Bool) → (if b then f true else f false) ≡ f b
chosen f true = refl
chosen f false = refl

query_of-by : (set : ParamSet) (words : List ℕ) (index : ℕ) → query_of set words index ≡ query_by set words index set.direct
unfolding query_of
query_of-by set words index = chosen (query_by set words index) set.direct

-- the query of a set that sends its ciphertexts
pub query_of-sent : (set : ParamSet) (words : List ℕ) (index : ℕ) → set.direct ≡ true
    → query_of set words index ≡ encrypted_all set.degree words (query_words set) (row_secrets set words) (query_messages set (row_secrets set words) index)
query_of-sent set words index direct = query_of-by set words index ∙ ap (query_by set words index) direct

-- and of one that expands it
pub query_of-expanded : (set : ParamSet) (words : List ℕ) (index : ℕ) → set.direct ≡ false
    → query_of set words index ≡ encrypted_all set.degree words (query_words set) (scalar_secret set words ∷ []) ((query_poly set index ∷ []) ∷ [])
query_of-expanded set words index expands = query_of-by set words index ∙ ap (query_by set words index) expands

has_keys-by : (direct pack : Bool) → direct ≡ false → (not direct || pack) ≡ true
has_keys-by true pack expands = absurd (true≢false expands)
has_keys-by false pack expands = refl

-- a set that expands its queries has keys,
pub expanding-keys : (set : ParamSet) → set.direct ≡ false → has_keys set ≡ true
expanding-keys set expands = has_keys-by set.direct set.pack expands

packed-by : (direct pack : Bool) → pack ≡ true → (not direct || pack) ≡ true
packed-by direct false packs = absurd (true≢false (sym packs))
packed-by true true packs = refl
packed-by false true packs = refl

-- and so has one that packs;
pub packing-keys : (set : ParamSet) → set.pack ≡ true → has_keys set ≡ true
packing-keys set packs = packed-by set.direct set.pack packs

no_keys-by : (direct pack : Bool) → (not direct || pack) ≡ false → (direct ≡ true) × (pack ≡ false)
no_keys-by true true none = absurd (true≢false none)
no_keys-by true false none = (refl, refl)
no_keys-by false pack none = absurd (true≢false none)

-- one without keys does neither.
pub keyless-kind : (set : ParamSet) → has_keys set ≡ false → (set.direct ≡ true) × (set.pack ≡ false)
keyless-kind set none = no_keys-by set.direct set.pack none

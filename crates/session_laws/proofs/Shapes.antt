-- What any words deal has the shape that frames carry: the keys that of a Setup, the query that of a Query.
use Rattle.std.proofs.Common.{◌≡◌, ℕ, ◌*◌, Bool, true, false, if◌then◌else◌, List, [], ◌∷◌, ◌++◌, length, map, refl, ◌∙◌, subst, inl, inr}
use Rattle.std.proofs.lemmas.Bool.{cases_Bool}
use Rattle.std.proofs.lemmas.List.{length-map}
use Rattle.spiral_sets.specs.declared.param_set.ParamSet.{ParamSet}
use Rattle.spiral_sets.specs.Sets.{IsSet, rows, has_keys}
use Rattle.spiral_sets.specs.Counts.{secret_words}
use Rattle.spiral_model.specs.Words.{Poly, Cipher}
use Rattle.spiral_model.specs.Sampling.{secret_poly}
use Rattle.spiral_model.specs.Ciphertexts.{encrypted_all, words_taken}
use Rattle.spiral_model.specs.Bodies.{IsSetup, IsQuery}
use Rattle.spiral_model.specs.Queries.{query_poly}
use Rattle.spiral_model.specs.Dealing.{scalar_secret, secret_rows, row_secrets, round_messages, lift_messages, conversion_messages, query_words, query_of, key_body_of, query_body_of}
use Rattle.regev_code.specs.Seen.{Secrets, Cursor}
use Rattle.regev_code.specs.Shapes.{scalar_of, secrets_from, taken, under}
use Rattle.key_deal.proofs.WholeKeys.{keys-drawn, keys-dealt, dealt-one, dealt-many}
use Rattle.noise_laws.proofs.Dealt.{dealt_secrets}
use Rattle.pir_client.proofs.SetNumbers.{query_of-sent, query_of-expanded}
use Rattle.pir_client.proofs.QueryShapes.{query-shape}
use Rattle.pir_client.proofs.QueryNumbers.{one-shape}

-- ---- the keys

-- The keys that words deal for a set that has keys are a Setup's: drawn by a cursor behind the secrets they have its shape.
pub dealt-setup : (set : ParamSet) (words : List ℕ) → IsSet set → has_keys set ≡ true → IsSetup (key_body_of set words)
unfolding key_body_of
dealt-setup set words known keys =
    let N : ℕ = set.degree in
    let secret : Secrets = secrets_from set words 0 in
    let s : Poly = scalar_of N secret in
    let first : Cursor = record { words = words; used = secret_words set } in
    let lifts : Cursor = taken first (length (round_messages set s) * words_taken N 1) in
    let conversion : Cursor = taken lifts (length (lift_messages set s) * words_taken N set.n) in
    let last : Cursor = taken conversion (length (conversion_messages set s (under N secret set.pack)) * words_taken N (rows set)) in
    let a : List Cipher = [] ++ encrypted_all N words first.used (under N secret true) (round_messages set s) in
    let b : List Cipher = a ++ encrypted_all N words lifts.used (under N secret false) (lift_messages set s) in
    let c : List Cipher = b ++ encrypted_all N words conversion.used (under N secret set.pack) (conversion_messages set s (under N secret set.pack)) in
    let drawn =
    keys-drawn set secret first lifts conversion last [] a b c known refl (dealt-one set words 0 secret keys refl) (dealt-many set words 0 secret refl)
    (record { words = refl; ciphers = refl }) (record { words = refl; ciphers = refl }) (record { words = refl; ciphers = refl }) in
    subst (λ (ciphers : List Cipher). IsSetup (record { set = set; ciphers = ciphers })) (drawn.are ∙ keys-dealt set words secret first keys refl refl)
    drawn.shape

-- they are of the set
pub keys-set : (set : ParamSet) (words : List ℕ) → (key_body_of set words).set ≡ set
unfolding key_body_of
keys-set set words = refl

-- ---- the query

many_by : (pack : Bool) (s : Poly) (secrets : List Poly) (n : ℕ) → length secrets ≡ n → length (if pack then s ∷ [] else secrets) ≡ (if pack then 1 else n)
many_by true s secrets n many = refl
many_by false s secrets n many = many

-- as many secrets as rows
row_secrets-many : (set : ParamSet) (words : List ℕ) → length (row_secrets set words) ≡ rows set
row_secrets-many set words =
    many_by set.pack (scalar_secret set words) (map (secret_poly set.degree) (secret_rows set words)) set.n
    (length-map (secret_rows set words) (secret_poly set.degree) ∙ (dealt_secrets set words).count)

-- The query that words deal for any index is a Query's.
pub dealt-query : (set : ParamSet) (words : List ℕ) (index : ℕ) → IsSet set → IsQuery (query_body_of set words index)
unfolding query_body_of
dealt-query set words index known =
    elim (cases_Bool set.direct) [
      | inl direct ↦
          query-shape set words (query_words set) (row_secrets set words) index (query_of set words index) known direct (row_secrets-many set words)
          (query_of-sent set words index direct)
      | inr expands ↦
          one-shape set words (query_words set) (scalar_secret set words ∷ []) (query_poly set index ∷ []) (query_of set words index) known expands refl refl
          (query_of-expanded set words index expands)
    ]

-- it is of the set
pub query-set : (set : ParamSet) (words : List ℕ) (index : ℕ) → (query_body_of set words index).set ≡ set
unfolding query_body_of
query-set set words index = refl

-- What is drawn, part by part, is what the words give.
use Rattle.std.proofs.Common.{◌≡◌, ℕ, ◌+◌, ◌*◌, Bool, true, false, ℤ, List, [], ◌∷◌, Option, Some, None, length, get_or, if◌then◌else◌, refl, sym, ◌∙◌, ap, arith, subst}
use Rattle.std.specs.List.{flat_map}
use Rattle.std.specs.Option.{option_map}
use Rattle.std.specs.Prelude.{IfSome, slice_index_or}
use Rattle.std.proofs.lemmas.Bool.{true≢false}
use Rattle.std.proofs.lemmas.List.{length-map}
use Rattle.std.proofs.lemmas.List.FromFn.{length-map-range_with_len}
use Rattle.negacyclic.proofs.Lists.{same_range}
use Rattle.spiral_sets.specs.declared.param_set.ParamSet.{ParamSet}
use Rattle.spiral_sets.specs.Sets.{rows, has_keys}
use Rattle.spiral_sets.specs.Counts.{secret_words, setup_ciphertexts, words_of}
use Rattle.spiral_model.specs.Words.{Poly, Cipher}
use Rattle.spiral_model.specs.Sampling.{secret_numbers, secret_poly}
use Rattle.spiral_model.specs.Ciphertexts.{encrypted_all}
use Rattle.spiral_model.specs.Replies.{QueryState}
use Rattle.spiral_model.specs.Bodies.{CipherBody, IsSetup}
use Rattle.spiral_model.specs.KeySwitching.{DigitKey}
use Rattle.spiral_model.specs.Keys.{SetKeys, keys_in, lift_keys}
use Rattle.spiral_model.specs.Answering.{Ready, ready_of}
use Rattle.spiral_model.specs.Noise.{NoiseRow, first_noise, gsw_noise, lift_noise, noise_bound, secret_weight, scalar_row, packing_noise, polys_of, ready_secrets, report_row, report_of, dealt_report}
use Rattle.spiral_model.specs.Queries.{query_messages, query_poly}
use Rattle.spiral_model.specs.Dealing.{scalar_secret, secret_rows, secret_polys, row_secrets, query_words, query_of, dealt_keys, state_of, key_body_of, query_body_of}
use Rattle.regev_code.specs.Seen.{Secrets, Cursor}
use Rattle.regev_code.specs.Shapes.{under, scalar_of, secrets_from, taken}
use Rattle.regev_code.proofs.Secrets.{secrets_from-rows}
use Rattle.gsw_code.specs.Columns.{row_secrets_of}
use Rattle.key_deal.specs.DealtKeys.{keys_behind}
use Rattle.key_deal.proofs.WholeKeys.{dealt-scalar, dealt-one, dealt-rows, keys-dealt}
use Rattle.regev_code.specs.KeyShapes.{AreKeysFor}
use Rattle.noise_check.specs.declared.reported.Report.{Report}
use Rattle.noise_check.specs.Reports.{IsReport}
use Rattle.pir_client.specs.Asks.{setup_body}
use Rattle.pir_client.proofs.SetNumbers.{query_of-sent, query_of-expanded, expanding-keys, packing-keys, keyless-kind}

-- ---- the secrets

-- the scalar secret is one
pub scalar-one : (set : ParamSet) (N : ℕ) (words : List ℕ) (secret : Secrets) → N ≡ set.degree → has_keys set ≡ true → secret ≡ secrets_from set words 0
    → length (under N secret true) ≡ 1
scalar-one set N words secret degree keys drawn =
    ap (λ (n : ℕ). length (under n secret true)) degree ∙ ap (λ (xs : List Poly). length xs) (dealt-scalar set words secret keys drawn)

-- and the others are n.
pub rows-count : (set : ParamSet) (N : ℕ) (words : List ℕ) (start : ℕ) (secret : Secrets) → secret ≡ secrets_from set words start
    → length (under N secret false) ≡ set.n
rows-count set N words start secret is =
    length-map secret.rows (secret_poly N)
    ∙ ap (λ (s : Secrets). length s.rows) is
    ∙ length-map-range_with_len (λ r. secret_numbers set.degree words (start + (if has_keys set then set.degree else 0) + r * set.degree)) 0 set.n

row_count-by : (set : ParamSet) (pack : Bool) (words : List ℕ) (start : ℕ) (secret : Secrets) → set.pack ≡ pack → secret ≡ secrets_from set words start
    → length (under set.degree secret pack) ≡ (if pack then 1 else set.n)
row_count-by set true words start secret packs is = dealt-one set words start secret (packing-keys set packs) is
row_count-by set false words start secret plain is = rows-count set set.degree words start secret is

-- Under the scalar secret alone the ciphertexts of a set stand that packs, under the others those of another.
pub row_secrets-count : (set : ParamSet) (words : List ℕ) (start : ℕ) (secret : Secrets) → secret ≡ secrets_from set words start
    → length (row_secrets_of set secret) ≡ rows set
row_secrets-count set words start secret is = row_count-by set set.pack words start secret refl is

row_secrets-by : (set : ParamSet) (pack : Bool) (words : List ℕ) (secret : Secrets) → set.pack ≡ pack → secret ≡ secrets_from set words 0
    → under set.degree secret pack ≡ (if pack then scalar_secret set words ∷ [] else secret_polys set words)
row_secrets-by set true words secret packs drawn = dealt-scalar set words secret (packing-keys set packs) drawn
row_secrets-by set false words secret plain drawn = dealt-rows set words secret drawn

row_secrets-dealt : (set : ParamSet) (words : List ℕ) (secret : Secrets) → secret ≡ secrets_from set words 0 → row_secrets_of set secret ≡ row_secrets set words
row_secrets-dealt set words secret drawn = row_secrets-by set set.pack words secret refl drawn

-- the secrets at the front of the words
pub first-secrets : (set : ParamSet) (words : List ℕ) (secret : Secrets) (first : Cursor) → first ≡ record { words = words; used = 0 }
    → secret ≡ secrets_from set first.words first.used → secret ≡ secrets_from set words 0
first-secrets set words secret first front drawn = drawn ∙ ap (λ (d : Cursor). secrets_from set d.words d.used) front

-- and the place behind them
pub behind-secrets : (words : List ℕ) (count : ℕ) (first draw : Cursor) → first ≡ record { words = words; used = 0 } → draw ≡ taken first count
    → draw ≡ record { words = words; used = count }
behind-secrets words count first draw front at =
    let place : 0 + count ≡ count = omega arith in
    at ∙ ap (λ (d : Cursor). taken d count) front ∙ ap {A = ℕ} {B = Cursor} (λ n. record { words = words; used = n }) place

-- The secrets are those of the words of any cursor over them.
pub secrets-at : (set : ParamSet) (words : List ℕ) (secret : Secrets) (draw : Cursor) (count : ℕ) → draw ≡ record { words = words; used = count }
    → secret ≡ secrets_from set words 0
    → secret ≡ secrets_from set draw.words 0
secrets-at set words secret draw count at drawn = drawn ∙ sym (ap (λ (d : Cursor). secrets_from set d.words 0) at)

pub state-drawn : (set : ParamSet) (words : List ℕ) (index : ℕ) (secret : Secrets) (state : QueryState) → secret ≡ secrets_from set words 0
    → state ≡ record { set = set; index = index; secret = flat_map (λ row. row) secret.rows } → state ≡ state_of set words index
unfolding state_of
state-drawn set words index secret state drawn is =
    is
    ∙ ap {A = List (List ℤ)} {B = QueryState} (λ rs. record { set = set; index = index; secret = flat_map (λ row. row) rs })
    (ap (λ (s : Secrets). s.rows) drawn ∙ secrets_from-rows set words)

-- ---- the keys

body_is : (set : ParamSet) (ciphers : List Cipher) (body : CipherBody) → body.set ≡ set → body.ciphers ≡ ciphers
    → body ≡ record { set = set; ciphers = ciphers }
body_is set ciphers body of_set are =
    ap {A = ParamSet} {B = CipherBody} (λ s. record { set = s; ciphers = body.ciphers }) of_set
    ∙ ap {A = List Cipher} {B = CipherBody} (λ cs. record { set = set; ciphers = cs }) are

cursor_is : (draw : Cursor) (count : ℕ) → draw.used ≡ count → draw ≡ record { words = draw.words; used = count }
cursor_is draw count at = ap {A = ℕ} {B = Cursor} (λ n. record { words = draw.words; used = n }) at

-- Keys drawn behind the secrets are those that the words deal,
pub keys-drawn : (set : ParamSet) (secret : Secrets) (draw : Cursor) (body : CipherBody) → has_keys set ≡ true → secret ≡ secrets_from set draw.words 0
    → draw.used ≡ secret_words set → body.set ≡ set → body.ciphers ≡ keys_behind set secret draw → Some body ≡ setup_body set draw.words
unfolding setup_body key_body_of
keys-drawn set secret draw body keys drawn at of_set are =
    let whole = body_is set _ body of_set (are ∙ keys-dealt set draw.words secret draw keys drawn (cursor_is draw (secret_words set) at)) in
    ap {A = CipherBody} {B = Option CipherBody} (λ b. Some b) whole
    ∙ sym (ap {A = Bool} {B = Option CipherBody} (λ b. if b then Some (key_body_of set draw.words) else None) keys)

-- and a set without keys has none,
pub keys-none : (set : ParamSet) (words : List ℕ) → has_keys set ≡ false → None ≡ setup_body set words
unfolding setup_body
keys-none set words none = sym (ap {A = Bool} {B = Option CipherBody} (λ b. if b then Some (key_body_of set words) else None) none)

-- so that the query stands where the secrets end.
pub words-none : (set : ParamSet) → has_keys set ≡ false → words_of set (setup_ciphertexts set) ≡ 0
words-none set none = let kind = keyless-kind set none in rw (kind.0, kind.1) refl

-- as they are dealt from a cursor over the words
pub setup-at : (set : ParamSet) (words : List ℕ) (count : ℕ) (draw : Cursor) (setup : Option CipherBody) → draw ≡ record { words = words; used = count }
    → setup ≡ setup_body set draw.words → setup ≡ setup_body set words
setup-at set words count draw setup at is = is ∙ ap (λ (d : Cursor). setup_body set d.words) at

-- The place behind the keys.
pub behind-keys : (set : ParamSet) (words : List ℕ) (count : ℕ) (draw new : Cursor) → draw ≡ record { words = words; used = count }
    → new ≡ record { words = draw.words; used = query_words set } → new ≡ record { words = words; used = query_words set }
behind-keys set words count draw new at is = is ∙ ap {A = Cursor} {B = Cursor} (λ d. record { words = d.words; used = query_words set }) at

-- where the query begins
pub place-behind : (set : ParamSet) (draw new : Cursor) → draw.used ≡ secret_words set → new ≡ taken draw (words_of set (setup_ciphertexts set))
    → new ≡ record { words = draw.words; used = query_words set }
place-behind set draw new at is =
    is ∙ ap {A = ℕ} {B = Cursor} (λ n. record { words = draw.words; used = n + words_of set (setup_ciphertexts set) }) at

pub place-same : (set : ParamSet) (draw : Cursor) → has_keys set ≡ false → draw.used ≡ secret_words set
    → draw ≡ record { words = draw.words; used = query_words set }
place-same set draw none at =
    let empty = words-none set none in
    let place : draw.used ≡ query_words set = omega (arith, at, empty) in
    cursor_is draw (query_words set) place

-- ---- the query

-- as it is sent
pub query-sent : (set : ParamSet) (index : ℕ) (secret : Secrets) (draw : Cursor) (query : CipherBody) → set.direct ≡ true
    → secret ≡ secrets_from set draw.words 0 → draw.used ≡ query_words set → query.set ≡ set
    → query.ciphers ≡ encrypted_all set.degree draw.words draw.used (row_secrets_of set secret) (query_messages set (row_secrets_of set secret) index)
    → query ≡ query_body_of set draw.words index
unfolding query_body_of
query-sent set index secret draw query direct drawn at of_set is =
    let E : ℕ → List Poly → List Cipher = λ p s. encrypted_all set.degree draw.words p s (query_messages set s index) in
    body_is set _ query of_set
    (is ∙ ap (E draw.used) (row_secrets-dealt set draw.words secret drawn) ∙ ap (λ (p : ℕ). E p (row_secrets set draw.words)) at
    ∙ sym (query_of-sent set draw.words index direct))

-- and where it is expanded
pub query-expanded : (set : ParamSet) (N index : ℕ) (secret : Secrets) (draw : Cursor) (query : CipherBody) → N ≡ set.degree → set.direct ≡ false
    → secret ≡ secrets_from set draw.words 0 → draw.used ≡ query_words set → query.set ≡ set
    → query.ciphers ≡ encrypted_all set.degree draw.words draw.used (under N secret true) ((query_poly set index ∷ []) ∷ [])
    → query ≡ query_body_of set draw.words index
unfolding query_body_of
query-expanded set N index secret draw query degree expands drawn at of_set is =
    let E : ℕ → List Poly → List Cipher = λ p s. encrypted_all set.degree draw.words p s ((query_poly set index ∷ []) ∷ []) in
    let scalar : under N secret true ≡ scalar_secret set draw.words ∷ [] =
    ap (λ (n : ℕ). under n secret true) degree ∙ dealt-scalar set draw.words secret (expanding-keys set expands) drawn in
    body_is set _ query of_set
    (is ∙ ap (E draw.used) scalar ∙ ap (λ (p : ℕ). E p (scalar_secret set draw.words ∷ [])) at ∙ sym (query_of-expanded set draw.words index expands))

-- as it is dealt from a cursor over the words
pub query-at : (set : ParamSet) (words : List ℕ) (index count : ℕ) (draw : Cursor) (query : CipherBody) → draw ≡ record { words = words; used = count }
    → query ≡ query_body_of set draw.words index → query ≡ query_body_of set words index
query-at set words index count draw query at is = is ∙ ap (λ (d : Cursor). query_body_of set d.words index) at

-- it is of the set
pub query-set : (set : ParamSet) (words : List ℕ) (index : ℕ) (query : CipherBody) → query ≡ query_body_of set words index → query.set ≡ set
unfolding query_body_of
query-set set words index query is = ap (λ (b : CipherBody). b.set) is

-- ---- the keys in product form

-- what is needed of keys that there are
abbrev pub Formed : ℕ → CipherBody → Type 0
Formed N body = (has_keys body.set ≡ true) × (N ≡ body.set.degree) × IsSetup body

formed-by : (set : ParamSet) (has : Bool) (N : ℕ) (other : CipherBody) (setup : Option CipherBody) → has_keys set ≡ has → N ≡ set.degree → other.set ≡ set
    → setup ≡ (if has then Some other else None) → IfSome setup (λ body. IsSetup body) → IfSome setup (λ body. Formed N body)
formed-by set has N other None keys degree of_set is shape = tt
formed-by set false N other (Some body) keys degree of_set is shape = absurd (cc)
formed-by set true N other (Some body) keys degree of_set is shape =
    let same : body ≡ other = cc in
    let set_is : body.set ≡ set = ap (λ (b : CipherBody). b.set) same ∙ of_set in
    (ap (λ (s : ParamSet). has_keys s) set_is ∙ keys, degree ∙ sym (ap (λ (s : ParamSet). s.degree) set_is), shape)

pub keys-formed : (set : ParamSet) (N : ℕ) (words : List ℕ) (setup sent : Option CipherBody) → N ≡ set.degree → sent ≡ setup → setup ≡ setup_body set words
    → IfSome setup (λ body. IsSetup body) → IfSome sent (λ body. Formed N body)
unfolding setup_body key_body_of
keys-formed set N words setup sent degree same is shape =
    subst (λ (x : Option CipherBody). IfSome x (λ body. Formed N body)) (sym same)
    (formed-by set (has_keys set) N (key_body_of set words) setup refl degree refl is shape)

keys_where : (has : Bool) (body : CipherBody) → option_map keys_in (if has then Some body else None) ≡ (if has then Some (keys_in body) else None)
keys_where true body = refl
keys_where false body = refl

-- They are the keys as a server uses them.
pub keys-are : (set : ParamSet) (words : List ℕ) (setup sent : Option CipherBody) (keys used : Option SetKeys) → setup ≡ setup_body set words → sent ≡ setup
    → keys ≡ option_map keys_in sent → used ≡ keys → used ≡ dealt_keys set words
unfolding setup_body dealt_keys
keys-are set words setup sent keys used is same formed lent =
    lent ∙ formed ∙ ap (option_map keys_in) (same ∙ is) ∙ keys_where (has_keys set) (key_body_of set words)

asked_by : (set : ParamSet) (has : Bool) (body : CipherBody) → has_keys set ≡ has → body.set ≡ set → AreKeysFor set (if has then Some (keys_in body) else None)
unfolding keys_in
asked_by set true body keys of_set = λ some. of_set
asked_by set false body keys of_set = keys

-- A query is made ready with them.
pub keys-asked : (set : ParamSet) (words : List ℕ) (used : Option SetKeys) → used ≡ dealt_keys set words → AreKeysFor set used
unfolding dealt_keys key_body_of
keys-asked set words used are = subst (λ (keys : Option SetKeys). AreKeysFor set keys) (sym are) (asked_by set (has_keys set) (key_body_of set words) refl refl)

-- ---- the query's noise

-- a row of the report, by its secrets and the noise of packing
abbrev row_of : ParamSet → List Poly → ℕ → Ready → ℕ → List (List ℤ) → ℕ → NoiseRow
row_of set secrets index ready packing numbers row = record {
  noise = noise_bound set (first_noise set secrets index ready.firsts (scalar_row set row)) (gsw_noise set secrets index ready.gsws (scalar_row set row))
      packing;
  weight = secret_weight (slice_index_or numbers row []);
}

one_or_other : {A : Type 0} (b : Bool) (x y z : A) → b ≡ false → (if b then x else z) ≡ (if b then y else z)
one_or_other true x y z off = absurd (true≢false off)
one_or_other false x y z off = refl

-- where the set doesn't pack a row has nothing of the scalar secret,
row-plain : (set : ParamSet) (s t : Poly) (numbers : List (List ℤ)) (index : ℕ) (lift : List DigitKey) (ready : Ready) (row : ℕ) → set.pack ≡ false
    → report_row set s numbers index lift ready row ≡ report_row set t numbers index lift ready row
unfolding report_row
row-plain set s t numbers index lift ready row plain =
    let polys = polys_of set numbers in
    let of_ready : List Poly → NoiseRow = λ secrets. row_of set secrets index ready (packing_noise set s polys lift row) numbers row in
    ap of_ready (one_or_other set.pack (s ∷ []) (t ∷ []) polys plain)
    ∙ ap (λ (k : ℕ). row_of set (ready_secrets set t numbers) index ready k numbers row)
    (one_or_other set.pack (lift_noise set s polys lift row) (lift_noise set t polys lift row) 0 plain)

report-plain : (set : ParamSet) (s t : Poly) (numbers : List (List ℤ)) (index : ℕ) (lift : List DigitKey) (ready : Ready) → set.pack ≡ false
    → report_of set s numbers index lift ready ≡ report_of set t numbers index lift ready
unfolding report_of
report-plain set s t numbers index lift ready plain =
    same_range (report_row set s numbers index lift ready) (report_row set t numbers index lift ready) set.n
    (λ row h. row-plain set s t numbers index lift ready row plain)

-- and where it has keys the scalar secret is the words',
scalar-by : (set : ParamSet) (has : Bool) (words : List ℕ) (secret : Secrets) (numbers : List (List ℤ)) (index : ℕ) (lift : List DigitKey) (ready : Ready)
    → has_keys set ≡ has
    → secret ≡ secrets_from set words 0
    → report_of set (scalar_of set.degree secret) numbers index lift ready ≡ report_of set (scalar_secret set words) numbers index lift ready
scalar-by set true words secret numbers index lift ready keys drawn =
    let scalar : scalar_of set.degree secret ≡ scalar_secret set words = ap (λ (xs : List Poly). get_or xs 0 []) (dealt-scalar set words secret keys drawn) in
    ap (λ (s : Poly). report_of set s numbers index lift ready) scalar
scalar-by set false words secret numbers index lift ready none drawn =
    report-plain set (scalar_of set.degree secret) (scalar_secret set words) numbers index lift ready (keyless-kind set none).1

-- so that the report of a query made ready with the keys is that of the words.
pub report-dealt : (set : ParamSet) (words : List ℕ) (index : ℕ) (secret : Secrets) (query : CipherBody) (keys : Option SetKeys) (report : Report)
    → secret ≡ secrets_from set words 0
    → query ≡ query_body_of set words index → keys ≡ dealt_keys set words
    → IsReport set (report_of set (scalar_of set.degree secret) secret.rows index (lift_keys keys) (ready_of set keys query.ciphers)) report
    → IsReport set (dealt_report set words index) report
unfolding dealt_report query_body_of
report-dealt set words index secret query keys report drawn of_words are is =
    let s : Poly = scalar_secret set words in
    let rows : secret.rows ≡ secret_rows set words = ap (λ (x : Secrets). x.rows) drawn ∙ secrets_from-rows set words in
    let ciphers : query.ciphers ≡ query_of set words index = ap (λ (b : CipherBody). b.ciphers) of_words in
    let Of : List (List ℤ) → Option SetKeys → List Cipher → List NoiseRow =
    λ numbers sent cs. report_of set s numbers index (lift_keys sent) (ready_of set sent cs) in
    let same : report_of set (scalar_of set.degree secret) secret.rows index (lift_keys keys) (ready_of set keys query.ciphers)
    ≡ Of (secret_rows set words) (dealt_keys set words) (query_of set words index) =
    scalar-by set (has_keys set) words secret secret.rows index (lift_keys keys) (ready_of set keys query.ciphers) refl drawn
    ∙ ap (λ (numbers : List (List ℤ)). Of numbers keys query.ciphers) rows
    ∙ ap (λ (sent : Option SetKeys). Of (secret_rows set words) sent query.ciphers) are
    ∙ ap (Of (secret_rows set words) (dealt_keys set words)) ciphers in
    subst (λ (xs : List NoiseRow). IsReport set xs report) same is

-- Words past the needed ones change nothing: what is dealt depends on the words before the place that it ends at.
use Rattle.std.proofs.Common.{◌≡◌, ℕ, suc, ◌+◌, ◌*◌, ◌<◌, ◌≤◌, Bool, true, false, ℤ, List, [], ◌∷◌, ◌++◌, Option, Some, None, length, map, get_or, take, All, if◌then◌else◌, refl, sym, ◌∙◌, ap, arith, mul-le-mul_right}
use Rattle.std.proofs.lemmas.List.Elements.{All-nil, All-cons, All-head, All-tail}
use Rattle.std.proofs.lemmas.List.{get_or-take, length-map}
use Rattle.std.proofs.lemmas.List.FromFn.{length-map-range_with_len}
use Rattle.std.specs.List.{range_with_len, flat_map}
use Rattle.negacyclic.proofs.Lists.{same_range}
use Rattle.negacyclic.proofs.Stands.{reduced_same}
use Rattle.spiral_sets.specs.declared.param_set.ParamSet.{ParamSet}
use Rattle.spiral_sets.specs.Sets.{IsSet, q, rows, has_keys}
use Rattle.spiral_sets.proofs.SetBounds.{n-some}
use Rattle.spiral_sets.specs.Counts.{Ciphertexts, ciphertext_count, words_of, secret_words, round_ciphertexts, lift_ciphertexts, conversion_ciphertexts, setup_ciphertexts, query_ciphertexts, words_needed}
use Rattle.spiral_model.specs.Words.{Poly, Cipher}
use Rattle.spiral_model.specs.Sampling.{uniform_number, uniform_poly, error_number, error_poly, secret_number, secret_numbers, secret_poly}
use Rattle.spiral_model.specs.Ciphertexts.{encrypted_row, encrypted_rows, encrypted, encrypted_all, words_taken}
use Rattle.spiral_model.specs.Replies.{QueryState}
use Rattle.spiral_model.specs.Bodies.{CipherBody}
use Rattle.spiral_model.specs.Keys.{SetKeys, keys_in, lift_keys}
use Rattle.spiral_model.specs.Answering.{ready_of}
use Rattle.spiral_model.specs.Noise.{NoiseRow, report_of, dealt_report}
use Rattle.spiral_model.specs.Dealing.{scalar_secret, secret_rows, secret_polys, row_secrets, round_messages, lift_messages, conversion_messages, query_words, keys_of, query_of, dealt_keys, state_of, key_body_of, query_body_of}
use Rattle.spiral_model.specs.Queries.{query_messages, query_poly}
use Rattle.spiral_frames.specs.Frames.{setup_message, frame_of}
use Rattle.regev_code.proofs.MessageLists.{AreLists}
use Rattle.key_deal.specs.DealtKeys.{keys_from}
use Rattle.key_deal.proofs.Counted.{HaveRows, words-are, round-rows, lift-rows, conversion-rows, setup-words}
use Rattle.key_deal.proofs.RoundKeys.{round-lists}
use Rattle.key_deal.proofs.LiftMessages.{lift-lists}
use Rattle.key_deal.proofs.Conversions.{conversion-lists}
use Rattle.key_deal.proofs.WholeKeys.{keys_from-of}
use Rattle.pir_client.specs.Asks.{setup_frame}
use Rattle.pir_client.proofs.SetNumbers.{query_count-words, query_words-one, query_of-sent, query_of-expanded}
use Rattle.pir_client.proofs.MessageLists.{query-lists}

-- the same words before place k
pub record Agree (k : ℕ) (u v : List ℕ) : Type 0 where
  pub word : (j : ℕ) → j < k → get_or u j 0 ≡ get_or v j 0

pub front-agrees : (k : ℕ) (words : List ℕ) → Agree k (take k words) words
front-agrees k words = record { word = λ j h. get_or-take k words j 0 h }

uniform-same : (N k : ℕ) (u v : List ℕ) (start : ℕ) → Agree k u v → start + 2 * N ≤ k → uniform_poly N u start ≡ uniform_poly N v start
unfolding uniform_poly
uniform-same N k u v start same h =
    same_range (λ i. uniform_number (get_or u (start + 2 * i) 0) (get_or u (start + 2 * i + 1) 0))
    (λ i. uniform_number (get_or v (start + 2 * i) 0) (get_or v (start + 2 * i + 1) 0)) N
    (λ i g.
    let high = same.word (start + 2 * i) (omega arith) in
    let low = same.word (start + 2 * i + 1) (omega arith) in
    ap (λ (x : ℕ). uniform_number x (get_or u (start + 2 * i + 1) 0)) high ∙ ap (λ (x : ℕ). uniform_number (get_or v (start + 2 * i) 0) x) low)

error-same : (N k : ℕ) (u v : List ℕ) (start : ℕ) → Agree k u v → start + N ≤ k → error_poly N u start ≡ error_poly N v start
unfolding error_poly
error-same N k u v start same h =
    reduced_same q N (λ i. error_number (get_or u (start + i) 0)) (λ i. error_number (get_or v (start + i) 0))
    (λ i g. ap (λ (x : ℕ). error_number x) (same.word (start + i) (omega arith)))

secret-same : (N k : ℕ) (u v : List ℕ) (start : ℕ) → Agree k u v → start + N ≤ k → secret_numbers N u start ≡ secret_numbers N v start
unfolding secret_numbers
secret-same N k u v start same h =
    same_range (λ i. secret_number (get_or u (start + i) 0)) (λ i. secret_number (get_or v (start + i) 0)) N
    (λ i g. ap (λ (x : ℕ). secret_number x) (same.word (start + i) (omega arith)))

rows-same : (N k : ℕ) (u v : List ℕ) (start : ℕ) (a : List ℕ) (secrets messages : List Poly) → Agree k u v → start + length messages * N ≤ k
    → encrypted_rows N u start a secrets messages ≡ encrypted_rows N v start a secrets messages
unfolding encrypted_rows
rows-same N k u v start a [] messages same h = refl
rows-same N k u v start a (s ∷ secrets) [] same h = refl
rows-same N k u v start a (s ∷ secrets) (m ∷ messages) same h =
    let first = error-same N k u v start same (omega arith) in
    let rest = rows-same N k u v (start + N) a secrets messages same (omega arith) in
    ap (λ (e : List ℕ). encrypted_row N a s e m ∷ encrypted_rows N u (start + N) a secrets messages) first
    ∙ ap (λ (cs : List Poly). encrypted_row N a s (error_poly N v start) m ∷ cs) rest

encrypted-same : (N k : ℕ) (u v : List ℕ) (start : ℕ) (secrets messages : List Poly) → Agree k u v → start + words_taken N (length messages) ≤ k
    → encrypted N u start secrets messages ≡ encrypted N v start secrets messages
unfolding encrypted
encrypted-same N k u v start secrets messages same h =
    let uniform = uniform-same N k u v start same (omega arith) in
    ap (λ (a : List ℕ). a ∷ encrypted_rows N u (start + 2 * N) a secrets messages) uniform
    ∙ ap (λ (cs : List Poly). uniform_poly N v start ∷ cs) (rows-same N k u v (start + 2 * N) (uniform_poly N v start) secrets messages same (omega arith))

all-same : (N m k : ℕ) (u v : List ℕ) (start : ℕ) (secrets : List Poly) (xs : List (List Poly)) → Agree k u v → All (λ x. length x ≡ m) xs
    → start + length xs * words_taken N m ≤ k → encrypted_all N u start secrets xs ≡ encrypted_all N v start secrets xs
unfolding encrypted_all
all-same N m k u v start secrets [] same all h = refl
all-same N m k u v start secrets (x ∷ xs) same all h =
    let count : length x ≡ m = All-head (λ (x : List Poly). length x ≡ m) x xs all in
    let rest = All-tail (λ (x : List Poly). length x ≡ m) x xs all in
    let T = words_taken N m in
    let size : words_taken N (length x) ≡ T = ap (λ (n : ℕ). words_taken N n) count in
    let first = encrypted-same N k u v start secrets x same (omega (arith, size, h)) in
    let others = all-same N m k u v (start + words_taken N (length x)) secrets xs same rest (omega (arith, size, h)) in
    ap (λ (c : Cipher). c ∷ encrypted_all N u (start + words_taken N (length x)) secrets xs) first
    ∙ ap (λ (cs : List Cipher). encrypted N v start secrets x ∷ cs) others

-- ---- the secrets

-- s_1 to s_n, whether the scalar secret stands before them or not
rows-same-by : (has : Bool) (N n k : ℕ) (u v : List ℕ) → Agree k u v → N * (n + (if has then 1 else 0)) ≤ k
    → map (λ r. secret_numbers N u ((if has then r + 1 else r) * N)) (range_with_len 0 n) ≡ map (λ r. secret_numbers N v ((if has then r + 1 else r) * N))
    (range_with_len 0 n)
rows-same-by true N n k u v same h =
    same_range (λ r. secret_numbers N u ((r + 1) * N)) (λ r. secret_numbers N v ((r + 1) * N)) n
    (λ r g.
    let within : suc (r + 1) ≤ n + 1 = omega arith in
    let most : suc (r + 1) * N ≤ (n + 1) * N = mul-le-mul_right N within in
    secret-same N k u v ((r + 1) * N) same (omega arith))
rows-same-by false N n k u v same h =
    same_range (λ r. secret_numbers N u (r * N)) (λ r. secret_numbers N v (r * N)) n
    (λ r g.
    let most : suc r * N ≤ n * N = mul-le-mul_right N g in
    secret-same N k u v (r * N) same (omega arith))

secret_rows-same : (set : ParamSet) (k : ℕ) (u v : List ℕ) → Agree k u v → secret_words set ≤ k → secret_rows set u ≡ secret_rows set v
unfolding secret_rows
secret_rows-same set k u v same h = rows-same-by (has_keys set) set.degree set.n k u v same h

secret_polys-same : (set : ParamSet) (k : ℕ) (u v : List ℕ) → Agree k u v → secret_words set ≤ k → secret_polys set u ≡ secret_polys set v
secret_polys-same set k u v same h = ap (λ (rs : List (List ℤ)). map (secret_poly set.degree) rs) (secret_rows-same set k u v same h)

-- the secrets' words are at least those of one secret
one_secret : (N n x : ℕ) → 1 ≤ n → N ≤ N * (n + x)
one_secret N n x some =
    let least : 1 ≤ n + x = omega arith in
    let most : 1 * N ≤ (n + x) * N = mul-le-mul_right N least in
    omega arith

-- the scalar secret
scalar-same : (set : ParamSet) (k : ℕ) (u v : List ℕ) → IsSet set → Agree k u v → secret_words set ≤ k → scalar_secret set u ≡ scalar_secret set v
unfolding scalar_secret
scalar-same set k u v known same h =
    let one : 1 ≤ set.n = omega (arith, n-some set known) in
    let first : set.degree ≤ secret_words set = one_secret set.degree set.n (if has_keys set then 1 else 0) one in
    ap (secret_poly set.degree) (secret-same set.degree k u v 0 same (omega (arith, first, h)))

row_secrets-same : (set : ParamSet) (k : ℕ) (u v : List ℕ) → IsSet set → Agree k u v → secret_words set ≤ k → row_secrets set u ≡ row_secrets set v
row_secrets-same set k u v known same h =
    ap (λ (s : Poly). if set.pack then s ∷ [] else secret_polys set u) (scalar-same set k u v known same h)
    ∙ ap (λ (secrets : List Poly). if set.pack then scalar_secret set v ∷ [] else secrets) (secret_polys-same set k u v same h)

-- how many secrets a set's ciphertexts stand under
length-secret_polys : (set : ParamSet) (words : List ℕ) → length (secret_polys set words) ≡ set.n
unfolding secret_rows
length-secret_polys set words =
    length-map (secret_rows set words) (secret_poly set.degree)
    ∙ length-map-range_with_len (λ r. secret_numbers set.degree words ((if has_keys set then r + 1 else r) * set.degree)) 0 set.n

rows-many : (b : Bool) (s : Poly) (secrets : List Poly) (n : ℕ) → length secrets ≡ n → length (if b then s ∷ [] else secrets) ≡ (if b then 1 else n)
rows-many true s secrets n many = refl
rows-many false s secrets n many = many

length-row_secrets : (set : ParamSet) (words : List ℕ) → length (row_secrets set words) ≡ rows set
length-row_secrets set words = rows-many set.pack (scalar_secret set words) (secret_polys set words) set.n (length-secret_polys set words)

-- ---- the keys

-- The words of ciphertexts that all have as many rows.
run-words : (set : ParamSet) (m : ℕ) (cs : List Ciphertexts) (xs : List (List Poly)) → HaveRows m cs → AreLists m (ciphertext_count cs) xs
    → length xs * words_taken set.degree m ≡ words_of set cs
run-words set m cs xs same lists = ap (λ (n : ℕ). n * words_taken set.degree m) lists.many ∙ sym (words-are set m cs same)

-- a run of encryptions, from the words before the place that it ends at
run-same : (set : ParamSet) (m : ℕ) (cs : List Ciphertexts) (k : ℕ) (u v : List ℕ) (start : ℕ) (secrets : List Poly) (xs : List (List Poly)) → HaveRows m cs
    → AreLists m (ciphertext_count cs) xs → Agree k u v → start + words_of set cs ≤ k
    → encrypted_all set.degree u start secrets xs ≡ encrypted_all set.degree v start secrets xs
run-same set m cs k u v start secrets xs have lists same h =
    all-same set.degree m k u v start secrets xs same lists.each (let taken = run-words set m cs xs have lists in omega (arith, taken, h))

-- the three runs, under given secrets
runs-same : (set : ParamSet) (k : ℕ) (u v : List ℕ) (start : ℕ) (s : Poly) (secrets row_polys : List Poly) → length row_polys ≡ rows set → Agree k u v
    → start + words_of set (setup_ciphertexts set) ≤ k → keys_from set u start s secrets row_polys ≡ keys_from set v start s secrets row_polys
unfolding keys_from
runs-same set k u v start s secrets row_polys many same h =
    let N = set.degree in
    let sum = setup-words set in
    let lifts_start = start + words_of set (round_ciphertexts set) in
    let conversion_start = start + words_of set (round_ciphertexts set) + words_of set (lift_ciphertexts set) in
    let R : List ℕ → List Cipher = λ w. encrypted_all N w start (s ∷ []) (round_messages set s) in
    let L : List ℕ → List Cipher = λ w. encrypted_all N w lifts_start secrets (lift_messages set s) in
    let C : List ℕ → List Cipher = λ w. encrypted_all N w conversion_start row_polys (conversion_messages set s row_polys) in
    let rounds : R u ≡ R v =
    run-same set 1 (round_ciphertexts set) k u v start (s ∷ []) (round_messages set s) (round-rows set) (round-lists set s) same (omega (arith, sum, h)) in
    let lifts : L u ≡ L v =
    run-same set set.n (lift_ciphertexts set) k u v lifts_start secrets (lift_messages set s) (lift-rows set) (lift-lists set s) same (omega (arith, sum, h)) in
    let conversion : C u ≡ C v =
    run-same set (rows set) (conversion_ciphertexts set) k u v conversion_start row_polys (conversion_messages set s row_polys) (conversion-rows set)
    (conversion-lists set s row_polys many) same (omega (arith, sum, h)) in
    ap (λ (cs : List Cipher). cs ++ L u ++ C u) rounds
    ∙ ap (λ (cs : List Cipher). R v ++ cs ++ C u) lifts
    ∙ ap (λ (cs : List Cipher). R v ++ L v ++ cs) conversion

keys-same : (set : ParamSet) (k : ℕ) (u v : List ℕ) → IsSet set → Agree k u v → query_words set ≤ k → keys_of set u ≡ keys_of set v
keys-same set k u v known same h =
    let within : secret_words set ≤ k = omega (arith, h) in
    let K : List ℕ → Poly → List Poly → List Poly → List Cipher = λ w s secrets row_polys. keys_from set w (secret_words set) s secrets row_polys in
    sym (keys_from-of set u)
    ∙ ap (λ (s : Poly). K u s (secret_polys set u) (row_secrets set u)) (scalar-same set k u v known same within)
    ∙ ap (λ (secrets : List Poly). K u (scalar_secret set v) secrets (row_secrets set u)) (secret_polys-same set k u v same within)
    ∙ ap (λ (row_polys : List Poly). K u (scalar_secret set v) (secret_polys set v) row_polys) (row_secrets-same set k u v known same within)
    ∙ runs-same set k u v (secret_words set) (scalar_secret set v) (secret_polys set v) (row_secrets set v) (length-row_secrets set v) same (omega (arith, h))
    ∙ keys_from-of set v

dealt_keys-same : (set : ParamSet) (k : ℕ) (u v : List ℕ) → IsSet set → Agree k u v → query_words set ≤ k → dealt_keys set u ≡ dealt_keys set v
unfolding dealt_keys key_body_of
dealt_keys-same set k u v known same h =
    ap {A = List Cipher} {B = Option SetKeys} (λ cs. if has_keys set then Some (keys_in (record { set = set; ciphers = cs })) else None)
    (keys-same set k u v known same h)

-- ---- the query

query-same-by : (set : ParamSet) (direct : Bool) (k : ℕ) (u v : List ℕ) (index : ℕ) → set.direct ≡ direct → IsSet set → Agree k u v → words_needed set ≤ k
    → query_of set u index ≡ query_of set v index
query-same-by set true k u v index direct known same h =
    let N = set.degree in
    let secrets = row_secrets set v in
    let messages = query_messages set secrets index in
    let lists = query-lists set secrets index direct in
    let words : length messages * words_taken N (rows set) ≡ words_of set (query_ciphertexts set) =
    ap (λ (n : ℕ). n * words_taken N (rows set)) lists.many ∙ query_count-words set direct in
    let within : query_words set + length messages * words_taken N (rows set) ≤ k = omega (arith, words, h) in
    query_of-sent set u index direct
    ∙ ap (λ (s : List Poly). encrypted_all N u (query_words set) s (query_messages set s index)) (row_secrets-same set k u v known same (omega (arith, h)))
    ∙ all-same N (rows set) k u v (query_words set) secrets messages same lists.each within
    ∙ sym (query_of-sent set v index direct)
query-same-by set false k u v index expands known same h =
    let N = set.degree in
    let messages : List (List Poly) = (query_poly set index ∷ []) ∷ [] in
    let each : All (λ (x : List Poly). length x ≡ 1) messages =
    All-cons (λ (x : List Poly). length x ≡ 1) (query_poly set index ∷ []) [] refl (All-nil (λ (x : List Poly). length x ≡ 1)) in
    let words = query_words-one set expands in
    let within : query_words set + length messages * words_taken N 1 ≤ k = omega (arith, words, h) in
    query_of-expanded set u index expands
    ∙ ap (λ (s : Poly). encrypted_all N u (query_words set) (s ∷ []) messages) (scalar-same set k u v known same (omega (arith, h)))
    ∙ all-same N 1 k u v (query_words set) (scalar_secret set v ∷ []) messages same each within
    ∙ sym (query_of-expanded set v index expands)

query-same : (set : ParamSet) (k : ℕ) (u v : List ℕ) (index : ℕ) → IsSet set → Agree k u v → words_needed set ≤ k → query_of set u index ≡ query_of set v index
query-same set k u v index known same h = query-same-by set set.direct k u v index refl known same h

-- ---- what a client makes of words is what it makes of the first of them

pub state-front : (set : ParamSet) (k : ℕ) (words : List ℕ) (index : ℕ) → words_needed set ≤ k → state_of set words index ≡ state_of set (take k words) index
unfolding state_of
state-front set k words index h =
    ap {A = List (List ℤ)} {B = QueryState} (λ rs. record { set = set; index = index; secret = flat_map (λ row. row) rs })
    (sym (secret_rows-same set k (take k words) words (front-agrees k words) (omega (arith, h))))

-- the keys' Setup frame
pub keys-front : (set : ParamSet) (k : ℕ) (words : List ℕ) → IsSet set → words_needed set ≤ k → setup_frame set words ≡ setup_frame set (take k words)
unfolding setup_frame key_body_of
keys-front set k words known h =
    ap {A = List Cipher} {B = List ℕ} (λ cs. if has_keys set then frame_of (setup_message (record { set = set; ciphers = cs })) else [])
    (sym (keys-same set k (take k words) words known (front-agrees k words) (omega (arith, h))))

pub query-front : (set : ParamSet) (k : ℕ) (words : List ℕ) (index : ℕ) → IsSet set → words_needed set ≤ k
    → query_body_of set words index ≡ query_body_of set (take k words) index
unfolding query_body_of
query-front set k words index known h =
    ap {A = List Cipher} {B = CipherBody} (λ cs. record { set = set; ciphers = cs })
    (sym (query-same set k (take k words) words index known (front-agrees k words) h))

-- The noise of what words deal is that of what the first of them deal.
pub report-front : (set : ParamSet) (k : ℕ) (words : List ℕ) (index : ℕ) → IsSet set → words_needed set ≤ k
    → dealt_report set words index ≡ dealt_report set (take k words) index
unfolding dealt_report
report-front set k words index known h =
    let front : List ℕ = take k words in
    let same = front-agrees k words in
    let within : secret_words set ≤ k = omega (arith, h) in
    let scalar : scalar_secret set front ≡ scalar_secret set words = scalar-same set k front words known same within in
    let rows : secret_rows set front ≡ secret_rows set words = secret_rows-same set k front words same within in
    let query : query_of set front index ≡ query_of set words index = query-same set k front words index known same h in
    let keys : dealt_keys set front ≡ dealt_keys set words = dealt_keys-same set k front words known same (omega (arith, h)) in
    let Of : Poly → List (List ℤ) → Option SetKeys → List Cipher → List NoiseRow =
    λ s numbers sent ciphers. report_of set s numbers index (lift_keys sent) (ready_of set sent ciphers) in
    ap (λ (s : Poly). Of s (secret_rows set words) (dealt_keys set words) (query_of set words index)) (sym scalar)
    ∙ ap (λ (numbers : List (List ℤ)). Of (scalar_secret set front) numbers (dealt_keys set words) (query_of set words index)) (sym rows)
    ∙ ap (λ (sent : Option SetKeys). Of (scalar_secret set front) (secret_rows set front) sent (query_of set words index)) (sym keys)
    ∙ ap (λ (ciphers : List Cipher). Of (scalar_secret set front) (secret_rows set front) (dealt_keys set front) ciphers) (sym query)

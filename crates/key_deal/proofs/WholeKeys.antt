-- The keys of a set as they are drawn: their words, their shape, and that they are those of the definition.
use Rattle.std.proofs.Common.{◌≡◌, ℕ, ◌+◌, ◌*◌, ◌≤◌, Bool, true, false, if◌then◌else◌, ℤ, Some, None, List, [], ◌∷◌, ◌++◌, length, get_or, map, replicate, refl, sym, ◌∙◌, ap, subst, arith, length-append}
use Rattle.std.specs.Option.{option_to_list}
use Rattle.std.proofs.lemmas.Bool.{false≢true}
use Rattle.std.proofs.lemmas.List.{length-map, length-replicate}
use Rattle.std.proofs.lemmas.List.FromFn.{length-map-range_with_len}
use Rattle.spiral_sets.specs.declared.param_set.ParamSet.{ParamSet}
use Rattle.spiral_sets.specs.Sets.{IsSet, has_keys, rows}
use Rattle.spiral_sets.specs.Counts.{ciphertext_count, words_of, round_ciphertexts, lift_ciphertexts, conversion_ciphertexts, setup_ciphertexts, secret_words}
use Rattle.spiral_model.specs.Words.{Poly, Cipher}
use Rattle.spiral_model.specs.Sampling.{secret_numbers, secret_poly}
use Rattle.spiral_model.specs.Ciphertexts.{encrypted_all, words_taken}
use Rattle.spiral_model.specs.Bodies.{CipherBody, IsSetup, rows_of}
use Rattle.spiral_model.specs.Dealing.{round_messages, lift_messages, conversion_messages, scalar_secret, secret_polys, row_secrets, keys_of, key_body_of}
use Rattle.regev_code.specs.Seen.{Secrets, Cursor}
use Rattle.regev_code.specs.Shapes.{taken, under, rows_from, secrets_from}
use Rattle.regev_code.specs.Drawn.{Drawn}
use Rattle.regev_code.proofs.Draws.{taken-more, room_behind}
use Rattle.regev_code.proofs.Secrets.{secrets_from-rows}
use Rattle.key_deal.specs.DealtKeys.{keys_from, scalar_of, keys_behind}
use Rattle.key_deal.proofs.Counted.{words-are, rows-are, round-rows, lift-rows, conversion-rows, setup-words, setup-count, setup-rows}
use Rattle.key_deal.proofs.Shapes.{AreShaped, run-shaped, shaped-append}
use Rattle.key_deal.proofs.RoundKeys.{round-lists}
use Rattle.key_deal.proofs.LiftMessages.{lift-lists}
use Rattle.key_deal.proofs.Conversions.{conversion-lists}

-- ---- secrets

-- the one secret of a list
single : {A : Type 0} (xs : List A) (d : A) → length xs ≡ 1 → xs ≡ get_or xs 0 d ∷ []
single [] d one = absurd (omega arith)
single (x ∷ []) d one = refl
single (x ∷ (y ∷ xs)) d one = absurd (omega arith)

count_under : (N n : ℕ) (secret : Secrets) (b : Bool) → length (under N secret true) ≡ 1 → length (under N secret false) ≡ n → length (under N secret b) ≡ (if b then 1 else n)
count_under N n secret true one all = one
count_under N n secret false one all = all

-- how many secrets GSW ciphertexts stand under
pub row-count : (set : ParamSet) (N : ℕ) (secret : Secrets) → length (under N secret true) ≡ 1 → length (under N secret false) ≡ set.n
    → length (under N secret set.pack) ≡ rows set
row-count set N secret one all = count_under N set.n secret set.pack one all

-- ---- words

-- those of each kind of key
round_taken : (set : ParamSet) (s : Poly) → length (round_messages set s) * words_taken set.degree 1 ≡ words_of set (round_ciphertexts set)
round_taken set s =
    ap (λ (n : ℕ). n * words_taken set.degree 1) (round-lists set s).many ∙ sym (words-are set 1 (round_ciphertexts set) (round-rows set))

lift_taken : (set : ParamSet) (s : Poly) → length (lift_messages set s) * words_taken set.degree set.n ≡ words_of set (lift_ciphertexts set)
lift_taken set s =
    ap (λ (n : ℕ). n * words_taken set.degree set.n) (lift-lists set s).many ∙ sym (words-are set set.n (lift_ciphertexts set) (lift-rows set))

conversion_taken : (set : ParamSet) (s : Poly) (secrets : List Poly) → length secrets ≡ rows set
    → length (conversion_messages set s secrets) * words_taken set.degree (rows set) ≡ words_of set (conversion_ciphertexts set)
conversion_taken set s secrets many =
    ap (λ (n : ℕ). n * words_taken set.degree (rows set)) (conversion-lists set s secrets many).many
    ∙ sym (words-are set (rows set) (conversion_ciphertexts set) (conversion-rows set))

first_part : (U W a b c L : ℕ) → W ≡ a + b + c → U + W ≤ L → U + a ≤ L
first_part U W a b c L is enough = omega (arith, is, enough)

second_part : (W a b c x : ℕ) → W ≡ a + b + c → x ≡ a → x + b ≤ W
second_part W a b c x is first = omega (arith, is, first)

third_part : (W a b c x y : ℕ) → W ≡ a + b + c → x ≡ a → y ≡ b → x + y + c ≤ W
third_part W a b c x y is first second = omega (arith, is, first, second)

all_parts : (W a b c x y z : ℕ) → W ≡ a + b + c → x ≡ a → y ≡ b → z ≡ c → W ≡ x + y + z
all_parts W a b c x y z is first second third = omega (arith, is, first, second, third)

-- The rounds are there.
pub rounds-room : (set : ParamSet) (from : Cursor) → from.used + words_of set (setup_ciphertexts set) ≤ length from.words
    → from.used + words_of set (round_ciphertexts set) ≤ length from.words
rounds-room set from enough =
    first_part from.used (words_of set (setup_ciphertexts set)) (words_of set (round_ciphertexts set)) (words_of set (lift_ciphertexts set))
    (words_of set (conversion_ciphertexts set)) (length from.words) (setup-words set) enough

-- Behind them are the lift keys,
pub lifts-room : (set : ParamSet) (s : Poly) (secrets : List Poly) (from mid : Cursor) (old half : List Cipher) → Drawn set.degree 1 secrets (round_messages set s) from mid old half
    → from.used + words_of set (setup_ciphertexts set) ≤ length from.words → mid.used + words_of set (lift_ciphertexts set) ≤ length mid.words
lifts-room set s secrets from mid old half rounds enough =
    let x = length (round_messages set s) * words_taken set.degree 1 in
    room_behind from mid x (words_of set (lift_ciphertexts set)) (words_of set (setup_ciphertexts set)) rounds.words
    (second_part (words_of set (setup_ciphertexts set)) (words_of set (round_ciphertexts set)) (words_of set (lift_ciphertexts set)) (words_of set (conversion_ciphertexts set)) x
    (setup-words set) (round_taken set s)) enough

-- and behind these the conversion key.
pub conversion-room : (set : ParamSet) (s : Poly) (secrets others : List Poly) (from mid at : Cursor) (old half more : List Cipher)
    → Drawn set.degree 1 secrets (round_messages set s) from mid old half → Drawn set.degree set.n others (lift_messages set s) mid at half more
    → from.used + words_of set (setup_ciphertexts set) ≤ length from.words → at.used + words_of set (conversion_ciphertexts set) ≤ length at.words
conversion-room set s secrets others from mid at old half more rounds lifts enough =
    let x = length (round_messages set s) * words_taken set.degree 1 in
    let y = length (lift_messages set s) * words_taken set.degree set.n in
    let both = taken-more from mid at x y (x + y) refl rounds.words lifts.words in
    room_behind from at (x + y) (words_of set (conversion_ciphertexts set)) (words_of set (setup_ciphertexts set)) both
    (third_part (words_of set (setup_ciphertexts set)) (words_of set (round_ciphertexts set)) (words_of set (lift_ciphertexts set)) (words_of set (conversion_ciphertexts set)) x y
    (setup-words set) (round_taken set s) (lift_taken set s)) enough

-- ---- the keys

-- what is known of keys that were drawn
pub record KeysDrawn (set : ParamSet) (secret : Secrets) (from to : Cursor) (ciphers : List Cipher) : Type 0 where
  pub words : to ≡ taken from (words_of set (setup_ciphertexts set))
  pub are : ciphers ≡ keys_behind set secret from
  pub shape : IsSetup (record { set = set; ciphers = ciphers })

-- their shape
keys-shaped : (set : ParamSet) (words : List ℕ) (start : ℕ) (s : Poly) (secrets row_secrets : List Poly) → length secrets ≡ set.n → length row_secrets ≡ rows set
    → AreShaped set.degree (rows_of (setup_ciphertexts set)) (keys_from set words start s secrets row_secrets)
unfolding keys_from
keys-shaped set words start s secrets row_secrets many count =
    let N = set.degree in
    let lifts_start = start + words_of set (round_ciphertexts set) in
    let conversion_start = start + words_of set (round_ciphertexts set) + words_of set (lift_ciphertexts set) in
    let rounds = encrypted_all N words start (s ∷ []) (round_messages set s) in
    let lifts = encrypted_all N words lifts_start secrets (lift_messages set s) in
    let conversion = encrypted_all N words conversion_start row_secrets (conversion_messages set s row_secrets) in
    let first = run-shaped N 1 (ciphertext_count (round_ciphertexts set)) words start (s ∷ []) (round_messages set s) (rows_of (round_ciphertexts set)) refl (round-lists set s)
    (rows-are 1 (round_ciphertexts set) (round-rows set)) in
    let second = run-shaped N set.n (ciphertext_count (lift_ciphertexts set)) words lifts_start secrets (lift_messages set s) (rows_of (lift_ciphertexts set)) many (lift-lists set s)
    (rows-are set.n (lift_ciphertexts set) (lift-rows set)) in
    let third = run-shaped N (rows set) (ciphertext_count (conversion_ciphertexts set)) words conversion_start row_secrets (conversion_messages set s row_secrets)
    (rows_of (conversion_ciphertexts set)) count (conversion-lists set s row_secrets count) (rows-are (rows set) (conversion_ciphertexts set) (conversion-rows set)) in
    subst (λ (ms : List ℕ). AreShaped N ms (rounds ++ lifts ++ conversion)) (sym (setup-rows set))
    (shaped-append N (rows_of (round_ciphertexts set) ++ rows_of (lift_ciphertexts set)) (rows_of (conversion_ciphertexts set)) (rounds ++ lifts) conversion
    (shaped-append N (rows_of (round_ciphertexts set)) (rows_of (lift_ciphertexts set)) rounds lifts first second) third)

as_many : (m n : ℕ) (xs : List ℕ) → xs ≡ replicate n m → length xs ≡ n
as_many m n xs is = ap length is ∙ length-replicate n m

three_lengths : (xs ys zs : List ℕ) (a b c W : ℕ) → length xs ≡ a → length ys ≡ b → length zs ≡ c → W ≡ a + b + c → length (xs ++ ys ++ zs) ≡ W
three_lengths xs ys zs a b c W first second third is = omega (arith, length-append (xs ++ ys) zs, length-append xs ys, first, second, third, is)

rows-count : (set : ParamSet) → length (rows_of (setup_ciphertexts set)) ≡ ciphertext_count (setup_ciphertexts set)
rows-count set =
    let rounds = ciphertext_count (round_ciphertexts set) in
    let lifts = ciphertext_count (lift_ciphertexts set) in
    let conversion = ciphertext_count (conversion_ciphertexts set) in
    ap length (setup-rows set)
    ∙ three_lengths (rows_of (round_ciphertexts set)) (rows_of (lift_ciphertexts set)) (rows_of (conversion_ciphertexts set)) rounds lifts conversion
    (ciphertext_count (setup_ciphertexts set)) (as_many 1 rounds (rows_of (round_ciphertexts set)) (rows-are 1 (round_ciphertexts set) (round-rows set)))
    (as_many set.n lifts (rows_of (lift_ciphertexts set)) (rows-are set.n (lift_ciphertexts set) (lift-rows set)))
    (as_many (rows set) conversion (rows_of (conversion_ciphertexts set)) (rows-are (rows set) (conversion_ciphertexts set) (conversion-rows set))) (setup-count set)

keys-setup : (set : ParamSet) (secret : Secrets) (from : Cursor) (ciphers : List Cipher) → IsSet set → length (under set.degree secret false) ≡ set.n
    → length (under set.degree secret set.pack) ≡ rows set → ciphers ≡ keys_behind set secret from → IsSetup (record { set = set; ciphers = ciphers })
keys-setup set secret from ciphers known many count are =
    let keys = keys_behind set secret from in
    let shaped = subst (λ (cs : List Cipher). AreShaped set.degree (rows_of (setup_ciphertexts set)) cs) (sym are)
    (keys-shaped set from.words from.used (scalar_of set.degree secret) (under set.degree secret false) (under set.degree secret set.pack) many count) in
    record { known = known; count = shaped.count ∙ rows-count set; shapes = shaped.each }

-- the three runs, one behind the other
keys-joined : (set : ParamSet) (secret : Secrets) (d0 d1 d2 : Cursor) (c0 c1 c2 c3 : List Cipher) (x y : ℕ) → c0 ≡ [] → length (under set.degree secret true) ≡ 1
    → x ≡ words_of set (round_ciphertexts set) → y ≡ words_of set (lift_ciphertexts set) → d1 ≡ taken d0 x → d2 ≡ taken d1 y
    → c1 ≡ c0 ++ encrypted_all set.degree d0.words d0.used (under set.degree secret true) (round_messages set (scalar_of set.degree secret))
    → c2 ≡ c1 ++ encrypted_all set.degree d1.words d1.used (under set.degree secret false) (lift_messages set (scalar_of set.degree secret))
    → c3 ≡ c2 ++ encrypted_all set.degree d2.words d2.used (under set.degree secret set.pack) (conversion_messages set (scalar_of set.degree secret) (under set.degree secret set.pack))
    → c3 ≡ keys_behind set secret d0
unfolding keys_from
keys-joined set secret d0 d1 d2 c0 c1 c2 c3 x y none one first_words second_words at_lifts at_conversion rounds lifts conversion =
    let N = set.degree in
    let s = scalar_of N secret in
    let R : List Poly → List Cipher = λ secrets. encrypted_all N d0.words d0.used secrets (round_messages set s) in
    let L : Cursor → List Cipher = λ d. encrypted_all N d.words d.used (under N secret false) (lift_messages set s) in
    let C : Cursor → List Cipher = λ d. encrypted_all N d.words d.used (under N secret set.pack) (conversion_messages set s (under N secret set.pack)) in
    let start : d1 ≡ taken d0 (words_of set (round_ciphertexts set)) = at_lifts ∙ ap (λ (n : ℕ). taken d0 n) first_words in
    let end : d2 ≡ taken (taken d0 (words_of set (round_ciphertexts set))) (words_of set (lift_ciphertexts set)) =
    at_conversion ∙ ap (λ (n : ℕ). taken d1 n) second_words ∙ ap (λ (d : Cursor). taken d (words_of set (lift_ciphertexts set))) start in
    let a : c1 ≡ R (s ∷ []) =
    rounds ∙ ap (λ (cs : List Cipher). cs ++ R (under N secret true)) none ∙ ap R (single (under N secret true) [] one) in
    let b : c2 ≡ R (s ∷ []) ++ L (taken d0 (words_of set (round_ciphertexts set))) =
    lifts ∙ ap (λ (cs : List Cipher). cs ++ L d1) a ∙ ap (λ (d : Cursor). R (s ∷ []) ++ L d) start in
    conversion
    ∙ ap (λ (cs : List Cipher). cs ++ C d2) b
    ∙ ap (λ (d : Cursor). R (s ∷ []) ++ L (taken d0 (words_of set (round_ciphertexts set))) ++ C d) end

-- The rounds, the lift keys and the conversion key, drawn one behind the other, are the keys of a set.
pub keys-drawn : (set : ParamSet) (secret : Secrets) (d0 d1 d2 d3 : Cursor) (c0 c1 c2 c3 : List Cipher) → IsSet set → c0 ≡ [] → length (under set.degree secret true) ≡ 1
    → length (under set.degree secret false) ≡ set.n
    → Drawn set.degree 1 (under set.degree secret true) (round_messages set (scalar_of set.degree secret)) d0 d1 c0 c1
    → Drawn set.degree set.n (under set.degree secret false) (lift_messages set (scalar_of set.degree secret)) d1 d2 c1 c2
    → Drawn set.degree (rows set) (under set.degree secret set.pack) (conversion_messages set (scalar_of set.degree secret) (under set.degree secret set.pack)) d2 d3 c2 c3
    → KeysDrawn set secret d0 d3 c3
keys-drawn set secret d0 d1 d2 d3 c0 c1 c2 c3 known none one many rounds lifts conversion =
    let N = set.degree in
    let s = scalar_of N secret in
    let count = row-count set N secret one many in
    let x = length (round_messages set s) * words_taken N 1 in
    let y = length (lift_messages set s) * words_taken N set.n in
    let z = length (conversion_messages set s (under N secret set.pack)) * words_taken N (rows set) in
    let first = round_taken set s in
    let second = lift_taken set s in
    let third = conversion_taken set s (under N secret set.pack) count in
    let sum = all_parts (words_of set (setup_ciphertexts set)) (words_of set (round_ciphertexts set)) (words_of set (lift_ciphertexts set)) (words_of set (conversion_ciphertexts set))
    x y z (setup-words set) first second third in
    let both = taken-more d0 d1 d2 x y (x + y) refl rounds.words lifts.words in
    let are = keys-joined set secret d0 d1 d2 c0 c1 c2 c3 x y none one first second rounds.words lifts.words rounds.ciphers lifts.ciphers conversion.ciphers in
    record {
      words = taken-more d0 d2 d3 (x + y) z (words_of set (setup_ciphertexts set)) sum both conversion.words;
      are = are;
      shape = keys-setup set secret d0 c3 known many count are;
    }

-- ---- the keys that words deal

-- Behind the secrets' words they are those of the words.
pub keys_from-of : (set : ParamSet) (words : List ℕ)
    → keys_from set words (secret_words set) (scalar_secret set words) (secret_polys set words) (row_secrets set words) ≡ keys_of set words
unfolding keys_from keys_of
keys_from-of set words = refl

scalar_where : (has : Bool) (N : ℕ) (numbers : List ℤ) → has ≡ true → map (secret_poly N) (option_to_list (if has then Some numbers else None)) ≡ secret_poly N numbers ∷ []
scalar_where true N numbers keys = refl
scalar_where false N numbers keys = absurd (false≢true keys)

under_rows : (N : ℕ) (secret : Secrets) (b : Bool) (s : Poly) (secrets : List Poly) → under N secret true ≡ s ∷ [] → under N secret false ≡ secrets
    → under N secret b ≡ (if b then s ∷ [] else secrets)
under_rows N secret true s secrets one all = one
under_rows N secret false s secrets one all = all

-- The secrets at the front of the words, as polynomials: the scalar one,
pub dealt-scalar : (set : ParamSet) (words : List ℕ) (secret : Secrets) → has_keys set ≡ true → secret ≡ secrets_from set words 0
    → under set.degree secret true ≡ scalar_secret set words ∷ []
unfolding scalar_secret
dealt-scalar set words secret keys drawn =
    ap (λ (x : Secrets). under set.degree x true) drawn ∙ scalar_where (has_keys set) set.degree (secret_numbers set.degree words 0) keys

-- s_1 to s_n,
pub dealt-rows : (set : ParamSet) (words : List ℕ) (secret : Secrets) → secret ≡ secrets_from set words 0 → under set.degree secret false ≡ secret_polys set words
dealt-rows set words secret drawn =
    ap (λ (rs : List (List ℤ)). map (secret_poly set.degree) rs) (ap (λ (x : Secrets). x.rows) drawn ∙ secrets_from-rows set words)

-- and those of GSW ciphertexts.
pub dealt-row_secrets : (set : ParamSet) (words : List ℕ) (secret : Secrets) → has_keys set ≡ true → secret ≡ secrets_from set words 0
    → under set.degree secret set.pack ≡ row_secrets set words
dealt-row_secrets set words secret keys drawn =
    under_rows set.degree secret set.pack (scalar_secret set words) (secret_polys set words) (dealt-scalar set words secret keys drawn) (dealt-rows set words secret drawn)

some_scalar : (has : Bool) (N : ℕ) (numbers : List ℤ) → has ≡ true → length (map (secret_poly N) (option_to_list (if has then Some numbers else None))) ≡ 1
some_scalar has N numbers keys = ap length (scalar_where has N numbers keys)

-- How many they are, from any place on: one scalar secret,
pub dealt-one : (set : ParamSet) (words : List ℕ) (start : ℕ) (secret : Secrets) → has_keys set ≡ true → secret ≡ secrets_from set words start
    → length (under set.degree secret true) ≡ 1
dealt-one set words start secret keys drawn =
    ap (λ (x : Secrets). length (under set.degree x true)) drawn ∙ some_scalar (has_keys set) set.degree (secret_numbers set.degree words start) keys

-- and n others.
pub dealt-many : (set : ParamSet) (words : List ℕ) (start : ℕ) (secret : Secrets) → secret ≡ secrets_from set words start → length (under set.degree secret false) ≡ set.n
dealt-many set words start secret drawn =
    ap (λ (x : Secrets). length (under set.degree x false)) drawn
    ∙ length-map (rows_from set.degree set.n words (start + (if has_keys set then set.degree else 0))) (secret_poly set.degree)
    ∙ length-map-range_with_len (λ r. secret_numbers set.degree words (start + (if has_keys set then set.degree else 0) + r * set.degree)) 0 set.n

-- The keys under these, by the words behind them, are those that the words deal.
pub keys-dealt : (set : ParamSet) (words : List ℕ) (secret : Secrets) (from : Cursor) → has_keys set ≡ true → secret ≡ secrets_from set words 0
    → from ≡ record { words = words; used = secret_words set } → keys_behind set secret from ≡ keys_of set words
keys-dealt set words secret from keys drawn place =
    let N = set.degree in
    let K : Poly → List Poly → List Poly → List Cipher = λ s secrets row_polys. keys_from set words (secret_words set) s secrets row_polys in
    let scalar : scalar_of N secret ≡ scalar_secret set words = ap (λ (xs : List Poly). get_or xs 0 []) (dealt-scalar set words secret keys drawn) in
    ap (λ (d : Cursor). keys_behind set secret d) place
    ∙ ap (λ (s : Poly). K s (under N secret false) (under N secret set.pack)) scalar
    ∙ ap (λ (secrets : List Poly). K (scalar_secret set words) secrets (under N secret set.pack)) (dealt-rows set words secret drawn)
    ∙ ap (λ (secrets : List Poly). K (scalar_secret set words) (secret_polys set words) secrets) (dealt-row_secrets set words secret keys drawn)
    ∙ keys_from-of set words

-- As a body they are the keys that the words deal.
pub body-dealt : (set : ParamSet) (words : List ℕ) (secret : Secrets) (from : Cursor) (body : CipherBody) → has_keys set ≡ true → secret ≡ secrets_from set words 0
    → from ≡ record { words = words; used = secret_words set } → body.set ≡ set → body.ciphers ≡ keys_behind set secret from → body ≡ key_body_of set words
unfolding key_body_of
body-dealt set words secret from body keys drawn place of_set are =
    ap {A = ParamSet} {B = CipherBody} (λ s. record { set = s; ciphers = body.ciphers }) of_set
    ∙ ap {A = List Cipher} {B = CipherBody} (λ cs. record { set = set; ciphers = cs }) (are ∙ keys-dealt set words secret from keys drawn place)

-- The bodies of Refuse, State and Database: read again, and bytes that are those of what is read from them.
use Rattle.std.proofs.Common.{◌≡◌, ℕ, zero, suc, ◌+◌, ◌*◌, ◌^◌, ◌<◌, ◌≤◌, List, [], ◌∷◌, ◌++◌, length, get_or, take, drop, map, All, refl, sym, ◌∙◌, ap, ap₂, subst, arith, length-take, append-nil, append_assoc, ltb-false}
use Rattle.std.proofs.lemmas.Int.{ints}
use Rattle.std.proofs.lemmas.List.{take_all, drop-drop, get_or-drop, length-drop, length-map}
use Rattle.std.proofs.lemmas.List.Elements.{All-head, All-tail, All-take, All-map, All-from_get_or}
use Rattle.negacyclic.specs.Digits.{number_of}
use Rattle.negacyclic.proofs.Digits.{number_of-cons, number_of-nil, number_of-below}
use Rattle.spiral_sets.specs.declared.param_set.ParamSet.{ParamSet}
use Rattle.spiral_sets.specs.Sets.{IsSet, max_records}
use Rattle.spiral_sets.specs.Counts.{state_len}
use Rattle.spiral_sets.proofs.SetBounds.{max_records-most, capacity-most}
use Rattle.frame_headers.specs.Headers.{number}
use Rattle.frame_headers.proofs.Outcomes.{AllPass}
use Rattle.frame_headers.proofs.HeaderLaws.{number_at_front, number_is, behind_number}
use Rattle.spiral_model.specs.Replies.{QueryState, IsState, IsTernary}
use Rattle.spiral_model.specs.Databases.{RecordTable, IsTable, record_count}
use Rattle.spiral_frames.specs.Frames.{PeerRefusal, refuse_body, secret_byte, state_body, database_body}
use Rattle.spiral_frames.specs.FrameChecks.{secret_checks}
use Rattle.spiral_frames.proofs.Bodies.{index_in_body, secret_in_body, state_body_is}
use Rattle.spiral_frames.proofs.SameMessages.{number_of_byte, secret_back}
use Rattle.spiral_frames.proofs.SpelledDatabases.{numbers_fit}
use Rattle.frame_streams.specs.Parsing.{refuse_in, state_in, table_in}

-- ---- a refusal

one_number : (b : ℕ) → number_of 256 (b ∷ []) ≡ b
one_number b = rw (number_of-cons, number_of-nil) (omega arith)

word_fits : (n : ℕ) → n < 2 ^ 64 → n < 256 ^ 8
word_fits n h = let e : 2 ^ 64 ≡ 256 ^ 8 = refl in subst (λ (k : ℕ). n < k) e h

word_below : (n : ℕ) → n < 256 ^ 8 → n < 2 ^ 64
word_below n h = let e : 256 ^ 8 ≡ 2 ^ 64 = refl in subst (λ (k : ℕ). n < k) e h

refusal_by : (r u : PeerRefusal) → r.set ≡ u.set → r.code ≡ u.code → r.place ≡ u.place → r ≡ u
refusal_by r u set code place = λ i. record { set = set i; code = code i; place = place i }

-- A refusal is read again from its body.
pub refuse_back : (refusal : PeerRefusal) → refusal.place < 2 ^ 64 → refuse_in refusal.set (refuse_body refusal) ≡ refusal
unfolding refuse_in refuse_body
refuse_back refusal small =
    let place : number_of 256 (take 8 (number 8 refusal.place)) ≡ refusal.place =
    ap (λ (bytes : List ℕ). number_of 256 (take 8 bytes)) (sym (append-nil (number 8 refusal.place)))
    ∙ number_at_front 8 refusal.place [] (word_fits refusal.place small) in
    refusal_by (refuse_in refusal.set (refuse_body refusal)) refusal refl (one_number refusal.code) place

-- Nine bytes are those of the refusal read from them.
pub refuse_spelled : (set : ParamSet) (body : List ℕ) → All (λ b. b < 256) body → length body ≡ 9
    → ((refuse_in set body).code < 256) × (((refuse_in set body).place < 2 ^ 64) × (refuse_body (refuse_in set body) ≡ body))
unfolding refuse_in refuse_body
refuse_spelled set [] below nine = absurd (omega (arith, nine))
refuse_spelled set (b ∷ rest) below nine =
    let code : number_of 256 (b ∷ []) ≡ b = one_number b in
    let low : b < 256 = All-head (λ y. y < 256) b rest below in
    let others : All (λ y. y < 256) rest = All-tail (λ y. y < 256) b rest below in
    let eight : length rest ≡ 8 = omega (arith, nine) in
    let all : take 8 rest ≡ rest = take_all 8 rest (omega (arith, eight)) in
    let small : number_of 256 (take 8 rest) < 256 ^ 8 =
    subst (λ (bytes : List ℕ). number_of 256 bytes < 256 ^ 8) (sym all)
    (subst (λ (n : ℕ). number_of 256 rest < 256 ^ n) eight (number_of-below 256 rest others)) in
    let bytes : number 8 (number_of 256 (take 8 rest)) ≡ rest = sym (number_is 8 (number_of 256 (take 8 rest)) rest eight others (ap (number_of 256) all)) in
    (subst (λ (n : ℕ). n < 256) (sym code) low, (word_below (number_of 256 (take 8 rest)) small, ap₂ (λ (y : ℕ) (ys : List ℕ). y ∷ ys) code bytes))

-- ---- a state

state_by : (s t : QueryState) → s.set ≡ t.set → s.index ≡ t.index → s.secret ≡ t.secret → s ≡ t
state_by s t set index secret = λ i. record { set = set i; index = index i; secret = secret i }

-- A state is read again from its body.
pub state_back : (state : QueryState) → IsState state → state_in state.set (state_body state) ≡ state
unfolding state_in
state_back state is =
    state_by (state_in state.set (state_body state)) state refl (index_in_body state is)
    (ap (λ (bytes : List ℕ). map number_of_byte bytes) (secret_in_body state) ∙ secret_back state.secret is.ternary)

byte_again : (b : ℕ) → secret_byte (number_of_byte b) ≡ b
byte_again b = omega (arith, ints)

bytes_again : (bytes : List ℕ) → map secret_byte (map number_of_byte bytes) ≡ bytes
bytes_again [] = refl
bytes_again (b ∷ bytes) = ap₂ (λ (y : ℕ) (ys : List ℕ). y ∷ ys) (byte_again b) (bytes_again bytes)

ternary_of_byte : (b : ℕ) → b ≤ 2 → IsTernary (number_of_byte b)
ternary_of_byte b h = omega (arith, ints)

-- the bytes of a secret that pass are 0, 1 or 2
secret_passed : (x : List ℕ) (place count size : ℕ) → AllPass (secret_checks x place count) size → (i : ℕ) → i < count → get_or x (place + i) 0 ≤ 2
unfolding secret_checks
secret_passed x place zero size h i lt = absurd (omega arith)
secret_passed x place (suc count) size h zero lt =
    let here : place ≡ place + 0 = omega arith in
    subst (λ (n : ℕ). get_or x n 0 ≤ 2) here (ltb-false 2 (get_or x place 0) h.1.0)
secret_passed x place (suc count) size h (suc i) lt =
    let further : place + 1 + i ≡ place + suc i = omega arith in
    subst (λ (n : ℕ). get_or x n 0 ≤ 2) further (secret_passed x (place + 1) count size h.1.1 i (omega arith))

-- A body that passes the checks is that of the state read from it.
pub state_spelled : (set : ParamSet) (x : List ℕ) (start size : ℕ) → IsSet set → All (λ b. b < 256) (drop start x)
    → length (drop start x) ≡ state_len set → number_of 256 (take 8 (drop start x)) < max_records set
    → AllPass (secret_checks x (start + 8) (set.n * set.degree)) size
    → IsState (state_in set (drop start x)) × (state_body (state_in set (drop start x)) ≡ drop start x)
unfolding state_in
state_spelled set x start size known below whole low passed =
    let body : List ℕ = drop start x in
    let bytes : List ℕ = drop 8 body in
    let many : length bytes ≡ set.n * set.degree = omega (arith, length-drop 8 body, whole) in
    let behind : drop (start + 8) x ≡ bytes = sym (drop-drop 8 start x) in
    let each : (i : ℕ) → i < length bytes → IsTernary (number_of_byte (get_or bytes i 0)) =
    λ i h.
    let there : get_or x (start + 8 + i) 0 ≡ get_or bytes i 0 =
    sym (get_or-drop (start + 8) x i 0) ∙ ap (λ (l : List ℕ). get_or l i 0) behind in
    ternary_of_byte (get_or bytes i 0)
    (subst (λ (b : ℕ). b ≤ 2) there (secret_passed x (start + 8) (set.n * set.degree) size passed i (omega (arith, many)))) in
    let ternary : All IsTernary (map number_of_byte bytes) =
    All-map IsTernary number_of_byte bytes (All-from_get_or (λ b. IsTernary (number_of_byte b)) bytes 0 each) in
    let is : IsState (state_in set body) = record {
      known = known;
      index = low;
      secret_length = length-map bytes number_of_byte ∙ many;
      ternary = ternary;
    } in
    let index : take 8 body ≡ number 8 (number_of 256 (take 8 body)) =
    number_is 8 (number_of 256 (take 8 body)) (take 8 body) (omega (arith, length-take 8 body, whole))
    (All-take (λ b. b < 256) 8 body below) refl in
    (is, sym (state_body_is (state_in set body) body index (sym (bytes_again bytes))))

-- ---- a database

table_by : (t u : RecordTable) → t.set ≡ u.set → t.record_length ≡ u.record_length → t.bytes ≡ u.bytes → t ≡ u
table_by t u set record_length bytes = λ i. record { set = set i; record_length = record_length i; bytes = bytes i }

-- the numbers of a table fit their 8 bytes, and so does its body's length
pub table_fits : (table : RecordTable) → IsTable table
    → (record_count table < 256 ^ 8) × ((table.record_length < 256 ^ 8) × (16 + length table.bytes < 256 ^ 8))
table_fits table is =
    let few : record_count table ≤ 4096 = omega (arith, max_records-most table.set is.known, is.count) in
    let short : table.record_length ≤ 49152 = omega (arith, capacity-most table.set is.known, is.record_length) in
    numbers_fit (record_count table) table.record_length (length table.bytes) few short is.whole

database_parts : (table : RecordTable) → database_body table ≡ number 8 (record_count table) ++ (number 8 table.record_length ++ table.bytes)
unfolding database_body
database_parts table = append_assoc (number 8 (record_count table)) (number 8 table.record_length) table.bytes

-- A database is read again from its body.
pub table_back : (table : RecordTable) → IsTable table → table_in table.set (database_body table) ≡ table
unfolding table_in
table_back table is =
    let behind : drop 8 (database_body table) ≡ number 8 table.record_length ++ table.bytes =
    ap (drop 8) (database_parts table) ∙ behind_number 8 (record_count table) (number 8 table.record_length ++ table.bytes) in
    let len : number_of 256 (take 8 (drop 8 (database_body table))) ≡ table.record_length =
    ap (λ (bytes : List ℕ). number_of 256 (take 8 bytes)) behind
    ∙ number_at_front 8 table.record_length table.bytes (table_fits table is).1.0 in
    let rest : drop 16 (database_body table) ≡ table.bytes =
    sym (drop-drop 8 8 (database_body table)) ∙ ap (drop 8) behind ∙ behind_number 8 table.record_length table.bytes in
    table_by (table_in table.set (database_body table)) table refl len rest

-- That the frame of a message is the first whole frame of whatever begins with it: all checks of the frame pass.
use Rattle.std.proofs.Common.{◌≡◌, ℕ, ◌+◌, ◌*◌, ◌^◌, ◌<◌, ◌≤◌, ◌≢◌, true, false, List, ◌++◌, length, take, drop, map, refl, sym, ◌∙◌, ap, arith, append_assoc, length-append}
use Rattle.std.proofs.lemmas.Bool.{le-ltb}
use Rattle.std.proofs.lemmas.List.{length-map}
use Rattle.negacyclic.specs.Digits.{number_of}
use Rattle.negacyclic.proofs.Digits.{length-digits}
use Rattle.spiral_sets.specs.declared.param_set.ParamSet.{ParamSet}
use Rattle.spiral_sets.specs.Counts.{setup_len, query_len}
use Rattle.spiral_sets.proofs.SetBounds.{max_records-most, capacity-most}
use Rattle.frame_headers.specs.declared.kind.FrameKind.TheVariants.{Database}
use Rattle.frame_headers.specs.Kinds.{code_of_kind, body_len_of}
use Rattle.frame_headers.specs.Headers.{header, number}
use Rattle.frame_headers.specs.Checks.{Outcome, passes, checked, accepts, wrong_length, needed_of}
use Rattle.frame_headers.proofs.HeaderLaws.{number_at_front, behind_number}
use Rattle.frame_headers.proofs.HeaderReading.{checked-none}
use Rattle.spiral_model.specs.Bodies.{CipherBody}
use Rattle.spiral_model.specs.Replies.{QueryState, SwitchedReply}
use Rattle.spiral_model.specs.Databases.{RecordTable, IsTable, record_count}
use Rattle.spiral_frames.specs.Frames.{Message, PeerRefusal, IsMessage, setup_message, query_message, reply_message, refuse_message, state_message, database_message, kind_of, set_of_message, body_of, frame_of, secret_byte, refuse_body, database_body}
use Rattle.spiral_frames.specs.FrameChecks.{whole, body_checks, front_by, front}
use Rattle.spiral_frames.proofs.Bodies.{length-query_body, length-state_body, length-reply_body, length-database_body, ternary_bytes, index_in_body, secret_in_body, count_in_body, record_length_in_body}
use Rattle.spiral_frames.proofs.SetupBodies.{length-setup_body}
use Rattle.spiral_frames.proofs.SpelledDatabases.{numbers_fit}
use Rattle.spiral_frames.proofs.FrameLaws.{known_of}
use Rattle.frame_streams.proofs.BehindHeaders.{body_len_fits, right_len, front_at}
use Rattle.frame_streams.proofs.BodyChecks.{ciphers_pass, query_below, setup_below, reply_pass, state_pass, database_pass}

-- ---- the length of a body

length-refuse_body : (refusal : PeerRefusal) → length (refuse_body refusal) ≡ 9
unfolding refuse_body
length-refuse_body refusal = omega (arith, length-digits 256 8 refusal.place)

-- it is that of the kind and the set; a Database's is not
pub length-body : (m : Message) → IsMessage m → kind_of m ≢ Database → length (body_of m) ≡ body_len_of (kind_of m) (set_of_message m)
length-body (setup_message keys) is other = length-setup_body keys is
length-body (query_message query) is other = length-query_body query is
length-body (reply_message reply) is other = length-reply_body reply is
length-body (refuse_message refusal) is other = length-refuse_body refusal
length-body (state_message state) is other = length-state_body state is
length-body (database_message table) is other = absurd (other refl)

-- the numbers of a database fit their 8 bytes
table_fits : (table : RecordTable) → IsTable table
    → (record_count table < 256 ^ 8) × ((table.record_length < 256 ^ 8) × (16 + length table.bytes < 256 ^ 8))
table_fits table is =
    let few : record_count table ≤ 4096 = omega (arith, max_records-most table.set is.known, is.count) in
    let short : table.record_length ≤ 49152 = omega (arith, capacity-most table.set is.known, is.record_length) in
    numbers_fit (record_count table) table.record_length (length table.bytes) few short is.whole

-- what the header of a frame says of its length
abbrev FitsHeader : Message → Type 0
FitsHeader m = (length (body_of m) < 256 ^ 8)
    × (wrong_length (code_of_kind (kind_of m)) (length (body_of m)) (needed_of (code_of_kind (kind_of m)) (set_of_message m)) ≡ false)

fits_other : (m : Message) → IsMessage m → kind_of m ≢ Database → FitsHeader m
fits_other m is other =
    let code : ℕ = code_of_kind (kind_of m) in
    let set : ParamSet = set_of_message m in
    let size : length (body_of m) ≡ body_len_of (kind_of m) set = length-body m is other in (
      omega (arith, size, body_len_fits (kind_of m) set (known_of m is)),
      ap (λ (k : ℕ). wrong_length code k (needed_of code set)) size ∙ right_len (kind_of m) set other,
    )

fits_header : (m : Message) → IsMessage m → FitsHeader m
fits_header (setup_message keys) is = fits_other (setup_message keys) is (λ e. cc)
fits_header (query_message query) is = fits_other (query_message query) is (λ e. cc)
fits_header (reply_message reply) is = fits_other (reply_message reply) is (λ e. cc)
fits_header (refuse_message refusal) is = fits_other (refuse_message refusal) is (λ e. cc)
fits_header (state_message state) is = fits_other (state_message state) is (λ e. cc)
fits_header (database_message table) is =
    let size : length (database_body table) ≡ 16 + length table.bytes = length-database_body table in
    (omega (arith, size, (table_fits table is).1.1), le-ltb (length (database_body table)) 16 (omega (arith, size)))

-- ---- the checks of the body pass

abbrev frame_and : Message → List ℕ → List ℕ
frame_and m rest = header (code_of_kind (kind_of m)) (set_of_message m) (length (body_of m)) ++ (body_of m ++ rest)

abbrev BodyPasses : Message → List ℕ → Type 0
BodyPasses m rest = checked (body_checks (kind_of m) (set_of_message m) (frame_and m rest)) (length (frame_and m rest)) ≡ passes

setup_passes : (keys : CipherBody) (rest : List ℕ) → IsMessage (setup_message keys) → BodyPasses (setup_message keys) rest
setup_passes keys rest is =
    let m : Message = setup_message keys in
    ciphers_pass 1 keys.set (length (body_of m)) is.known (fits_header m is).0 (body_of m) rest keys.ciphers (setup_len keys.set) refl
    (length-setup_body keys is) (setup_below keys is)

query_passes : (query : CipherBody) (rest : List ℕ) → IsMessage (query_message query) → BodyPasses (query_message query) rest
query_passes query rest is =
    let m : Message = query_message query in
    ciphers_pass 2 query.set (length (body_of m)) is.known (fits_header m is).0 (body_of m) rest query.ciphers (query_len query.set) refl
    (length-query_body query is) (query_below query is)

reply_passes : (reply : SwitchedReply) (rest : List ℕ) → IsMessage (reply_message reply) → BodyPasses (reply_message reply) rest
reply_passes reply rest is =
    let m : Message = reply_message reply in
    reply_pass 3 reply.set (length (body_of m)) is.known (fits_header m is).0 (body_of m) rest reply.count reply.record_length
    (omega (arith, length-reply_body reply is)) (count_in_body reply is) (record_length_in_body reply is) is.count is.some_length is.record_length

state_passes : (state : QueryState) (rest : List ℕ) → IsMessage (state_message state) → BodyPasses (state_message state) rest
state_passes state rest is =
    let m : Message = state_message state in
    let many : length (map secret_byte state.secret) ≡ state.set.n * state.set.degree = length-map state.secret secret_byte ∙ is.secret_length in
    state_pass 5 state.set (length (body_of m)) is.known (fits_header m is).0 (body_of m) rest state.index (map secret_byte state.secret)
    (omega (arith, length-state_body state is, many)) (index_in_body state is) (secret_in_body state) is.index (ternary_bytes state.secret is.ternary) many

module _ (table : RecordTable) (is : IsTable table) where
  abbrev count : ℕ
  count = record_count table

  abbrev len : ℕ
  len = table.record_length

  database_parts : database_body table ≡ number 8 count ++ (number 8 len ++ table.bytes)
  unfolding database_body
  database_parts = append_assoc (number 8 count) (number 8 len) table.bytes

  count_in_table : number_of 256 (take 8 (database_body table)) ≡ count
  count_in_table =
      ap (λ (l : List ℕ). number_of 256 (take 8 l)) database_parts ∙ number_at_front 8 count (number 8 len ++ table.bytes) (table_fits table is).0

  len_in_table : number_of 256 (take 8 (drop 8 (database_body table))) ≡ len
  len_in_table =
      ap (λ (l : List ℕ). number_of 256 (take 8 (drop 8 l))) database_parts
      ∙ ap (λ (l : List ℕ). number_of 256 (take 8 l)) (behind_number 8 count (number 8 len ++ table.bytes))
      ∙ number_at_front 8 len table.bytes (table_fits table is).1.0

  database_passes : (rest : List ℕ) → BodyPasses (database_message table) rest
  database_passes rest =
      let m : Message = database_message table in
      let size : length (database_body table) ≡ 16 + length table.bytes = length-database_body table in
      database_pass 6 table.set (length (body_of m)) is.known (fits_header m is).0 (body_of m) rest count len (omega (arith, size)) count_in_table len_in_table
      is.count is.some_length is.record_length (size ∙ ap (λ (k : ℕ). 16 + k) is.whole)

body_passes : (m : Message) (rest : List ℕ) → IsMessage m → BodyPasses m rest
body_passes (setup_message keys) rest is = setup_passes keys rest is
body_passes (query_message query) rest is = query_passes query rest is
body_passes (reply_message reply) rest is = reply_passes reply rest is
body_passes (refuse_message refusal) rest is = checked-none (length (frame_and (refuse_message refusal) rest))
body_passes (state_message state) rest is = state_passes state rest is
body_passes (database_message table) rest is = database_passes table is rest

-- ---- the frame stands first

frame_apart : (m : Message) (rest : List ℕ) → frame_of m ++ rest ≡ frame_and m rest
unfolding frame_of
frame_apart m rest = append_assoc (header (code_of_kind (kind_of m)) (set_of_message m) (length (body_of m))) (body_of m) rest

length-frame_of : (m : Message) → length (frame_of m) ≡ length (header (code_of_kind (kind_of m)) (set_of_message m) (length (body_of m))) + length (body_of m)
unfolding frame_of
length-frame_of m = length-append (header (code_of_kind (kind_of m)) (set_of_message m) (length (body_of m))) (body_of m)

whole_by : (len size : ℕ) → len ≤ size → front_by passes len size ≡ whole len
whole_by len size enough = rw (le-ltb size len enough) refl

-- The frame of a message stands at the front of whatever begins with it.
pub frame_first : (kinds : ℕ) (m : Message) (rest : List ℕ) → IsMessage m → accepts kinds (code_of_kind (kind_of m)) ≡ true
    → front kinds (frame_of m ++ rest) ≡ whole (length (frame_of m))
frame_first kinds m rest is accepted =
    let set : ParamSet = set_of_message m in
    let head : List ℕ = header (code_of_kind (kind_of m)) set (length (body_of m)) in
    let len : ℕ = length head + length (body_of m) in
    let size : ℕ = length (frame_and m rest) in
    let enough : len ≤ size = omega (arith, length-append head (body_of m ++ rest), length-append (body_of m) rest) in
    ap (front kinds) (frame_apart m rest)
    ∙ front_at kinds (kind_of m) set (length (body_of m)) (body_of m ++ rest) (known_of m is) (fits_header m is).0 accepted (fits_header m is).1
    ∙ ap (λ (o : Outcome). front_by o len size) (body_passes m rest is)
    ∙ whole_by len size enough
    ∙ ap whole (sym (length-frame_of m))

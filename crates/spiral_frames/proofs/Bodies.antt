-- Laws of the bodies of frames: their lengths, and what their numbers tell.
use Rattle.std.proofs.Common.{◌≡◌, ℕ, suc, ℤ, ◌+◌, ◌*◌, ◌^◌, ◌<◌, ◌≤◌, List, [], ◌∷◌, ◌++◌, length, get_or, take, drop, map, All, refl, sym, ◌∙◌, ap, arith, true, false, length-append, lit<}
use Rattle.std.proofs.lemmas.Int.{ints}
use Rattle.std.specs.List.{flat_map}
use Rattle.std.proofs.lemmas.List.{append_assoc, length-map, drop-drop, take-append-drop}
use Rattle.std.proofs.lemmas.List.Elements.{All-map}
use Rattle.negacyclic.specs.Digits.{number_of}
use Rattle.negacyclic.proofs.Digits.{length-digits, length-repacked}
use Rattle.spiral_sets.specs.declared.param_set.ParamSet.{ParamSet}
use Rattle.spiral_sets.specs.Sets.{entries, q1_bits, max_records, capacity, rows}
use Rattle.spiral_sets.specs.Counts.{packed_len, state_len, reply_len, query_len, query_ciphertexts, ciphertext_count}
use Rattle.spiral_sets.proofs.SetBounds.{set_sizes}
use Rattle.frame_headers.specs.Headers.{number}
use Rattle.frame_headers.proofs.HeaderLaws.{number_at_front, behind_number}
use Rattle.spiral_model.specs.Words.{Poly, Cipher}
use Rattle.spiral_model.specs.Ciphertexts.{IsCipher}
use Rattle.spiral_model.specs.Bodies.{CipherBody, IsQuery, query_rows}
use Rattle.spiral_model.specs.Replies.{QueryState, IsState, SwitchedReply, IsReply, IsTernary}
use Rattle.spiral_model.specs.Databases.{RecordTable, record_count}
use Rattle.spiral_frames.specs.Frames.{secret_byte, state_body, packed, reply_body, poly_bytes, rows_bytes, cipher_bytes, database_body}

-- ---- ciphertexts

pub length-poly_bytes : (poly : Poly) → length (poly_bytes poly) ≡ 7 * length poly
length-poly_bytes [] = refl
length-poly_bytes (x ∷ xs) = omega (arith, length-append (number 7 x) (poly_bytes xs), length-digits 256 7 x, length-poly_bytes xs)

length-rows_bytes : (N : ℕ) (cipher : Cipher) → ((i : ℕ) → i < length cipher → length (get_or cipher i []) ≡ N)
    → length (rows_bytes cipher) ≡ length cipher * (7 * N)
length-rows_bytes N [] each = omega arith
length-rows_bytes N (row ∷ rows) each =
    let first : length row ≡ N = each 0 (omega arith) in
    let rest = length-rows_bytes N rows (λ i h. each (suc i) (omega arith)) in
    omega (arith, length-append (poly_bytes row) (rows_bytes rows), length-poly_bytes row, ap (λ (k : ℕ). 7 * k) first, rest)

pub rows_of_cipher : (N m : ℕ) (cipher : Cipher) → IsCipher N m cipher → length (rows_bytes cipher) ≡ (m + 1) * (7 * N)
rows_of_cipher N m cipher is =
    length-rows_bytes N cipher (λ i h. (is.residues i [] h).0) ∙ ap (λ (k : ℕ). k * (7 * N)) is.rows_count

-- Ciphertexts of one shape take 7 bytes for each number.
pub length-cipher_bytes : (N m : ℕ) (ciphers : List Cipher) → All (IsCipher N m) ciphers → length (cipher_bytes ciphers) ≡ length ciphers * ((m + 1) * (7 * N))
unfolding cipher_bytes
length-cipher_bytes N m [] each = omega arith
length-cipher_bytes N m (cipher ∷ ciphers) each =
    let first = rows_of_cipher N m cipher (each 0 [] (omega arith)) in
    let rest = length-cipher_bytes N m ciphers (λ i d h. each (suc i) d (omega arith)) in
    omega (arith, length-append (rows_bytes cipher) (flat_map rows_bytes ciphers), first, rest)

pub query_bytes : (set : ParamSet) → ciphertext_count (query_ciphertexts set) * ((query_rows set + 1) * (7 * set.degree)) ≡ query_len set
query_bytes set =
    elim set.direct as (λ direct.
    ciphertext_count (query_ciphertexts (record set { direct = direct })) * ((query_rows (record set { direct = direct }) + 1) * (7 * set.degree))
    ≡ query_len (record set { direct = direct })) [
      | true ↦ omega arith
      | false ↦ omega arith
    ]

-- The body of a Query has the bytes that its set says.
pub length-query_body : (query : CipherBody) → IsQuery query → length (cipher_bytes query.ciphers) ≡ query_len query.set
length-query_body query is =
    let set = query.set in
    length-cipher_bytes set.degree (query_rows set) query.ciphers is.shapes
    ∙ ap (λ (k : ℕ). k * ((query_rows set + 1) * (7 * set.degree))) is.count
    ∙ query_bytes set

-- ---- the body of a State

-- the bytes of a secret, and back: 0, 1 and 2 for -1, 0 and 1
pub ternary_byte : (z : ℤ) → IsTernary z → secret_byte z ≤ 2
ternary_byte z h = omega (arith, ints)

pub ternary_bytes : (secret : List ℤ) → All IsTernary secret → All (λ b. b ≤ 2) (map secret_byte secret)
ternary_bytes secret h = All-map (λ b. b ≤ 2) secret_byte secret (λ k d lt. ternary_byte (get_or secret k d) (h k d lt))

-- the index fits its 8 bytes
index_fits : (state : QueryState) → IsState state → state.index < 256 ^ 8
index_fits state is =
    let sizes = set_sizes state.set is.known in
    let low : state.index < max_records state.set = is.index in
    let large : 4096 < 256 ^ 8 = lit< tt in
    omega arith

pub length-state_body : (state : QueryState) → IsState state → length (state_body state) ≡ state_len state.set
unfolding state_body
length-state_body state is =
    omega (
      arith,
      length-append (number 8 state.index) (map secret_byte state.secret),
      length-digits 256 8 state.index,
      length-map state.secret secret_byte,
      is.secret_length,
    )

pub index_in_body : (state : QueryState) → IsState state → number_of 256 (take 8 (state_body state)) ≡ state.index
unfolding state_body
index_in_body state is = number_at_front 8 state.index (map secret_byte state.secret) (index_fits state is)

pub secret_in_body : (state : QueryState) → drop 8 (state_body state) ≡ map secret_byte state.secret
unfolding state_body
secret_in_body state = behind_number 8 state.index (map secret_byte state.secret)

-- a body by its parts
pub state_body_is : (state : QueryState) (body : List ℕ) → take 8 body ≡ number 8 state.index → drop 8 body ≡ map secret_byte state.secret
    → body ≡ state_body state
unfolding state_body
state_body_is state body front back = sym (take-append-drop 8 body) ∙ rw (front, back) refl

-- ---- the body of a Reply

pub count_fits : (reply : SwitchedReply) → IsReply reply → reply.count < 256 ^ 8
count_fits reply is =
    let sizes = set_sizes reply.set is.known in
    let low : reply.count ≤ max_records reply.set = is.count in
    let large : 4096 < 256 ^ 8 = lit< tt in
    omega arith

pub record_length_fits : (reply : SwitchedReply) → IsReply reply → reply.record_length < 256 ^ 8
record_length_fits reply is =
    let sizes = set_sizes reply.set is.known in
    let low : reply.record_length ≤ capacity reply.set = is.record_length in
    let large : 49152 < 256 ^ 8 = lit< tt in
    omega arith

pub length-packed : (set : ParamSet) (width : ℕ) (poly : List ℕ) → length (packed set width poly) ≡ packed_len set width
length-packed set width poly = length-repacked width 8 (packed_len set width) poly

pub length-packed_all : (set : ParamSet) (width : ℕ) (polys : List (List ℕ)) → length (flat_map (packed set width) polys) ≡ length polys * packed_len set width
length-packed_all set width [] = omega arith
length-packed_all set width (poly ∷ polys) =
    omega (arith, length-append (packed set width poly) (flat_map (packed set width) polys), length-packed set width poly, length-packed_all set width polys)

-- a reply's polynomials in a frame
abbrev pub packed_polys : SwitchedReply → List ℕ
packed_polys reply =
    flat_map (packed reply.set (q1_bits reply.set)) reply.body ++ flat_map (packed reply.set reply.set.q2_bits) reply.mask

reply_body_parts : (reply : SwitchedReply) → reply_body reply ≡ number 8 reply.count ++ (number 8 reply.record_length ++ packed_polys reply)
unfolding reply_body
reply_body_parts reply = simp append_assoc

pub count_in_body : (reply : SwitchedReply) → IsReply reply → number_of 256 (take 8 (reply_body reply)) ≡ reply.count
count_in_body reply is =
    rw (reply_body_parts reply) (number_at_front 8 reply.count (number 8 reply.record_length ++ packed_polys reply) (count_fits reply is))

pub record_length_in_body : (reply : SwitchedReply) → IsReply reply → number_of 256 (take 8 (drop 8 (reply_body reply))) ≡ reply.record_length
record_length_in_body reply is =
    rw (reply_body_parts reply, behind_number 8 reply.count (number 8 reply.record_length ++ packed_polys reply))
    (number_at_front 8 reply.record_length (packed_polys reply) (record_length_fits reply is))

-- the polynomials stand behind both numbers
pub polys_in_body : (reply : SwitchedReply) → drop 16 (reply_body reply) ≡ packed_polys reply
polys_in_body reply =
    sym (drop-drop 8 8 (reply_body reply))
    ∙ rw (reply_body_parts reply, behind_number 8 reply.count (number 8 reply.record_length ++ packed_polys reply))
    (behind_number 8 reply.record_length (packed_polys reply))

pub length-reply_body : (reply : SwitchedReply) → IsReply reply → length (reply_body reply) ≡ reply_len reply.set
length-reply_body reply is =
    let set : ParamSet = reply.set in
    let body : length (flat_map (packed set (q1_bits set)) reply.body) ≡ entries set * packed_len set (q1_bits set) =
    length-packed_all set (q1_bits set) reply.body ∙ ap (λ (k : ℕ). k * packed_len set (q1_bits set)) is.body_count in
    let mask : length (flat_map (packed set set.q2_bits) reply.mask) ≡ set.n * packed_len set set.q2_bits =
    length-packed_all set set.q2_bits reply.mask ∙ ap (λ (k : ℕ). k * packed_len set set.q2_bits) is.mask_count in
    rw (reply_body_parts reply, length-append, length-digits, length-append, length-digits, length-append, body, mask) (omega arith)

-- a body by its parts
pub reply_body_is : (reply : SwitchedReply) (body : List ℕ) → take 8 body ≡ number 8 reply.count → take 8 (drop 8 body) ≡ number 8 reply.record_length
    → drop 16 body ≡ packed_polys reply → body ≡ reply_body reply
reply_body_is reply body count record_length polys =
    let rest : drop 8 body ≡ number 8 reply.record_length ++ packed_polys reply =
    sym (take-append-drop 8 (drop 8 body)) ∙ rw (record_length, drop-drop, polys) refl in
    sym (take-append-drop 8 body) ∙ rw (count, rest) (sym (reply_body_parts reply))

-- ---- the body of a Database

pub length-database_body : (table : RecordTable) → length (database_body table) ≡ 16 + length table.bytes
unfolding database_body
length-database_body table =
    omega (
      arith,
      length-append (number 8 (record_count table) ++ number 8 table.record_length) table.bytes,
      length-append (number 8 (record_count table)) (number 8 table.record_length),
      length-digits 256 8 (record_count table),
      length-digits 256 8 table.record_length,
    )

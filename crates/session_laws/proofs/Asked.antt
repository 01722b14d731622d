-- What a server makes of a Setup, where there is one, and a Query behind it: one reply, and no refusal.
use Rattle.std.proofs.Common.{◌≡◌, ℕ, ◌+◌, Bool, true, false, not, nat_eq, if◌then◌else◌, List, [], ◌∷◌, ◌++◌, length, Option, Some, None, refl, ◌∙◌, ap, eq-eqb, append-nil}
use Rattle.std.specs.Option.{option_map}
use Rattle.std.specs.List.{flat_map}
use Rattle.spiral_sets.specs.declared.param_set.ParamSet.{ParamSet}
use Rattle.spiral_sets.specs.Sets.{has_keys}
use Rattle.frame_headers.specs.declared.frame_error.FrameError.{FrameError}
use Rattle.frame_headers.specs.Kinds.{code_of_kind}
use Rattle.frame_headers.specs.Checks.{accepts}
use Rattle.spiral_model.specs.Bodies.{CipherBody, IsSetup, IsQuery}
use Rattle.spiral_model.specs.Databases.{RecordTable}
use Rattle.spiral_model.specs.Keys.{SetKeys, keys_in}
use Rattle.spiral_frames.specs.Frames.{Message, PeerRefusal, setup_message, query_message, kind_of, set_of_message, frame_of, IsMessage}
use Rattle.spiral_frames.specs.FrameChecks.{whole, front}
use Rattle.frame_streams.specs.Decoding.{Placed, Condition, reading, Decoding, begun, with_message, decoded, messages, first_by, first_refusal}
use Rattle.frame_streams.specs.Serving.{reply_frame, Serving, idle, refuse_with, lacks_keys, serve_own, serve_one, served, server_kinds, served_input, refusal_by, or_refused, server_first, replies_to, refuse_frame, serve_bytes}
use Rattle.frame_streams.proofs.ReadAgain.{read_again}
use Rattle.frame_streams.proofs.OneFrames.{front_of_one}
use Rattle.frame_streams.proofs.Pieces.{decoded-append, piece_whole}
use Rattle.frame_streams.proofs.Splitting.{front-nil}
use Rattle.frame_streams.proofs.Serving.{served-nil, served-cons, serve_open}
use Rattle.pir_client.specs.Asks.{frame_if_any}

-- ---- frames that are read

-- with the message of a whole frame read behind those before it
abbrev pub with_frame : Decoding → Message → Decoding
with_frame d m = record d { ready = d.ready ++ record { place = d.at; message = m } ∷ []; at = d.at + length (frame_of m); condition = reading [] }

-- A frame of an accepted kind, behind frames that were read whole: its message is the next.
pub frame_next : (d : Decoding) (m : Message) → d.condition ≡ reading [] → IsMessage m → accepts d.kinds (code_of_kind (kind_of m)) ≡ true
    → decoded d (frame_of m) ≡ with_frame d m
frame_next d m stands is accepted =
    let found : front d.kinds (frame_of m) ≡ whole (length (frame_of m)) =
    front_of_one d.kinds (frame_of m) m (record { accepted = accepted; spells = record { is = is; spelled = refl } }) in
    piece_whole d [] (frame_of m) stands (front-nil d.kinds) (length (frame_of m)) found refl
    ∙ ap (λ (read : Option Message). record d { ready = with_message d.ready d.at read; at = d.at + length (frame_of m); condition = reading [] })
    (read_again m is)

-- A server that was sent a Query alone,
query_read : (query : CipherBody) → IsQuery query → decoded (begun server_kinds) (frame_of (query_message query)) ≡ with_frame (begun server_kinds) (query_message query)
query_read query is = frame_next (begun server_kinds) (query_message query) refl is refl

-- or a Setup before it.
both_read : (setup query : CipherBody) → IsSetup setup → IsQuery query
    → decoded (begun server_kinds) (frame_of (setup_message setup) ++ frame_of (query_message query))
    ≡ with_frame (with_frame (begun server_kinds) (setup_message setup)) (query_message query)
both_read setup query keys is =
    decoded-append (begun server_kinds) (frame_of (setup_message setup)) (frame_of (query_message query))
    ∙ ap (λ (d : Decoding). decoded d (frame_of (query_message query))) (frame_next (begun server_kinds) (setup_message setup) refl keys refl)
    ∙ frame_next (with_frame (begun server_kinds) (setup_message setup)) (query_message query) refl is refl

-- ---- messages that are served

-- a message of the server's set, before any refusal
own_served : (table : RecordTable) (s : Serving) (placed : Placed) → s.refusal ≡ None → set_of_message placed.message ≡ table.set
    → serve_one table s placed ≡ serve_own table s placed.place placed.message
own_served table s placed clear of_set =
    let same : nat_eq (set_of_message placed.message).id table.set.id ≡ true =
    eq-eqb (set_of_message placed.message).id table.set.id (ap (λ (set : ParamSet). set.id) of_set) in
    serve_open table s placed clear
    ∙ ap (λ (b : Bool). if not b then refuse_with table s 11 placed.place else serve_own table s placed.place placed.message) same

-- a server with these keys, and nothing answered or refused yet
abbrev with_keys : Option SetKeys → Serving
with_keys keys = record idle { keys = keys }

-- with one reply
abbrev with_reply : Option SetKeys → List ℕ → Serving
with_reply keys frame = record { keys = keys; replies = frame ∷ []; refusal = None }

-- a Query is answered where no keys are lacking
query_served : (table : RecordTable) (keys : Option SetKeys) (place : ℕ) (query : CipherBody) → query.set ≡ table.set → lacks_keys table.set keys ≡ false
    → serve_one table (with_keys keys) (record { place = place; message = query_message query }) ≡ with_reply keys (reply_frame table keys query)
query_served table keys place query of_set enough =
    own_served table (with_keys keys) (record { place = place; message = query_message query }) refl of_set
    ∙ ap (λ (b : Bool). if b then refuse_with table (with_keys keys) 12 place else with_reply keys (reply_frame table keys query)) enough

-- a Setup is kept in a set that has keys
setup_served : (table : RecordTable) (place : ℕ) (setup : CipherBody) → setup.set ≡ table.set → has_keys table.set ≡ true
    → serve_one table idle (record { place = place; message = setup_message setup }) ≡ with_keys (Some (keys_in setup))
setup_served table place setup of_set keys =
    own_served table idle (record { place = place; message = setup_message setup }) refl of_set
    ∙ ap (λ (b : Bool). with_keys (if b then Some (keys_in setup) else None)) keys

served_one : (table : RecordTable) (s : Serving) (placed : Placed) → served table s (placed ∷ []) ≡ serve_one table s placed
served_one table s placed = served-cons table s placed [] ∙ served-nil table (serve_one table s placed)

-- a Query behind the Setup
both_served : (table : RecordTable) (setup query : CipherBody) (first next : ℕ) → setup.set ≡ table.set → has_keys table.set ≡ true → query.set ≡ table.set
    → served table idle (record { place = first; message = setup_message setup } ∷ record { place = next; message = query_message query } ∷ [])
    ≡ with_reply (Some (keys_in setup)) (reply_frame table (Some (keys_in setup)) query)
both_served table setup query first next of_set keys own =
    let last : Placed = record { place = next; message = query_message query } in
    served-cons table idle (record { place = first; message = setup_message setup }) (last ∷ [])
    ∙ ap (λ (s : Serving). served table s (last ∷ [])) (setup_served table first setup of_set keys)
    ∙ served_one table (with_keys (Some (keys_in setup))) last
    ∙ query_served table (Some (keys_in setup)) next query own refl

-- ---- what is written

-- A server of the table answers the input with this one frame.
pub record HasOneReply (table : RecordTable) (input frame : List ℕ) : Type 0 where
  pub bytes : serve_bytes table input ≡ frame
  pub first : server_first table input ≡ None
  pub replies : (served_input table input).replies ≡ frame ∷ []

-- frames alone were read, so that nothing is refused of the input
none_behind : (x : List ℕ) (d : Decoding) → decoded (begun server_kinds) x ≡ d → d.condition ≡ reading [] → first_refusal server_kinds x ≡ None
unfolding first_refusal
none_behind x d is ended = ap (λ (e : Decoding). first_by e.condition (length x)) is ∙ ap (λ (c : Condition). first_by c (length x)) ended

none_refused : (table : RecordTable) (x : List ℕ) → (served_input table x).refusal ≡ None → first_refusal server_kinds x ≡ None → server_first table x ≡ None
unfolding server_first
none_refused table x clear ended =
    ap (λ (refusal : Option PeerRefusal). or_refused refusal (option_map (refusal_by table.set) (first_refusal server_kinds x))) clear
    ∙ ap (λ (error : Option FrameError). option_map (refusal_by table.set) error) ended

-- the replies, and what refuses
written : (table : RecordTable) (x frame : List ℕ) → (served_input table x).replies ≡ frame ∷ [] → server_first table x ≡ None → serve_bytes table x ≡ frame
unfolding serve_bytes replies_to
written table x frame replies none =
    ap (λ (frames : List (List ℕ)). flat_map (λ f. f) frames ++ refuse_frame (server_first table x)) replies
    ∙ ap (λ (refusal : Option PeerRefusal). (frame ++ []) ++ refuse_frame refusal) none
    ∙ append-nil (frame ++ [])
    ∙ append-nil frame

-- By what reading comes to, and what is made of its messages.
replied : (table : RecordTable) (x frame : List ℕ) (keys : Option SetKeys) (d : Decoding) → decoded (begun server_kinds) x ≡ d → d.condition ≡ reading []
    → served table idle d.ready ≡ with_reply keys frame → HasOneReply table x frame
unfolding served_input messages
replied table x frame keys d is ended made =
    let whole : served_input table x ≡ with_reply keys frame = ap (λ (e : Decoding). served table idle e.ready) is ∙ made in
    let replies : (served_input table x).replies ≡ frame ∷ [] = ap (λ (s : Serving). s.replies) whole in
    let none : server_first table x ≡ None = none_refused table x (ap (λ (s : Serving). s.refusal) whole) (none_behind x d is ended) in
    record { bytes = written table x frame replies none; first = none; replies = replies }

-- ---- a client's input

-- The keys that a client sends go with the set: those of a Setup of it where it has keys, and none where it hasn't.
abbrev pub KeysFor : ParamSet → Option CipherBody → Type 0
KeysFor set (Some setup) = IsSetup setup × (setup.set ≡ set) × (has_keys set ≡ true)
KeysFor set None = has_keys set ≡ false

-- A Setup, where the set has keys, and a Query behind it are answered with one reply, made with the Setup's keys.
pub asked_answered : (table : RecordTable) (setup : Option CipherBody) (query : CipherBody) → KeysFor table.set setup → IsQuery query → query.set ≡ table.set
    → HasOneReply table (frame_if_any setup ++ frame_of (query_message query)) (reply_frame table (option_map keys_in setup) query)
asked_answered table (Some setup) query (shape, of_set, keys) is own =
    replied table (frame_of (setup_message setup) ++ frame_of (query_message query)) (reply_frame table (Some (keys_in setup)) query) (Some (keys_in setup))
    (with_frame (with_frame (begun server_kinds) (setup_message setup)) (query_message query)) (both_read setup query shape is) refl
    (both_served table setup query 0 (0 + length (frame_of (setup_message setup))) of_set keys own)
asked_answered table None query keyless is own =
    replied table (frame_of (query_message query)) (reply_frame table None query) None (with_frame (begun server_kinds) (query_message query))
    (query_read query is) refl
    (served_one table idle (record { place = 0; message = query_message query }) ∙ query_served table None 0 query own keyless)

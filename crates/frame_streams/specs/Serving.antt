-- What a server writes for the bytes that it reads in a session.
use Rattle.std.specs.Prelude.{ℕ, Bool, false, List, [], ◌∷◌, ◌++◌, not, nat_eq, if◌then◌else◌, Option, Some, None}
use Rattle.std.specs.Option.{option_map}
use Rattle.std.specs.List.{flat_map}
use Rattle.spiral_sets.specs.declared.param_set.ParamSet.{ParamSet}
use Rattle.spiral_sets.specs.Sets.{has_keys}
use Rattle.frame_headers.specs.declared.frame_error.FrameError.{FrameError}
use Rattle.frame_headers.specs.Refusals.{code_of, place_of}
use Rattle.spiral_model.specs.Bodies.{CipherBody}
use Rattle.spiral_model.specs.Databases.{RecordTable}
use Rattle.spiral_model.specs.Keys.{SetKeys, keys_in}
use Rattle.spiral_model.specs.Replies.{SwitchedReply}
use Rattle.spiral_model.specs.Answering.{ready_of, answer_of}
use Rattle.spiral_frames.specs.Frames.{Message, PeerRefusal, setup_message, query_message, reply_message, refuse_message, state_message, database_message, set_of_message, frame_of}
use Rattle.frame_streams.specs.Decoding.{Placed, messages, first_refusal}

-- the answer to a query, made ready with these keys, and its frame
abbrev pub reply_for : RecordTable → Option SetKeys → CipherBody → SwitchedReply
reply_for table keys query = answer_of table keys (ready_of table.set keys query.ciphers)

abbrev pub reply_frame : RecordTable → Option SetKeys → CipherBody → List ℕ
reply_frame table keys query = frame_of (reply_message (reply_for table keys query))

-- What a server has made of the messages so far: the keys of the last Setup, its replies' frames, and its refusal.
pub record Serving : Type 0 where
  pub keys : Option SetKeys
  pub replies : List (List ℕ)
  pub refusal : Option PeerRefusal

-- a session starts without keys
abbrev pub idle : Serving
idle = record { keys = None; replies = []; refusal = None }

abbrev pub refuse_with : RecordTable → Serving → ℕ → ℕ → Serving
refuse_with table s code place = record s { refusal = Some (record { set = table.set; code = code; place = place }) }

-- the keys of a Setup, in a set that has keys
abbrev pub kept_keys : ParamSet → CipherBody → Option SetKeys
kept_keys set setup = if has_keys set then Some (keys_in setup) else None

-- keys are wanted, and none have come
abbrev pub lacks_keys : ParamSet → Option SetKeys → Bool
lacks_keys set None = has_keys set
lacks_keys set (Some keys) = false

-- A message of the server's set: a Setup is kept in place of an earlier one; a Query is answered, or refused with code 12 where it comes
-- before any Setup in a set with keys.
abbrev pub serve_own : RecordTable → Serving → ℕ → Message → Serving
serve_own table s place (setup_message setup) = record s { keys = kept_keys table.set setup }
serve_own table s place (query_message query) =
    if lacks_keys table.set s.keys then refuse_with table s 12 place else record s { replies = s.replies ++ reply_frame table s.keys query ∷ [] }
serve_own table s place (reply_message reply) = s
serve_own table s place (refuse_message refusal) = s
serve_own table s place (state_message state) = s
serve_own table s place (database_message other) = s

-- One message more: one of another set is refused with code 11; behind a refusal nothing is done.
abbrev pub serve_by : Option PeerRefusal → RecordTable → Serving → Placed → Serving
serve_by (Some refusal) table s placed = s
serve_by None table s placed =
    if not (nat_eq (set_of_message placed.message).id table.set.id) then refuse_with table s 11 placed.place
    else serve_own table s placed.place placed.message

unfoldable pub serve_one : RecordTable → Serving → Placed → Serving
serve_one table s placed = serve_by s.refusal table s placed

unfoldable pub served : RecordTable → Serving → List Placed → Serving
served table s [] = s
served table s (placed ∷ rest) = served table (serve_one table s placed) rest

-- a server accepts the kinds Setup and Query
abbrev pub server_kinds : ℕ
server_kinds = 6

-- What a server makes of all messages of an input.
unfoldable pub served_input : RecordTable → List ℕ → Serving
served_input table x = served table idle (messages server_kinds x)

-- a refusal of an input, as a server of the set writes it
abbrev pub refusal_by : ParamSet → FrameError → PeerRefusal
refusal_by set error = record { set = set; code = code_of error; place = place_of error }

abbrev pub or_refused : Option PeerRefusal → Option PeerRefusal → Option PeerRefusal
or_refused (Some refusal) later = Some refusal
or_refused None later = later

-- The refusal that a server has for an input: the first of a message, or else that of the frame behind the messages.
unfoldable pub server_first : RecordTable → List ℕ → Option PeerRefusal
server_first table x = or_refused (served_input table x).refusal (option_map (refusal_by table.set) (first_refusal server_kinds x))

-- the replies to an input, one behind the other
unfoldable pub replies_to : RecordTable → List ℕ → List ℕ
replies_to table x = flat_map (λ frame. frame) (served_input table x).replies

abbrev pub refuse_frame : Option PeerRefusal → List ℕ
refuse_frame (Some refusal) = frame_of (refuse_message refusal)
refuse_frame None = []

-- What a server writes for an input: its replies, and the Refuse frame of its refusal where it has one.
unfoldable pub serve_bytes : RecordTable → List ℕ → List ℕ
serve_bytes table x = replies_to table x ++ refuse_frame (server_first table x)

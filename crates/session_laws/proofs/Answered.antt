-- The laws of an exchange.
use Rattle.std.proofs.Common.{◌≡◌, ℕ, Bool, true, false, if◌then◌else◌, List, [], ◌++◌, Some, None, refl}
use Rattle.spiral_sets.specs.Sets.{has_keys}
use Rattle.spiral_model.specs.Databases.{RecordTable, IsTable}
use Rattle.spiral_model.specs.Keys.{keys_in}
use Rattle.spiral_model.specs.Dealing.{key_body_of, query_body_of, dealt_keys}
use Rattle.spiral_frames.specs.Frames.{Message, setup_message, query_message, reply_message, frame_of}
use Rattle.frame_streams.specs.OneFrames.{IsOneOf}
use Rattle.frame_streams.specs.Serving.{reply_frame}
use Rattle.frame_streams.proofs.Spelled.{spelled_once}
use Rattle.frame_streams.proofs.OneFrames.{one_is_not_refused}
use Rattle.noise_laws.specs.LookUps.{reply_to}
use Rattle.pir_client.specs.Asks.{setup_frame}
use Rattle.session_laws.specs.Exchanges.{asking_bytes, answering_bytes, IsAnswered, client_kinds, IsRead}
use Rattle.session_laws.proofs.Asked.{HasOneReply, asked_answered}
use Rattle.session_laws.proofs.Shapes.{dealt-setup, keys-set, dealt-query, query-set}
use Rattle.session_laws.proofs.ReplyShapes.{dealt-reply}

-- by whether the set has keys
dealt_answered : (has : Bool) (table : RecordTable) (words : List ℕ) (index : ℕ) → IsTable table → has_keys table.set ≡ has
    → HasOneReply table ((if has then frame_of (setup_message (key_body_of table.set words)) else []) ++ frame_of (query_message (query_body_of table.set words index)))
    (reply_frame table (if has then Some (keys_in (key_body_of table.set words)) else None) (query_body_of table.set words index))
dealt_answered true table words index is keys =
    asked_answered table (Some (key_body_of table.set words)) (query_body_of table.set words index)
    (dealt-setup table.set words is.known keys, keys-set table.set words, keys) (dealt-query table.set words index is.known) (query-set table.set words index)
dealt_answered false table words index is keyless =
    asked_answered table None (query_body_of table.set words index) keyless (dealt-query table.set words index is.known) (query-set table.set words index)

one_reply : (table : RecordTable) (words : List ℕ) (index : ℕ) → IsTable table
    → HasOneReply table (asking_bytes table.set words index) (answering_bytes table words index)
unfolding setup_frame dealt_keys
one_reply table words index is = dealt_answered (has_keys table.set) table words index is refl

-- What a client sends is answered with one reply.
pub query_is_answered : (table : RecordTable) (words : List ℕ) (index : ℕ) → IsTable table → IsAnswered table words index
query_is_answered table words index is =
    let one = one_reply table words index is in record { bytes = one.bytes; first = one.first; replies = one.replies }

-- ---- the answer

-- it is the frame of the reply
reply_framed : (table : RecordTable) (words : List ℕ) (index : ℕ) → answering_bytes table words index ≡ frame_of (reply_message (reply_to table words index))
unfolding query_body_of
reply_framed table words index = refl

reply_spelled : (table : RecordTable) (words : List ℕ) (index : ℕ) → IsTable table
    → IsOneOf client_kinds (answering_bytes table words index) (reply_message (reply_to table words index))
reply_spelled table words index is =
    record { accepted = refl; spells = record { is = dealt-reply table words index is; spelled = reply_framed table words index } }

-- The answer is read as one whole frame, that of the reply.
pub answer_is_read : (table : RecordTable) (words : List ℕ) (index : ℕ) → IsTable table → IsRead table words index
answer_is_read table words index is =
    let x : List ℕ = answering_bytes table words index in
    let reply : Message = reply_message (reply_to table words index) in
    let one : IsOneOf client_kinds x reply = reply_spelled table words index is in
    record {
      one = one;
      only = λ m other. spelled_once x m reply other.spells one.spells;
      kept = one_is_not_refused client_kinds x reply one;
    }

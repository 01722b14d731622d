-- A message is read again from its frame.
use Rattle.std.proofs.Common.{◌≡◌, ℕ, List, ◌++◌, length, drop, Option, Some, refl, ◌∙◌, ap}
use Rattle.spiral_sets.specs.declared.param_set.ParamSet.{ParamSet}
use Rattle.frame_headers.specs.declared.kind.FrameKind.{FrameKind}
use Rattle.frame_headers.specs.declared.kind.FrameKind.TheVariants.{Setup, Query, Reply, Refuse, State, Database}
use Rattle.frame_headers.specs.Kinds.{code_of_kind, kind_of_code}
use Rattle.frame_headers.specs.Headers.{header}
use Rattle.frame_headers.specs.Checks.{kind_in, set_in, header_len_in}
use Rattle.spiral_model.specs.Bodies.{CipherBody}
use Rattle.spiral_model.specs.Replies.{QueryState, SwitchedReply}
use Rattle.spiral_model.specs.Databases.{RecordTable}
use Rattle.spiral_frames.specs.Frames.{Message, PeerRefusal, setup_message, query_message, reply_message, refuse_message, state_message, database_message, kind_of, set_of_message, body_of, frame_of, IsMessage}
use Rattle.spiral_frames.proofs.FrameLaws.{known_of}
use Rattle.frame_streams.specs.Parsing.{message_by, message_read, message_in}
use Rattle.frame_streams.proofs.HeadersBack.{kind_back, set_back, body_back}
use Rattle.frame_streams.proofs.CipherBodies.{setup_back, query_back}
use Rattle.frame_streams.proofs.ReplyBodies.{reply_back}
use Rattle.frame_streams.proofs.SmallBodies.{refuse_back, state_back, table_back}

-- a kind is that of its code
pub kind_named : (kind : FrameKind) → kind_of_code (code_of_kind kind) ≡ Some kind
kind_named Setup = refl
kind_named Query = refl
kind_named Reply = refl
kind_named Refuse = refl
kind_named State = refl
kind_named Database = refl

-- a message, from its kind, its set and its body
pub message_back : (m : Message) → IsMessage m → message_by (kind_of m) (set_of_message m) (body_of m) ≡ m
message_back (setup_message keys) is = ap (λ (k : CipherBody). setup_message k) (setup_back keys is)
message_back (query_message query) is = ap (λ (k : CipherBody). query_message k) (query_back query is)
message_back (reply_message reply) is = ap (λ (r : SwitchedReply). reply_message r) (reply_back reply is)
message_back (refuse_message refusal) is = ap (λ (r : PeerRefusal). refuse_message r) (refuse_back refusal is.2)
message_back (state_message state) is = ap (λ (s : QueryState). state_message s) (state_back state is)
message_back (database_message table) is = ap (λ (t : RecordTable). database_message t) (table_back table is)

-- A message is read again from its frame.
pub read_again : (m : Message) → IsMessage m → message_in (frame_of m) ≡ Some m
unfolding message_in frame_of
read_again m is =
    let kind : FrameKind = kind_of m in
    let set : ParamSet = set_of_message m in
    let code : ℕ = code_of_kind kind in
    let size : ℕ = length (body_of m) in
    let whole : List ℕ = header code set size ++ body_of m in
    let kind_is : kind_of_code (kind_in whole) ≡ Some kind = ap kind_of_code (kind_back code set size (body_of m)) ∙ kind_named kind in
    ap (λ (named : Option FrameKind). message_read named (set_in whole) (drop (header_len_in whole) whole)) kind_is
    ∙ ap (λ (named : Option ParamSet). message_read (Some kind) named (drop (header_len_in whole) whole)) (set_back code set size (body_of m) (known_of m is))
    ∙ ap (λ (body : List ℕ). Some (message_by kind set body)) (body_back code set size (body_of m))
    ∙ ap (λ (n : Message). Some n) (message_back m is)

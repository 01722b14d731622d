-- Messages and the frames that spell them.
use Rattle.std.specs.Prelude.{ℕ, ℤ, List, ◌∷◌, ◌++◌, ◌≡◌, ◌^◌, ◌<◌, length, map, pos, ◌+ℤ◌, unsigned_abs}
use Rattle.std.specs.List.{flat_map}
use Rattle.negacyclic.specs.Digits.{repacked}
use Rattle.spiral_sets.specs.declared.param_set.ParamSet.{ParamSet}
use Rattle.spiral_sets.specs.Sets.{IsSet, q1_bits}
use Rattle.spiral_sets.specs.Counts.{packed_len}
use Rattle.frame_headers.specs.declared.kind.FrameKind.{FrameKind}
use Rattle.frame_headers.specs.declared.kind.FrameKind.TheVariants.{Setup, Query, Reply, Refuse, State, Database}
use Rattle.frame_headers.specs.Kinds.{code_of_kind}
use Rattle.frame_headers.specs.Headers.{number, header}
use Rattle.spiral_model.specs.Words.{Poly, Cipher}
use Rattle.spiral_model.specs.Bodies.{CipherBody, IsSetup, IsQuery}
use Rattle.spiral_model.specs.Replies.{QueryState, IsState, SwitchedReply, IsReply}
use Rattle.spiral_model.specs.Databases.{RecordTable, IsTable, record_count}

-- A server's refusal: its set, and the code and place of what it refuses.
pub record PeerRefusal : Type 0 where
  pub set : ParamSet
  pub code : ℕ
  pub place : ℕ

-- what a frame carries
pub data Message : Type 0 where
  setup_message : CipherBody → Message
  query_message : CipherBody → Message
  reply_message : SwitchedReply → Message
  refuse_message : PeerRefusal → Message
  state_message : QueryState → Message
  database_message : RecordTable → Message

abbrev pub kind_of : Message → FrameKind
kind_of (setup_message _) = Setup
kind_of (query_message _) = Query
kind_of (reply_message _) = Reply
kind_of (refuse_message _) = Refuse
kind_of (state_message _) = State
kind_of (database_message _) = Database

abbrev pub set_of_message : Message → ParamSet
set_of_message (setup_message keys) = keys.set
set_of_message (query_message query) = query.set
set_of_message (reply_message reply) = reply.set
set_of_message (refuse_message refusal) = refusal.set
set_of_message (state_message state) = state.set
set_of_message (database_message table) = table.set

-- ---- bodies

-- The residues of ciphertexts, 7 bytes each: ciphertext by ciphertext, row by row, from place 0.
abbrev pub poly_bytes : Poly → List ℕ
poly_bytes poly = flat_map (number 7) poly

abbrev pub rows_bytes : Cipher → List ℕ
rows_bytes cipher = flat_map poly_bytes cipher

unfoldable pub cipher_bytes : List Cipher → List ℕ
cipher_bytes ciphers = flat_map rows_bytes ciphers

-- The numbers of a polynomial of a reply, each in `width` bits, in whole bytes.
abbrev pub packed : ParamSet → ℕ → Poly → List ℕ
packed set width poly = repacked width 8 (packed_len set width) poly

-- The body of a Reply: the count and the record length in 8 bytes each, then the polynomials of rows 1 to n and those of row 0, at the
-- widths of q1 and q2.
unfoldable pub reply_body : SwitchedReply → List ℕ
reply_body reply =
    number 8 reply.count ++ number 8 reply.record_length
    ++ flat_map (packed reply.set (q1_bits reply.set)) reply.body
    ++ flat_map (packed reply.set reply.set.q2_bits) reply.mask

-- The body of a Refuse: the code in a byte and the place in 8.
unfoldable pub refuse_body : PeerRefusal → List ℕ
refuse_body refusal = refusal.code ∷ number 8 refusal.place

-- A secret number plus 1, as a byte.
abbrev pub secret_byte : ℤ → ℕ
secret_byte z = unsigned_abs (z +ℤ pos 1)

-- The body of a State: the index in 8 bytes, then a byte for each number of the secret.
unfoldable pub state_body : QueryState → List ℕ
state_body state = number 8 state.index ++ map secret_byte state.secret

-- The body of a Database: the count and the record length in 8 bytes each, then the records.
unfoldable pub database_body : RecordTable → List ℕ
database_body table = number 8 (record_count table) ++ number 8 table.record_length ++ table.bytes

abbrev pub body_of : Message → List ℕ
body_of (setup_message keys) = cipher_bytes keys.ciphers
body_of (query_message query) = cipher_bytes query.ciphers
body_of (reply_message reply) = reply_body reply
body_of (refuse_message refusal) = refuse_body refusal
body_of (state_message state) = state_body state
body_of (database_message table) = database_body table

-- ---- frames

-- the frame of a message: its header, and its body
unfoldable pub frame_of : Message → List ℕ
frame_of m = header (code_of_kind (kind_of m)) (set_of_message m) (length (body_of m)) ++ body_of m

-- what the type of a message keeps
abbrev pub IsMessage : Message → Type 0
IsMessage (setup_message keys) = IsSetup keys
IsMessage (query_message query) = IsQuery query
IsMessage (reply_message reply) = IsReply reply
IsMessage (refuse_message refusal) = IsSet refusal.set × (refusal.code < 256) × (refusal.place < 2 ^ 64)
IsMessage (state_message state) = IsState state
IsMessage (database_message table) = IsTable table

-- The bytes are the frame of the message, field by field.
pub record Spell (message : Message) (bytes : List ℕ) : Type 0 where
  pub is : IsMessage message
  pub spelled : bytes ≡ frame_of message

-- The whole input is one frame, and this is its message of the expected kind.
pub record IsOne (kind : FrameKind) (input : List ℕ) (message : Message) : Type 0 where
  pub kind_is : kind_of message ≡ kind
  pub spells : Spell message input

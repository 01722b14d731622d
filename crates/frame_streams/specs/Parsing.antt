-- The message that a whole frame spells, read off its bytes.
use Rattle.std.specs.Prelude.{ℕ, zero, suc, List, [], ◌∷◌, ◌+◌, ◌*◌, take, drop, map, pos, ◌-ℤ◌, Option, Some, None}
use Rattle.negacyclic.specs.Digits.{number_of, repacked}
use Rattle.spiral_sets.specs.declared.param_set.ParamSet.{ParamSet}
use Rattle.spiral_sets.specs.Sets.{q1_bits, entries}
use Rattle.spiral_sets.specs.Counts.{setup_ciphertexts, query_ciphertexts, packed_len}
use Rattle.frame_headers.specs.declared.kind.FrameKind.{FrameKind}
use Rattle.frame_headers.specs.declared.kind.FrameKind.TheVariants.{Setup, Query, Reply, Refuse, State, Database}
use Rattle.frame_headers.specs.Kinds.{kind_of_code}
use Rattle.frame_headers.specs.Checks.{kind_in, set_in, header_len_in}
use Rattle.spiral_model.specs.Words.{Poly, Cipher}
use Rattle.spiral_model.specs.Bodies.{CipherBody, rows_of}
use Rattle.spiral_model.specs.Replies.{QueryState, SwitchedReply}
use Rattle.spiral_model.specs.Databases.{RecordTable}
use Rattle.spiral_frames.specs.Frames.{Message, PeerRefusal, setup_message, query_message, reply_message, refuse_message, state_message, database_message}

-- The first `count` pieces of so many bytes each.
unfoldable pub pieces : ℕ → ℕ → List ℕ → List (List ℕ)
pieces len zero bytes = []
pieces len (suc count) bytes = take len bytes ∷ pieces len count (drop len bytes)

-- the number that the first so many bytes write
abbrev pub number_in_front : ℕ → List ℕ → ℕ
number_in_front count bytes = number_of 256 (take count bytes)

-- Ciphertexts of degree N: residues of 7 bytes, N to a row, and m + 1 rows to a ciphertext, with m from a list.
abbrev pub poly_in : ℕ → List ℕ → Poly
poly_in N bytes = map (number_of 256) (pieces 7 N bytes)

abbrev pub cipher_in : ℕ → ℕ → List ℕ → Cipher
cipher_in N m bytes = map (poly_in N) (pieces (7 * N) (m + 1) bytes)

unfoldable pub ciphers_in : ℕ → List ℕ → List ℕ → List Cipher
ciphers_in N [] bytes = []
ciphers_in N (m ∷ ms) bytes = cipher_in N m bytes ∷ ciphers_in N ms (drop ((m + 1) * (7 * N)) bytes)

-- So many polynomials of a reply, their numbers packed at this width.
abbrev pub switched_in : ParamSet → ℕ → ℕ → List ℕ → List Poly
switched_in set width count bytes = map (repacked 8 width set.degree) (pieces (packed_len set width) count bytes)

-- ---- what each kind's body says

unfoldable pub setup_in : ParamSet → List ℕ → CipherBody
setup_in set body = record { set = set; ciphers = ciphers_in set.degree (rows_of (setup_ciphertexts set)) body }

unfoldable pub query_in : ParamSet → List ℕ → CipherBody
query_in set body = record { set = set; ciphers = ciphers_in set.degree (rows_of (query_ciphertexts set)) body }

unfoldable pub reply_in : ParamSet → List ℕ → SwitchedReply
reply_in set body = record {
  set = set;
  count = number_in_front 8 body;
  record_length = number_in_front 8 (drop 8 body);
  body = switched_in set (q1_bits set) (entries set) (drop 16 body);
  mask = switched_in set set.q2_bits set.n (drop (16 + entries set * packed_len set (q1_bits set)) body);
}

unfoldable pub refuse_in : ParamSet → List ℕ → PeerRefusal
refuse_in set body = record { set = set; code = number_in_front 1 body; place = number_in_front 8 (drop 1 body) }

unfoldable pub state_in : ParamSet → List ℕ → QueryState
state_in set body = record { set = set; index = number_in_front 8 body; secret = map (λ b. pos b -ℤ pos 1) (drop 8 body) }

unfoldable pub table_in : ParamSet → List ℕ → RecordTable
table_in set body = record { set = set; record_length = number_in_front 8 (drop 8 body); bytes = drop 16 body }

abbrev pub message_by : FrameKind → ParamSet → List ℕ → Message
message_by Setup set body = setup_message (setup_in set body)
message_by Query set body = query_message (query_in set body)
message_by Reply set body = reply_message (reply_in set body)
message_by Refuse set body = refuse_message (refuse_in set body)
message_by State set body = state_message (state_in set body)
message_by Database set body = database_message (table_in set body)

-- a frame that names no kind or no set is refused, so that the last cases never come
abbrev pub message_read : Option FrameKind → Option ParamSet → List ℕ → Option Message
message_read (Some kind) (Some set) body = Some (message_by kind set body)
message_read (Some kind) None body = None
message_read None named body = None

-- The message of a whole frame.
unfoldable pub message_in : List ℕ → Option Message
message_in bytes = message_read (kind_of_code (kind_in bytes)) (set_in bytes) (drop (header_len_in bytes) bytes)

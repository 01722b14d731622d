-- Laws of frames: their headers, and that a frame is that of one message's numbers only.
use Rattle.std.proofs.Common.{◌≡◌, ℕ, ◌+◌, ◌<◌, ◌≤◌, ◌↔◌, List, ◌++◌, length, get_or, take, drop, sym, ◌∙◌, ap, arith, length-append, length-take}
use Rattle.std.proofs.lemmas.List.{take_all}
use Rattle.negacyclic.specs.Digits.{number_of}
use Rattle.spiral_sets.specs.Sets.{IsSet, name_of}
use Rattle.spiral_sets.specs.Counts.{setup_len, query_len, state_len, reply_len}
use Rattle.spiral_sets.proofs.SetNames.{same_from_name}
use Rattle.frame_headers.specs.declared.kind.FrameKind.{FrameKind}
use Rattle.frame_headers.specs.declared.kind.FrameKind.TheVariants.{Reply, State}
use Rattle.frame_headers.specs.Kinds.{code_of_kind}
use Rattle.frame_headers.specs.Headers.{header}
use Rattle.frame_headers.proofs.HeaderLaws.{length-header, name_in_front, same_front}
use Rattle.spiral_model.specs.Bodies.{CipherBody}
use Rattle.spiral_model.specs.Replies.{QueryState, SwitchedReply}
use Rattle.spiral_model.specs.Databases.{RecordTable}
use Rattle.spiral_frames.specs.Frames.{Message, setup_message, query_message, reply_message, refuse_message, state_message, database_message, kind_of, set_of_message, body_of, frame_of, state_body, reply_body, cipher_bytes, database_body, IsMessage, IsOne}
use Rattle.spiral_frames.proofs.Bodies.{length-query_body, length-state_body, length-reply_body, length-database_body, index_in_body, count_in_body}
use Rattle.spiral_frames.proofs.SetupBodies.{length-setup_body}

-- the frame of a message, its body of so many bytes
pub frame_is : (m : Message) (len : ℕ) → length (body_of m) ≡ len → frame_of m ≡ header (code_of_kind (kind_of m)) (set_of_message m) len ++ body_of m
unfolding frame_of
frame_is m len e = ap (λ (k : ℕ). header (code_of_kind (kind_of m)) (set_of_message m) k ++ body_of m) e

pub setup_frame_is : (keys : CipherBody) → IsMessage (setup_message keys)
    → frame_of (setup_message keys) ≡ header 1 keys.set (setup_len keys.set) ++ cipher_bytes keys.ciphers
setup_frame_is keys is = frame_is (setup_message keys) (setup_len keys.set) (length-setup_body keys is)

pub query_frame_is : (query : CipherBody) → IsMessage (query_message query)
    → frame_of (query_message query) ≡ header 2 query.set (query_len query.set) ++ cipher_bytes query.ciphers
query_frame_is query is = frame_is (query_message query) (query_len query.set) (length-query_body query is)

pub state_frame_is : (state : QueryState) → IsMessage (state_message state)
    → frame_of (state_message state) ≡ header 5 state.set (state_len state.set) ++ state_body state
state_frame_is state is = frame_is (state_message state) (state_len state.set) (length-state_body state is)

pub reply_frame_is : (reply : SwitchedReply) → IsMessage (reply_message reply)
    → frame_of (reply_message reply) ≡ header 3 reply.set (reply_len reply.set) ++ reply_body reply
reply_frame_is reply is = frame_is (reply_message reply) (reply_len reply.set) (length-reply_body reply is)

pub database_frame_is : (table : RecordTable) → frame_of (database_message table) ≡ header 6 table.set (16 + length table.bytes) ++ database_body table
database_frame_is table = frame_is (database_message table) (16 + length table.bytes) (length-database_body table)

-- bytes that are one frame, by their parts
pub frame_of_state : (bytes : List ℕ) (state : QueryState) → IsOne State bytes (state_message state)
    → bytes ≡ header 5 state.set (state_len state.set) ++ state_body state
frame_of_state bytes state is = is.spells.spelled ∙ state_frame_is state is.spells.is

pub frame_of_reply : (bytes : List ℕ) (reply : SwitchedReply) → IsOne Reply bytes (reply_message reply)
    → bytes ≡ header 3 reply.set (reply_len reply.set) ++ reply_body reply
frame_of_reply bytes reply is = is.spells.spelled ∙ reply_frame_is reply is.spells.is

-- how many bytes a frame has
pub length-frame : (m : Message) (len : ℕ) → length (body_of m) ≡ len → length (frame_of m) ≡ 15 + length (name_of (set_of_message m)) + len
unfolding frame_of
length-frame m len e =
    let code = code_of_kind (kind_of m) in
    let set = set_of_message m in
    let size = length (body_of m) in
    omega (arith, length-append (header code set size) (body_of m), length-header code set size, e)

-- bytes spell one index, and one count
pub state_index_is : (x : List ℕ) (s t : QueryState) → IsOne State x (state_message s) → IsOne State x (state_message t) → s.index ≡ t.index
state_index_is x s t hs ht =
    let fs = hs.spells.is in
    let ft = ht.spells.is in
    let bodies = same_front 5 state_len s.set t.set (state_body s) (state_body t) fs.known ft.known (sym (frame_of_state x s hs) ∙ frame_of_state x t ht) in
    sym (index_in_body s fs) ∙ ap (λ (body : List ℕ). number_of 256 (take 8 body)) bodies.1 ∙ index_in_body t ft

pub reply_count_is : (x : List ℕ) (r u : SwitchedReply) → IsOne Reply x (reply_message r) → IsOne Reply x (reply_message u) → r.count ≡ u.count
reply_count_is x r u hr hu =
    let fr = hr.spells.is in
    let fu = hu.spells.is in
    let bodies = same_front 3 reply_len r.set u.set (reply_body r) (reply_body u) fr.known fu.known (sym (frame_of_reply x r hr) ∙ frame_of_reply x u hu) in
    sym (count_in_body r fr) ∙ ap (λ (body : List ℕ). number_of 256 (take 8 body)) bodies.1 ∙ count_in_body u fu

-- a message is of a known set
pub known_of : (m : Message) → IsMessage m → IsSet (set_of_message m)
known_of (setup_message keys) is = is.known
known_of (query_message query) is = is.known
known_of (reply_message reply) is = is.known
known_of (refuse_message refusal) is = is.0
known_of (state_message state) is = is.known
known_of (database_message table) is = is.known

-- every frame has the name of its message's set
name_in_frame : (m : Message) → take (get_or (frame_of m) 6 0) (drop 7 (frame_of m)) ≡ name_of (set_of_message m)
unfolding frame_of
name_in_frame m = name_in_front (code_of_kind (kind_of m)) (set_of_message m) (length (body_of m)) (body_of m)

-- Messages of one kind whose frames are the same bytes are of one set.
pub same_set_of_frames : (kind : FrameKind) (x : List ℕ) (m n : Message) → IsOne kind x m → IsOne kind x n → set_of_message m ≡ set_of_message n
same_set_of_frames kind x m n hm hn =
    same_from_name (set_of_message m) (set_of_message n) (known_of m hm.spells.is) (known_of n hn.spells.is)
    (sym (name_in_frame m)
    ∙ ap (λ (l : List ℕ). take (get_or l 6 0) (drop 7 l)) (sym hm.spells.spelled ∙ hn.spells.spelled)
    ∙ name_in_frame n)

front_is_whole : (limit : ℕ) (x y : List ℕ) → length y < limit → (take limit x ≡ y) ↔ (x ≡ y)
front_is_whole limit x y short = (
  (λ e.
      let small : length x ≤ limit = omega (arith, ap length e, length-take limit x) in
      sym (take_all limit x small) ∙ e),
  (λ e.
      let small : length x ≤ limit = omega (arith, ap length e) in
      take_all limit x small ∙ e),
)

-- The front of the input, of more bytes than the message's frame has, is that frame exactly where the input is.
pub only_front : (limit : ℕ) (kind : FrameKind) (x : List ℕ) (m : Message) → length (frame_of m) < limit → IsOne kind (take limit x) m ↔ IsOne kind x m
only_front limit kind x m short =
    let whole = front_is_whole limit x (frame_of m) short in (
      (λ is. record { kind_is = is.kind_is; spells = record { is = is.spells.is; spelled = whole.0 is.spells.spelled } }),
      (λ is. record { kind_is = is.kind_is; spells = record { is = is.spells.is; spelled = whole.1 is.spells.spelled } }),
    )

-- A session in the midst of its input: what it has read and served so far, after each step.
use Rattle.std.proofs.Common.{◌≡◌, ◌≢◌, ℕ, ◌+◌, ◌^◌, ◌<◌, ◌≤◌, List, [], ◌∷◌, ◌++◌, length, Option, Some, None, refl, ap, sym, subst, ◌∙◌, arith, length-append, append_assoc, option_map}
use Rattle.std.proofs.lemmas.List.Elements.{All-append, All-nil}
use Rattle.frame_headers.specs.declared.frame_error.FrameError.{FrameError}
use Rattle.frame_headers.specs.declared.frame_error.FrameError.TheVariants.{Short}
use Rattle.frame_headers.specs.Refusals.{code_of}
use Rattle.spiral_model.specs.Databases.{RecordTable}
use Rattle.spiral_frames.specs.Frames.{PeerRefusal}
use Rattle.frame_streams.specs.Decoding.{Placed, Condition, refused, reading, Decoding, begun, decoded, messages, first_by, first_refusal, AreKinds, RoomIn, HasRoom}
use Rattle.frame_streams.specs.StreamLaws.{AreBytes, Reads}
use Rattle.frame_streams.specs.Serving.{Serving, idle, serve_one, served, server_kinds, served_input, refusal_by, or_refused, server_first}
use Rattle.frame_streams.proofs.Pieces.{decoded-append, decoded-nil}
use Rattle.frame_streams.proofs.Taken.{apart}
use Rattle.frame_streams.proofs.Reading.{input_is_read}
use Rattle.frame_streams.proofs.ReadSoFar.{total_read, ready_few}
use Rattle.frame_streams.proofs.Serving.{served-append, served-nil, served_more, served_refused, served_grows}
use Rattle.frame_streams.proofs.NotShort.{input_not_short}
use Rattle.pir_wire.specs.Feeding.{ends_by}
use Rattle.pir_server.specs.Talks.{Amid}

are_kinds : AreKinds server_kinds
are_kinds = (omega arith, refl)

-- Nothing was read yet.
pub amid_begun : (table : RecordTable) → Amid table [] (begun server_kinds) idle
amid_begun table = record { bytes = All-nil (λ b. b < 256); seen = []; same = decoded-nil (begun server_kinds); made = served-nil table idle }

module _ (table : RecordTable) (x : List ℕ) (d : Decoding) (s : Serving) (m : Amid table x d s) where
  -- A piece more was fed.
  pub amid_fed : (piece : List ℕ) → AreBytes piece → Amid table (x ++ piece) (decoded d piece) s
  amid_fed piece below = record {
    bytes = All-append (λ b. b < 256) x piece m.bytes below;
    seen = m.seen;
    same = decoded-append (begun server_kinds) x piece ∙ ap (λ (t : Decoding). decoded t piece) m.same ∙ apart m.seen 0 d piece;
    made = m.made;
  }

  -- The first message that is ready was taken and served.
  pub amid_served : (t : Serving) (placed : Placed) (rest : List Placed) → d.ready ≡ placed ∷ rest → serve_one table s placed ≡ t
      → Amid table x (record d { ready = rest; last = placed.place }) t
  amid_served t placed rest first to = record {
    bytes = m.bytes;
    seen = m.seen ++ placed ∷ [];
    same =
        m.same
        ∙ ap (λ (ready : List Placed). record d { ready = ready; last = 0 })
        (ap (λ (ready : List Placed). m.seen ++ ready) first ∙ sym (append_assoc m.seen (placed ∷ []) rest));
    made = served_more table idle m.seen placed ∙ ap (λ (u : Serving). serve_one table u placed) m.made ∙ to;
  }

  -- What the server makes of the whole: it goes on with what is ready.
  pub amid_input : served_input table x ≡ served table s d.ready
  unfolding served_input messages
  amid_input =
      ap (λ (t : Decoding). served table idle t.ready) m.same
      ∙ served-append table idle m.seen d.ready
      ∙ ap (λ (u : Serving). served table u d.ready) m.made

  -- all are served
  pub amid_all : d.ready ≡ [] → served_input table x ≡ s
  amid_all none = amid_input ∙ ap (served table s) none ∙ served-nil table s

  -- The replies so far are the first of all.
  pub amid_replies : (later : List (List ℕ)) × ((served_input table x).replies ≡ s.replies ++ later)
  amid_replies =
      let grows = served_grows table s d.ready in
      (grows.more, ap (λ (u : Serving). u.replies) amid_input ∙ grows.replies)

  -- a message was refused
  pub amid_refused : (refusal : PeerRefusal) → s.refusal ≡ Some refusal → served_input table x ≡ s
  amid_refused refusal is = amid_input ∙ served_refused table s d.ready refusal is

  pub first_refused : (refusal : PeerRefusal) → s.refusal ≡ Some refusal → server_first table x ≡ Some refusal
  unfolding server_first
  first_refused refusal is =
      ap (λ (u : Serving). or_refused u.refusal (option_map (refusal_by table.set) (first_refusal server_kinds x))) (amid_refused refusal is)
      ∙ ap (λ (r : Option PeerRefusal). or_refused r (option_map (refusal_by table.set) (first_refusal server_kinds x))) is

  -- no message was, and all are served: the refusal is that of the frame behind them
  behind_all : first_refusal server_kinds x ≡ first_by d.condition (length x)
  unfolding first_refusal
  behind_all = ap (λ (t : Decoding). first_by t.condition (length x)) m.same

  pub first_behind : d.ready ≡ [] → s.refusal ≡ None → server_first table x ≡ option_map (refusal_by table.set) (first_by d.condition (length x))
  unfolding server_first
  first_behind none is =
      ap (λ (u : Serving). or_refused u.refusal (option_map (refusal_by table.set) (first_refusal server_kinds x))) (amid_all none)
      ∙ ap (λ (r : Option PeerRefusal). or_refused r (option_map (refusal_by table.set) (first_refusal server_kinds x))) is
      ∙ ap (option_map (refusal_by table.set)) behind_all

  -- ---- sizes

  reads : Reads server_kinds x (decoded (begun server_kinds) x)
  reads = input_is_read server_kinds x m.bytes are_kinds

  now_at : (decoded (begun server_kinds) x).at ≡ d.at
  now_at = ap (λ (t : Decoding). t.at) m.same

  now_condition : (decoded (begun server_kinds) x).condition ≡ d.condition
  now_condition = ap (λ (t : Decoding). t.condition) m.same

  -- the bytes at hand end where the input does
  pub amid_total : (y : List ℕ) → d.condition ≡ reading y → d.at + length y ≡ length x
  amid_total y is =
      ap (λ (at : ℕ). at + length y) (sym now_at)
      ∙ total_read server_kinds x (decoded (begun server_kinds) x) reads y (now_condition ∙ is)

  pub amid_room : (y : List ℕ) (size : ℕ) → d.condition ≡ reading y → length x + size < 2 ^ 64 → HasRoom d size
  amid_room y size is fits =
      let all = amid_total y is in
      let room : RoomIn (reading y) d.at size = omega (arith, all, fits) in
      subst (λ (c : Condition). RoomIn c d.at size) (sym is) room

  -- there are fewer messages than bytes
  pub amid_few : length s.replies + length d.ready ≤ length x
  amid_few =
      let grows = served_grows table idle m.seen in
      let made : length s.replies ≤ length m.seen =
      omega (arith, ap (λ (u : Serving). length u.replies) m.made, ap length grows.replies, length-append idle.replies grows.more, grows.few) in
      let few = ready_few server_kinds x (decoded (begun server_kinds) x) reads in
      omega (arith, made, few, ap (λ (t : Decoding). length t.ready) m.same, length-append m.seen d.ready)

  -- a frame is refused for what it has
  pub amid_not_short : (error : FrameError) → d.condition ≡ refused error → code_of error ≢ 1
  amid_not_short error is = input_not_short server_kinds x error m.bytes are_kinds (now_condition ∙ is)

-- where the input ends, a frame at hand is short
ends_at : (y : List ℕ) (at size : ℕ) → at + length y ≡ size → ends_by (reading y) at ≡ first_by (reading y) size
ends_at [] at size all = refl
ends_at (byte ∷ y) at size all = ap (λ (p : ℕ). Some (Short p)) all

pub amid_ends : (table : RecordTable) (x : List ℕ) (d : Decoding) (s : Serving) → Amid table x d s → (y : List ℕ) → d.condition ≡ reading y
    → ends_by d.condition d.at ≡ first_by d.condition (length x)
amid_ends table x d s m y is =
    ap (λ (c : Condition). ends_by c d.at) is
    ∙ ends_at y d.at (length x) (amid_total table x d s m y is)
    ∙ ap (λ (c : Condition). first_by c (length x)) (sym is)

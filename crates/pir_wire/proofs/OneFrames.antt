-- An input that has to be one frame: what the decoder has then, by what stands at its front.
use Rattle.std.proofs.Common.{ℕ, List, [], ◌∷◌, ◌++◌, ◌≡◌, ◌≢◌, ◌∙◌, refl, sym, ap, length, take, Some, arith, length-take, length-append, append_assoc, lit<, subst, drop, inl, inr, ◌<◌, ◌≤◌, ◌+◌, ◌^◌, Result, Ok, Err}
use Rattle.std.proofs.lemmas.Bool.{cases_lt}
use Rattle.std.proofs.lemmas.List.{drop_all, take_all}
use Rattle.std.proofs.lemmas.List.Elements.{All-append, All-nil}
use Rattle.frame_headers.specs.declared.frame_error.FrameError.{FrameError}
use Rattle.frame_headers.specs.declared.frame_error.FrameError.TheVariants.{Short, Extra}
use Rattle.frame_headers.specs.declared.kind.FrameKind.TheVariants.{Database}
use Rattle.frame_headers.specs.Kinds.{code_of_kind, body_len_of}
use Rattle.frame_headers.proofs.HeaderLaws.{length-header}
use Rattle.spiral_frames.specs.Frames.{Message, IsMessage, kind_of, set_of_message, frame_of}
use Rattle.spiral_frames.proofs.FrameLaws.{length-frame}
use Rattle.frame_streams.specs.Heads.{header_of}
use Rattle.frame_streams.proofs.FrameFirst.{length-body}
use Rattle.spiral_frames.specs.FrameChecks.{Front, more, wrong, whole, front, one_refusal}
use Rattle.frame_streams.specs.Decoding.{Placed, Decoding, begun, refused, reading, decoded, AreKinds}
use Rattle.frame_streams.specs.StreamLaws.{AreBytes}
use Rattle.frame_streams.specs.OneFrames.{IsOneOf}
use Rattle.frame_streams.proofs.Agreeing.{whole_within}
use Rattle.frame_streams.proofs.Pieces.{decoded-append, decoded-nil}
use Rattle.frame_streams.proofs.Reading.{first_more, first_wrong, first_taken, first_whole, frames_are_short}
use Rattle.frame_streams.proofs.Splitting.{front-nil}
use Rattle.frame_streams.proofs.OneFrames.{open_at, one_at_front, first_is_ready, length-one, refused_whatever, extra_whatever, short_refusal, front_of_one}
use Rattle.pir_wire.specs.declared.message.Message.{Message as Read}
use Rattle.pir_wire.specs.declared.decoder.FeedError.{FeedError}
use Rattle.pir_wire.specs.declared.decoder.FeedError.TheVariants.{Frame, NoMemory}
use Rattle.pir_wire.specs.declared.one_frame.Stage.{Stage}
use Rattle.pir_wire.specs.declared.one_frame.Stage.TheVariants.{Open, Whole}
use Rattle.pir_wire.specs.Messages.{message_seen}
use Rattle.pir_wire.specs.OneFrames.{OneRead, IsReading, StageStands, bytes_at_hand, bytes_so_far}

-- the frame of this message stands at the front of the bytes
pub record IsFirst (kinds : ℕ) (bytes : List ℕ) (m : Message) : Type 0 where
  pub found : front kinds bytes ≡ whole (length (frame_of m))
  pub one : IsOneOf kinds (take (length (frame_of m)) bytes) m
  pub within : length (frame_of m) ≤ length bytes

-- the first message of a list; where there is none, another one
abbrev message_at : List Placed → Message → Message
message_at [] other = other
message_at (placed ∷ rest) other = placed.message

same_message : {p q : ℕ} {m n : Message} {xs ys : List Placed} → (record { place = p; message = m } ∷ xs) ≡ (record { place = q; message = n } ∷ ys) → m ≡ n
same_message {p = p} {q = q} {m = m} {n = n} {xs = xs} {ys = ys} e = ap (λ (l : List Placed). message_at l m) e

-- Bytes came behind others whose frame wasn't whole.
module _ (kinds : ℕ) (x c : List ℕ) (d : Decoding) (are : AreKinds kinds) (below : AreBytes (x ++ c)) (wants : front kinds x ≡ more)
    (is : d ≡ decoded (open_at kinds x) c) where
  whole_input : d ≡ decoded (begun kinds) (x ++ c)
  whole_input = is ∙ ap (λ (t : Decoding). decoded t c) (sym (first_more kinds x wants)) ∙ sym (decoded-append (begun kinds) x c)

  -- a message is ready exactly where a frame is whole
  some_ready : (len : ℕ) → front kinds (x ++ c) ≡ whole len
      → (m : Message) × (later : List Placed) × IsOneOf kinds (take len (x ++ c)) m × (d.ready ≡ record { place = 0; message = m } ∷ later)
  some_ready len h =
      let one = one_at_front kinds (x ++ c) len below are h in
      let ready = first_is_ready kinds (x ++ c) len one.0 h one.1 in
      (one.0, ready.0, one.2, ap (λ (t : Decoding). t.ready) whole_input ∙ ready.1)

  wants_is : front kinds (x ++ c) ≡ more → d ≡ open_at kinds (x ++ c)
  wants_is h = whole_input ∙ first_more kinds (x ++ c) h

  fails_is : (error : FrameError) → front kinds (x ++ c) ≡ wrong error → d ≡ record (begun kinds) { condition = refused error }
  fails_is error h = whole_input ∙ first_wrong kinds (x ++ c) error h

  -- nothing ready, and not refused: the frame isn't whole yet
  none_open_by : (f : Front) → front kinds (x ++ c) ≡ f → d.ready ≡ [] → (bytes : List ℕ) → d.condition ≡ reading bytes
      → (front kinds (x ++ c) ≡ more) × (d ≡ open_at kinds (x ++ c))
  none_open_by more h none bytes reads = (h, wants_is h)
  none_open_by (wrong error) h none bytes reads =
      let no : refused error ≡ reading bytes = sym (ap (λ (t : Decoding). t.condition) (fails_is error h)) ∙ reads in
      absurd (cc)
  none_open_by (whole len) h none bytes reads = let ready = some_ready len h in let no = sym ready.3 ∙ none in absurd (cc)

  pub none_open : d.ready ≡ [] → (bytes : List ℕ) → d.condition ≡ reading bytes → (front kinds (x ++ c) ≡ more) × (d ≡ open_at kinds (x ++ c))
  none_open none bytes reads = none_open_by (front kinds (x ++ c)) refl none bytes reads

  -- nothing ready, and refused: so are the bytes
  none_refused_by : (f : Front) → front kinds (x ++ c) ≡ f → d.ready ≡ [] → (error : FrameError) → d.condition ≡ refused error
      → front kinds (x ++ c) ≡ wrong error
  none_refused_by more h none error fails =
      let no : reading (x ++ c) ≡ refused error = sym (ap (λ (t : Decoding). t.condition) (wants_is h)) ∙ fails in
      absurd (cc)
  none_refused_by (wrong other) h none error fails =
      let same : refused other ≡ refused error = sym (ap (λ (t : Decoding). t.condition) (fails_is other h)) ∙ fails in
      let errors : other ≡ error = cc in
      h ∙ ap wrong errors
  none_refused_by (whole len) h none error fails = let ready = some_ready len h in let no = sym ready.3 ∙ none in absurd (cc)

  pub none_refused : d.ready ≡ [] → (error : FrameError) → d.condition ≡ refused error → front kinds (x ++ c) ≡ wrong error
  none_refused none error fails = none_refused_by (front kinds (x ++ c)) refl none error fails

  -- a message ready: it is that of the frame in front
  some_first_by : (f : Front) → front kinds (x ++ c) ≡ f → (place : ℕ) (m : Message) (later : List Placed)
      → d.ready ≡ record { place = place; message = m } ∷ later → IsFirst kinds (x ++ c) m
  some_first_by more h place m later ready =
      let no : [] ≡ record { place = place; message = m } ∷ later = sym (ap (λ (t : Decoding). t.ready) (wants_is h)) ∙ ready in
      absurd (cc)
  some_first_by (wrong error) h place m later ready =
      let no : [] ≡ record { place = place; message = m } ∷ later = sym (ap (λ (t : Decoding). t.ready) (fails_is error h)) ∙ ready in
      absurd (cc)
  some_first_by (whole len) h place m later ready =
      let found = some_ready len h in
      let same : found.0 ≡ m = same_message (sym found.3 ∙ ready) in
      let within : len ≤ length (x ++ c) = whole_within kinds (x ++ c) len h in
      let one : IsOneOf kinds (take len (x ++ c)) m = subst (λ (t : Message). IsOneOf kinds (take len (x ++ c)) t) same found.2 in
      let size : length (frame_of m) ≡ len = ap length (sym one.spells.spelled) ∙ length-take len (x ++ c) ∙ omega arith in
      record { found = h ∙ ap whole (sym size); one = subst (λ (k : ℕ). IsOneOf kinds (take k (x ++ c)) m) (sym size) one; within = omega arith }

  pub some_first : (place : ℕ) (m : Message) (later : List Placed) → d.ready ≡ record { place = place; message = m } ∷ later → IsFirst kinds (x ++ c) m
  some_first place m later ready = some_first_by (front kinds (x ++ c)) refl place m later ready

  -- and bytes stand behind it where what follows is refused
  pub some_refused : (m : Message) (error : FrameError) → IsFirst kinds (x ++ c) m → d.condition ≡ refused error → length (frame_of m) < length (x ++ c)
  some_refused m error first fails =
      let len : ℕ = length (frame_of m) in
      elim (cases_lt len (length (x ++ c))) [
        | inl longer ↦ longer
        | inr all ↦
            let rest : drop len (x ++ c) ≡ [] = drop_all len (x ++ c) all in
            let done : d ≡ first_taken kinds (x ++ c) len =
            whole_input ∙ first_whole kinds (x ++ c) len first.found ∙ ap (decoded (first_taken kinds (x ++ c) len)) rest ∙ decoded-nil (first_taken kinds (x ++ c) len) in
            let no : reading [] ≡ refused error = sym (ap (λ (t : Decoding). t.condition) done) ∙ fails in
            absurd (cc)
      ]

-- ---- a piece fed while the frame isn't whole

-- 2^24 bytes at most, and the frame's message or what is refused
module _ (kinds size : ℕ) (x c : List ℕ) (old new final : Decoding) (is : IsReading kinds size x (Open old)) (below : AreBytes c) where
  all_below : AreBytes (x ++ c)
  all_below = All-append (λ b. b < 256) x c is.are_bytes below

  size_more : size + length c ≡ length (x ++ c)
  size_more = omega (arith, is.size_is, length-append x c)

  module _ (given : new ≡ decoded old c) where
    given_open : new ≡ decoded (open_at kinds x) c
    given_open = given ∙ ap (λ (t : Decoding). decoded t c) is.stands.1

    module _ (none : new.ready ≡ []) (same : final ≡ new) (bytes : List ℕ) (reads : (decoded old c).condition ≡ reading bytes) where
      opens : (front kinds (x ++ c) ≡ more) × (new ≡ open_at kinds (x ++ c))
      opens = none_open kinds x c new is.are_kinds all_below is.stands.0 given_open none bytes (ap (λ (t : Decoding). t.condition) given ∙ reads)

      final_is : final ≡ open_at kinds (x ++ c)
      final_is = same ∙ opens.1

      pub open_bytes_are : bytes_at_hand final.condition ≡ x ++ c
      open_bytes_are = ap (λ (t : Decoding). bytes_at_hand t.condition) final_is

      still_open : IsReading kinds (size + length c) (x ++ c) (Open final)
      still_open = record {
        are_kinds = is.are_kinds;
        are_bytes = all_below;
        size_is = size_more;
        short = frames_are_short kinds (x ++ c) all_below is.are_kinds opens.0;
        stands = (opens.0, final_is);
      }

      pub kept_open : IsReading kinds (size + length c) (bytes_at_hand final.condition) (Open final)
      kept_open = subst (λ (b : List ℕ). IsReading kinds (size + length c) b (Open final)) (sym open_bytes_are) still_open

    pub none_then_refused : new.ready ≡ [] → (error : FrameError) → (decoded old c).condition ≡ refused error → (rest : List ℕ)
        → one_refusal kinds ((x ++ c) ++ rest) ≡ Some error
    none_then_refused none error fails rest =
        refused_whatever kinds (x ++ c) rest error
        (none_refused kinds x c new is.are_kinds all_below is.stands.0 given_open none error (ap (λ (t : Decoding). t.condition) given ∙ fails))

    module _ (m : Message) (later : List Placed) (place : ℕ) (ready : new.ready ≡ record { place = place; message = m } ∷ later) where
      pub first : IsFirst kinds (x ++ c) m
      first = some_first kinds x c new is.are_kinds all_below is.stands.0 given_open place m later ready

      -- a byte behind it is refused
      pub extra_refused : length (frame_of m) < size + length c → (rest : List ℕ) → one_refusal kinds ((x ++ c) ++ rest) ≡ Some (Extra (length (frame_of m)))
      extra_refused longer rest = extra_whatever kinds (x ++ c) rest (length (frame_of m)) first.found (omega (arith, size_more, length-append (x ++ c) rest))

      -- a refusal behind it is of a byte behind it
      pub extra_behind : (error : FrameError) → (decoded old c).condition ≡ refused error → (rest : List ℕ)
          → one_refusal kinds ((x ++ c) ++ rest) ≡ Some (Extra (length (frame_of m)))
      extra_behind error fails rest =
          extra_refused
          (let longer = some_refused kinds x c new is.are_kinds all_below is.stands.0 given_open m error first (ap (λ (t : Decoding). t.condition) given ∙ fails) in omega (arith, size_more)) rest

      module _ (all : size + length c ≤ length (frame_of m)) where
        whole_one : IsOneOf kinds (x ++ c) m
        whole_one =
            let size_is : length (x ++ c) ≤ length (frame_of m) = omega (arith, size_more) in
            subst (λ (b : List ℕ). IsOneOf kinds b m) (take_all (length (frame_of m)) (x ++ c) size_is) first.one

        pub whole_bytes_are : frame_of m ≡ x ++ c
        whole_bytes_are = sym whole_one.spells.spelled

        pub kept_whole : (message : Read) → message_seen message ≡ m → IsReading kinds (size + length c) (frame_of (message_seen message)) (Whole message)
        kept_whole message seen =
            let bytes : x ++ c ≡ frame_of (message_seen message) = sym whole_bytes_are ∙ ap frame_of (sym seen) in
            record {
              are_kinds = is.are_kinds;
              are_bytes = subst AreBytes bytes all_below;
              size_is = size_more ∙ ap length bytes;
              short = subst (λ (b : List ℕ). length b < 2 ^ 24) bytes (length-one kinds (x ++ c) m is.are_kinds whole_one);
              stands = subst (λ (t : Message). IsOneOf kinds (frame_of (message_seen message)) t) (sym seen) (subst (λ (b : List ℕ). IsOneOf kinds b m) bytes whole_one);
            }

-- nothing has come yet
pub new_reading : (kinds : ℕ) (d : Decoding) → AreKinds kinds → d ≡ begun kinds → IsReading kinds 0 (bytes_at_hand d.condition) (Open d)
new_reading kinds d are is =
    subst (λ (t : Decoding). IsReading kinds 0 (bytes_at_hand t.condition) (Open t)) (sym is)
    (record { are_kinds = are; are_bytes = All-nil (λ b. b < 256); size_is = refl; short = lit< tt; stands = (front-nil kinds, refl) })

-- what came, as contracts see it
abbrev pub read_of : ℕ → List ℕ → OneRead
read_of kinds bytes = record { kinds = kinds; bytes = bytes }

-- the error of an answer
abbrev pub error_of : {T : Type 0} → Result T FeedError → FeedError
error_of (Err error) = error
error_of (Ok _) = NoMemory

-- the error is that of a byte behind the frame
pub is_extra : (result : FeedError) (len : ℕ) (error : FrameError) → result ≡ Frame (Extra len) → result ≡ Frame error → Extra len ≡ error
is_extra result len error is e = let same : Frame (Extra len) ≡ Frame error = sym is ∙ e in cc

pub same_frame : (other error : FrameError) → Frame other ≡ Frame error → other ≡ error
same_frame other error e = cc

-- an input that ends before its frame is whole
pub open_is_short : (kinds size : ℕ) (stage : Stage) (d : Decoding) → IsReading kinds size (bytes_so_far stage) stage → stage ≡ Open d
    → one_refusal kinds (bytes_so_far stage) ≡ Some (Short size)
open_is_short kinds size stage d is same =
    let stands : StageStands kinds (bytes_so_far stage) (Open d) = subst (λ (t : Stage). StageStands kinds (bytes_so_far stage) t) same is.stands in
    short_refusal kinds (bytes_so_far stage) stands.0 ∙ ap (λ (n : ℕ). Some (Short n)) (sym is.size_is)

-- a byte behind a whole frame
pub whole_then_extra : (kinds size : ℕ) (stage : Stage) (message : Read) (c rest : List ℕ) → IsReading kinds size (bytes_so_far stage) stage → stage ≡ Whole message
    → 0 < length c → one_refusal kinds ((bytes_so_far stage ++ c) ++ rest) ≡ Some (Extra (length (frame_of (message_seen message))))
whole_then_extra kinds size stage message c rest is same some =
    let x : List ℕ = bytes_so_far stage in
    let one : IsOneOf kinds x (message_seen message) = subst (λ (t : Stage). StageStands kinds x t) same is.stands in
    ap (one_refusal kinds) (append_assoc x c rest)
    ∙ extra_whatever kinds x (c ++ rest) (length x) (front_of_one kinds x (message_seen message) one)
    (omega (arith, length-append x (c ++ rest), length-append c rest))
    ∙ ap (λ (n : ℕ). Some (Extra n)) (ap length one.spells.spelled)

-- ---- how many bytes a frame has

pub frame_size : (m : Message) → IsMessage m → kind_of m ≢ Database
    → length (header_of (kind_of m) (set_of_message m)) + body_len_of (kind_of m) (set_of_message m) ≡ length (frame_of m)
frame_size m is other =
    let kind = kind_of m in
    let set = set_of_message m in
    omega (arith, length-frame m (body_len_of kind set) (length-body m is other), length-header (code_of_kind kind) set (body_len_of kind set))

-- of a message, seen through what it is
pub frame_size_of : (message : Read) (m : Message) (size : ℕ) → IsMessage (message_seen message) → message_seen message ≡ m → kind_of m ≢ Database
    → size ≡ length (header_of (kind_of m) (set_of_message m)) + body_len_of (kind_of m) (set_of_message m) → size ≡ length (frame_of (message_seen message))
frame_size_of message m size is same other e = e ∙ frame_size m (subst IsMessage same is) other ∙ ap (λ (t : Message). length (frame_of t)) (sym same)

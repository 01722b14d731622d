-- Inputs that have to be one frame: what their refusal says, and how one is read in pieces.
use Rattle.std.proofs.Common.{ℕ, List, [], ◌∷◌, ◌++◌, ◌^◌, ◌<◌, ◌≤◌, ◌≡◌, ◌≢◌, ◌∙◌, refl, sym, ap, length, take, drop, Option, Some, None, append-nil, length-take, take-append-drop, inl, inr, arith, lit<}
use Rattle.std.proofs.lemmas.Bool.{lt-ltb, le-ltb}
use Rattle.std.proofs.lemmas.List.Elements.{All-take}
use Rattle.frame_headers.specs.declared.frame_error.FrameError.{FrameError}
use Rattle.frame_headers.specs.declared.frame_error.FrameError.TheVariants.{Short, Extra}
use Rattle.frame_headers.specs.declared.kind.FrameKind.TheVariants.{Database}
use Rattle.frame_headers.specs.Kinds.{code_of_kind, body_len_of}
use Rattle.spiral_sets.specs.Sets.{name_of}
use Rattle.spiral_sets.proofs.SetNames.{name-most}
use Rattle.spiral_frames.specs.Frames.{Message, IsMessage, kind_of, set_of_message, body_of, frame_of}
use Rattle.spiral_frames.proofs.FrameLaws.{length-frame, known_of}
use Rattle.spiral_frames.specs.FrameChecks.{Front, more, wrong, whole, front, one_by, one_refusal}
use Rattle.frame_streams.specs.Decoding.{Placed, Decoding, begun, reading, decoded, with_message, AreKinds}
use Rattle.frame_streams.specs.Parsing.{message_in}
use Rattle.frame_streams.specs.StreamLaws.{AreBytes}
use Rattle.frame_streams.specs.OneFrames.{IsOneOf}
use Rattle.frame_streams.proofs.Agreeing.{front_stays, whole_within}
use Rattle.frame_streams.proofs.LastBytes.{front_at}
use Rattle.frame_streams.proofs.Spelled.{whole_is_spelled}
use Rattle.frame_streams.proofs.FrameFirst.{frame_first, length-body}
use Rattle.frame_streams.proofs.Taken.{ready_prefix}
use Rattle.frame_streams.proofs.Reading.{first_taken, first_whole}
use Rattle.frame_streams.proofs.BehindHeaders.{body_len-most, kind_back}
use Rattle.frame_streams.proofs.HeaderStages.{IsOtherKind, accepted_kind}

pub one_refusal_is : (kinds : ℕ) (x : List ℕ) → one_refusal kinds x ≡ one_by (front kinds x) (length x)
unfolding one_refusal
one_refusal_is kinds x = refl

-- ---- what the refusal of an input is, from what stands at its front

-- bytes that are refused are refused so whatever follows
pub refused_whatever : (kinds : ℕ) (x rest : List ℕ) (error : FrameError) → front kinds x ≡ wrong error → one_refusal kinds (x ++ rest) ≡ Some error
refused_whatever kinds x rest error h =
    elim (front_stays kinds x rest) [
      | inl wants ↦ let no = sym wants ∙ h in absurd (cc)
      | inr same ↦ one_refusal_is kinds (x ++ rest) ∙ ap (λ (f : Front). one_by f (length (x ++ rest))) (sym same ∙ h)
    ]

-- a byte behind a whole frame is refused, whatever follows
pub extra_whatever : (kinds : ℕ) (x rest : List ℕ) (len : ℕ) → front kinds x ≡ whole len → len < length (x ++ rest) → one_refusal kinds (x ++ rest) ≡ Some (Extra len)
extra_whatever kinds x rest len h longer =
    elim (front_stays kinds x rest) [
      | inl wants ↦ let no = sym wants ∙ h in absurd (cc)
      | inr same ↦
          one_refusal_is kinds (x ++ rest) ∙ ap (λ (f : Front). one_by f (length (x ++ rest))) (sym same ∙ h)
          ∙ rw (lt-ltb len (length (x ++ rest)) longer) refl
    ]

-- an input that ends before its frame is whole is refused at its end
pub short_refusal : (kinds : ℕ) (x : List ℕ) → front kinds x ≡ more → one_refusal kinds x ≡ Some (Short (length x))
short_refusal kinds x h = one_refusal_is kinds x ∙ ap (λ (f : Front). one_by f (length x)) h

-- ---- one whole frame

-- the frame of a message of an accepted kind, alone
pub front_of_one : (kinds : ℕ) (x : List ℕ) (m : Message) → IsOneOf kinds x m → front kinds x ≡ whole (length x)
front_of_one kinds x m one =
    ap (front kinds) (one.spells.spelled ∙ sym (append-nil (frame_of m))) ∙ frame_first kinds m [] one.spells.is one.accepted
    ∙ ap (λ (y : List ℕ). whole (length y)) (sym one.spells.spelled)

-- it is not refused
pub one_is_not_refused : (kinds : ℕ) (x : List ℕ) (m : Message) → IsOneOf kinds x m → one_refusal kinds x ≡ None
one_is_not_refused kinds x m one =
    one_refusal_is kinds x ∙ ap (λ (f : Front). one_by f (length x)) (front_of_one kinds x m one) ∙ rw (le-ltb (length x) (length x) (omega arith)) refl

-- An input that is refused is no frame of an accepted kind.
pub refused_is_not_one : (kinds : ℕ) (x : List ℕ) (error : FrameError) (m : Message) → one_refusal kinds x ≡ Some error → IsOneOf kinds x m → ⊥
refused_is_not_one kinds x error m refusal one = let none = one_is_not_refused kinds x m one in cc

-- what stands whole at the front is one frame
pub one_at_front : (kinds : ℕ) (x : List ℕ) (len : ℕ) → AreBytes x → AreKinds kinds → front kinds x ≡ whole len
    → (m : Message) × (message_in (take len x) ≡ Some m) × IsOneOf kinds (take len x) m
one_at_front kinds x len below are h =
    let within : len ≤ length x = whole_within kinds x len h in
    let parts : x ≡ take len x ++ drop len x = sym (take-append-drop len x) in
    let size : length (take len x) ≡ len = length-take len x ∙ omega arith in
    let here : front kinds (take len x) ≡ whole (length (take len x)) =
    front_at kinds (take len x) (drop len x) len (ap (front kinds) (sym parts) ∙ h) (omega (arith, size)) ∙ ap whole (sym size) in
    let is = whole_is_spelled kinds (take len x) (All-take (λ b. b < 256) len x below) are here in
    (is.0, is.1, record { accepted = is.3; spells = is.2 })

-- ---- what reading comes to

-- the decoding of an input whose frame isn't whole yet
abbrev pub open_at : ℕ → List ℕ → Decoding
open_at kinds x = record (begun kinds) { condition = reading x }

-- the first message is ready once its frame is whole
pub first_is_ready : (kinds : ℕ) (x : List ℕ) (len : ℕ) (m : Message) → front kinds x ≡ whole len → message_in (take len x) ≡ Some m
    → (later : List Placed) × ((decoded (begun kinds) x).ready ≡ record { place = 0; message = m } ∷ later)
first_is_ready kinds x len m h read =
    let start : Decoding = first_taken kinds x len in
    let prefix = ready_prefix start (drop len x) in (
      prefix.0,
      ap (λ (d : Decoding). d.ready) (first_whole kinds x len h) ∙ prefix.1
          ∙ ap (λ (o : Option Message). with_message [] 0 o ++ prefix.0) read,
    )

-- How many bytes a frame of an accepted kind has.
pub length-one : (kinds : ℕ) (x : List ℕ) (m : Message) → AreKinds kinds → IsOneOf kinds x m → length x < 2 ^ 24
length-one kinds x m are one =
    let is : IsMessage m = one.spells.is in
    let set = set_of_message m in
    let code : IsOtherKind (code_of_kind (kind_of m)) = accepted_kind kinds (code_of_kind (kind_of m)) are one.accepted in
    let same : Some code.kind ≡ Some (kind_of m) = sym code.kind_is ∙ kind_back (kind_of m) in
    let other : kind_of m ≢ Database = λ e. code.other (cc) in
    let body : length (body_of m) ≡ body_len_of (kind_of m) set = length-body m is other in
    let most : body_len_of (kind_of m) set ≤ 16000000 = body_len-most (kind_of m) set (known_of m is) in
    let name : length (name_of set) ≤ 15 = name-most set (known_of m is) in
    let large : 16000030 < 2 ^ 24 = lit< tt in
    omega (arith, ap length one.spells.spelled, length-frame m (body_len_of (kind_of m) set) body)

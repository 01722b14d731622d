-- An input is read as the frames of its messages, one behind the other, and a rest that begins with none: byte by byte.
use Rattle.std.proofs.Common.{◌≡◌, ℕ, ◌+◌, ◌<◌, ◌⊎◌, inl, inr, List, [], ◌∷◌, ◌++◌, length, Option, Some, refl, ap, sym, subst, ◌∙◌, arith, length-append, append_assoc}
use Rattle.std.proofs.lemmas.List.{append-nil, take_at, drop_at}
use Rattle.std.proofs.lemmas.List.Elements.{All-take, All-drop}
use Rattle.frame_headers.specs.declared.frame_error.FrameError.{FrameError}
use Rattle.frame_headers.specs.Checks.{checked, header_checks}
use Rattle.spiral_frames.specs.Frames.{Message, IsMessage, frame_of, Spell}
use Rattle.spiral_frames.specs.FrameChecks.{Front, more, wrong, whole, front, frame_checks}
use Rattle.frame_streams.specs.Parsing.{message_in}
use Rattle.frame_streams.specs.Decoding.{Placed, Condition, refused, wanting, reading, Decoding, begun, moved, with_message, by_front, after, step_by, step, decoded, AreKinds}
use Rattle.frame_streams.specs.StreamLaws.{AreBytes, WholeIsSpelled, StandAt, StandsBy, Reads, InputIsRead}
use Rattle.frame_streams.proofs.Agreeing.{front_stays, more_or_wrong}
use Rattle.frame_streams.proofs.LastBytes.{whole_by_last}
use Rattle.frame_streams.proofs.Pieces.{decoded-nil, decoded-cons, step_reading, step_refused, after_is}

-- nothing stands at the front of no bytes yet
pub front-nil : (kinds : ℕ) → front kinds [] ≡ more
unfolding front frame_checks header_checks checked
front-nil kinds = refl

-- ---- the messages' places

-- one message more behind those that stand there
pub standing_more : (ready : List Placed) (place : ℕ) (frames bytes : List ℕ) (placed : Placed) → StandAt place ready frames
    → placed.place ≡ place + length frames → IsMessage placed.message → bytes ≡ frame_of placed.message → StandAt place (ready ++ placed ∷ []) (frames ++ bytes)
standing_more [] place frames bytes placed stand at is spelled =
    let here : placed.place ≡ place = omega (arith, at, ap length stand) in
    let split : frames ++ bytes ≡ frame_of placed.message ++ [] =
    ap (λ (f : List ℕ). f ++ bytes) stand ∙ spelled ∙ sym (append-nil (frame_of placed.message)) in
    (here, is, [], split, refl)
standing_more (first ∷ ready) place frames bytes placed stand at is spelled =
    let frame : List ℕ = frame_of first.message in
    let tail : List ℕ = stand.2 in
    let size : length frames ≡ length frame + length tail = ap length stand.3 ∙ length-append frame tail in
    let next : placed.place ≡ place + length frame + length tail = omega (arith, at, size) in
    let split : frames ++ bytes ≡ frame ++ (tail ++ bytes) = ap (λ (f : List ℕ). f ++ bytes) stand.3 ∙ append_assoc frame tail bytes in
    (stand.0, stand.1, tail ++ bytes, split, standing_more ready (place + length frame) tail bytes placed stand.4 next is spelled)

-- ---- the kinds stay

by_front_kinds : (d : Decoding) (y : List ℕ) (found : Front) → (by_front d y found).kinds ≡ d.kinds
by_front_kinds d y more = refl
by_front_kinds d y (wrong error) = refl
by_front_kinds d y (whole len) = refl

after_kinds : (d : Decoding) (y : List ℕ) → (after d y).kinds ≡ d.kinds
unfolding after
after_kinds d y = by_front_kinds d y (front d.kinds y)

step_by_kinds : (c : Condition) (d : Decoding) (byte : ℕ) → (step_by c d byte).kinds ≡ d.kinds
step_by_kinds (reading y) d byte = after_kinds d (y ++ byte ∷ [])
step_by_kinds (refused error) d byte = refl
step_by_kinds wanting d byte = refl

pub step_kinds : (d : Decoding) (byte : ℕ) → (step d byte).kinds ≡ d.kinds
unfolding step
step_kinds d byte = step_by_kinds d.condition d byte

-- ---- one byte more

-- what is behind others is of bytes
bytes_behind : (frames now : List ℕ) → AreBytes (frames ++ now) → AreBytes now
bytes_behind frames now below =
    subst AreBytes (drop_at frames now (length frames) refl) (All-drop (λ b. b < 256) (length frames) (frames ++ now) below)

bytes_before : (x y : List ℕ) → AreBytes (x ++ y) → AreBytes x
bytes_before x y below = subst AreBytes (take_at x y (length x) refl) (All-take (λ b. b < 256) (length x) (x ++ y) below)

module _ (spelling : WholeIsSpelled) (kinds : ℕ) (are : AreKinds kinds) (d : Decoding) (kinds_are : d.kinds ≡ kinds) (x : List ℕ) (byte : ℕ)
    (frames rest : List ℕ) (below : AreBytes (x ++ byte ∷ [])) (split : x ≡ frames ++ rest) (stand : StandAt 0 d.ready frames) (at : d.at ≡ length frames) where
  abbrev now : List ℕ
  now = rest ++ byte ∷ []

  split_more : x ++ byte ∷ [] ≡ frames ++ now
  split_more = ap (λ (t : List ℕ). t ++ byte ∷ []) split ∙ append_assoc frames rest (byte ∷ [])

  bytes_now : AreBytes now
  bytes_now = bytes_behind frames now (subst AreBytes split_more below)

  -- a frame is whole by this byte
  whole_read : (len : ℕ) → front kinds rest ≡ more → front kinds now ≡ whole len → Reads kinds (x ++ byte ∷ []) (by_front d now (whole len))
  whole_read len wants found =
      let all : len ≡ length now = whole_by_last kinds rest byte len wants found in
      let spelled = spelling kinds now bytes_now are (found ∙ ap whole all) in
      let m : Message = spelled.0 in
      let read : message_in now ≡ Some m = spelled.1 in
      let spells : Spell m now = spelled.2 in
      let placed : Placed = record { place = d.at; message = m } in
      let standing : StandAt 0 (d.ready ++ placed ∷ []) (frames ++ now) =
      standing_more d.ready 0 frames now placed stand (omega (arith, at)) spells.is spells.spelled in
      record {
        frames = frames ++ now;
        rest = [];
        split = split_more ∙ sym (append-nil (frames ++ now));
        stand = subst (λ (o : Option Message). StandAt 0 (with_message d.ready d.at o) (frames ++ now)) (sym read) standing;
        at = omega (arith, at, all, length-append frames now);
        stands = subst (λ (f : Front). StandsBy f (d.at + len) [] (reading [])) (sym (front-nil kinds)) refl;
      }

  -- by what stands at the front with this byte
  next_read : (found : Front) → front kinds rest ≡ more → front kinds now ≡ found → Reads kinds (x ++ byte ∷ []) (by_front d now found)
  next_read more wants is = record {
    frames = frames;
    rest = now;
    split = split_more;
    stand = stand;
    at = at;
    stands = subst (λ (f : Front). StandsBy f d.at now (reading now)) (sym is) refl;
  }
  next_read (wrong error) wants is = record {
    frames = frames;
    rest = now;
    split = split_more;
    stand = stand;
    at = at;
    stands = subst (λ (f : Front). StandsBy f d.at now (refused (moved d.at error))) (sym is) refl;
  }
  next_read (whole len) wants is = whole_read len wants is

  -- the input was refused before
  still_wrong : (error : FrameError) → front kinds rest ≡ wrong error → (front kinds rest ≡ more) ⊎ (front kinds rest ≡ front kinds now)
      → front kinds now ≡ wrong error
  still_wrong error is (inl wants) = absurd (more_or_wrong error (sym wants ∙ is))
  still_wrong error is (inr same) = sym same ∙ is

  step_by_found : (found : Front) → front kinds rest ≡ found → StandsBy found d.at rest d.condition → Reads kinds (x ++ byte ∷ []) (step d byte)
  step_by_found more is stands =
      let front_now : front d.kinds now ≡ front kinds now = ap (λ (k : ℕ). front k now) kinds_are in
      let to : step d byte ≡ by_front d now (front kinds now) = step_reading d byte rest stands ∙ after_is d now (front kinds now) front_now in
      subst (Reads kinds (x ++ byte ∷ [])) (sym to) (next_read (front kinds now) is refl)
  step_by_found (wrong error) is stands =
      let now_wrong : front kinds now ≡ wrong error = still_wrong error is (front_stays kinds rest (byte ∷ [])) in
      let read : Reads kinds (x ++ byte ∷ []) d = record {
        frames = frames;
        rest = now;
        split = split_more;
        stand = stand;
        at = at;
        stands = subst (λ (f : Front). StandsBy f d.at now d.condition) (sym now_wrong) stands;
      } in
      subst (Reads kinds (x ++ byte ∷ [])) (sym (step_refused d byte (moved d.at error) stands)) read
  step_by_found (whole len) is stands = absurd stands

-- ---- any bytes more

module _ (spelling : WholeIsSpelled) (kinds : ℕ) (are : AreKinds kinds) where
  step_reads : (d : Decoding) (x : List ℕ) (byte : ℕ) → AreBytes (x ++ byte ∷ []) → d.kinds ≡ kinds → Reads kinds x d
      → Reads kinds (x ++ byte ∷ []) (step d byte)
  step_reads d x byte below kinds_are r =
      step_by_found spelling kinds are d kinds_are x byte r.frames r.rest below r.split r.stand r.at (front kinds r.rest) refl r.stands

  pub reads_on : (y x : List ℕ) (d : Decoding) → AreBytes (x ++ y) → d.kinds ≡ kinds → Reads kinds x d → Reads kinds (x ++ y) (decoded d y)
  reads_on [] x d below kinds_are r =
      subst (λ (t : Decoding). Reads kinds (x ++ []) t) (sym (decoded-nil d)) (subst (λ (t : List ℕ). Reads kinds t d) (sym (append-nil x)) r)
  reads_on (byte ∷ y) x d below kinds_are r =
      let joined : (x ++ byte ∷ []) ++ y ≡ x ++ byte ∷ y = append_assoc x (byte ∷ []) y in
      let all : AreBytes ((x ++ byte ∷ []) ++ y) = subst AreBytes (sym joined) below in
      let one = step_reads d x byte (bytes_before (x ++ byte ∷ []) y all) kinds_are r in
      let rest : Reads kinds ((x ++ byte ∷ []) ++ y) (decoded (step d byte) y) =
      reads_on y (x ++ byte ∷ []) (step d byte) all (step_kinds d byte ∙ kinds_are) one in
      subst (λ (t : Decoding). Reads kinds (x ++ byte ∷ y) t) (sym (decoded-cons d byte y))
      (subst (λ (t : List ℕ). Reads kinds t (decoded (step d byte) y)) joined rest)

  begun_reads : Reads kinds [] (begun kinds)
  begun_reads = record {
    frames = [];
    rest = [];
    split = refl;
    stand = refl;
    at = refl;
    stands = subst (λ (f : Front). StandsBy f 0 [] (reading [])) (sym (front-nil kinds)) refl;
  }

-- Where each whole frame is spelled by its message, an input is read as frames and a rest.
pub read_as_frames : WholeIsSpelled → InputIsRead
read_as_frames spelling kinds x below are = reads_on spelling kinds are x [] (begun kinds) below refl (begun_reads spelling kinds are)

-- What the steps of a decoder come to, in the words of reading.
use Rattle.std.proofs.Common.{◌≡◌, ◌≢◌, ℕ, ◌+◌, ◌^◌, ◌<◌, ◌≤◌, true, false, not, List, [], ◌∷◌, ◌++◌, length, take, drop, All, Result, Ok, Err, Some, refl, ap, ap₂, sym, subst, ◌∙◌, arith, append_assoc, length-append}
use Rattle.std.specs.Prelude.{nat_eq, slice_index}
use Rattle.std.proofs.lemmas.Bool.{eq-eqb}
use Rattle.std.proofs.lemmas.List.{append-nil, take-append-drop, length-take-le, length-drop, drop-drop}
use Rattle.std.proofs.Math.ListN.{drop_of_length-le}
use Rattle.spiral_sets.specs.declared.param_set.ParamSet.{ParamSet}
use Rattle.frame_headers.specs.declared.frame_error.FrameError.{FrameError}
use Rattle.frame_headers.specs.declared.header.HeaderRead.{HeaderRead}
use Rattle.frame_headers.specs.declared.header.HeaderRead.TheVariants.{More, Refused, Whole}
use Rattle.frame_headers.specs.declared.kind.FrameKind.{FrameKind}
use Rattle.frame_headers.specs.declared.kind.FrameKind.TheVariants.{Setup, Query, Reply, Refuse, State, Database}
use Rattle.frame_headers.specs.Kinds.{code_of_kind, kind_of_code, body_len_of}
use Rattle.frame_headers.specs.Headers.{header}
use Rattle.frame_headers.specs.Refusals.{place_of}
use Rattle.frame_headers.specs.Checks.{accepts, header_read}
use Rattle.spiral_frames.specs.Frames.{Message, kind_of, set_of_message, body_of, frame_of}
use Rattle.spiral_frames.specs.FrameChecks.{more, wrong, whole, front}
use Rattle.spiral_frames.proofs.FrameLaws.{frame_is}
use Rattle.spiral_frames.proofs.DatabaseFrames.{same_number}
use Rattle.frame_streams.specs.Decoding.{Placed, Condition, refused, wanting, reading, Decoding, AreKinds, HasRoom, RoomIn, moved, with_message, after, decoded}
use Rattle.frame_streams.specs.Heads.{header_of}
use Rattle.frame_streams.specs.Parsing.{message_in}
use Rattle.frame_streams.proofs.Agreeing.{more_or_whole, same_whole}
use Rattle.frame_streams.proofs.BehindHeaders.{kind_back}
use Rattle.frame_streams.proofs.FrameFirst.{frame_first}
use Rattle.frame_streams.proofs.Heads.{IsWholeHeader, header_whole, header_more, header_refused, body_more, body_wrong}
use Rattle.frame_streams.proofs.Onwards.{IsOnwards, same_onwards, then_onwards, onwards, wrong_place, begins_clean}
use Rattle.frame_streams.proofs.Pieces.{EndsOnce, piece_read, piece_more, piece_wrong, after_is, after_same, decoded-nil, decoded-append, decoded-refused, decoded-wanting}
use Rattle.frame_streams.proofs.ReadAgain.{read_again}
use Rattle.pir_wire.specs.Bodies.{IsBodyOf}
use Rattle.pir_wire.specs.Growing.{BodySeen, IsGrowing, Grows}
use Rattle.pir_wire.specs.declared.decoder.body.GrowError.TheVariants as grow
use Rattle.pir_wire.specs.declared.decoder.FeedError.{FeedError}
use Rattle.pir_wire.specs.declared.decoder.FeedError.TheVariants.{Frame, NoMemory}
use Rattle.pir_wire.specs.Making.{frame_bytes, IsComing, IsAtHand}
use Rattle.pir_wire.specs.Steps.{with_bytes, reach_by, reach, GoesOn, MayGoOn, TakesSome, ComesTo}
use Rattle.pir_wire.specs.Feeding.{FeedGives}

-- ---- a header

-- the codes of the kinds that a decoder takes
pub code_range : (kind : FrameKind) → kind ≢ Database → (1 ≤ code_of_kind kind) × (code_of_kind kind ≤ 5)
code_range Setup other = (omega arith, omega arith)
code_range Query other = (omega arith, omega arith)
code_range Reply other = (omega arith, omega arith)
code_range Refuse other = (omega arith, omega arith)
code_range State other = (omega arith, omega arith)
code_range Database other = absurd (other refl)

-- what was read of the bytes, by what these are
pub read_as : (kinds taken : ℕ) (bytes seen : List ℕ) (answer : HeaderRead) → seen ≡ bytes → taken ≡ kinds → answer ≡ header_read seen taken
    → header_read bytes kinds ≡ answer
read_as kinds taken bytes seen answer same same_kinds is = sym (is ∙ ap₂ (λ (b : List ℕ) (k : ℕ). header_read b k) same same_kinds)

-- a header that is whole by this byte
pub whole_as : (kinds taken : ℕ) (y seen : List ℕ) (byte code : ℕ) (set : ParamSet) (body used : ℕ) → seen ≡ y ++ byte ∷ [] → taken ≡ kinds → AreKinds kinds
    → header_read y kinds ≡ More → All (λ b. b < 256) seen → Whole code set body used ≡ header_read seen taken → IsWholeHeader kinds (y ++ byte ∷ []) code set
whole_as kinds taken y seen byte code set body used same same_kinds are wanted below is =
    header_whole kinds y byte code set body used (subst (λ (b : List ℕ). All (λ x. x < 256) b) same below) are wanted
    (read_as kinds taken (y ++ byte ∷ []) seen (Whole code set body used) same same_kinds is)

-- ---- the body behind a whole header

module _ (kinds code : ℕ) (bytes : List ℕ) (set : ParamSet) (kind : FrameKind) (b : BodySeen) (is_whole : IsWholeHeader kinds bytes code set)
    (code_is : code ≡ code_of_kind kind) (begun : b ≡ record { kind = kind; set = set; bytes = [] }) where
  same_kind : is_whole.kind ≡ kind
  same_kind =
      let same : Some is_whole.kind ≡ Some kind = sym is_whole.kind_is ∙ ap (λ (c : ℕ). kind_of_code c) code_is ∙ kind_back kind in
      cc

  -- the bytes of its frame are those of the header
  pub begun_bytes : frame_bytes b ≡ bytes
  begun_bytes =
      ap (λ (s : BodySeen). frame_bytes s) begun ∙ append-nil (header_of kind set) ∙ ap (λ (k : FrameKind). header_of k set) (sym same_kind)
      ∙ sym is_whole.bytes_are

  pub begun_coming : (come : ℕ) → come ≡ length bytes → IsComing kinds come b
  begun_coming come count =
      let none : BodySeen = record { kind = kind; set = set; bytes = [] } in
      let growing : IsGrowing none = record { known = is_whole.known; clean = begins_clean kind set is_whole.known; within = omega arith } in
      subst (λ (s : BodySeen). IsComing kinds come s) (sym begun)
      (record {
        growing = growing;
        other = subst (λ (k : FrameKind). k ≢ Database) same_kind is_whole.other;
        accepted = subst (λ (k : FrameKind). accepts kinds (code_of_kind k) ≡ true) same_kind is_whole.accepted;
        count = count ∙ ap length (sym begun_bytes) ∙ ap (λ (s : BodySeen). length (frame_bytes s)) begun;
      })

-- ---- a body that comes

-- not all of it has come
pub at_hand_of : (kinds come : ℕ) (b : BodySeen) → IsComing kinds come b → nat_eq (length b.bytes) (body_len_of b.kind b.set) ≡ false → IsAtHand kinds come b
at_hand_of kinds come b coming open_still =
    let other : length b.bytes ≢ body_len_of b.kind b.set =
    λ same. (let yes : nat_eq (length b.bytes) (body_len_of b.kind b.set) ≡ true = eq-eqb (length b.bytes) (body_len_of b.kind b.set) same in cc) in
    record { coming = coming; wanted = omega (arith, coming.growing.within, other) }

at_hand_more : (kinds come : ℕ) (b : BodySeen) → IsAtHand kinds come b → front kinds (frame_bytes b) ≡ more
at_hand_more kinds come b hand =
    body_more kinds b.kind b.set b.bytes hand.coming.growing.known hand.coming.other hand.coming.accepted hand.coming.growing.clean hand.wanted

-- it is kept at hand
pub comes_kept : (d new : Decoding) (b : BodySeen) (come : ℕ) → IsAtHand d.kinds come b → new ≡ record d { condition = reading (frame_bytes b) }
    → ComesTo d (frame_bytes b) new (Ok tt)
comes_kept d new b come hand is =
    let wants : front d.kinds (frame_bytes b) ≡ more = at_hand_more d.kinds come b hand in (
      is ∙ sym (after_is d (frame_bytes b) more wants),
      λ len is_whole. absurd (more_or_whole len (sym wants ∙ is_whole)),
      (frame_bytes b, ap (λ (e : Decoding). e.condition) is),
      ap (λ (e : Decoding). reach e) is,
    )

-- all of it has come, by the test
pub all_by_test : (b : BodySeen) → nat_eq (length b.bytes) (body_len_of b.kind b.set) ≡ true → length b.bytes ≡ body_len_of b.kind b.set
all_by_test b test = same_number (length b.bytes) (body_len_of b.kind b.set) (ap not test)

-- a message was put behind those that were ready
pub one_more : (d seen new : Decoding) (ready : List Placed) (bytes : List ℕ) (come : ℕ) (m : Message) → seen ≡ d
    → ready ≡ seen.ready ++ record { place = seen.at; message = m } ∷ [] → bytes ≡ []
    → new ≡ record seen { ready = ready; at = seen.at + come; condition = reading bytes }
    → new ≡ record d { ready = d.ready ++ record { place = d.at; message = m } ∷ []; at = d.at + come; condition = reading [] }
one_more d seen new ready bytes come m same ready_is none is =
    is ∙ ap₂ (λ (r : List Placed) (b : List ℕ). record seen { ready = r; at = seen.at + come; condition = reading b }) ready_is none
    ∙ ap (λ (e : Decoding). record e { ready = e.ready ++ record { place = e.at; message = m } ∷ []; at = e.at + come; condition = reading [] }) same

-- a whole frame is that of its message
frame_whole : (b : BodySeen) (m : Message) → IsBodyOf b.set b.bytes m → kind_of m ≡ b.kind → length b.bytes ≡ body_len_of b.kind b.set
    → frame_of m ≡ frame_bytes b
frame_whole b m is kind_is all =
    let len : ℕ = body_len_of b.kind b.set in
    frame_is m len (ap length (sym is.spelled) ∙ all)
    ∙ ap (λ (k : FrameKind). header (code_of_kind k) (set_of_message m) len ++ body_of m) kind_is
    ∙ ap (λ (s : ParamSet). header (code_of_kind b.kind) s len ++ body_of m) is.set_is
    ∙ ap (λ (x : List ℕ). header (code_of_kind b.kind) b.set len ++ x) (sym is.spelled)

-- all of it has come: a message is ready
pub comes_whole : (d new : Decoding) (b : BodySeen) (come : ℕ) (m : Message) → IsComing d.kinds come b → IsBodyOf b.set b.bytes m → kind_of m ≡ b.kind
    → length b.bytes ≡ body_len_of b.kind b.set
    → new ≡ record d { ready = d.ready ++ record { place = d.at; message = m } ∷ []; at = d.at + come; condition = reading [] }
    → ComesTo d (frame_bytes b) new (Ok tt)
comes_whole d new b come m coming is kind_is all new_is =
    let bytes : List ℕ = frame_bytes b in
    let frame : frame_of m ≡ bytes = frame_whole b m is kind_is all in
    let accepted : accepts d.kinds (code_of_kind (kind_of m)) ≡ true =
    subst (λ (k : FrameKind). accepts d.kinds (code_of_kind k) ≡ true) (sym kind_is) coming.accepted in
    let first : front d.kinds (frame_of m) ≡ whole (length (frame_of m)) =
    ap (front d.kinds) (sym (append-nil (frame_of m))) ∙ frame_first d.kinds m [] is.kept accepted in
    let found : front d.kinds bytes ≡ whole (length bytes) = subst (λ (x : List ℕ). front d.kinds x ≡ whole (length x)) frame first in
    let message : message_in bytes ≡ Some m = ap (λ (x : List ℕ). message_in x) (sym frame) ∙ read_again m is.kept in
    let placed : with_message d.ready d.at (message_in bytes) ≡ d.ready ++ record { place = d.at; message = m } ∷ [] =
    ap (with_message d.ready d.at) message in
    let becomes : after d bytes ≡ record d { ready = d.ready ++ record { place = d.at; message = m } ∷ []; at = d.at + come; condition = reading [] } =
    after_is d bytes (whole (length bytes)) found
    ∙ ap₂ (λ (ready : List Placed) (n : ℕ). record d { ready = ready; at = d.at + n; condition = reading [] }) placed (sym coming.count) in
    let total : d.at + come + 0 ≡ d.at + length bytes = omega (arith, coming.count) in (
      new_is ∙ sym becomes,
      λ len is_whole. same_whole len (length bytes) (sym is_whole ∙ found),
      ([], ap (λ (e : Decoding). e.condition) new_is),
      ap (λ (e : Decoding). reach e) new_is ∙ total,
    )

-- ---- bytes taken from the front of a piece

module _ (d new : Decoding) (y : List ℕ) (n : ℕ) (piece : List ℕ) (wants : front d.kinds y ≡ more) where
  abbrev reads : Decoding
  reads = with_bytes d y

  -- reading goes on
  pub takes_piece : (bytes : List ℕ) → 1 ≤ n → n ≤ length piece → bytes ≡ y ++ take n piece → ComesTo d bytes new (Ok tt) → TakesSome reads new piece (Ok n)
  takes_piece bytes some within joined comes =
      let c : List ℕ = take n piece in
      let size : length c ≡ n = length-take-le n piece within in
      let once : EndsOnce d.kinds (y ++ c) = subst (λ (x : List ℕ). EndsOnce d.kinds x) joined comes.1 in
      let read : decoded reads c ≡ after d (y ++ c) = piece_read reads y c refl wants once (omega (arith, size, some)) ∙ after_same d (reading y) (y ++ c) in
      let total : d.at + length bytes ≡ d.at + length y + n = omega (arith, ap length joined, length-append y c, size) in
      (some, within, comes.0 ∙ ap (λ (x : List ℕ). after d x) joined ∙ sym read, comes.2, comes.3 ∙ total)

  -- the piece is refused
  pub refuses_piece : (error : FrameError) (result : Result ℕ FeedError) → front d.kinds (y ++ take n piece) ≡ wrong error
      → new ≡ record d { condition = refused (moved d.at error) } → result ≡ Err (Frame (moved d.at error)) → TakesSome reads new piece result
  refuses_piece error result fails new_is answer =
      let c : List ℕ = take n piece in
      let first : decoded reads c ≡ record d { condition = refused (moved d.at error) } = piece_wrong reads y c refl wants error fails in
      let rest : decoded reads piece ≡ decoded (decoded reads c) (drop n piece) =
      ap (λ (x : List ℕ). decoded reads x) (sym (take-append-drop n piece)) ∙ decoded-append reads c (drop n piece) in
      let stays : decoded (record d { condition = refused (moved d.at error) }) (drop n piece) ≡ record d { condition = refused (moved d.at error) } =
      decoded-refused (record d { condition = refused (moved d.at error) }) (drop n piece) (moved d.at error) refl in
      let all : new ≡ decoded reads piece =
      new_is ∙ sym stays ∙ ap (λ (e : Decoding). decoded e (drop n piece)) (sym first) ∙ sym rest in
      subst (λ (r : Result ℕ FeedError). TakesSome reads new piece r) (sym answer) (all, ap (λ (e : Decoding). e.condition) new_is)

-- ---- by a byte of a header

module _ (d new : Decoding) (y : List ℕ) (byte : ℕ) (wanted : header_read y d.kinds ≡ More) where
  -- more bytes are wanted
  pub header_goes_on : header_read (y ++ byte ∷ []) d.kinds ≡ More → new ≡ with_bytes d (y ++ byte ∷ []) → TakesSome (with_bytes d y) new (byte ∷ []) (Ok 1)
  header_goes_on still new_is =
      let read : decoded (with_bytes d y) (byte ∷ []) ≡ with_bytes d (y ++ byte ∷ []) =
      piece_more (with_bytes d y) y (byte ∷ []) refl (header_more d.kinds y wanted) (header_more d.kinds (y ++ byte ∷ []) still) in
      let total : d.at + length (y ++ byte ∷ []) ≡ d.at + length y + 1 = omega (arith, length-append y (byte ∷ [])) in (
        omega arith,
        omega arith,
        new_is ∙ sym read,
        (y ++ byte ∷ [], ap (λ (e : Decoding). e.condition) new_is),
        ap (λ (e : Decoding). reach e) new_is ∙ total,
      )

  -- the header is refused by it
  pub header_refuses : (error : FrameError) (result : Result ℕ FeedError) → header_read (y ++ byte ∷ []) d.kinds ≡ Refused error
      → new ≡ record d { condition = refused (moved d.at error) } → result ≡ Err (Frame (moved d.at error)) → TakesSome (with_bytes d y) new (byte ∷ []) result
  header_refuses error result fails new_is answer =
      refuses_piece d new y 1 (byte ∷ []) (header_more d.kinds y wanted) error result (header_refused d.kinds (y ++ byte ∷ []) error fails) new_is answer

  -- the header is whole, and its body has begun
  pub header_ends : (bytes : List ℕ) → bytes ≡ y ++ byte ∷ [] → ComesTo d bytes new (Ok tt) → TakesSome (with_bytes d y) new (byte ∷ []) (Ok 1)
  header_ends bytes joined comes = takes_piece d new y 1 (byte ∷ []) (header_more d.kinds y wanted) bytes (omega arith) (omega arith) joined comes

-- the place of a header's refusal, with so many bytes before it
pub header_place : (kinds : ℕ) (y : List ℕ) (byte : ℕ) (error : FrameError) → header_read (y ++ byte ∷ []) kinds ≡ Refused error → place_of error ≤ length y + 1
header_place kinds y byte error fails =
    let low : place_of error ≤ length (y ++ byte ∷ []) = wrong_place kinds (y ++ byte ∷ []) error (header_refused kinds (y ++ byte ∷ []) error fails) in
    omega (arith, length-append y (byte ∷ []))

-- one byte of a piece is as good as the piece
pub takes_one : (old new : Decoding) (byte : ℕ) (piece : List ℕ) (result : Result ℕ FeedError) → 0 < length piece → byte ≡ slice_index piece 0
    → TakesSome old new (byte ∷ []) result → TakesSome old new piece result
takes_one old new byte [] result some same takes = absurd (omega arith)
takes_one old new byte (x ∷ rest) (Ok n) some same takes =
    let one : n ≡ 1 = omega (arith, takes.0, takes.1) in
    let taken : take n (byte ∷ []) ≡ take n (x ∷ rest) =
    ap (λ (k : ℕ). take k (byte ∷ [])) one ∙ ap (λ (b : ℕ). b ∷ []) same ∙ ap (λ (k : ℕ). take k (x ∷ rest)) (sym one) in
    (takes.0, omega (arith, one), takes.2 ∙ ap (λ (t : List ℕ). decoded old t) taken, takes.3, takes.4)
takes_one old new byte (x ∷ rest) (Err (Frame error)) some same takes =
    let stays : decoded new rest ≡ new = decoded-refused new rest error takes.1 in (
      sym stays ∙ ap (λ (e : Decoding). decoded e rest) takes.0 ∙ sym (decoded-append old (byte ∷ []) rest) ∙ ap (λ (b : ℕ). decoded old (b ∷ rest)) same,
      takes.1,
    )
takes_one old new byte (x ∷ rest) (Err NoMemory) some same takes = takes

-- the bytes at hand are those of the condition before
with_same : (old seen : Decoding) (y : List ℕ) → seen ≡ old → old.condition ≡ reading y → with_bytes seen y ≡ old
with_same old seen y same is = ap (λ (d : Decoding). with_bytes d y) same ∙ ap (λ (c : Condition). record old { condition = c }) (sym is)

pub header_in_piece : (old seen new : Decoding) (y : List ℕ) (byte : ℕ) (piece : List ℕ) (result : Result ℕ FeedError) → seen ≡ old → old.condition ≡ reading y
    → 0 < length piece → byte ≡ slice_index piece 0 → TakesSome (with_bytes seen y) new (byte ∷ []) result → TakesSome old new piece result
header_in_piece old seen new y byte piece result same is some first takes =
    takes_one old new byte piece result some first
    (subst (λ (d : Decoding). TakesSome d new (byte ∷ []) result) (with_same old seen y same is) takes)

-- a refusal stays
pub stays_refused : (old seen new : Decoding) (piece : List ℕ) (error : FrameError) → seen ≡ old → old.condition ≡ refused error
    → new ≡ record seen { condition = refused error } → TakesSome old new piece (Err (Frame error))
stays_refused old seen new piece error same is new_is =
    let as_before : new ≡ old =
    new_is ∙ ap (λ (d : Decoding). record d { condition = refused error }) same ∙ ap (λ (c : Condition). record old { condition = c }) (sym is) in
    (as_before ∙ sym (decoded-refused old piece error is), ap (λ (d : Decoding). d.condition) new_is)

-- ---- by bytes of a body

-- more bytes are there now, and the body is at hand or whole
pub body_goes_on : (d new : Decoding) (b grown : BodySeen) (come n : ℕ) (piece : List ℕ) → IsAtHand d.kinds come b → Grows b grown piece (Ok n)
    → ComesTo d (frame_bytes grown) new (Ok tt) → TakesSome (with_bytes d (frame_bytes b)) new piece (Ok n)
body_goes_on d new b grown come n piece hand grows comes =
    let joined : frame_bytes grown ≡ frame_bytes b ++ take n piece =
    ap (λ (s : BodySeen). frame_bytes s) grows.2 ∙ sym (append_assoc (header_of b.kind b.set) b.bytes (take n piece)) in
    takes_piece d new (frame_bytes b) n piece (at_hand_more d.kinds come b hand) (frame_bytes grown) grows.0 grows.1 joined comes

pub grown_coming : (kinds : ℕ) (b grown : BodySeen) (come n : ℕ) (piece : List ℕ) → IsAtHand kinds come b → Grows b grown piece (Ok n)
    → IsComing kinds (come + n) grown
grown_coming kinds b grown come n piece hand grows =
    let longer : BodySeen = record b { bytes = b.bytes ++ take n piece } in
    let size : length (take n piece) ≡ n = length-take-le n piece grows.1 in
    let head : List ℕ = header_of b.kind b.set in
    let growing : IsGrowing longer = subst (λ (s : BodySeen). IsGrowing s) grows.2 grows.3 in
    let count : come + n ≡ length (frame_bytes longer) =
    omega (arith, hand.coming.count, size, length-append head b.bytes, length-append head (b.bytes ++ take n piece), length-append b.bytes (take n piece)) in
    subst (λ (s : BodySeen). IsComing kinds (come + n) s) (sym grows.2)
    (record { growing = growing; other = hand.coming.other; accepted = hand.coming.accepted; count = count })

-- what stands at the front where a byte of the piece refuses the body
module _ (kinds : ℕ) (b grown : BodySeen) (come : ℕ) (piece : List ℕ) (error : FrameError) (hand : IsAtHand kinds come b)
    (grows : Grows b grown piece (Err (grow.Refused error))) where
  refused_front : front kinds (frame_bytes b ++ take grows.0 piece) ≡ wrong error
  refused_front =
      ap (front kinds) (append_assoc (header_of b.kind b.set) b.bytes (take grows.0 piece))
      ∙ body_wrong kinds b.kind b.set (b.bytes ++ take grows.0 piece) hand.coming.growing.known hand.coming.other hand.coming.accepted error grows.2

  pub body_place : place_of error ≤ come + length piece
  body_place =
      let low : place_of error ≤ length (frame_bytes b ++ take grows.0 piece) = wrong_place kinds (frame_bytes b ++ take grows.0 piece) error refused_front in
      let size : length (take grows.0 piece) ≡ grows.0 = length-take-le grows.0 piece grows.1 in
      omega (arith, hand.coming.count, size, length-append (frame_bytes b) (take grows.0 piece), grows.1)

pub body_refuses : (d new : Decoding) (b grown : BodySeen) (come : ℕ) (piece : List ℕ) (error : FrameError) (result : Result ℕ FeedError)
    → IsAtHand d.kinds come b → Grows b grown piece (Err (grow.Refused error)) → new ≡ record d { condition = refused (moved d.at error) }
    → result ≡ Err (Frame (moved d.at error)) → TakesSome (with_bytes d (frame_bytes b)) new piece result
body_refuses d new b grown come piece error result hand grows new_is answer =
    refuses_piece d new (frame_bytes b) grows.0 piece (at_hand_more d.kinds come b hand) error result (refused_front d.kinds b grown come piece error hand grows)
    new_is answer

-- ---- the loop over a piece

-- So many bytes of a piece have been read.
pub record HasFed (old now : Decoding) (piece : List ℕ) (place : ℕ) : Type 0 where
  pub within : place ≤ length piece
  pub rest : decoded now (drop place piece) ≡ decoded old piece
  pub ways : IsOnwards old now
  pub goes : GoesOn now
  pub room : reach now + length (drop place piece) < 2 ^ 64

-- room by the place behind the bytes that have come
reach_in : (c : Condition) (at size : ℕ) (bytes : List ℕ) → c ≡ reading bytes → RoomIn c at size → reach_by c at + size < 2 ^ 64
reach_in (reading now) at size bytes is room = room
reach_in (refused error) at size bytes is room = absurd (cc)
reach_in wanting at size bytes is room = absurd (cc)

room_in : (c : Condition) (at size : ℕ) (bytes : List ℕ) → c ≡ reading bytes → reach_by c at + size < 2 ^ 64 → RoomIn c at size
room_in (reading now) at size bytes is room = room
room_in (refused error) at size bytes is room = absurd (cc)
room_in wanting at size bytes is room = absurd (cc)

room_of : (d : Decoding) (size : ℕ) → GoesOn d → HasRoom d size → reach d + size < 2 ^ 64
room_of d size goes room = reach_in d.condition d.at size goes.0 goes.1 room

pub room_for : (d : Decoding) (size : ℕ) → GoesOn d → reach d + size < 2 ^ 64 → HasRoom d size
room_for d size goes room = room_in d.condition d.at size goes.0 goes.1 room

pub fed_none : (d : Decoding) (piece : List ℕ) → GoesOn d → HasRoom d (length piece) → HasFed d d piece 0
fed_none d piece goes room =
    record { within = omega arith; rest = refl; ways = same_onwards d; goes = goes; room = room_of d (length piece) goes room }

module _ (old now : Decoding) (piece : List ℕ) (place : ℕ) (fed : HasFed old now piece place) where
  abbrev left : List ℕ
  left = drop place piece

  pub fed_room : HasRoom now (length left)
  fed_room = room_for now (length left) fed.goes fed.room

  pub fed_more : (new : Decoding) (n : ℕ) → TakesSome now new left (Ok n) → HasFed old new piece (place + n)
  fed_more new n takes =
      let behind : drop n left ≡ drop (place + n) piece = drop-drop n place piece in
      let rest : decoded new (drop (place + n) piece) ≡ decoded old piece =
      ap (λ (x : List ℕ). decoded new x) (sym behind) ∙ ap (λ (e : Decoding). decoded e (drop n left)) takes.2
      ∙ sym (decoded-append now (take n left) (drop n left)) ∙ ap (λ (x : List ℕ). decoded now x) (take-append-drop n left) ∙ fed.rest in
      let ways : IsOnwards now new = subst (λ (e : Decoding). IsOnwards now e) (sym takes.2) (onwards now (take n left)) in
      record {
        within = omega (arith, takes.1, length-drop place piece, fed.within);
        rest = rest;
        ways = then_onwards old now new fed.ways ways;
        goes = takes.3;
        room = omega (arith, takes.4, takes.1, fed.room, length-drop place piece, length-drop (place + n) piece, fed.within);
      }

  pub fed_all : length piece ≤ place → FeedGives old (decoded old piece) now (Ok tt)
  fed_all all =
      let none : left ≡ [] = drop_of_length-le piece all in
      let is : now ≡ decoded old piece = sym (decoded-nil now) ∙ ap (λ (x : List ℕ). decoded now x) (sym none) ∙ fed.rest in
      (is, fed.goes.0, ap (λ (e : Decoding). e.condition) (sym is) ∙ fed.goes.1)

  pub fed_ends : (new : Decoding) (error : FeedError) → TakesSome now new left (Err error) → FeedGives old (decoded old piece) new (Err error)
  fed_ends new (Frame error) takes =
      let is : new ≡ decoded old piece = takes.0 ∙ fed.rest in
      (is, ap (λ (e : Decoding). e.condition) (sym is) ∙ takes.1)
  fed_ends new NoMemory takes =
      let later : IsOnwards now (decoded now left) = onwards now left in
      let last : (decoded old piece).ready ≡ new.ready ++ later.more =
      ap (λ (e : Decoding). e.ready) (sym fed.rest) ∙ later.ready ∙ ap (λ (r : List Placed). r ++ later.more) (sym takes.3) in
      (takes.0, takes.1 ∙ fed.ways.kinds, takes.2 ∙ fed.ways.last, (fed.ways.more, later.more, takes.3 ∙ fed.ways.ready, last))

-- a decoder that takes no more answers as before
pub fed_stopped : (d : Decoding) (piece : List ℕ) (error : FeedError) → MayGoOn d (Err error) → FeedGives d (decoded d piece) d (Err error)
fed_stopped d piece (Frame error) is =
    let same : decoded d piece ≡ d = decoded-refused d piece error is in
    (sym same, ap (λ (e : Decoding). e.condition) same ∙ is)
fed_stopped d piece NoMemory is =
    let same : decoded d piece ≡ d = decoded-wanting d piece is in
    (is, refl, refl, ([], [], sym (append-nil d.ready), ap (λ (e : Decoding). e.ready) same ∙ sym (append-nil d.ready)))

-- ---- the next message

abbrev pub placed : ℕ → Message → Placed
placed place message = record { place = place; message = message }

pub taken_first : (ready rest : List Placed) (next : Placed) (place : ℕ) (m : Message) → ready ≡ next ∷ rest → place ≡ next.place → m ≡ next.message
    → ready ≡ placed place m ∷ rest
taken_first ready rest next place m is at same = is ∙ ap (λ (p : Placed). p ∷ rest) (ap₂ placed (sym at) (sym same))

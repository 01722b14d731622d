-- Reading in pieces: the pieces don't matter, and what a piece comes to that ends by the end of a frame.
use Rattle.std.proofs.Common.{◌≡◌, ℕ, ◌+◌, ◌<◌, ◌⊎◌, inl, inr, List, [], ◌∷◌, ◌++◌, length, refl, ap, sym, subst, ◌∙◌, arith, length-append, append_assoc}
use Rattle.std.proofs.lemmas.List.{append-nil}
use Rattle.frame_headers.specs.declared.frame_error.FrameError.{FrameError}
use Rattle.spiral_frames.specs.FrameChecks.{Front, more, wrong, whole, front}
use Rattle.frame_streams.specs.Parsing.{message_in}
use Rattle.frame_streams.specs.Decoding.{Condition, refused, wanting, reading, Decoding, moved, with_message, by_front, after, step_by, step, decoded}
use Rattle.frame_streams.proofs.Agreeing.{front_stays, whole_within, more_or_whole, more_or_wrong, wrong_or_whole, same_whole}

-- The pieces don't matter.
pub decoded-append : (d : Decoding) (x y : List ℕ) → decoded d (x ++ y) ≡ decoded (decoded d x) y
unfolding decoded
decoded-append d [] y = refl
decoded-append d (byte ∷ x) y = decoded-append (step d byte) x y

pub pieces_dont_matter : (d : Decoding) (x y : List ℕ) → decoded d (x ++ y) ≡ decoded (decoded d x) y
pieces_dont_matter = decoded-append

pub decoded-nil : (d : Decoding) → decoded d [] ≡ d
unfolding decoded
decoded-nil d = refl

pub decoded-cons : (d : Decoding) (byte : ℕ) (x : List ℕ) → decoded d (byte ∷ x) ≡ decoded (step d byte) x
unfolding decoded
decoded-cons d byte x = refl

-- ---- one byte

pub step_refused : (d : Decoding) (byte : ℕ) (error : FrameError) → d.condition ≡ refused error → step d byte ≡ d
unfolding step
step_refused d byte error is = ap (λ (c : Condition). step_by c d byte) is

step_wanting : (d : Decoding) (byte : ℕ) → d.condition ≡ wanting → step d byte ≡ d
unfolding step
step_wanting d byte is = ap (λ (c : Condition). step_by c d byte) is

pub step_reading : (d : Decoding) (byte : ℕ) (y : List ℕ) → d.condition ≡ reading y → step d byte ≡ after d (y ++ byte ∷ [])
unfolding step
step_reading d byte y is = ap (λ (c : Condition). step_by c d byte) is

-- ---- a decoding that has stopped stays as it is

pub decoded-refused : (d : Decoding) (x : List ℕ) (error : FrameError) → d.condition ≡ refused error → decoded d x ≡ d
decoded-refused d [] error is = decoded-nil d
decoded-refused d (byte ∷ x) error is =
    decoded-cons d byte x ∙ ap (λ (t : Decoding). decoded t x) (step_refused d byte error is) ∙ decoded-refused d x error is

pub decoded-wanting : (d : Decoding) (x : List ℕ) → d.condition ≡ wanting → decoded d x ≡ d
decoded-wanting d [] is = decoded-nil d
decoded-wanting d (byte ∷ x) is =
    decoded-cons d byte x ∙ ap (λ (t : Decoding). decoded t x) (step_wanting d byte is) ∙ decoded-wanting d x is

-- ---- what becomes of a decoding by its front

pub after_is : (d : Decoding) (y : List ℕ) (found : Front) → front d.kinds y ≡ found → after d y ≡ by_front d y found
unfolding after
after_is d y found is = ap (by_front d y) is

-- how reading stood doesn't matter to it
by_front_same : (d : Decoding) (now : Condition) (y : List ℕ) (found : Front) → by_front (record d { condition = now }) y found ≡ by_front d y found
by_front_same d now y more = refl
by_front_same d now y (wrong error) = refl
by_front_same d now y (whole len) = refl

pub after_same : (d : Decoding) (now : Condition) (y : List ℕ) → after (record d { condition = now }) y ≡ after d y
unfolding after
after_same d now y = by_front_same d now y (front d.kinds y)

-- ---- the law of a piece

-- a whole frame at the front of these bytes is all of them
abbrev pub EndsOnce : ℕ → List ℕ → Type 0
EndsOnce kinds b = (len : ℕ) → front kinds b ≡ whole len → len ≡ length b

-- behind a whole frame there is nothing
ended : (d : Decoding) (y c : List ℕ) (len : ℕ) → front d.kinds y ≡ whole len → len ≡ length (y ++ c) → decoded (by_front d y (whole len)) c ≡ after d (y ++ c)
ended d y [] len is once =
    decoded-nil (by_front d y (whole len)) ∙ sym (after_is d y (whole len) is) ∙ ap (after d) (sym (append-nil y))
ended d y (byte ∷ c) len is once = absurd (omega (arith, whole_within d.kinds y len is, length-append y (byte ∷ c)))

-- one byte was read, and by what then stands at the front the rest is
read_rest : (d : Decoding) (y c : List ℕ) (found : Front) → front d.kinds y ≡ found → (found ≡ more) ⊎ (found ≡ front d.kinds (y ++ c))
    → EndsOnce d.kinds (y ++ c) → decoded (record d { condition = reading y }) c ≡ after d (y ++ c) → decoded (by_front d y found) c ≡ after d (y ++ c)
read_rest d y c more is stays once rest = rest
read_rest d y c (wrong error) is (inl wants) once rest = absurd (cc)
read_rest d y c (wrong error) is (inr same) once rest =
    decoded-refused (by_front d y (wrong error)) c (moved d.at error) refl ∙ sym (after_is d (y ++ c) (wrong error) (sym same))
read_rest d y c (whole len) is (inl wants) once rest = absurd (cc)
read_rest d y c (whole len) is (inr same) once rest = ended d y c len is (once len (sym same))

read_piece : (c : List ℕ) (d : Decoding) (y : List ℕ) (byte : ℕ) → d.condition ≡ reading y → EndsOnce d.kinds (y ++ byte ∷ c)
    → decoded d (byte ∷ c) ≡ after d (y ++ byte ∷ c)
read_piece [] d y byte is once = decoded-cons d byte [] ∙ decoded-nil (step d byte) ∙ step_reading d byte y is
read_piece (next ∷ c) d y byte is once =
    let now : List ℕ = y ++ byte ∷ [] in
    let joined : now ++ next ∷ c ≡ y ++ byte ∷ next ∷ c = append_assoc y (byte ∷ []) (next ∷ c) in
    let ends : EndsOnce d.kinds (now ++ next ∷ c) = subst (EndsOnce d.kinds) (sym joined) once in
    let on : Decoding = record d { condition = reading now } in
    let rest : decoded on (next ∷ c) ≡ after d (now ++ next ∷ c) =
    read_piece c on now next refl ends ∙ after_same d (reading now) (now ++ next ∷ c) in
    decoded-cons d byte (next ∷ c)
    ∙ ap (λ (t : Decoding). decoded t (next ∷ c)) (step_reading d byte y is ∙ after_is d now (front d.kinds now) refl)
    ∙ read_rest d now (next ∷ c) (front d.kinds now) refl (front_stays d.kinds now (next ∷ c)) ends rest
    ∙ ap (after d) joined

-- The law of a piece: where a whole frame that begins with the bytes at hand ends by the end of the piece, reading the piece is reading them as one.
pub piece_read : (d : Decoding) (y c : List ℕ) → d.condition ≡ reading y → front d.kinds y ≡ more → EndsOnce d.kinds (y ++ c) → 0 < length c
    → decoded d c ≡ after d (y ++ c)
piece_read d y [] is wants once some = absurd (omega arith)
piece_read d y (byte ∷ c) is wants once some = read_piece c d y byte is once

-- ---- by what stands at the front with the piece

-- the bytes at hand alone
at_hand : (d : Decoding) (y : List ℕ) → d.condition ≡ reading y → d ≡ record d { condition = reading y }
at_hand d y is = ap (λ (c : Condition). record d { condition = c }) is

-- more bytes are wanted still
pub piece_more : (d : Decoding) (y c : List ℕ) → d.condition ≡ reading y → front d.kinds y ≡ more → front d.kinds (y ++ c) ≡ more
    → decoded d c ≡ record d { condition = reading (y ++ c) }
piece_more d y [] is wants still =
    decoded-nil d ∙ at_hand d y is ∙ ap (λ (b : List ℕ). record d { condition = reading b }) (sym (append-nil y))
piece_more d y (byte ∷ c) is wants still =
    let once : EndsOnce d.kinds (y ++ byte ∷ c) = λ len found. absurd (more_or_whole len (sym still ∙ found)) in
    read_piece c d y byte is once ∙ after_is d (y ++ byte ∷ c) more still

-- the bytes are refused
pub piece_wrong : (d : Decoding) (y c : List ℕ) → d.condition ≡ reading y → front d.kinds y ≡ more → (error : FrameError) → front d.kinds (y ++ c) ≡ wrong error
    → decoded d c ≡ record d { condition = refused (moved d.at error) }
piece_wrong d y [] is wants error fails = absurd (more_or_wrong error (sym wants ∙ ap (front d.kinds) (sym (append-nil y)) ∙ fails))
piece_wrong d y (byte ∷ c) is wants error fails =
    let once : EndsOnce d.kinds (y ++ byte ∷ c) = λ len found. absurd (wrong_or_whole error len (sym fails ∙ found)) in
    read_piece c d y byte is once ∙ after_is d (y ++ byte ∷ c) (wrong error) fails

-- they are a whole frame
pub piece_whole : (d : Decoding) (y c : List ℕ) → d.condition ≡ reading y → front d.kinds y ≡ more → (len : ℕ) → front d.kinds (y ++ c) ≡ whole len
    → len ≡ length (y ++ c)
    → decoded d c ≡ record d { ready = with_message d.ready d.at (message_in (y ++ c)); at = d.at + len; condition = reading [] }
piece_whole d y [] is wants len found all = absurd (more_or_whole len (sym wants ∙ ap (front d.kinds) (sym (append-nil y)) ∙ found))
piece_whole d y (byte ∷ c) is wants len found all =
    let once : EndsOnce d.kinds (y ++ byte ∷ c) = λ other again. sym (same_whole len other (sym found ∙ again)) ∙ all in
    read_piece c d y byte is once ∙ after_is d (y ++ byte ∷ c) (whole len) found

-- How a file that has to be one frame is read in pieces, and what comes of it.
use Rattle.std.proofs.Common.{ℕ, List, [], ◌++◌, ◌+◌, ◌<◌, ◌≤◌, ◌≡◌, ◌∙◌, IsTrue, length, take, drop, Some, Result, Ok, Err, inl, inr, refl, ap, sym, subst, arith}
use Rattle.std.proofs.lemmas.Bool.{cases_lt}
use Rattle.std.proofs.lemmas.List.{take_all, take-append-drop, take-append-le, take-take, drop-take, length-append, length-take-le}
use Rattle.pir_io.specs.declared.fault.IoFault.{IoFault}
use Rattle.pir_io.specs.Files.{FilesSeen, content_of, ReadsAt, IsPiece}
use Rattle.pir_io.specs.Reading.{OnlyRead}
use Rattle.pir_io.proofs.Kept.{same_content, still_told, then_only}
use Rattle.frame_headers.specs.declared.frame_error.FrameError.{FrameError}
use Rattle.spiral_frames.specs.FrameChecks.{one_refusal}
use Rattle.frame_streams.proofs.OneFrames.{refused_is_not_one}
use Rattle.pir_wire.specs.declared.message.Message.{Message}
use Rattle.pir_wire.specs.Messages.{message_seen}
use Rattle.pir_wire.specs.OneFrames.{OneRead}
use Rattle.tool_files.specs.declared.input.InputError.TheVariants.{Frame}
use Rattle.tool_files.specs.Reading.{ReadsMessage, SpellsOneOf}

-- the first bytes, and the next of what follows, are the first of both
pub take_further : (m n : ℕ) (xs : List ℕ) → take m xs ++ take n (drop m xs) ≡ take (m + n) xs
take_further m n xs =
    let first : take m (take (m + n) xs) ≡ take m xs = take-take m (m + n) xs (omega arith) in
    let second : drop m (take (m + n) xs) ≡ take n (drop m xs) = drop-take m n xs in
    ap (λ (l : List ℕ). l ++ take n (drop m xs)) (sym first) ∙ ap (λ (l : List ℕ). take m (take (m + n) xs) ++ l) (sym second)
    ∙ take-append-drop m (take (m + n) xs)

-- the front of a buffer whose front was written
pub front_written : (n len : ℕ) (into rest buffer : List ℕ) → buffer ≡ take len (into ++ rest) → n ≤ len → n ≤ length into → take n buffer ≡ take n into
front_written n len into rest buffer is within fits = ap (take n) is ∙ take-take n len (into ++ rest) within ∙ take-append-le n into rest fits

-- These bytes have come of a file, and they may still be one frame.
pub record HasCome (old now : FilesSeen) (name : List ℕ) (kinds : ℕ) (r : OneRead) : Type 0 where
  pub only : OnlyRead old now
  pub kinds_are : r.kinds ≡ kinds
  pub front : IsTrue old.tells → r.bytes ≡ take (length r.bytes) (content_of old name)

-- where nothing has been read, nothing has come
pub none_yet : (old : FilesSeen) (name : List ℕ) (kinds : ℕ) (r : OneRead) → r ≡ record { kinds = kinds; bytes = [] } → HasCome old old name kinds r
none_yet old name kinds r is = record {
  only = record { tells = refl; later = omega arith; keeps = λ told. λ other. refl };
  kinds_are = ap (λ (o : OneRead). o.kinds) is;
  front = λ told.
      let none : r.bytes ≡ [] = ap (λ (o : OneRead). o.bytes) is in
      none ∙ ap (λ (l : List ℕ). take (length l) (content_of old name)) (sym none);
}

-- a call that read changed nothing
pub only_at : (mid now : FilesSeen) (name : List ℕ) (place : ℕ) (before into : List ℕ) (result : Result ℕ IoFault) → ReadsAt mid now name place before into result
    → OnlyRead mid now
only_at mid now name place before into result reads = record { tells = reads.tells; later = reads.cause.later; keeps = reads.keeps }

module _ (old now : FilesSeen) (name : List ℕ) (kinds : ℕ) (only : OnlyRead old now) where
  -- the file was read as a message,
  pub read_whole : (m : Message) → (IsTrue old.tells → SpellsOneOf kinds (content_of old name) m) → ReadsMessage kinds (SpellsOneOf kinds) old now name (Ok m)
  read_whole m is = record { only = only; file = λ e. absurd (cc); found = is; cause = λ error e. absurd (cc); none = λ error e. absurd (cc) }

  -- or it was refused.
  pub read_refused : (error : FrameError) → (IsTrue old.tells → one_refusal kinds (content_of old name) ≡ Some error)
      → ReadsMessage kinds (SpellsOneOf kinds) old now name (Err (Frame error))
  read_refused error refusal = record {
    only = only;
    file = λ e. absurd (cc);
    found = λ told. tt;
    cause = λ other e told. let same : error ≡ other = cc in refusal told ∙ ap (λ (f : FrameError). Some f) same;
    none = λ other e told m is. refused_is_not_one kinds (content_of old name) error (message_seen m) (refusal told) is;
  }

-- The file was read further, from the place behind what has come.
module _ (old mid now : FilesSeen) (name : List ℕ) (kinds : ℕ) (r : OneRead) (before into : List ℕ) (place : ℕ) (at : place ≡ length r.bytes)
    (come : HasCome old mid name kinds r) (n : ℕ) (reads : ReadsAt mid now name place before into (Ok n)) where
  only_then : OnlyRead old now
  only_then = then_only old mid now come.only (only_at mid now name place before into (Ok n) reads)

  -- the piece is of what the file held at first
  piece_of_old : IsTrue old.tells → IsPiece (content_of old name) (length r.bytes) into n
  piece_of_old told =
      subst (λ (bytes : List ℕ). IsPiece bytes (length r.bytes) into n) (same_content old mid (come.only.keeps told) name)
      (subst (λ (p : ℕ). IsPiece (content_of mid name) p into n) at (reads.piece (still_told old mid come.only.tells told)))

  -- nothing more came: what has come is all of it
  all_come : n ≡ 0 → 0 < length into → IsTrue old.tells → r.bytes ≡ content_of old name
  all_come end room told =
      let piece = piece_of_old told in
      let content : List ℕ = content_of old name in
      elim (cases_lt (length r.bytes) (length content)) [
        | inl more ↦ let some : 0 < n = piece.some room more in absurd (omega (arith, some, end))
        | inr all ↦ come.front told ∙ take_all (length r.bytes) content all
      ]

  pub whole_here : n ≡ 0 → 0 < length into → (m : Message) → SpellsOneOf r.kinds r.bytes m → ReadsMessage kinds (SpellsOneOf kinds) old now name (Ok m)
  whole_here end room m is =
      read_whole old now name kinds only_then m
      (λ told. subst (λ (l : List ℕ). SpellsOneOf kinds l m) (all_come end room told) (subst (λ (k : ℕ). SpellsOneOf k r.bytes m) come.kinds_are is))

  pub short_here : n ≡ 0 → 0 < length into → (error : FrameError) → one_refusal r.kinds r.bytes ≡ Some error
      → ReadsMessage kinds (SpellsOneOf kinds) old now name (Err (Frame error))
  short_here end room error refusal =
      read_refused old now name kinds only_then error
      (λ told. subst (λ (l : List ℕ). one_refusal kinds l ≡ Some error) (all_come end room told)
      (subst (λ (k : ℕ). one_refusal k r.bytes ≡ Some error) come.kinds_are refusal))

  module _ (piece : List ℕ) (is : piece ≡ take n into) where
    -- it goes on with what has come
    further : IsTrue old.tells → r.bytes ++ piece ≡ take (length r.bytes + n) (content_of old name)
    further told =
        let content : List ℕ = content_of old name in
        ap (λ (l : List ℕ). l ++ piece) (come.front told) ∙ ap (λ (l : List ℕ). take (length r.bytes) content ++ l) (is ∙ (piece_of_old told).front)
        ∙ take_further (length r.bytes) n content

    length_further : length (r.bytes ++ piece) ≡ length r.bytes + n
    length_further = length-append r.bytes piece ∙ ap (λ (k : ℕ). length r.bytes + k) (ap length is ∙ length-take-le n into reads.count)

    pub come_further : (next : OneRead) → next ≡ record r { bytes = r.bytes ++ piece } → HasCome old now name kinds next
    come_further next next_is = record {
      only = only_then;
      kinds_are = ap (λ (o : OneRead). o.kinds) next_is ∙ come.kinds_are;
      front = λ told.
          let bytes : next.bytes ≡ r.bytes ++ piece = ap (λ (o : OneRead). o.bytes) next_is in
          bytes ∙ further told ∙ ap (λ (k : ℕ). take k (content_of old name)) (sym length_further ∙ ap length (sym bytes));
    }

    -- what was refused is refused whatever follows, and so is the file
    pub refused_here : (error : FrameError) → ((rest : List ℕ) → one_refusal r.kinds ((r.bytes ++ piece) ++ rest) ≡ Some error)
        → ReadsMessage kinds (SpellsOneOf kinds) old now name (Err (Frame error))
    refused_here error refusal =
        read_refused old now name kinds only_then error
        (λ told.
        let content : List ℕ = content_of old name in
        let rest : List ℕ = drop (length r.bytes + n) content in
        let split : (r.bytes ++ piece) ++ rest ≡ content = ap (λ (l : List ℕ). l ++ rest) (further told) ∙ take-append-drop (length r.bytes + n) content in
        subst (λ (l : List ℕ). one_refusal kinds l ≡ Some error) split
        (subst (λ (k : ℕ). one_refusal k ((r.bytes ++ piece) ++ rest) ≡ Some error) come.kinds_are (refusal rest)))

-- Bytes cut into pieces of one length, each of which is read as a thing, and the things written again.
use Rattle.std.proofs.Common.{◌≡◌, ℕ, zero, suc, ◌+◌, ◌*◌, ◌<◌, ◌≤◌, List, [], ◌∷◌, ◌++◌, length, take, drop, map, All, refl, sym, ◌∙◌, ap, ap₂, subst, arith, append_assoc}
use Rattle.std.specs.List.{flat_map}
use Rattle.std.proofs.Math.Seq.{take-add}
use Rattle.std.proofs.lemmas.List.{take_at, drop_at, drop-drop, length-drop, length-take-le}
use Rattle.std.proofs.lemmas.List.Elements.{All-nil, All-cons, All-head, All-tail, All-take, All-drop}
use Rattle.frame_streams.specs.Parsing.{pieces}

-- how many pieces there are
pub length-pieces : (len count : ℕ) (bytes : List ℕ) → length (pieces len count bytes) ≡ count
unfolding pieces
length-pieces len zero bytes = refl
length-pieces len (suc count) bytes = omega (arith, length-pieces len count (drop len bytes))

module _ {A : Type 0} (spell : A → List ℕ) (read : List ℕ → A) (len : ℕ) where
  -- things are read again from their pieces, whatever bytes follow
  pub pieces_back : (P : A → Type 0) → ((a : A) → P a → length (spell a) ≡ len) → ((a : A) → P a → read (spell a) ≡ a)
      → (count : ℕ) (xs : List A) (rest : List ℕ) → length xs ≡ count → All P xs → map read (pieces len count (flat_map spell xs ++ rest)) ≡ xs
  unfolding pieces
  pieces_back P size back zero [] rest many all = refl
  pieces_back P size back zero (x ∷ xs) rest many all = absurd (omega (arith, many))
  pieces_back P size back (suc count) [] rest many all = absurd (omega (arith, many))
  pieces_back P size back (suc count) (x ∷ xs) rest many all =
      let first : P x = All-head P x xs all in
      let behind : List ℕ = flat_map spell xs ++ rest in
      let parted : flat_map spell (x ∷ xs) ++ rest ≡ spell x ++ behind = append_assoc (spell x) (flat_map spell xs) rest in
      let here : read (take len (spell x ++ behind)) ≡ x = ap read (take_at (spell x) behind len (size x first)) ∙ back x first in
      let others : map read (pieces len count (drop len (spell x ++ behind))) ≡ xs =
      ap (λ (bytes : List ℕ). map read (pieces len count bytes)) (drop_at (spell x) behind len (size x first))
      ∙ pieces_back P size back count xs rest (omega (arith, many)) (All-tail P x xs all) in
      ap (λ (bytes : List ℕ). read (take len bytes) ∷ map read (pieces len count (drop len bytes))) parted
      ∙ ap₂ (λ (y : A) (ys : List A). y ∷ ys) here others

  -- pieces of bytes that are written as they were read make the front of the bytes
  pub pieces_spelled : ((piece : List ℕ) → length piece ≡ len → All (λ b. b < 256) piece → spell (read piece) ≡ piece)
      → (count : ℕ) (bytes : List ℕ) → count * len ≤ length bytes → All (λ b. b < 256) bytes
      → flat_map spell (map read (pieces len count bytes)) ≡ take (count * len) bytes
  unfolding pieces
  pieces_spelled back zero bytes room below =
      let none : 0 ≡ 0 * len = omega arith in
      ap (λ (n : ℕ). take n bytes) none
  pieces_spelled back (suc count) bytes room below =
      let more : suc count * len ≡ len + count * len = omega arith in
      let first : length (take len bytes) ≡ len = length-take-le len bytes (omega (arith, room, more)) in
      let rest : count * len ≤ length (drop len bytes) = omega (arith, length-drop len bytes, room, more) in
      ap₂ (λ (x y : List ℕ). x ++ y) (back (take len bytes) first (All-take (λ b. b < 256) len bytes below))
      (pieces_spelled back count (drop len bytes) rest (All-drop (λ b. b < 256) len bytes below))
      ∙ sym (ap (λ (n : ℕ). take n bytes) more ∙ take-add len (count * len) bytes)

-- what holds of each thing that is read holds of all
pub each_piece : {A : Type 0} (P : A → Type 0) (read : List ℕ → A) (len count : ℕ) (bytes : List ℕ)
    → ((i : ℕ) → i < count → P (read (take len (drop (len * i) bytes)))) → All P (map read (pieces len count bytes))
unfolding pieces
each_piece P read len zero bytes each = All-nil P
each_piece P read len (suc count) bytes each =
    let start : len * 0 ≡ 0 = omega arith in
    let first : P (read (take len bytes)) = subst (λ (n : ℕ). P (read (take len (drop n bytes)))) start (each 0 (omega arith)) in
    All-cons P (read (take len bytes)) (map read (pieces len count (drop len bytes))) first
    (each_piece P read len count (drop len bytes)
    (λ i h.
    let place : len * suc i ≡ len + len * i = omega arith in
    let same : drop (len * suc i) bytes ≡ drop (len * i) (drop len bytes) = ap (λ (n : ℕ). drop n bytes) place ∙ sym (drop-drop (len * i) len bytes) in
    subst (λ (piece : List ℕ). P (read (take len piece))) same (each (suc i) (omega arith))))

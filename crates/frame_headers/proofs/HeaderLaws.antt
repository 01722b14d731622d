-- Laws of numbers in frames and of headers: their lengths, and that bytes begin with the header of one set only.
use Rattle.std.proofs.Common.{◌≡◌, ℕ, ◌+◌, ◌^◌, ◌<◌, List, [], ◌∷◌, ◌++◌, length, get_or, take, drop, All, refl, sym, ◌∙◌, ap, arith, length-append, lit<}
use Rattle.std.proofs.lemmas.List.{append_assoc, append_cancel_left, take_at, drop_at}
use Rattle.std.specs.Int.{to_le_bytes, w64}
use Rattle.std.proofs.Math.Nat.{mod-eq_of_lt}
use Rattle.negacyclic.specs.Digits.{number_of, digit}
use Rattle.negacyclic.proofs.Digits.{length-digits, number_of-digits, digits-number_of, to_le_bytes-digits, digits-push}
use Rattle.spiral_sets.specs.declared.param_set.ParamSet.{ParamSet}
use Rattle.spiral_sets.specs.Sets.{IsSet, name_of}
use Rattle.spiral_sets.proofs.SetNames.{same_from_name}
use Rattle.frame_headers.specs.Headers.{header, number}

-- ---- numbers

pub number_back : (count x : ℕ) → x < 256 ^ count → number_of 256 (number count x) ≡ x
number_back count x h = number_of-digits 256 count x (lit< tt) ∙ mod-eq_of_lt h

-- the number that the first bytes write, and what is behind them
pub number_at_front : (count x : ℕ) (rest : List ℕ) → x < 256 ^ count → number_of 256 (take count (number count x ++ rest)) ≡ x
number_at_front count x rest h =
    ap (number_of 256) (take_at (number count x) rest count (length-digits 256 count x)) ∙ number_back count x h

pub behind_number : (count x : ℕ) (rest : List ℕ) → drop count (number count x ++ rest) ≡ rest
behind_number count x rest = drop_at (number count x) rest count (length-digits 256 count x)

-- the bytes of a number, from the number that they write
pub number_is : (count x : ℕ) (bytes : List ℕ) → length bytes ≡ count → All (λ b. b < 256) bytes → x ≡ number_of 256 bytes → bytes ≡ number count x
number_is count x bytes e below is = rw (is, ← e) (sym (digits-number_of 256 bytes below))

-- ---- headers

pub length-header : (kind : ℕ) (set : ParamSet) (body : ℕ) → length (header kind set body) ≡ 15 + length (name_of set)
unfolding header
length-header kind set body = omega (arith, length-append (name_of set) (number 8 body), length-digits 256 8 body)

pub header_parts : (kind : ℕ) (set : ParamSet) (body : ℕ) (rest : List ℕ)
    → header kind set body ++ rest ≡ 83 ∷ 80 ∷ 73 ∷ 82 ∷ 1 ∷ kind ∷ length (name_of set) ∷ (name_of set ++ (number 8 body ++ rest))
unfolding header
header_parts kind set body rest = ap (λ (t : List ℕ). 83 ∷ 80 ∷ 73 ∷ 82 ∷ 1 ∷ kind ∷ length (name_of set) ∷ t) (append_assoc (name_of set) (number 8 body) rest)

-- a header's name is read back from whatever it is a front of
pub name_in_front : (kind : ℕ) (set : ParamSet) (body : ℕ) (rest : List ℕ)
    → (let whole = header kind set body ++ rest in take (get_or whole 6 0) (drop 7 whole)) ≡ name_of set
name_in_front kind set body rest =
    let whole : List ℕ = header kind set body ++ rest in
    ap (λ (l : List ℕ). take (get_or l 6 0) (drop 7 l)) (header_parts kind set body rest)
    ∙ take_at (name_of set) (number 8 body ++ rest) (length (name_of set)) refl

-- Bytes begin with the header of one set only.
pub same_front : (kind : ℕ) (len : ParamSet → ℕ) (s t : ParamSet) (x y : List ℕ) → IsSet s → IsSet t
    → header kind s (len s) ++ x ≡ header kind t (len t) ++ y → (s ≡ t) × (x ≡ y)
same_front kind len s t x y hs ht e =
    let name : name_of s ≡ name_of t =
    sym (name_in_front kind s (len s) x) ∙ ap (λ (l : List ℕ). take (get_or l 6 0) (drop 7 l)) e ∙ name_in_front kind t (len t) y in
    let same : s ≡ t = same_from_name s t hs ht name in
    let moved : header kind t (len t) ++ x ≡ header kind t (len t) ++ y =
    ap (λ (u : ParamSet). header kind u (len u) ++ x) (sym same) ∙ e in
    (same, append_cancel_left (header kind t (len t)) x y moved)

-- ---- writing

-- the first seven bytes of a number, of its eight
seven_of_eight : (x : ℕ) → take 7 (number 8 x) ≡ number 7 x
seven_of_eight x = ap (take 7) (digits-push 256 7 x) ∙ take_at (number 7 x) (digit 256 7 x ∷ []) 7 (length-digits 256 7 x)

pub seven_bytes : (x : ℕ) → take 7 (to_le_bytes w64 x) ≡ number 7 x
seven_bytes x = ap (take 7) (to_le_bytes-digits w64 x) ∙ seven_of_eight x

-- a header behind what was there, piece by piece
header_pieces : (start : List ℕ) (kind : ℕ) (set : ParamSet) (body : ℕ)
    → ((((((start ++ (83 ∷ 80 ∷ 73 ∷ 82 ∷ [])) ++ (1 ∷ [])) ++ (kind ∷ [])) ++ (length (name_of set) ∷ [])) ++ name_of set) ++ number 8 body)
    ≡ start ++ header kind set body
unfolding header
header_pieces start kind set body = simp append_assoc

pub header_pushed : (kind body : ℕ) (set : ParamSet) (o0 o1 o2 o3 o4 o5 o6 name tail : List ℕ)
    → o1 ≡ o0 ++ (83 ∷ 80 ∷ 73 ∷ 82 ∷ []) → o2 ≡ o1 ++ (1 ∷ []) → o3 ≡ o2 ++ (kind ∷ [])
    → name ≡ name_of set → o4 ≡ o3 ++ (length name ∷ []) → o5 ≡ o4 ++ name → tail ≡ to_le_bytes w64 body → o6 ≡ o5 ++ tail
    → o6 ≡ o0 ++ header kind set body
header_pushed kind body set o0 o1 o2 o3 o4 o5 o6 name tail e1 e2 e3 en e4 e5 et e6 =
    let last : tail ≡ number 8 body = et ∙ to_le_bytes-digits w64 body in
    rw (e6, e5, e4, e3, e2, e1, en, last) (header_pieces o0 kind set body)

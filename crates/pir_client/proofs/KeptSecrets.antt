-- The numbers of secrets, one secret after the other.
use Rattle.std.proofs.Common.{◌≡◌, ℕ, ◌+◌, ◌*◌, ◌<◌, ℤ, pos, to_z, of_z, w8, List, [], ◌∷◌, ◌++◌, length, get_or, take, All, sym, ◌∙◌, ap, arith, append_assoc, length-append}
use Rattle.std.specs.List.{flat_map}
use Rattle.std.proofs.lemmas.Int.{to_z-of_z, fits_signed_from_abs}
use Rattle.std.proofs.lemmas.List.{take_more}
use Rattle.std.proofs.lemmas.List.Elements.{All-head, All-tail, All-push, All-same}
use Rattle.spiral_model.specs.Replies.{IsTernary}

-- One more number of a row.
pub number-more : (row old out new : List ℤ) (place : ℕ) (z : ℤ) → place < length row → z ≡ get_or row place (pos 0) → IsTernary z
    → (out ≡ old ++ take place row) × All IsTernary out → new ≡ out ++ to_z w8 (of_z w8 z) ∷ [] → (new ≡ old ++ take (place + 1) row) × All IsTernary new
number-more row old out new place z h is small so_far pushed =
    let kept : to_z w8 (of_z w8 z) ≡ z = to_z-of_z w8 z (fits_signed_from_abs w8 z (omega arith)) in
    let plain : new ≡ out ++ z ∷ [] = pushed ∙ ap (λ (y : ℤ). out ++ y ∷ []) kept in (
      plain ∙ ap (λ (xs : List ℤ). xs ++ z ∷ []) so_far.0 ∙ append_assoc old (take place row) (z ∷ [])
          ∙ ap (λ (xs : List ℤ). old ++ xs) (ap (λ (y : ℤ). take place row ++ y ∷ []) is ∙ sym (take_more row place (pos 0) h)),
      All-same IsTernary new (out ++ z ∷ []) plain (All-push IsTernary out z so_far.1 small),
    )

-- How many numbers rows of N have.
pub length-rows : (N : ℕ) (rows : List (List ℤ)) → All (λ s. length s ≡ N) rows → length (flat_map (λ (row : List ℤ). row) rows) ≡ length rows * N
length-rows N [] all = omega arith
length-rows N (r ∷ rows) all =
    let first : length r ≡ N = All-head (λ (s : List ℤ). length s ≡ N) r rows all in
    let rest = length-rows N rows (All-tail (λ (s : List ℤ). length s ≡ N) r rows all) in
    length-append r (flat_map (λ (row : List ℤ). row) rows)
    ∙ (let sum : length r + length (flat_map (λ (row : List ℤ). row) rows) ≡ length (r ∷ rows) * N = omega (arith, first, rest) in sum)

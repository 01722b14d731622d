-- Sums of the values of a window, each shifted to its place.
use Rattle.std.proofs.Common.{◌≡◌, ℕ, ◌+◌, ◌*◌, ◌%◌, ◌^◌, ◌<◌, ◌≤◌, List, length, get_or, take, All, arith, length-take, Fits, w8}
use Rattle.std.proofs.Math.Nat.{pow-le-pow_right}
use Rattle.std.proofs.lemmas.Nat.{shl_whole}
use Rattle.std.proofs.lemmas.List.Elements.{All-get_or, All-take, All-from_get_or}
use Rattle.negacyclic.specs.Digits.{number_of}
use Rattle.negacyclic.proofs.Digits.{pow-mul, number_of-take_more, number_of-below}

pub bytes_below : (xs : List ℕ) → ((i : ℕ) → Fits w8 (get_or xs i 0)) → All (λ x. x < 2 ^ 8) xs
bytes_below xs h = All-from_get_or (λ x. x < 2 ^ 8) xs 0 (λ i within. let fits : Fits w8 (get_or xs i 0) = h i in omega arith)

module _
    (bits width k number : ℕ)
    (xs : List ℕ)
    (below : All (λ x. x < 2 ^ width) xs)
    (within : k < length xs)
    (room : width * (k + 1) ≤ bits)
    (gathered : number ≡ number_of (2 ^ width) (take k xs))
  where
    -- the sum with value k, shifted to its place in a word of `bits` bits
    pub gather_more : number + get_or xs k 0 * 2 ^ (width * k) % 2 ^ bits ≡ number_of (2 ^ width) (take (k + 1) xs)
    gather_more =
        let value : get_or xs k 0 < 2 ^ width = All-get_or (λ x. x < 2 ^ width) xs k 0 within below in
        let fits : width + width * k ≤ bits = omega arith in
        rw (shl_whole (get_or xs k 0) width (width * k) bits value fits, number_of-take_more (2 ^ width) xs k within, ← pow-mul)
        (omega arith)

    pub gather_fits : number + get_or xs k 0 * 2 ^ (width * k) % 2 ^ bits < 2 ^ bits
    gather_fits =
        let count : length (take (k + 1) xs) ≡ k + 1 = simp length-take (omega arith) in
        let small : number_of (2 ^ width) (take (k + 1) xs) < (2 ^ width) ^ length (take (k + 1) xs) =
        number_of-below (2 ^ width) (take (k + 1) xs) (All-take (λ x. x < 2 ^ width) (k + 1) xs below) in
        let flat : number_of (2 ^ width) (take (k + 1) xs) < 2 ^ (width * (k + 1)) = rw (count, ← pow-mul) at small in
        let most : 2 ^ (width * (k + 1)) ≤ 2 ^ bits = pow-le-pow_right (omega arith) room in
        rw gather_more (omega arith)

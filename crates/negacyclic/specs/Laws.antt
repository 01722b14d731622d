-- Laws of the definitions of this crate, each the contract of a public function.
use Rattle.std.specs.Prelude.{ℕ, List, ◌≡◌, ◌<◌, ◌*◌, ◌%◌, ◌^◌, length, All}
use Rattle.negacyclic.specs.Digits.{number_of, digits, repacked}

-- The digits of a number write that number again, as far as they go.
abbrev pub NumbersOfDigits : Type 0
NumbersOfDigits = (base count x : ℕ) → 0 < base → number_of base (digits base count x) ≡ x % base ^ count

-- The digits of the number that a list of digits writes are that list.
abbrev pub DigitsOfNumbers : Type 0
DigitsOfNumbers = (base : ℕ) (xs : List ℕ) → All (λ x. x < base) xs → digits base (length xs) (number_of base xs) ≡ xs

-- Cutting a whole string of bits anew, and back, gives the values again.
abbrev pub RepackedBack : Type 0
RepackedBack = (from to count : ℕ) (values : List ℕ) → All (λ x. x < 2 ^ from) values → from * length values ≡ to * count
    → repacked to from (length values) (repacked from to count values) ≡ values

-- Numbers as lists of digits in a base, the least digit first: bits (base 2), bytes (base 256), and
-- packed values of w bits (base 2^w).
use Rattle.std.specs.Prelude.{ℕ, List, [], ◌∷◌, ◌+◌, ◌*◌, ◌/◌, ◌%◌, ◌^◌, map}
use Rattle.std.specs.List.{range_with_len}

-- The number that the digits write: x_0 + base x_1 + base^2 x_2 + ..
unfoldable pub number_of : ℕ → List ℕ → ℕ
number_of base [] = 0
number_of base (x ∷ xs) = x + base * number_of base xs

-- Digit k of x.
unfoldable pub digit : ℕ → ℕ → ℕ → ℕ
digit base k x = x / base ^ k % base

-- The first count digits of x.
unfoldable pub digits : ℕ → ℕ → ℕ → List ℕ
digits base count x = map (λ k. digit base k x) (range_with_len 0 count)

-- Values of `from` bits each, one after the other as one string of bits (the least bit of each first),
-- cut again into count values of `to` bits each; zeros follow the last bit.
unfoldable pub repacked : ℕ → ℕ → ℕ → List ℕ → List ℕ
repacked from to count values = digits (2 ^ to) count (number_of (2 ^ from) values)

-- Digit k, of w bits, of each number of a polynomial: floor (x / 2^(w k)) mod 2^w.
unfoldable pub digit_poly : ℕ → ℕ → List ℕ → List ℕ
digit_poly w k a = map (digit (2 ^ w) k) a

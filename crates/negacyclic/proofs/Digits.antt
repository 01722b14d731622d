-- Lemmas on numbers and their digits in a base, the least digit first.
use Rattle.std.proofs.Common.{◌≡◌, ℕ, zero, suc, ◌+◌, ◌-◌, ◌*◌, ◌/◌, ◌%◌, ◌^◌, ◌<◌, ◌≤◌, List, [], ◌∷◌, ◌++◌, map, length, get_or, take, drop, replicate, All, refl, sym, ◌∙◌, arith, pow-add, pow-suc, mul-suc, mul-zero, mod-lt, mod-eq_of_lt, div-one, mul-le-mul_left, add-one, zero-add, mul-pos, one-mul, length-take, drop_of_length-le, mul_comm, le_refl, take_all}
use Rattle.std.proofs.Math.Nat.{div-add-mod, pow-zero, pow-succ', div-div-eq-div-mul, zero-div, zero-mod, add-mul-div_left, add-mul-mod_self_left, mod-mod_of_dvd, dvd-mul_right, one-le-pow, div-eq_of_lt, pow-le-pow_right}
use Rattle.std.proofs.Math.Arith.{mod-mul}
use Rattle.std.proofs.lemmas.Nat.{div-mul-add}
use Rattle.std.proofs.lemmas.List.Elements.{All-head, All-tail, All-drop, All-from_get_or}
use Rattle.std.proofs.lemmas.List.{take_more}
use Rattle.std.proofs.lemmas.List.FromFn.{length-map-range_with_len, get_or-map-range_with_len, map-range_with_len_more, fill_by_all}
use Rattle.std.specs.Int.{Width, byte_len, byte_at, byte_worth, bytes_low_first, sum_through, from_le_bytes, to_le_bytes}
use Rattle.std.specs.List.{range_with_len}
use Rattle.negacyclic.specs.Digits.{number_of, digit, digits, repacked}

-- ---- powers and quotients

pub power_above_zero : (base k : ℕ) → 0 < base → 0 < base ^ k
power_above_zero base k h = let e : 1 ≤ base ^ k = one-le-pow k base h in omega arith

pub pow-one : (base : ℕ) → base ^ 1 ≡ base
pow-one base = pow-suc base 0 ∙ rw pow-zero (one-mul base)

pub pow-mul : (base i j : ℕ) → base ^ (i * j) ≡ (base ^ i) ^ j
pow-mul base i zero = rw (mul-zero, pow-zero, pow-zero)
pow-mul base i (suc j) = rw (mul-suc, pow-add, pow-mul base i j, pow-suc)

cut_of_products : (b c r x : ℕ) → 0 < b → 0 < c → 0 < r → x % (c * r * b) / b % c ≡ x / b % c
cut_of_products b c r x hb hc hr =
    let low : x % b < b = mod-lt x hb in
    let split : x % (c * r * b) ≡ x / b % (c * r) * b + x % b = mod-mul x (mul-pos hc hr) hb in
    let front : x % (c * r * b) / b ≡ x / b % (c * r) = rw split (div-mul-add (x / b % (c * r)) b (x % b) low) in
    rw front (mod-mod_of_dvd c (x / b) (dvd-mul_right c r))

-- the digits from place low + count on do not matter to the count digits from place low on
pub window-mod : (base low count rest x : ℕ) → 0 < base
    → x % base ^ (low + count + rest) / base ^ low % base ^ count ≡ x / base ^ low % base ^ count
window-mod base low count rest x h =
    let e : base ^ (low + count + rest) ≡ base ^ count * base ^ rest * base ^ low = rw (pow-add, pow-add) (omega arith) in
    rw e (cut_of_products (base ^ low) (base ^ count) (base ^ rest) x
    (power_above_zero base low h) (power_above_zero base count h) (power_above_zero base rest h))

-- ---- number_of

pub number_of-nil : (base : ℕ) → number_of base [] ≡ 0
unfolding number_of
number_of-nil base = refl

pub number_of-cons : (base x : ℕ) (xs : List ℕ) → number_of base (x ∷ xs) ≡ x + base * number_of base xs
unfolding number_of
number_of-cons base x xs = refl

pub number_of-append : (base : ℕ) (xs ys : List ℕ)
    → number_of base (xs ++ ys) ≡ number_of base xs + base ^ length xs * number_of base ys
number_of-append base [] ys = rw (number_of-nil, pow-zero) (omega arith)
number_of-append base (x ∷ xs) ys =
    rw (number_of-cons base x (xs ++ ys), number_of-cons base x xs, number_of-append base xs ys, pow-succ') (omega arith)

pub number_of-push : (base : ℕ) (xs : List ℕ) (x : ℕ)
    → number_of base (xs ++ x ∷ []) ≡ number_of base xs + base ^ length xs * x
number_of-push base xs x = rw (number_of-append, number_of-cons, number_of-nil) (omega arith)

-- zeros at the end count nothing
pub number_of-zeros : (base count : ℕ) → number_of base (replicate count 0) ≡ 0
number_of-zeros base zero = number_of-nil base
number_of-zeros base (suc count) = rw (number_of-cons, number_of-zeros base count) (omega arith)

pub number_of-append_zeros : (base : ℕ) (xs : List ℕ) (count : ℕ)
    → number_of base (xs ++ replicate count 0) ≡ number_of base xs
number_of-append_zeros base xs count = rw (number_of-append, number_of-zeros) (omega arith)

below_step : (base x n p : ℕ) → x < base → n < p → x + base * n < base * p
below_step base x n p h k = let e : base * suc n ≤ base * p = mul-le-mul_left base k in omega (arith, mul-suc base n)

pub number_of-below : (base : ℕ) (xs : List ℕ) → All (λ x. x < base) xs → number_of base xs < base ^ length xs
number_of-below base [] h = rw (number_of-nil, pow-zero) (omega arith)
number_of-below base (x ∷ xs) h =
    rw (number_of-cons, pow-succ')
    (below_step base x (number_of base xs) (base ^ length xs) (All-head (λ y. y < base) x xs h)
    (number_of-below base xs (All-tail (λ y. y < base) x xs h)))

-- the first digit and the rest
pub cons-mod : (base x : ℕ) (xs : List ℕ) → x < base → number_of base (x ∷ xs) % base ≡ x
cons-mod base x xs h = rw (number_of-cons, add-mul-mod_self_left) (mod-eq_of_lt h)

pub cons-div : (base x : ℕ) (xs : List ℕ) → x < base → number_of base (x ∷ xs) / base ≡ number_of base xs
cons-div base x xs h =
    let positive : 0 < base = omega arith in
    let e : x / base ≡ 0 = div-eq_of_lt h in
    rw (number_of-cons, add-mul-div_left x (number_of base xs) positive, e) (zero-add (number_of base xs))

pub number_of-drop : (base : ℕ) (xs : List ℕ) (k : ℕ) → All (λ x. x < base) xs
    → number_of base xs / base ^ k ≡ number_of base (drop k xs)
number_of-drop base xs zero h = rw pow-zero (div-one (number_of base xs))
number_of-drop base [] (suc k) h = rw number_of-nil (zero-div (base ^ suc k))
number_of-drop base (x ∷ xs) (suc k) h =
    rw (pow-succ', ← div-div-eq-div-mul, cons-div base x xs (All-head (λ y. y < base) x xs h))
    (number_of-drop base xs k (All-tail (λ y. y < base) x xs h))

pub number_of-take : (base : ℕ) (xs : List ℕ) (k : ℕ) → All (λ x. x < base) xs
    → number_of base xs % base ^ k ≡ number_of base (take k xs)
number_of-take base xs zero h = rw (pow-zero, number_of-nil) (omega arith)
number_of-take base [] (suc k) h = rw (number_of-nil base) (zero-mod (base ^ suc k))
number_of-take base (x ∷ xs) (suc k) h =
    let first : x < base = All-head (λ y. y < base) x xs h in
    let positive : 0 < base = omega arith in
    rw
    (pow-suc, mod-mul (number_of base (x ∷ xs)) (power_above_zero base k positive) positive, cons-div base x xs first, cons-mod base x xs first, number_of-take base xs k (All-tail (λ y. y < base) x xs h), number_of-cons)
    (omega arith)

pub number_of-take_more : (base : ℕ) (xs : List ℕ) (k : ℕ) → k < length xs
    → number_of base (take (k + 1) xs) ≡ number_of base (take k xs) + base ^ k * get_or xs k 0
number_of-take_more base xs k h =
    let e : length (take k xs) ≡ k = simp length-take (omega arith) in
    rw (take_more xs k 0 h, number_of-push, e)

-- ---- digit

pub digit-below : (base k x : ℕ) → 0 < base → digit base k x < base
unfolding digit
digit-below base k x h = mod-lt (x / base ^ k) h

pub digit-zero : (base x : ℕ) → digit base 0 x ≡ x % base
unfolding digit
digit-zero base x = rw (pow-zero, div-one)

pub digit-suc : (base k x : ℕ) → digit base (suc k) x ≡ digit base k (x / base)
unfolding digit
digit-suc base k x = rw (pow-succ', ← div-div-eq-div-mul)

-- the digits in a power of the base
pub digit-power : (base width k x : ℕ) → digit (base ^ width) k x ≡ x / base ^ (width * k) % base ^ width
unfolding digit
digit-power base width k x = rw (← pow-mul)

pub digit-mod : (base k count x : ℕ) → 0 < base → k < count → digit base k (x % base ^ count) ≡ digit base k x
unfolding digit
digit-mod base k count x h lt =
    let e : k + 1 + (count - k - 1) ≡ count = omega arith in
    rw (e, pow-one) at (window-mod base k 1 (count - k - 1) x h)

pub digit-of_zero : (base k : ℕ) → digit base k 0 ≡ 0
unfolding digit
digit-of_zero base k = rw zero-div (zero-mod base)

-- digit k of the number that a list writes is its element k: zero past its end
pub digit-number_of : (base : ℕ) (xs : List ℕ) (k : ℕ) → All (λ x. x < base) xs → digit base k (number_of base xs) ≡ get_or xs k 0
digit-number_of base [] k h = rw number_of-nil (digit-of_zero base k)
digit-number_of base (x ∷ xs) zero h = rw digit-zero (cons-mod base x xs (All-head (λ y. y < base) x xs h))
digit-number_of base (x ∷ xs) (suc k) h =
    rw (digit-suc, cons-div base x xs (All-head (λ y. y < base) x xs h))
    (digit-number_of base xs k (All-tail (λ y. y < base) x xs h))

power_of_place : (base from place first skipped : ℕ) → place ≡ from * first + skipped
    → base ^ place ≡ (base ^ from) ^ first * base ^ skipped
power_of_place base from place first skipped e = rw (e, pow-add, pow-mul)

-- Value index of `to` bits in the string of bits of the values xs of `from` bits: what precedes the value with its first bit may be left out
pub digit-of_rest : (from to index : ℕ) (xs : List ℕ) → 0 < from → All (λ x. x < 2 ^ from) xs
    → digit (2 ^ to) index (number_of (2 ^ from) xs)
    ≡ number_of (2 ^ from) (drop (to * index / from) xs) / 2 ^ (to * index % from) % 2 ^ to
digit-of_rest from to index xs h below =
    let first : ℕ = to * index / from in
    let skipped : ℕ = to * index % from in
    let place : to * index ≡ from * first + skipped = sym (div-add-mod (to * index) from) in
    let power : 2 ^ (to * index) ≡ (2 ^ from) ^ first * 2 ^ skipped = power_of_place 2 from (to * index) first skipped place in
    rw (digit-power, power, ← div-div-eq-div-mul, number_of-drop (2 ^ from) xs first below)

-- and what follows `count` more values, where these hold the whole value
pub digit-of_window : (from to index count : ℕ) (xs : List ℕ) → 0 < from → All (λ x. x < 2 ^ from) xs
    → to * index % from + to ≤ from * count
    → digit (2 ^ to) index (number_of (2 ^ from) xs)
    ≡ number_of (2 ^ from) (take count (drop (to * index / from) xs)) / 2 ^ (to * index % from) % 2 ^ to
digit-of_window from to index count xs h below reach =
    let rest : List ℕ = drop (to * index / from) xs in
    let skipped : ℕ = to * index % from in
    let after : ℕ = from * count - (skipped + to) in
    let room : skipped + to + after ≡ from * count = omega arith in
    let window : number_of (2 ^ from) (take count rest) ≡ number_of (2 ^ from) rest % 2 ^ (skipped + to + after) =
    rw (room, pow-mul) (sym (number_of-take (2 ^ from) rest count (All-drop (λ x. x < 2 ^ from) (to * index / from) xs below))) in
    digit-of_rest from to index xs h below
    ∙ rw window (sym (window-mod 2 skipped to after (number_of (2 ^ from) rest) (omega arith)))

-- past the last value there are zeros
pub digit-past : (from to index : ℕ) (xs : List ℕ) → 0 < from → All (λ x. x < 2 ^ from) xs → length xs ≤ to * index / from
    → digit (2 ^ to) index (number_of (2 ^ from) xs) ≡ 0
digit-past from to index xs h below past =
    let none : drop (to * index / from) xs ≡ [] = drop_of_length-le xs past in
    digit-of_rest from to index xs h below ∙ rw (none, number_of-nil, zero-div) (zero-mod (2 ^ to))

-- ---- digits

pub length-digits : (base count x : ℕ) → length (digits base count x) ≡ count
unfolding digits
length-digits base count x = length-map-range_with_len (λ k. digit base k x) 0 count

pub get_or-digits : (base count x k d : ℕ) → k < count → get_or (digits base count x) k d ≡ digit base k x
unfolding digits
get_or-digits base count x k d h = get_or-map-range_with_len (λ i. digit base i x) 0 count k k d h (omega arith)

-- a list with these elements is the list of digits
pub same_from_digits : (base count x : ℕ) (xs : List ℕ) → length xs ≡ count → ((k : ℕ) → k < count → get_or xs k 0 ≡ digit base k x)
    → xs ≡ digits base count x
unfolding digits
same_from_digits base count x xs e h = fill_by_all (λ k. digit base k x) xs count 0 e h

pub digits_below : (base count x : ℕ) → 0 < base → All (λ y. y < base) (digits base count x)
digits_below base count x h =
    All-from_get_or (λ y. y < base) (digits base count x) 0
    (λ k lt.
    let e : k < count = omega (arith, length-digits base count x) in
    rw (get_or-digits base count x k 0 e) (digit-below base k x h))

pub digits-zero : (base x : ℕ) → digits base 0 x ≡ []
unfolding digits
digits-zero base x = refl

pub digits-push : (base count x : ℕ) → digits base (count + 1) x ≡ digits base count x ++ digit base count x ∷ []
unfolding digits
digits-push base count x = map-range_with_len_more (λ k. digit base k x) 0 count count (omega arith)

-- the digits of a number write that number again, as far as they go
pub number_of-digits : (base count x : ℕ) → 0 < base → number_of base (digits base count x) ≡ x % base ^ count
unfolding digit
number_of-digits base zero x h = rw (digits-zero, number_of-nil, pow-zero) (omega arith)
number_of-digits base (suc count) x h =
    let e : digits base (suc count) x ≡ digits base count x ++ digit base count x ∷ [] = rw add-one at (digits-push base count x) in
    let split : x % (base * base ^ count) ≡ x / base ^ count % base * base ^ count + x % base ^ count = mod-mul x h (power_above_zero base count h) in
    rw (e, number_of-push, length-digits, number_of-digits base count x h, pow-succ', split) (omega arith)

-- the digits of the number that a list of digits writes are that list
pub digits-number_of : (base : ℕ) (xs : List ℕ) → All (λ x. x < base) xs → digits base (length xs) (number_of base xs) ≡ xs
digits-number_of base xs h =
    sym (same_from_digits base (length xs) (number_of base xs) xs refl (λ k lt. sym (digit-number_of base xs k h)))

pub digits-mod : (base count reach x : ℕ) → 0 < base → count ≤ reach → digits base count (x % base ^ reach) ≡ digits base count x
digits-mod base count reach x h le =
    same_from_digits base count x (digits base count (x % base ^ reach)) (length-digits base count (x % base ^ reach))
    (λ k lt.
    let reached : k < reach = omega arith in
    rw (get_or-digits base count (x % base ^ reach) k 0 lt) (digit-mod base k reach x h reached))

-- lists of digits that write one number are equal
pub same_from_number_of : (base : ℕ) (xs ys : List ℕ) → All (λ x. x < base) xs → All (λ y. y < base) ys → length xs ≡ length ys
    → number_of base xs ≡ number_of base ys → xs ≡ ys
same_from_number_of base xs ys hx hy e n =
    sym (digits-number_of base xs hx) ∙ rw (e, n) (digits-number_of base ys hy)

-- ---- repacked

pub length-repacked : (from to count : ℕ) (values : List ℕ) → length (repacked from to count values) ≡ count
unfolding repacked
length-repacked from to count values = length-digits (2 ^ to) count (number_of (2 ^ from) values)

pub get_or-repacked : (from to count : ℕ) (values : List ℕ) (k d : ℕ) → k < count
    → get_or (repacked from to count values) k d ≡ digit (2 ^ to) k (number_of (2 ^ from) values)
unfolding repacked
get_or-repacked from to count values k d h = get_or-digits (2 ^ to) count (number_of (2 ^ from) values) k d h

pub repacked_below : (from to count : ℕ) (values : List ℕ) → All (λ y. y < 2 ^ to) (repacked from to count values)
unfolding repacked
repacked_below from to count values =
    digits_below (2 ^ to) count (number_of (2 ^ from) values) (power_above_zero 2 to (omega arith))

-- a list with these elements is the list of repacked values
pub same_from_repacked : (from to count : ℕ) (values out : List ℕ) → length out ≡ count
    → ((k : ℕ) → k < count → get_or out k 0 ≡ digit (2 ^ to) k (number_of (2 ^ from) values)) → out ≡ repacked from to count values
unfolding repacked
same_from_repacked from to count values out e h = same_from_digits (2 ^ to) count (number_of (2 ^ from) values) out e h

-- the number stays, as far as the new values reach
pub number_of-repacked : (from to count : ℕ) (values : List ℕ)
    → number_of (2 ^ to) (repacked from to count values) ≡ number_of (2 ^ from) values % 2 ^ (to * count)
unfolding repacked
number_of-repacked from to count values =
    rw (number_of-digits (2 ^ to) count (number_of (2 ^ from) values) (power_above_zero 2 to (omega arith)), ← pow-mul)

-- values that are cut anew into enough room, and back
pub repacked-back : (from to count : ℕ) (values : List ℕ) → All (λ x. x < 2 ^ from) values → from * length values ≤ to * count
    → repacked to from (length values) (repacked from to count values) ≡ values
unfolding repacked
repacked-back from to count values h room =
    let n : ℕ = number_of (2 ^ from) values in
    let below : n < (2 ^ from) ^ length values = number_of-below (2 ^ from) values h in
    let powers : 2 ^ (from * length values) ≤ 2 ^ (to * count) = pow-le-pow_right (omega arith) room in
    let flat : n < 2 ^ (from * length values) = rw (← pow-mul) at below in
    let small : n < 2 ^ (to * count) = omega arith in
    rw (number_of-repacked from to count values, mod-eq_of_lt small) (digits-number_of (2 ^ from) values h)

-- ---- the bytes of a number, as the standard library has them

worth_is : (k b : ℕ) → byte_worth k b ≡ 256 ^ k * b
worth_is zero b = rw pow-zero (sym (one-mul b))
worth_is (suc k) b = mul_comm b (256 ^ suc k)

sum_of_worths : (bytes : List ℕ) (k : ℕ) → k < length bytes
    → sum_through (λ i. byte_worth i (get_or bytes i 0)) k ≡ number_of 256 (take (k + 1) bytes)
sum_of_worths bytes zero h =
    rw (number_of-take_more 256 bytes 0 h, number_of-nil, pow-zero) (omega arith)
sum_of_worths bytes (suc k) h =
    let before : k < length bytes = omega arith in
    let here : suc k ≡ k + 1 = omega arith in
    rw (sum_of_worths bytes k before, number_of-take_more 256 bytes (suc k) h, worth_is, here) refl

pub from_le_bytes-number_of : (w : Width) (bytes : List ℕ) → 0 < byte_len w → length bytes ≡ byte_len w
    → from_le_bytes w bytes ≡ number_of 256 bytes
from_le_bytes-number_of w bytes some e =
    let last : byte_len w - 1 < length bytes = omega arith in
    let whole : byte_len w - 1 + 1 ≡ length bytes = omega arith in
    let all : take (length bytes) bytes ≡ bytes = take_all (length bytes) bytes (le_refl (length bytes)) in
    sum_of_worths bytes (byte_len w - 1) last ∙ rw (whole, all) refl

byte_is_digit : (k n : ℕ) → byte_at k n ≡ digit 256 k n
unfolding digit
byte_is_digit zero n = rw (pow-zero, div-one)
byte_is_digit (suc k) n = refl

bytes_are_digits : (from count n : ℕ) → bytes_low_first from count n ≡ map (λ k. digit 256 k n) (range_with_len from count)
bytes_are_digits from zero n = refl
bytes_are_digits from (suc count) n = rw (byte_is_digit from n, bytes_are_digits (suc from) count n, add-one) refl

pub to_le_bytes-digits : (w : Width) (n : ℕ) → to_le_bytes w n ≡ digits 256 (byte_len w) n
unfolding digits
to_le_bytes-digits w n = bytes_are_digits 0 (byte_len w) n

-- The sums that the product of a secret and a polynomial is made of, and the rounding of what they open.
use Rattle.std.proofs.Common.{sym, ◌≡◌, ℕ, ◌+◌, ◌-◌, ◌*◌, ◌<◌, ◌≤◌, ◌^◌, ℤ, pos, ◌+ℤ◌, ◌-ℤ◌, ◌*ℤ◌, unsigned_abs, List, length, get_or, All, refl, arith, to_z, of_z, w8, w64, SFits, mul-le-mul}
use mir.Syntax.{w128}
use Rattle.std.proofs.lemmas.Int.{ints, to_z-of_z, to_z_pos, fits_signed_from_abs, unsigned_abs-mul}
use Rattle.negacyclic.specs.Sums.{total}
use Rattle.negacyclic.specs.Ring.{at}
use Rattle.negacyclic.proofs.Sums.{total_more, total_same}
use Rattle.negacyclic.proofs.Turn.{product_term, product_term-plain, product_term-wrapped}
use Rattle.negacyclic.specs.Residues.{residue, nearest}
use Rattle.negacyclic.proofs.Signed.{kept_64}
use Rattle.spiral_sets.specs.declared.param_set.ParamSet.{ParamSet}
use Rattle.spiral_sets.specs.Sets.{p, q1, q2}
use Rattle.spiral_model.specs.Replies.{IsTernary, opened}
use Rattle.modulus_switch.specs.Numbers.{secret_number}

-- a number of the secret as an index reads it
ternary_read : (secret : List ℤ) (i : ℕ) → All IsTernary secret → i < length secret → to_z w8 (of_z w8 (get_or secret i (pos 0))) ≡ secret_number secret i
ternary_read secret i all h =
    let small : unsigned_abs (get_or secret i (pos 0)) ≤ 1 = all i (pos 0) h in
    to_z-of_z w8 (get_or secret i (pos 0)) (fits_signed_from_abs w8 (get_or secret i (pos 0)) (omega arith))

at_read : (a : List ℕ) (i : ℕ) → pos (get_or a i 0) ≡ at a i
unfolding at
at_read a i = refl

-- one more term that doesn't wrap
pub plain_step : (secret : List ℤ) (a : List ℕ) (k i : ℕ) (sum term : ℤ) → i < length secret → All IsTernary secret
    → sum ≡ total i (λ j. secret_number secret j *ℤ at a (k - j))
    → term ≡ to_z w8 (of_z w8 (get_or secret i (pos 0))) *ℤ pos (get_or a (k - i) 0)
    → sum +ℤ term ≡ total (i + 1) (λ j. secret_number secret j *ℤ at a (k - j))
plain_step secret a k i sum term h all front read =
    let more = total_more i (λ j. secret_number secret j *ℤ at a (k - j)) in
    let s = ternary_read secret i all h in
    let b = at_read a (k - i) in cc

-- the terms that don't wrap are the first k + 1 of the product's
pub plain_terms_are : (secret : List ℤ) (a : List ℕ) (N k : ℕ)
    → total (k + 1) (λ i. secret_number secret i *ℤ at a (k - i)) ≡ total (k + 1) (product_term N (secret_number secret) (at a) k)
plain_terms_are secret a N k =
    total_same (k + 1) (λ i. secret_number secret i *ℤ at a (k - i)) (product_term N (secret_number secret) (at a) k)
    (λ i h. sym (product_term-plain N (secret_number secret) (at a) k i (omega arith)))

-- one more term that wraps
pub wrapped_step : (secret : List ℤ) (a : List ℕ) (N k i : ℕ) (sum term : ℤ) → k < i → i < length secret → All IsTernary secret
    → sum ≡ total i (product_term N (secret_number secret) (at a) k)
    → term ≡ to_z w8 (of_z w8 (get_or secret i (pos 0))) *ℤ pos (get_or a (N + k - i) 0)
    → sum -ℤ term ≡ total (i + 1) (product_term N (secret_number secret) (at a) k)
wrapped_step secret a N k i sum term wraps h all front read =
    let more = total_more i (product_term N (secret_number secret) (at a) k) in
    let here = product_term-wrapped N (secret_number secret) (at a) k i wraps in
    let s = ternary_read secret i all h in
    let b = at_read a (N + k - i) in
    let same : term ≡ secret_number secret i *ℤ at a (N + k - i) = cc in omega (arith, ints)

difference_bound : (x : ℕ) (y : ℤ) → x ≤ 2 ^ 60 → unsigned_abs y ≤ 2 ^ 58 → unsigned_abs (pos x -ℤ y) ≤ 2 ^ 61
difference_bound x y left right = omega (arith, ints)

-- how large q2 b - q1 sa is
pub difference_size : (first second b : ℕ) (sa : ℤ) → first ≤ 2 ^ 17 → second ≤ 2 ^ 30 → b < 2 ^ 30 → unsigned_abs sa ≤ 2 ^ 41 → unsigned_abs (pos (second * b) -ℤ pos first *ℤ sa) ≤ 2 ^ 61
difference_size first second b sa first_most second_most number product =
    let near : b ≤ 2 ^ 30 = omega arith in
    let left : second * b ≤ 2 ^ 30 * 2 ^ 30 = mul-le-mul second_most near in
    let right : first * unsigned_abs sa ≤ 2 ^ 17 * 2 ^ 41 = mul-le-mul first_most product in
    let size : unsigned_abs (pos first *ℤ sa) ≡ first * unsigned_abs sa = unsigned_abs-mul (pos first) sa in
    difference_bound (second * b) (pos first *ℤ sa) (omega arith) (omega arith)

-- and as the code computes it
pub difference_is : (first second b : ℕ) (sa : ℤ) → first ≤ 2 ^ 17 → second ≤ 2 ^ 30 → b < 2 ^ 30 → unsigned_abs sa ≤ 2 ^ 41
    → to_z w64 (of_z w64 (to_z w64 (second * b) -ℤ to_z w64 (of_z w64 (to_z w64 first *ℤ to_z w64 (of_z w64 sa))))) ≡ pos (second * b) -ℤ pos first *ℤ sa
difference_is first second b sa first_most second_most number product =
    let near : b ≤ 2 ^ 30 = omega arith in
    let left : second * b ≤ 2 ^ 30 * 2 ^ 30 = mul-le-mul second_most near in
    let right : first * unsigned_abs sa ≤ 2 ^ 17 * 2 ^ 41 = mul-le-mul first_most product in
    let size : unsigned_abs (pos first *ℤ sa) ≡ first * unsigned_abs sa = unsigned_abs-mul (pos first) sa in
    let whole = difference_size first second b sa first_most second_most number product in
    let e1 = to_z_pos w64 first (omega arith) in
    let e2 = kept_64 sa (omega arith) in
    let e3 = kept_64 (pos first *ℤ sa) (omega arith) in
    let e4 = to_z_pos w64 (second * b) (omega arith) in
    let e5 = kept_64 (pos (second * b) -ℤ pos first *ℤ sa) (omega arith) in rw (e1, e2, e3, e4, e5) refl

-- an opened number as the code computes it, with first, second and third the moduli p, q1 and q2
pub opened_is : (set : ParamSet) (first second third b : ℕ) (sa difference x : ℤ) → first ≡ p set → second ≡ q1 set → third ≡ q2 set
    → first ≤ 2 ^ 15 → unsigned_abs sa ≤ 2 ^ 41 → unsigned_abs difference ≤ 2 ^ 61 → SFits w128 x
    → difference ≡ pos (third * b) -ℤ pos second *ℤ to_z w64 (of_z w64 sa)
    → x ≡ to_z w64 first *ℤ to_z w64 (of_z w64 difference)
    → residue first (nearest (to_z w128 (of_z w128 x)) (second * third)) ≡ opened set (pos b) sa
unfolding opened
opened_is set first second third b sa difference x first_is second_is third_is small product size fits difference_is x_is =
    let e1 = to_z_pos w64 first (omega arith) in
    let e2 = kept_64 difference (omega arith) in
    let e3 = to_z-of_z w128 x fits in
    let e4 = kept_64 sa (omega arith) in
    let d : difference ≡ pos (third * b) -ℤ pos second *ℤ sa = rw e4 at difference_is in
    let y : x ≡ pos first *ℤ difference = rw (e1, e2) at x_is in rw (e3, y, d, first_is, second_is, third_is) refl

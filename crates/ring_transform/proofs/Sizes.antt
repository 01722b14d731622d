-- Sizes and places in the tree, as the code works them out.
use Rattle.std.proofs.Common.{◌≡◌, ◌≢◌, ℕ, zero, suc, ◌+◌, ◌-◌, ◌*◌, ◌/◌, ◌%◌, ◌^◌, ◌<◌, ◌≤◌, sym, ◌∙◌, ap, refl, arith, mod-eq_of_lt}
use Rattle.std.proofs.lemmas.Nat.{one_shl, pow-add, mul-le, mul-pow, mul-mod_second, pow-mod}
use Rattle.std.proofs.Math.Nat.{pow-le-pow_right, add-mod_right, pow-suc, pow-zero}
use Rattle.ring_transform.specs.Points.{reversed, exponent}
use Rattle.ring_transform.proofs.Nodes.{exponent_below}

-- a power of two, one exponent more
pub twice : (d : ℕ) → 2 ^ (d + 1) ≡ 2 * 2 ^ d
twice d = pow-add 2 d 1 ∙ turned (2 ^ d)
  where
    turned : (w : ℕ) → w * 2 ^ 1 ≡ 2 * w
    turned w = omega arith

-- one layer less
pub layer_less : (m : ℕ) → m ≢ 0 → 2 ^ m ≡ 2 * 2 ^ (m - 1)
layer_less m some =
    let e : m ≡ m - 1 + 1 = omega arith in ap (λ (n : ℕ). 2 ^ n) e ∙ twice (m - 1)

-- the two places below a place
pub place_low : (d j : ℕ) → j < 2 ^ d → 2 * j < 2 ^ (d + 1)
place_low d j h = omega (arith, twice d)

pub place_high : (d j : ℕ) → j < 2 ^ d → 2 * j + 1 < 2 ^ (d + 1)
place_high d j h = omega (arith, twice d)

-- the room for the layers below
pub room_below : (d m len : ℕ) → m ≢ 0 → 2 ^ (d + m) ≤ len → 2 ^ (d + 1 + (m - 1)) ≤ len
room_below d m len some room =
    let e : d + 1 + (m - 1) ≡ d + m = omega arith in rw e room

-- the number of an entry
pub entry_is : (d j : ℕ) → d ≤ 9 → 1 * 2 ^ d % 2 ^ 64 + j ≡ 2 ^ d + j
entry_is d j deep =
    let narrow : d < 64 = omega arith in ap (λ (w : ℕ). w + j) (one_shl d 64 narrow)

pub entry_within : (d m j len : ℕ) → m ≢ 0 → j < 2 ^ d → 2 ^ (d + m) ≤ len → 2 ^ d + j < len
entry_within d m j len some place room =
    let more : d + 1 ≤ d + m = omega arith in
    let most : 2 ^ (d + 1) ≤ 2 ^ (d + m) = pow-le-pow_right (omega arith) more in omega (arith, twice d)

-- the halves
pub half_front : (m len : ℕ) → m ≢ 0 → len ≡ 2 ^ m * 4 → len / 2 ≡ 2 ^ (m - 1) * 4
half_front m len some size = omega (arith, layer_less m some)

pub half_back : (m len : ℕ) → m ≢ 0 → len ≡ 2 ^ m * 4 → len - len / 2 ≡ 2 ^ (m - 1) * 4
half_back m len some size = omega (arith, layer_less m some)

-- ---- the reversed bits and the exponents as the code works them out

pub reversed_none : (bits j : ℕ) → bits ≡ 0 → 0 ≡ reversed bits j
unfolding reversed
reversed_none bits j none = rw none refl

-- a shift that loses nothing
shifted : (x k bound : ℕ) → bound ≤ 2 ^ 64 → x * 2 ^ k < bound → x * 2 ^ k % 2 ^ 64 ≡ x * 2 ^ k
shifted x k bound most small =
    let fits : x * 2 ^ k < 2 ^ 64 = omega arith in mod-eq_of_lt fits

low_bit : (bits j : ℕ) → bits ≤ 11 → bits ≢ 0 → j % 2 * 2 ^ (bits - 1) % 2 ^ 64 ≡ j % 2 * 2 ^ (bits - 1)
low_bit bits j deep some =
    let few : bits - 1 ≤ 10 = omega arith in
    let most : 2 ^ (bits - 1) ≤ 2 ^ 10 = pow-le-pow_right (omega arith) few in
    let bit : j % 2 < 2 = omega arith in
    let small : j % 2 * 2 ^ (bits - 1) < 2 * 2 ^ 10 + 1 = bits_fit (j % 2) (2 ^ (bits - 1)) bit most in
    shifted (j % 2) (bits - 1) (2 * 2 ^ 10 + 1) (omega arith) small
  where
    bits_fit : (b w : ℕ) → b < 2 → w ≤ 2 ^ 10 → b * w < 2 * 2 ^ 10 + 1
    bits_fit b w h g = let most : b * w ≤ 1 * 2 ^ 10 = mul-le b w 1 (2 ^ 10) (omega arith) g in omega arith

pub reversed_step : (bits j r : ℕ) → bits ≤ 11 → bits ≢ 0 → r ≡ reversed (bits - 1) (j / 2) → j % 2 * 2 ^ (bits - 1) % 2 ^ 64 + r ≡ reversed bits j
unfolding reversed
reversed_step bits j r deep some is =
    let next : bits ≡ suc (bits - 1) = omega arith in
    ap (λ (n : ℕ). n + r) (low_bit bits j deep some)
    ∙ ap (λ (n : ℕ). j % 2 * 2 ^ (bits - 1) + n) is
    ∙ ap (λ (n : ℕ). reversed n j) (sym next)

pub reversed_within : (bits j r : ℕ) → bits ≤ 11 → bits ≢ 0 → r < 2 ^ (bits - 1) → j % 2 * 2 ^ (bits - 1) % 2 ^ 64 + r < 2 ^ bits
reversed_within bits j r deep some below =
    let bit : j % 2 < 2 = omega arith in
    within (j % 2) (2 ^ (bits - 1)) r (2 ^ bits) (j % 2 * 2 ^ (bits - 1) % 2 ^ 64) bit below (layer_less bits some) (low_bit bits j deep some)
  where
    within : (b w r t s : ℕ) → b < 2 → r < w → t ≡ 2 * w → s ≡ b * w → s + r < t
    within b w r t s h g e f = let most : b * w ≤ 1 * w = mul-le b w 1 w (omega arith) (omega arith) in omega arith

-- an exponent is small
exponent_fits : (d j r : ℕ) → d ≤ 11 → r ≡ reversed d j → (2 * r + 1) * 2 ^ (11 - d) ≡ exponent d j
unfolding exponent
exponent_fits d j r deep is = rw is refl

pub exponent_step : (d j r : ℕ) → d ≤ 11 → r ≡ reversed d j → (2 * r + 1) * 2 ^ (11 - d) % 2 ^ 64 ≡ exponent d j
exponent_step d j r deep is =
    let e = exponent_fits d j r deep is in
    let most = exponent_below d j deep in
    shifted (2 * r + 1) (11 - d) 4097 (omega arith) (omega arith) ∙ e

pub exponent_turn : (d j r : ℕ) → d ≤ 11 → r ≡ reversed d j → (2 * r + 1) * 2 ^ (11 - d) % 2 ^ 64 ≤ 4096
exponent_turn d j r deep is = omega (arith, exponent_step d j r deep is, exponent_below d j deep)

-- ---- the inverse of a power of two

power_of_one : (m : ℕ) → 1 ^ m ≡ 1
power_of_one zero = pow-zero 1
power_of_one (suc m) = pow-suc 1 m ∙ omega (arith, power_of_one m)

pub power_inverse : (p m r : ℕ) → p % 2 ≡ 1 → 1 < p → r ≡ ((p + 1) / 2) ^ m % p → 2 ^ m * r % p ≡ 1
power_inverse p m r odd some is =
    let h = (p + 1) / 2 in
    let one : 1 + p ≡ 2 * h = omega arith in
    ap (λ (x : ℕ). 2 ^ m * x % p) is
    ∙ mul-mod_second (2 ^ m) (h ^ m) p
    ∙ ap (λ (x : ℕ). x % p) (sym (mul-pow 2 h m) ∙ ap (λ (x : ℕ). x ^ m) (sym one))
    ∙ sym (pow-mod (1 + p) m p)
    ∙ ap (λ (x : ℕ). x ^ m % p) (add-mod_right 1 p ∙ mod-eq_of_lt some)
    ∙ ap (λ (x : ℕ). x % p) (power_of_one m)
    ∙ mod-eq_of_lt some

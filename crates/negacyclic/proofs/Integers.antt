-- The ring laws of whole numbers, and a set of equations that decides identities between them.
use Rattle.std.proofs.Common.{◌≡◌, ◌*◌, ℤ, pos, negsuc, ◌+ℤ◌, ◌*ℤ◌, neg_ℤ, sym, ◌∙◌, ap, arith}
use Rattle.std.proofs.Math.IntN.{*ℤ_comm}
use Rattle.std.proofs.lemmas.Int.{ints}
use borrow.Author.Differences.{up, down, sum_is_lem, neg_is, product_is}

-- a product distributes over a sum on its left
pub add-mul_ℤ : (a b c : ℤ) → (a +ℤ b) *ℤ c ≡ a *ℤ c +ℤ b *ℤ c
add-mul_ℤ a b c =
    let s = sum_is_lem a b in
    let above = ap (λ n. n * up c) s in
    let below = ap (λ n. n * down c) s in omega (arith, ints)

-- and on its right
pub mul-add_ℤ : (a b c : ℤ) → a *ℤ (b +ℤ c) ≡ a *ℤ b +ℤ a *ℤ c
mul-add_ℤ a b c =
    let s = sum_is_lem b c in
    let above = ap (λ n. up a * n) s in
    let below = ap (λ n. down a * n) s in omega (arith, ints)

-- a minus sign moves out of the left factor
pub neg-mul_ℤ : (a b : ℤ) → neg_ℤ a *ℤ b ≡ neg_ℤ (a *ℤ b)
neg-mul_ℤ a b =
    let s = neg_is a in
    let above = ap (λ n. n * up b) s.0 in
    let below = ap (λ n. n * down b) s.1 in
    let above' = ap (λ n. n * up b) s.1 in
    let below' = ap (λ n. n * down b) s.0 in omega (arith, ints)

-- and out of the right one
pub mul-neg_ℤ : (a b : ℤ) → a *ℤ neg_ℤ b ≡ neg_ℤ (a *ℤ b)
mul-neg_ℤ a b = *ℤ_comm a (neg_ℤ b) ∙ neg-mul_ℤ b a ∙ ap neg_ℤ (*ℤ_comm b a)

-- the order of two products is free
pub mul-assoc_ℤ : (a b c : ℤ) → (a *ℤ b) *ℤ c ≡ a *ℤ (b *ℤ c)
mul-assoc_ℤ a b c =
    let l = product_is a b in
    let r = product_is b c in
    let l0 = ap (λ n. n * up c) l.0 in
    let l1 = ap (λ n. n * down c) l.1 in
    let l2 = ap (λ n. n * down c) l.0 in
    let l3 = ap (λ n. n * up c) l.1 in
    let r0 = ap (λ n. up a * n) r.0 in
    let r1 = ap (λ n. down a * n) r.1 in
    let r2 = ap (λ n. up a * n) r.1 in
    let r3 = ap (λ n. down a * n) r.0 in omega (arith, ints)

-- the first two of three factors change places
pub mul-left_comm_ℤ : (a b c : ℤ) → a *ℤ (b *ℤ c) ≡ b *ℤ (a *ℤ c)
mul-left_comm_ℤ a b c = sym (mul-assoc_ℤ a b c) ∙ ap (λ (z : ℤ). z *ℤ c) (*ℤ_comm a b) ∙ mul-assoc_ℤ b a c

-- two factors change places
pub mul_comm_ℤ : (a b : ℤ) → a *ℤ b ≡ b *ℤ a
mul_comm_ℤ a b = *ℤ_comm a b

-- times 1
pub mul-one_ℤ : (a : ℤ) → a *ℤ pos 1 ≡ a
mul-one_ℤ a = omega (arith, ints)

-- 1 times
pub one-mul_ℤ : (a : ℤ) → pos 1 *ℤ a ≡ a
one-mul_ℤ a = omega (arith, ints)

-- times 0
pub mul-zero_ℤ : (a : ℤ) → a *ℤ pos 0 ≡ pos 0
mul-zero_ℤ a = omega (arith, ints)

-- 0 times
pub zero-mul_ℤ : (a : ℤ) → pos 0 *ℤ a ≡ pos 0
zero-mul_ℤ a = omega (arith, ints)

-- times -1
pub mul-minus_one_ℤ : (a : ℤ) → a *ℤ negsuc 0 ≡ neg_ℤ a
mul-minus_one_ℤ a = omega (arith, ints)

-- times 2
pub mul-two_ℤ : (a : ℤ) → a *ℤ pos 2 ≡ a +ℤ a
mul-two_ℤ a = omega (arith, ints)

-- Multiplies out: `simp ring (omega (arith, ints))` decides an identity of the ring.
pub ruleset ring = (mul-zero_ℤ, zero-mul_ℤ, mul-one_ℤ, one-mul_ℤ, mul-minus_one_ℤ, mul-two_ℤ, add-mul_ℤ, mul-add_ℤ, neg-mul_ℤ, mul-neg_ℤ, mul-assoc_ℤ, mul_comm_ℤ, mul-left_comm_ℤ)

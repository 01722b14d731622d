-- Laws of the negacyclic ring for every N and q, each the contract of a public function.
use Rattle.std.specs.Prelude.{ℕ, List, ◌≡◌, ◌<◌, ◌≤◌, ◌+◌, ◌*◌, ◌%◌, length, All, pos, ◌+ℤ◌, ◌*ℤ◌}
use Rattle.std.specs.Int.RustNames.{unsigned_abs}
use lib.IntN.{ℤ}
use Rattle.negacyclic.specs.Residues.{residue, cen, norm}
use Rattle.negacyclic.specs.Ring.{ring_zero, ring_one, ring_add, ring_sub, ring_total, ring_mul, ring_scale, ring_shift, tau}

-- ---- sums

-- The order of two summands is free.
abbrev pub RingAddCommutes : Type 0
RingAddCommutes = (q N : ℕ) (a b : List ℕ) → ring_add q N a b ≡ ring_add q N b a

-- The order of two additions is free.
abbrev pub RingAddAssociates : Type 0
RingAddAssociates = (q N : ℕ) (a b c : List ℕ) → 0 < q
    → ring_add q N (ring_add q N a b) c ≡ ring_add q N a (ring_add q N b c)

-- A polynomial plus 0 is that polynomial.
abbrev pub RingZeroIsNeutral : Type 0
RingZeroIsNeutral = (q N : ℕ) (a : List ℕ) → 0 < q → length a ≡ N → All (λ x. x < q) a
    → ring_add q N a (ring_zero q N) ≡ a

-- What was taken away and is added again makes no difference.
abbrev pub RingSubUndoesAdd : Type 0
RingSubUndoesAdd = (q N : ℕ) (a b : List ℕ) → 0 < q → length a ≡ N → All (λ x. x < q) a
    → ring_add q N (ring_sub q N a b) b ≡ a

-- ---- products

-- The order of two factors is free.
abbrev pub RingMulCommutes : Type 0
RingMulCommutes = (q N : ℕ) (a b : List ℕ) → ring_mul q N a b ≡ ring_mul q N b a

-- The order of two products is free.
abbrev pub RingMulAssociates : Type 0
RingMulAssociates = (q N : ℕ) (a b c : List ℕ) → 0 < q
    → ring_mul q N (ring_mul q N a b) c ≡ ring_mul q N a (ring_mul q N b c)

-- The product with a sum is the sum of the products.
abbrev pub RingMulOfSum : Type 0
RingMulOfSum = (q N : ℕ) (a b c : List ℕ) → 0 < q
    → ring_mul q N a (ring_add q N b c) ≡ ring_add q N (ring_mul q N a b) (ring_mul q N a c)

-- The product of a sum is the sum of the products.
abbrev pub RingMulBySum : Type 0
RingMulBySum = (q N : ℕ) (a b c : List ℕ) → 0 < q
    → ring_mul q N (ring_add q N a b) c ≡ ring_add q N (ring_mul q N a c) (ring_mul q N b c)

-- The product with a difference is the difference of the products.
abbrev pub RingMulOfDifference : Type 0
RingMulOfDifference = (q N : ℕ) (a b c : List ℕ) → 0 < q
    → ring_mul q N a (ring_sub q N b c) ≡ ring_sub q N (ring_mul q N a b) (ring_mul q N a c)

-- The product of a difference is the difference of the products.
abbrev pub RingMulByDifference : Type 0
RingMulByDifference = (q N : ℕ) (a b c : List ℕ) → 0 < q
    → ring_mul q N (ring_sub q N a b) c ≡ ring_sub q N (ring_mul q N a c) (ring_mul q N b c)

-- The product with 0 is 0.
abbrev pub RingMulByZero : Type 0
RingMulByZero = (q N : ℕ) (a : List ℕ) → 0 < q → ring_mul q N a (ring_zero q N) ≡ ring_zero q N

-- The product of 1 and a polynomial is that polynomial.
abbrev pub RingOneIsNeutral : Type 0
RingOneIsNeutral = (q N : ℕ) (a : List ℕ) → 0 < q → length a ≡ N → All (λ x. x < q) a
    → ring_mul q N (ring_one q N) a ≡ a

-- ---- multiples

-- A multiple of a sum is the sum of the multiples.
abbrev pub ScaleOfSum : Type 0
ScaleOfSum = (q N : ℕ) (z : ℤ) (a b : List ℕ) → 0 < q
    → ring_scale q N z (ring_add q N a b) ≡ ring_add q N (ring_scale q N z a) (ring_scale q N z b)

-- A multiple of a product is the product with the multiple of a factor.
abbrev pub ScaleOfProduct : Type 0
ScaleOfProduct = (q N : ℕ) (z : ℤ) (a b : List ℕ) → 0 < q
    → ring_scale q N z (ring_mul q N a b) ≡ ring_mul q N (ring_scale q N z a) b

-- ---- sums of many

-- The product with a sum of many is the sum of the products.
abbrev pub RingMulOfTotal : Type 0
RingMulOfTotal = (q N count : ℕ) (a : List ℕ) (b : ℕ → List ℕ) → 0 < q
    → ring_mul q N a (ring_total q N count b) ≡ ring_total q N count (λ i. ring_mul q N a (b i))

-- The sum of no polynomials is 0.
abbrev pub TotalOfNone : Type 0
TotalOfNone = (q N : ℕ) (a : ℕ → List ℕ) → ring_total q N 0 a ≡ ring_zero q N

-- One polynomial more in a sum is added to it.
abbrev pub TotalOfOneMore : Type 0
TotalOfOneMore = (q N count : ℕ) (a : ℕ → List ℕ) → 0 < q
    → ring_total q N (count + 1) a ≡ ring_add q N (ring_total q N count a) (a count)

-- ---- powers of x

-- x^s (x^t a) = x^(s + t) a
abbrev pub ShiftsCompose : Type 0
ShiftsCompose = (q N s t : ℕ) (a : List ℕ) → 0 < q
    → ring_shift q N s (ring_shift q N t a) ≡ ring_shift q N (s + t) a

-- x^s (a + b) = x^s a + x^s b
abbrev pub ShiftOfSum : Type 0
ShiftOfSum = (q N s : ℕ) (a b : List ℕ) → 0 < q
    → ring_shift q N s (ring_add q N a b) ≡ ring_add q N (ring_shift q N s a) (ring_shift q N s b)

-- x^s (a b) = (x^s a) b
abbrev pub ShiftOfProduct : Type 0
ShiftOfProduct = (q N s : ℕ) (a b : List ℕ) → 0 < q
    → ring_shift q N s (ring_mul q N a b) ≡ ring_mul q N (ring_shift q N s a) b

-- x^N a = -a
abbrev pub ShiftByHalf : Type 0
ShiftByHalf = (q N : ℕ) (a : List ℕ) → 0 < q → ring_shift q N N a ≡ ring_sub q N (ring_zero q N) a

-- x^(2N) a = a
abbrev pub ShiftByWhole : Type 0
ShiftByWhole = (q N : ℕ) (a : List ℕ) → 0 < q → length a ≡ N → All (λ x. x < q) a
    → ring_shift q N (2 * N) a ≡ a

-- ---- the automorphism of an odd g

-- The automorphism of a sum is the sum of the automorphisms.
abbrev pub TauOfSum : Type 0
TauOfSum = (q N g : ℕ) (a b : List ℕ) → 0 < q
    → tau q N g (ring_add q N a b) ≡ ring_add q N (tau q N g a) (tau q N g b)

-- The automorphism of a product is the product of the automorphisms.
abbrev pub TauOfProduct : Type 0
TauOfProduct = (q N g : ℕ) (a b : List ℕ) → 0 < q → g % 2 ≡ 1
    → tau q N g (ring_mul q N a b) ≡ ring_mul q N (tau q N g a) (tau q N g b)

-- The automorphism of g after that of e is the automorphism of g e.
abbrev pub TausCompose : Type 0
TausCompose = (q N g e : ℕ) (a : List ℕ) → 0 < q → g % 2 ≡ 1
    → tau q N g (tau q N e a) ≡ tau q N (g * e) a

-- The automorphism of x^s a is x^(g s) times the automorphism of a.
abbrev pub TauOfShift : Type 0
TauOfShift = (q N g s : ℕ) (a : List ℕ) → 0 < q → g % 2 ≡ 1
    → tau q N g (ring_shift q N s a) ≡ ring_shift q N (g * s) (tau q N g a)

-- ---- absolute values

-- The centred representative of a residue has that residue.
abbrev pub CenOfResidue : Type 0
CenOfResidue = (q : ℕ) (z : ℤ) → 0 < q → residue q (cen q (residue q z)) ≡ residue q z

-- No whole number with that residue is smaller in absolute value.
abbrev pub CenIsLeast : Type 0
CenIsLeast = (q : ℕ) (y z : ℤ) → 0 < q → residue q y ≡ residue q z
    → unsigned_abs (cen q (residue q z)) ≤ unsigned_abs y

-- The triangle law: a sum modulo q is at most as large as its two summands together.
abbrev pub CenOfSum : Type 0
CenOfSum = (q : ℕ) (x y : ℤ) → 0 < q
    → unsigned_abs (cen q (residue q (x +ℤ y))) ≤ unsigned_abs x + unsigned_abs y

-- A multiple modulo q is at most as large as the multiple of the absolute value.
abbrev pub CenOfMultiple : Type 0
CenOfMultiple = (q : ℕ) (z : ℤ) (x : ℕ) → 0 < q
    → unsigned_abs (cen q (residue q (z *ℤ pos x))) ≤ unsigned_abs z * unsigned_abs (cen q x)

-- Where m bounds the centred representatives of a, m times the norm of b bounds those of the product.
abbrev pub NormBoundsProduct : Type 0
NormBoundsProduct = (q N m : ℕ) (a b : List ℕ) → 0 < q → All (λ x. unsigned_abs (cen q x) ≤ m) a
    → All (λ x. unsigned_abs (cen q x) ≤ m * norm q b) (ring_mul q N a b)

-- A product with a power of x keeps a bound of the centred representatives.
abbrev pub ShiftKeepsBound : Type 0
ShiftKeepsBound = (q N m s : ℕ) (a : List ℕ) → 0 < q → All (λ x. unsigned_abs (cen q x) ≤ m) a
    → All (λ x. unsigned_abs (cen q x) ≤ m) (ring_shift q N s a)

-- The automorphism of g, where g e = 1 modulo 2N for some e, keeps a bound of the centred representatives.
abbrev pub TauKeepsBound : Type 0
TauKeepsBound = (q N m g e : ℕ) (a : List ℕ) → 0 < q → (g * e) % (2 * N) ≡ 1
    → All (λ x. unsigned_abs (cen q x) ≤ m) a → All (λ x. unsigned_abs (cen q x) ≤ m) (tau q N g a)

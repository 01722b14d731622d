-- The points at which the transform takes the values of polynomials, and the tree of which they are the leaves.
use Rattle.std.specs.Prelude.{ℕ, List, ◌≡◌, ◌+◌, ◌-◌, ◌*◌, ◌/◌, ◌%◌, ◌^◌, ◌==◌, ◌⊎◌, if◌then◌else◌, map}
use Rattle.std.proofs.Common.{zero, suc}
use Rattle.std.specs.List.{range_with_len}

-- the two primes
abbrev pub IsPrime : ℕ → Type 0
IsPrime p = (p ≡ 268369921) ⊎ (p ≡ 249561089)

-- the two degrees
abbrev pub IsDegree : ℕ → Type 0
IsDegree n = (n ≡ 256) ⊎ (n ≡ 2048)

-- a number whose 2048th power is -1 modulo the prime
unfoldable pub generator : ℕ → ℕ
generator p = if p == 268369921 then 228368554 else 30909463

-- The last bits of j, so many, in the reverse order.
unfoldable pub reversed : ℕ → ℕ → ℕ
reversed zero j = 0
reversed (suc bits) j = j % 2 * 2 ^ bits + reversed bits (j / 2)

-- The tree: node j at a depth, of 2^depth nodes, is this power of the generator. Node 0 at depth 0 is -1. Below node j stand the
-- nodes 2j and 2j + 1, the two square roots of node j, each the opposite of the other.
unfoldable pub exponent : ℕ → ℕ → ℕ
exponent depth j = (2 * reversed depth j + 1) * 2 ^ (11 - depth)

unfoldable pub node : ℕ → ℕ → ℕ → ℕ
node p depth j = generator p ^ exponent depth j % p

-- The inverse of a node.
unfoldable pub inverse_node : ℕ → ℕ → ℕ → ℕ
inverse_node p depth j = generator p ^ (4096 - exponent depth j) % p

-- The depth at which there are n nodes.
unfoldable pub depth_of : ℕ → ℕ
depth_of n = if n == 256 then 8 else 11

-- The points for the degree n: the n nodes at one depth. They are the odd powers of a number whose n-th power is -1, in the order
-- of the reversed bits.
unfoldable pub points : ℕ → ℕ → List ℕ
points p n = map (node p (depth_of n)) (range_with_len 0 n)

-- Places of polynomials modulo one of the primes, and products by their values.
use Rattle.std.proofs.Common.{◌≡◌, ℕ, ◌%◌, ◌<◌, pos, ◌*ℤ◌, List, length, All, refl, sym, ◌∙◌, ap₂}
use Rattle.negacyclic.specs.Residues.{residue}
use Rattle.negacyclic.specs.Ring.{at, product_at, ring_mul}
use Rattle.negacyclic.proofs.Congruence.{congruent_refl, congruent_mul}
use Rattle.negacyclic.proofs.Residues.{residue_congruent, residue_same, residue_of_residue}
use Rattle.negacyclic.proofs.Stands.{length-reduced, reduced_below}
use Rattle.word_prime.specs.Lanes.{products}
use Rattle.ring_transform.specs.Points.{IsPrime, IsDegree, points}
use Rattle.ring_transform.specs.Values.{values}
use Rattle.ring_transform.proofs.Nodes.{prime_some}
use Rattle.ring_transform.proofs.Whole.{values_of_product}

-- a constant, and 0
pub constant_here : (p z : ℕ) → z % p ≡ residue p (pos z)
unfolding residue
constant_here p z = refl

pub constant_elsewhere : (p : ℕ) → 0 < p → 0 ≡ residue p (pos 0)
constant_elsewhere p some = sym (residue_of_residue some)

-- a factor that was reduced first
pub reduced_factor : (p z x : ℕ) → 0 < p → residue p (pos (z % p) *ℤ pos x) ≡ residue p (pos z *ℤ pos x)
unfolding residue
reduced_factor p z x some = residue_same some (congruent_mul (residue_congruent p (pos z) some) (congruent_refl (pos x)))

-- the product has n residues
product-size : (p n : ℕ) (a b : List ℕ) → length (ring_mul p n a b) ≡ n
unfolding ring_mul
product-size p n a b = length-reduced p n (product_at n (at a) (at b))

product-below : (p n : ℕ) (a b : List ℕ) → 0 < p → All (λ v. v < p) (ring_mul p n a b)
unfolding ring_mul
product-below p n a b some = reduced_below p n (product_at n (at a) (at b)) some

-- What has the products of the values of a and b is their product.
pub product_by_values : (p n : ℕ) (a b x y z c : List ℕ) → IsPrime p → IsDegree n → length a ≡ n → length b ≡ n
    → x ≡ values p (points p n) a → y ≡ values p (points p n) b → z ≡ products p x y
    → ((d : List ℕ) → length d ≡ n → All (λ v. v < p) d → values p (points p n) d ≡ z → d ≡ c) → c ≡ ring_mul p n a b
product_by_values p n a b x y z c prime degree size_a size_b is_x is_y is_z only =
    sym (only (ring_mul p n a b) (product-size p n a b) (product-below p n a b (prime_some p prime)) (values_of_product p n a b prime degree size_a size_b ∙ sym (ap₂ (products p) is_x is_y) ∙ sym is_z))

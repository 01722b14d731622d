-- Products, powers of x and automorphisms are linear: a set of equations that takes them apart.
use Rattle.negacyclic.proofs.Product.{product_at-add, product_at-neg, product_at-scale, product_at-zero, product_at-total, product_at-add_left, product_at-neg_left, product_at-scale_left, product_at-zero_left, product_at-total_left}
use Rattle.negacyclic.proofs.Shift.{shift_at-add, shift_at-neg, shift_at-scale, shift_at-total}
use Rattle.negacyclic.proofs.Automorphism.{tau_at-add, tau_at-neg, tau_at-scale, tau_at-total}

-- With it `simp linear (omega (arith, ints))` proves that two functions of the place are equal that differ in how
-- sums, differences and multiples stand in the arguments of `product_at`, `shift_at` and `tau_at`. A difference is a
-- sum with the opposite. Beside products of three factors list `product_at-assoc` with its arguments.
pub ruleset linear = (product_at-zero, product_at-zero_left, product_at-add, product_at-neg, product_at-scale, product_at-total, product_at-add_left, product_at-neg_left, product_at-scale_left, product_at-total_left, shift_at-add, shift_at-neg, shift_at-scale, shift_at-total, tau_at-add, tau_at-neg, tau_at-scale, tau_at-total)

use Rattle.std.proofs.Common.{◌≡◌, length}
use Rattle.spiral_model.specs.Gadgets.{cipher_sub}
use Rattle.gsw_code.proofs.Products.{Multiplies}
use Rattle.gsw_code.proofs.gsw.Gsw.multiply_difference.Given as goal

abbrev pub invariant-loop-r : goal.invariant-loop-r
invariant-loop-r l = Multiplies l.ring l.set l.r l.self (cipher_sub l.ring l.high l.low) l.sum l.room × (length l.row ≡ l.ring)

use Rattle.spiral_tests.proofs.Edge.{cleared}
use Rattle.spiral_tests.proofs.ciphertexts.multiplies_in_product_form.Goals as goal

pub expect_form-requires-2 : goal.expect_form-requires-2
expect_form-requires-2 g c = cleared c.in_ok-cipher.field-0 c.to_form-2.new.out c.clear.new.self c.in_ok-cipher.ensures c.to_form-2.ensures c.clear.ensures

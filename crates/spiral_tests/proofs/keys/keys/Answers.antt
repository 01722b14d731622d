use Rattle.spiral_tests.proofs.Pack.{keys_set}
use Rattle.spiral_tests.proofs.keys.keys.Goals as goal

pub returns : goal.returns
returns g c = keys_set c.in_ok-from_body.field-0 _ c.in_ok-from_body.ensures c.in_ok-setup.ensures.set

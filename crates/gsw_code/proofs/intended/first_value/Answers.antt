use Rattle.ring_poly.proofs.Modulus.{q_some}
use Rattle.gsw_code.proofs.intended.first_value.Goals as goal

pub returns-else-u-place_of-clause-below : goal.returns-else-u-place_of-clause-below
returns-else-u-place_of-clause-below c = q_some

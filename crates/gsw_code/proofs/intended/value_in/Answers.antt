use Rattle.ring_poly.proofs.Modulus.{q_some}
use Rattle.gsw_code.proofs.intended.value_in.Goals as goal

pub returns-else-row-r-clause-below : goal.returns-else-row-r-clause-below
returns-else-row-r-clause-below c = q_some

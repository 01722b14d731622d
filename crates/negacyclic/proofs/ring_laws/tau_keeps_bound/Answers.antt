use Rattle.negacyclic.proofs.Bounds.{tau_bound}
use Rattle.negacyclic.proofs.ring_laws.tau_keeps_bound.Goals as goal

pub returns : goal.returns
returns c = λ q N m g e a some inverse all. tau_bound q N some m g e a inverse all

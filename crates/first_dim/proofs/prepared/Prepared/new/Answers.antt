use Rattle.first_dim.proofs.RecordMatrices.{prepared_shape}
use Rattle.first_dim.proofs.prepared.Prepared.new.Goals as goal

pub invariant_of-result : goal.invariant_of-result
invariant_of-result g c =
    prepared_shape c.args.db.now c.set.result c.in_ok-record_matrices.field-0.items c.set.ensures.value c.set.ensures.known c.in_ok-record_matrices.ensures

use Rattle.std.proofs.Common.{ap, arith}
use Rattle.negacyclic.proofs.Lists.{pushed_more, length-refilled}
use Rattle.spiral_sets.specs.declared.param_set.ParamSet.{ParamSet}
use Rattle.spiral_sets.proofs.SetBounds.{max_records-most}
use Rattle.spiral_model.specs.Sets.{max_records}
use Rattle.spiral_model.specs.Databases.{matrix_of}
use Rattle.first_dim.proofs.RecordMatrices.{matrices_done}
use Rattle.first_dim.proofs.records.record_matrices.Goals as goal

pub loop-i-preserved : goal.loop-i-preserved
loop-i-preserved c = record {
  so_far = pushed_more (matrix_of c.args.db.now) 0 c.loop-i.i c.loop-i.i c.loop-i.matrices.items c.push.new.self.items c.in_ok-record_matrix.field-0 (omega arith)
      c.loop-i.invariant.so_far c.in_ok-push.ensures.items c.in_ok-record_matrix.ensures.value;
  values_room = length-refilled _ c.args.ring.now c.record_matrix.new.values _ (grind arith) (grind arith);
  room = c.record_matrix.ensures.poly;
}

pub overflow_cast-i-end : goal.overflow_cast-i-end
overflow_cast-i-end c = omega (arith, c.max_records-i-end.ensures, max_records-most c.set.result c.set.ensures.known)

pub returns : goal.returns
returns c =
    matrices_done c.args.db.now c.loop-i.i c.loop-i.matrices.items
    (omega (arith, c.max_records-i-end.ensures, ap (λ (s : ParamSet). max_records s) c.set.ensures.value)) c.loop-i.invariant.so_far

use Rattle.std.proofs.Common.{◌^◌, ◌<◌, get_or, ap, arith}
use Rattle.negacyclic.proofs.Filled.{filled_with_more, filled_with_all}
use Rattle.spiral_sets.specs.declared.param_set.ParamSet.{ParamSet}
use Rattle.spiral_model.specs.Records.{entry_of}
use Rattle.spiral_model.specs.Databases.{values_at}
use Rattle.first_dim.proofs.records.write_values.Goals as goal

pub loop-k-preserved : goal.loop-k-preserved
loop-k-preserved c =
    let db = c.args.db.now in
    filled_with_more (λ v. v < 2 ^ db.set.p_bits) (λ k. get_or (entry_of db.set (values_at db c.args.i) c.args.e) k 0) c.args.values.now c.loop-k.k c.loop-k.values c.value.result
    (omega (arith, ap (λ (s : ParamSet). s.degree) c.set-degree.ensures.value)) c.loop-k.invariant c.value.ensures.value c.value.ensures.below

pub returns-clause-below : goal.returns-clause-below
returns-clause-below c =
    let db = c.args.db.now in
    filled_with_all (λ v. v < 2 ^ db.set.p_bits) (λ k. get_or (entry_of db.set (values_at db c.args.i) c.args.e) k 0) c.args.values.now c.loop-k.k c.loop-k.values
    (omega (arith, ap (λ (s : ParamSet). s.degree) c.set-degree.ensures.value, c.loop-k.invariant.filled.count)) c.loop-k.invariant

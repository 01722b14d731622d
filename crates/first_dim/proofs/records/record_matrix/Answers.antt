use Rattle.std.proofs.Common.{◌∙◌, ap, arith}
use Rattle.negacyclic.proofs.Lists.{pushed_more}
use Rattle.spiral_sets.specs.declared.param_set.ParamSet.{ParamSet}
use Rattle.spiral_model.specs.Sets.{p, entries}
use Rattle.spiral_model.specs.Databases.{matrix_entry}
use Rattle.first_dim.proofs.RecordMatrices.{entry_is, matrix_done}
use Rattle.first_dim.proofs.records.record_matrix.Goals as goal

pub loop-e-preserved : goal.loop-e-preserved
loop-e-preserved c =
    let db = c.args.db.now in
    record {
      so_far = pushed_more (matrix_entry db c.args.i) 0 c.loop-e.e c.loop-e.e c.loop-e.entries.items c.push.new.self.items c.in_ok-entry_form.field-0 (omega arith)
          c.loop-e.invariant.so_far c.in_ok-push.ensures.items
          (entry_is db c.args.i c.loop-e.e c.args.ring.now c.p.result c.write_values.new.values c.in_ok-entry_form.field-0
          (c.p.ensures.value ∙ ap (λ (s : ParamSet). p s) c.set-set.ensures.value) c.requires.degree
          c.write_values.ensures.value c.in_ok-entry_form.ensures.value);
      room = c.entry_form.ensures.poly;
    }

pub returns-clause-value : goal.returns-clause-value
returns-clause-value c =
    matrix_done c.args.db.now c.args.i c.loop-e.e c.loop-e.entries.items
    (omega (arith, c.entries-e-end.ensures.value, ap (λ (s : ParamSet). entries s) c.set-set.ensures.value)) c.loop-e.invariant.so_far

use Rattle.std.proofs.Common.{◌∙◌, ap}
use Rattle.std.proofs.lemmas.List.Elements.{All-same}
use Rattle.spiral_model.specs.Answering.{Ready}
use Rattle.first_dim.specs.Preparations.{PreparedRecords}
use Rattle.regev_code.specs.Products.{HasShape}
use Rattle.spiral_tests.proofs.Edge.{shapes_of}
use Rattle.spiral_tests.proofs.server.first_dimension.Goals as goal

pub products-requires-clause-first_shapes : goal.products-requires-clause-first_shapes
products-requires-clause-first_shapes g c κs le =
    shapes_of c.in_ok-prepared.prepared.set c.deref.result.now (ap (λ (p : PreparedRecords). p.set) c.in_ok-prepared.ensures ∙ c.in_ok-database.ensures)
    (All-same (HasShape 256 3) c.deref.result.now c.args.ready.now.firsts (c.deref.ensures.value ∙ ap (λ (r : Ready). r.firsts) c.ready.view_is) c.requires.firsts_shapes)

pub products-requires-clause-out_shapes : goal.products-requires-clause-out_shapes
products-requires-clause-out_shapes g c κs le =
    shapes_of c.in_ok-prepared.prepared.set c.deref_mut.result.now (ap (λ (p : PreparedRecords). p.set) c.in_ok-prepared.ensures ∙ c.in_ok-database.ensures)
    (All-same (HasShape 256 3) c.deref_mut.result.now c.in_ok-out.out.items c.deref_mut.ensures.value c.in_ok-out.ensures.shapes)

use Rattle.std.proofs.Common.{◌+◌}
use Rattle.spiral_sets.specs.Sets.{rows}
use Rattle.gsw_code.proofs.Products.{shapes_degrees}
use Rattle.gsw_code.proofs.gsw.Gsw.from_columns.Goals as goal

pub forms_of-requires : goal.forms_of-requires
forms_of-requires c = record {
  degrees =
      shapes_degrees c.args.ring.now c.args.set.now.degree (rows c.args.set.now + 1) c.args.columns.now c.requires.ring c.requires.shapes;
}

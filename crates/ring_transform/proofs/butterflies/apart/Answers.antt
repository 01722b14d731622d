use Rattle.ring_transform.proofs.Blocks.{apart_sum, apart_difference}
use Rattle.ring_transform.proofs.butterflies.apart.Goals as goal

pub returns-clause-sum : goal.returns-clause-sum
returns-clause-sum g c =
    apart_sum g.row.P c.args.x c.args.y c.args.w c.product_by-turned.result c.sum_of.result c.requires.modulus.0 c.product_by-turned.ensures.value c.sum_of.ensures.value

pub returns-clause-difference : goal.returns-clause-difference
returns-clause-difference g c =
    apart_difference g.row.P c.args.x c.args.y c.args.w c.product_by-turned.result c.difference_of.result c.requires.modulus.0 c.product_by-turned.ensures.value c.difference_of.ensures.value

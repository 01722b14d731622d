use Rattle.ring_transform.proofs.Factors.{lifted_product}
use Rattle.ring_transform.proofs.butterflies.joined.Goals as goal

pub returns-clause-difference : goal.returns-clause-difference
returns-clause-difference g c =
    lifted_product g.row.P c.args.x c.args.y c.args.w c.product_by.result c.requires.modulus.0 c.requires.y c.product_by.ensures.value

use Rattle.std.proofs.Common.{length, ◌∙◌, ap}
use Rattle.regev_code.proofs.Rows.{product_added}
use Rattle.regev_code.proofs.encrypt.Mask.add_product.Goals as goal

pub returns-clause-value : goal.returns-clause-value
returns-clause-value c =
    product_added c.args.ring.now (length c.self.inside.product) (length c.args.row.now) c.args.self.now c.self.inside.uniform c.args.secret.now c.to_product.new.out
    c.clear.new.self c.mul_add.new.sum c.from_product.new.out c.args.row.now c.add_assign.new.self
    (c.self.invariant.1 ∙ ap length c.self.view_is ∙ c.requires.uniform) c.requires.row c.self.view_is c.to_product.ensures c.clear.ensures c.mul_add.ensures.value c.from_product.ensures c.add_assign.ensures.value

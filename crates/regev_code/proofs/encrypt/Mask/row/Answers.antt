use Rattle.std.proofs.Common.{length, ◌∙◌, ap, sym}
use Rattle.negacyclic.proofs.Lengths.{length-ring_add}
use Rattle.regev_code.proofs.Rows.{row_worked}
use Rattle.regev_code.proofs.encrypt.Mask.row.Goals as goal

pub add_assign-requires : goal.add_assign-requires
add_assign-requires c = c.requires.message ∙ sym (ap length c.add_product.ensures.value ∙ length-ring_add _ _ _ _)

pub returns-clause-value : goal.returns-clause-value
returns-clause-value c =
    row_worked c.args.ring.now (length c.add_product.new.row) c.args.self.now c.args.secret.now c.args.error.now c.in_ok-row.row c.args.message.now
    c.add_product.new.row c.add_assign.new.self (ap length c.add_product.ensures.value ∙ length-ring_add _ _ _ _)
    c.in_ok-row.ensures c.add_product.ensures.value c.add_assign.ensures.value

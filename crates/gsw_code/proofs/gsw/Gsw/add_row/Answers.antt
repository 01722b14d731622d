use Rattle.std.proofs.Common.{◌*◌, ℕ, ap, arith}
use Rattle.gsw_code.proofs.Products.{row_summed}
use Rattle.gsw_code.proofs.gsw.Gsw.add_row.Goals as goal

pub returns-clause-value : goal.returns-clause-value
returns-clause-value c =
    row_summed c.args.ring.now c.args.set.now.w_gsw c.args.r _ _ c.args.x.now c.args.self.now c.self.inside.columns.items c.deref.result.now c.args.sum.now c.add_digit_sum.new.sum
    (ap (λ (t : ℕ). c.args.r * t) c.digit_count-count.ensures.value) (omega arith) c.deref.ensures.value c.self.view_is c.add_digit_sum.ensures.value

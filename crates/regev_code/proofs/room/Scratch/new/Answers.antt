use Rattle.std.proofs.Common.{ℕ, ◌+◌, ◌∙◌, ap, length}
use Rattle.std.proofs.lemmas.List.{length-replicate}
use Rattle.regev_code.proofs.Products.{zeros_shape}
use Rattle.regev_code.proofs.room.Scratch.new.Goals as goal

pub invariant_of-result : goal.invariant_of-result
invariant_of-result c =
    record {
      known = c.requires;
      same = c.in_ok-new.ensures;
      matrix_shape = zeros_shape c.args.set.now.degree (c.args.set.now.n + 1) c.in_ok-zero.field-0 c.in_ok-zero.ensures;
      scalar_shape = zeros_shape c.args.set.now.degree 2 c.in_ok-zero-2.field-0 c.in_ok-zero-2.ensures;
      first_degree = ap length c.in_ok-zero-3.ensures ∙ length-replicate {A = ℕ} c.args.set.now.degree 0;
      second_degree = ap length c.in_ok-zero-4.ensures ∙ length-replicate {A = ℕ} c.args.set.now.degree 0;
    }

use Rattle.std.proofs.Common.{ℕ, length, ap, ◌∙◌}
use Rattle.std.proofs.lemmas.List.{length-replicate}
use Rattle.noise_check.proofs.RowNoises.{opposite_worked}
use Rattle.noise_check.proofs.workspace.write_opposite.Goals as goal

pub returns-clause-value : goal.returns-clause-value
returns-clause-value c =
    c.to_product.ensures
    ∙ opposite_worked c.args.ring.now (length c.args.room.now) (length c.clear.new.self) c.args.secret.now c.clear.new.self c.sub_assign.new.self c.requires.room
    (ap length c.clear.ensures ∙ length-replicate {A = ℕ} (length c.args.room.now) 0 ∙ c.requires.room) c.clear.ensures c.sub_assign.ensures.value

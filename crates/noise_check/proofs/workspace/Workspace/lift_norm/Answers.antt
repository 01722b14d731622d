use Rattle.std.proofs.Common.{length, sym, ap, ◌∙◌, subst}
use Rattle.spiral_model.specs.Dealing.{lift_message}
use Rattle.spiral_model.specs.Noise.{noise_norm, polys_of}
use Rattle.regev_code.specs.Shapes.{scalar_of}
use Rattle.noise_check.specs.Rooms.{MeasuredRow, IsLiftRow}
use Rattle.noise_check.proofs.RowNoises.{norm_is}
use Rattle.noise_check.proofs.LiftNoises.{lift_opposite, lift_message_is}
use Rattle.noise_check.proofs.workspace.Workspace.lift_norm.Goals as goal

pub returns-clause-value : goal.returns-clause-value
returns-clause-value c =
    let set = c.args.set.now in
    let N = c.args.ring.now in
    let here : MeasuredRow = record { degree = length c.self.inside.opposite; secrets = c.self.inside.secrets.now; scalar = c.self.inside.scalar; row = c.self.inside.row } in
    let is : IsLiftRow set N here = subst (λ (m : MeasuredRow). IsLiftRow set N m) (sym c.self.view_is) c.requires.measured in
    norm_is set.degree N here.row c.norm_beyond.result (polys_of set here.secrets.rows) c.self.inside.opposite c.lift_message_into.new.out c.args.cipher.now
    (lift_message set (scalar_of set.degree here.secrets) c.args.r c.args.k) is.ring_degree (lift_opposite set N here c.self.inside.opposite is c.self.invariant.opposite_is)
    (lift_message_is set N here c.args.r c.args.k c.lift_message_into.new.out is c.lift_message_into.ensures.value) c.norm_beyond.ensures.value
    ∙ ap (λ (m : MeasuredRow). noise_norm set.degree (polys_of set m.secrets.rows) c.args.cipher.now (lift_message set (scalar_of set.degree m.secrets) c.args.r c.args.k) m.row)
    c.self.view_is

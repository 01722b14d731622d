use Rattle.std.proofs.Common.{◌+◌, length, sym, ap, ◌∙◌, subst}
use Rattle.spiral_model.specs.Noise.{noise_norm}
use Rattle.spiral_model.specs.Queries.{first_messages}
use Rattle.gsw_code.specs.Columns.{row_secrets_of}
use Rattle.noise_check.specs.Rooms.{MeasuredRow, IsRowOf}
use Rattle.noise_check.proofs.RowNoises.{norm_is, row_opposite, first_message_is}
use Rattle.noise_check.proofs.workspace.Workspace.first_norm.Goals as goal

pub returns-clause-value : goal.returns-clause-value
returns-clause-value c =
    let set = c.args.set.now in
    let N = c.args.ring.now in
    let here : MeasuredRow = record { degree = length c.self.inside.opposite; secrets = c.self.inside.secrets.now; scalar = c.self.inside.scalar; row = c.self.inside.row } in
    let is : IsRowOf set N here = subst (λ (m : MeasuredRow). IsRowOf set N m) (sym c.self.view_is) c.requires.measured in
    norm_is set.degree N here.row c.norm_beyond.result (row_secrets_of set here.secrets) c.self.inside.opposite c.first_message_into.new.out c.args.column.now
    (first_messages set c.args.index c.args.u (c.args.c + 1)) is.ring_degree (row_opposite set N here c.self.inside.opposite is c.self.invariant.opposite_is)
    (first_message_is set N here c.args.index c.args.u (c.args.c + 1) c.first_message_into.new.out is c.first_message_into.ensures.value) c.norm_beyond.ensures.value
    ∙ ap (λ (m : MeasuredRow). noise_norm set.degree (row_secrets_of set m.secrets) c.args.column.now (first_messages set c.args.index c.args.u (c.args.c + 1)) m.row) c.self.view_is

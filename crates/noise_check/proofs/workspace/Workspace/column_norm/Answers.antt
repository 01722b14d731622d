use Rattle.std.proofs.Common.{length, sym, ap, ◌∙◌, subst, if◌then◌else◌}
use Rattle.spiral_model.specs.Words.{Cipher}
use Rattle.spiral_model.specs.Noise.{noise_norm}
use Rattle.spiral_model.specs.Queries.{gsw_messages}
use Rattle.gsw_code.specs.Columns.{row_secrets_of}
use Rattle.noise_check.specs.Rooms.{MeasuredRow, IsRowOf}
use Rattle.noise_check.proofs.RowNoises.{norm_is, row_held, row_opposite, column_message_is, column_term}
use Rattle.noise_check.proofs.workspace.Workspace.column_norm.Goals as goal

pub column_message_into-requires-clause-last : goal.column_message_into-requires-clause-last
column_message_into-requires-clause-last c =
    let here : MeasuredRow = record { degree = length c.self.inside.opposite; secrets = c.self.inside.secrets.now; scalar = c.self.inside.scalar; row = c.self.inside.row } in
    let is : IsRowOf c.args.set.now c.args.ring.now here = subst (λ (m : MeasuredRow). IsRowOf c.args.set.now c.args.ring.now m) (sym c.self.view_is) c.requires.measured in
    row_held c.args.set.now c.args.ring.now c.args.ring.now here is c.self.invariant.within

pub returns-clause-value : goal.returns-clause-value
returns-clause-value c =
    let set = c.args.set.now in
    let N = c.args.ring.now in
    let bit = if c.args.bit then 1 else 0 in
    let here : MeasuredRow = record { degree = length c.self.inside.opposite; secrets = c.self.inside.secrets.now; scalar = c.self.inside.scalar; row = c.self.inside.row } in
    let is : IsRowOf set N here = subst (λ (m : MeasuredRow). IsRowOf set N m) (sym c.self.view_is) c.requires.measured in
    let messages = gsw_messages set (row_secrets_of set here.secrets) bit c.args.r c.args.k in
    norm_is set.degree N here.row c.norm_beyond.result (row_secrets_of set here.secrets) c.self.inside.opposite c.column_message_into.new.out c.column.result.now messages is.ring_degree
    (row_opposite set N here c.self.inside.opposite is c.self.invariant.opposite_is)
    (column_message_is set N here bit c.power_of-power.result c.args.r c.args.k c.column_message_into.new.out is c.power_of-power.ensures.value c.column_message_into.ensures.value)
    c.norm_beyond.ensures.value
    ∙ ap (λ (d : Cipher). noise_norm set.degree (row_secrets_of set here.secrets) d messages here.row) c.column.ensures.value
    ∙ ap (λ (m : MeasuredRow). column_term set m bit c.args.gsw.now c.args.r c.args.k) c.self.view_is

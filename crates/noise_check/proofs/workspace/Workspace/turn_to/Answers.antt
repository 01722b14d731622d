use Rattle.std.proofs.Common.{◌≡◌, ◌<◌, ℕ, length, ap, sym, ◌∙◌, arith}
use Rattle.regev_code.specs.Shapes.{numbers_under}
use Rattle.noise_check.specs.Rooms.{MeasuredRow, opposite}
use Rattle.noise_check.proofs.RowNoises.{key_degree, opposite_degree, room_of}
use Rattle.noise_check.proofs.workspace.Workspace.turn_to.Goals as goal

pub write_opposite-requires-clause-secret : goal.write_opposite-requires-clause-secret
write_opposite-requires-clause-secret c =
    let seen = ap (λ (m : MeasuredRow). length (numbers_under m.secrets c.args.scalar)) c.self.view_is in
    let within : c.args.row < length (numbers_under c.self.inside.secrets.now c.args.scalar) = omega arith in
    key_degree (length c.self.inside.opposite) c.self.inside.secrets.now c.args.scalar c.args.row c.poly-secret.result.now c.self.invariant.degrees within c.poly-secret.ensures
    ∙ ap (λ (m : MeasuredRow). m.degree) c.self.view_is ∙ c.requires.degree

pub invariant_of-self : goal.invariant_of-self
invariant_of-self c =
    let seen = ap (λ (m : MeasuredRow). length (numbers_under m.secrets c.args.scalar)) c.self.view_is in
    let within : c.args.row < length (numbers_under c.self.inside.secrets.now c.args.scalar) = omega arith in
    let N : ℕ = length c.self.inside.opposite in
    let same : c.args.ring.now ≡ N = sym (ap (λ (m : MeasuredRow). m.degree) c.self.view_is ∙ c.requires.degree) in
    room_of N c.self.inside.secrets.now c.args.scalar c.args.row c.poly-secret.result.now c.write_opposite.new.out c.self.inside.form c.write_opposite.new.room
    c.self.inside.message c.self.invariant.degrees within c.requires.few c.poly-secret.ensures
    (c.write_opposite.ensures.value ∙ ap (λ (n : ℕ). opposite n c.poly-secret.result.now) same) c.self.invariant.form_degree (c.write_opposite.ensures.room ∙ same)
    c.self.invariant.message_degree

pub returns : goal.returns
returns c =
    let same : c.args.ring.now ≡ length c.self.inside.opposite = sym (ap (λ (m : MeasuredRow). m.degree) c.self.view_is ∙ c.requires.degree) in
    let size : length c.write_opposite.new.out ≡ length c.self.inside.opposite =
    opposite_degree c.args.ring.now c.poly-secret.result.now c.write_opposite.new.out c.write_opposite.ensures.value ∙ same in
    let turned : ℕ → MeasuredRow = λ n. record { degree = n; secrets = c.self.inside.secrets.now; scalar = c.args.scalar; row = c.args.row } in
    ap turned size ∙ ap (λ (m : MeasuredRow). record m { scalar = c.args.scalar; row = c.args.row }) c.self.view_is

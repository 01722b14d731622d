use Rattle.std.proofs.Common.{ℕ, false, length, ap, ◌∙◌, arith}
use Rattle.std.proofs.lemmas.List.{length-replicate}
use Rattle.noise_check.specs.Rooms.{MeasuredRow}
use Rattle.noise_check.proofs.RowNoises.{key_degree, opposite_degree, room_of}
use Rattle.noise_check.proofs.workspace.Workspace.new.Goals as goal

pub write_opposite-requires-clause-secret : goal.write_opposite-requires-clause-secret
write_opposite-requires-clause-secret c = key_degree c.args.ring.now c.args.secrets.now false 0 c.poly.result.now c.requires.degrees c.requires.some c.poly.ensures

pub invariant_of-result : goal.invariant_of-result
invariant_of-result c =
    let size = length-replicate {A = ℕ} c.degree-degree.result 0 ∙ c.degree-degree.ensures.value in
    room_of c.args.ring.now c.args.secrets.now false 0 c.poly.result.now c.write_opposite.new.out c.in_ok-zero.field-0 c.write_opposite.new.room c.in_ok-zero-2.field-0
    c.requires.degrees c.requires.some (omega arith) c.poly.ensures c.write_opposite.ensures.value (ap length c.in_ok-zero.ensures ∙ size) c.write_opposite.ensures.room
    (ap length c.in_ok-zero-2.ensures ∙ size)

pub returns : goal.returns
returns c =
    let made : ℕ → MeasuredRow = λ n. record { degree = n; secrets = c.args.secrets.now; scalar = false; row = 0 } in
    ap made (opposite_degree c.args.ring.now c.poly.result.now c.write_opposite.new.out c.write_opposite.ensures.value)

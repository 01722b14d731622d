use Rattle.std.proofs.Common.{◌<◌, ◌-◌, ◌∙◌, length, ap, arith, ℕ, pos, ◌==◌, if◌then◌else◌}
use Rattle.negacyclic.proofs.Reduction.{scale_residue}
use Rattle.ring_poly.proofs.Modulus.{q_some}
use Rattle.spiral_sets.specs.Sets.{q}
use Rattle.regev_code.specs.Shapes.{numbers_under, under}
use Rattle.regev_code.proofs.Rows.{under_at, under-length, under-count}
use Rattle.gsw_code.proofs.ColumnMessages.{message_negative, message_row}
use Rattle.gsw_code.proofs.intended.column_message_into.Goals as goal

pub scale-requires-clause-degree : goal.scale-requires-clause-degree
scale-requires-clause-degree c =
    let within : c.args.row - 1 < length (numbers_under c.args.secret.now c.args.scalar) = omega (arith, under-count c.args.ring.now c.args.secret.now c.args.scalar) in
    under-length c.args.ring.now c.args.secret.now c.args.scalar (c.args.row - 1) c.poly-key.result.now c.requires.degree within c.poly-key.ensures

pub returns-then-r-eq0-clause-value : goal.returns-then-r-eq0-clause-value
returns-then-r-eq0-clause-value c =
    let N = c.args.ring.now in
    let within : c.args.row - 1 < length (numbers_under c.args.secret.now c.args.scalar) = omega (arith, under-count N c.args.secret.now c.args.scalar) in
    let key = under_at N c.args.secret.now c.args.scalar (c.args.row - 1) c.poly-key.result.now c.requires.degree within c.poly-key.ensures in
    message_negative N (under N c.args.secret.now c.args.scalar) c.args.power c.args.r c.args.row c.poly-key.result.now c.scale.new.out c.if-r-eq0.true key
    (c.scale.ensures.value ∙ scale_residue q N _ _ c.poly-key.result.now q_some c.negative.ensures.value)

pub returns-else-r-eq0-clause-value : goal.returns-else-r-eq0-clause-value
returns-else-r-eq0-clause-value c =
    message_row c.args.ring.now (length c.args.out.now) (under c.args.ring.now c.args.secret.now c.args.scalar) c.args.power c.args.r c.args.row c.value_in.result c.put_constant.new.self
    (omega arith) c.requires.room c.value_in.ensures.value c.put_constant.ensures.value

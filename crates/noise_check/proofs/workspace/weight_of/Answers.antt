use Rattle.std.proofs.Common.{ℤ, not, nat_eq, unsigned_abs, if◌then◌else◌, w8, ◌∙◌, ap, arith}
use Rattle.std.proofs.lemmas.Int.{to_z-of_z}
use Rattle.regev_code.specs.Shapes.{secret_row}
use Rattle.noise_check.proofs.ReportRows.{weight_more}
use Rattle.noise_check.proofs.workspace.weight_of.Goals as goal

pub loop-place-preserved : goal.loop-place-preserved
loop-place-preserved c =
    let kept = to_z-of_z w8 c.number.result (record { sfits = c.number.type_inv }) in
    let more = weight_more (secret_row c.args.secrets.now c.args.r) c.loop-place.place c.number.result c.counts-weight.result (omega arith) c.number.ensures.value
    (c.counts-weight.ensures.value ∙ ap (λ (z : ℤ). if not (nat_eq (unsigned_abs z) 0) then 1 else 0) kept) in
    record { value = omega (arith, more); size = omega arith }

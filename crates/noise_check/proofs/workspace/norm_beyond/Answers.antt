use Rattle.std.proofs.Common.{◌≡◌, ◌≤◌, length, ap, ◌∙◌, arith, inl, inr}
use Rattle.negacyclic.specs.Residues.{norm}
use Rattle.negacyclic.specs.Ring.{ring_add, ring_mul}
use Rattle.spiral_sets.specs.Sets.{q}
use Rattle.spiral_model.specs.Words.{Poly}
use Rattle.noise_check.proofs.RowNoises.{beyond_worked, norm_size}
use Rattle.noise_check.proofs.workspace.norm_beyond.Goals as goal

-- how many coefficients the phase has
phase_degree : (c : goal.After-norm1) → length c.from_product.new.out ≡ c.args.ring.now
phase_degree c = ap length c.from_product.ensures ∙ c.add_assign.ensures.degree ∙ c.mul_add.ensures.degree

pub returns-clause-value : goal.returns-clause-value
returns-clause-value c =
    let N = c.args.ring.now in
    let M = length c.mul_add.new.sum in
    c.norm1.ensures.value
    ∙ ap (norm q)
    (beyond_worked N (length c.args.form.now) M (length c.from_product.new.out) c.args.row c.args.opposite.now c.clear.new.self c.mul_add.new.sum c.add_assign.new.self
    c.from_product.new.out c.sub_assign.new.self c.args.message.now c.args.column.now c.requires.form c.mul_add.ensures.degree (phase_degree c) c.clear.ensures
    (c.mul_add.ensures.value ∙ ap (λ (b : Poly). ring_add q N c.clear.new.self (ring_mul q N c.args.opposite.now b)) c.row.ensures)
    (c.add_assign.ensures.value ∙ ap (ring_add q M c.mul_add.new.sum) c.row-2.ensures) c.from_product.ensures c.sub_assign.ensures.value)

pub returns-clause-size : goal.returns-clause-size
returns-clause-size c =
    let short : c.args.ring.now ≤ 2048 = elim c.degree.ensures.known [ inl e ↦ omega arith | inr e ↦ omega arith ] in
    norm_size c.args.ring.now (length c.sub_assign.new.self) c.norm1.result (c.sub_assign.ensures.degree ∙ phase_degree c) short c.norm1.ensures.size

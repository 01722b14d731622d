use Rattle.std.proofs.Common.{◌≡◌, ◌+◌, ◌*◌, ◌≤◌, ◌<◌, ◌^◌, ℕ, length, sym, ◌∙◌, ap, arith}
use Rattle.std.proofs.Math.Nat.{mul-le-mul_right}
use Rattle.std.proofs.lemmas.List.Elements.{All-same}
use Rattle.negacyclic.specs.Digits.{digit_poly}
use Rattle.negacyclic.proofs.Filled.{pieces_more, pieces_all}
use Rattle.spiral_sets.specs.Sets.{q}
use Rattle.gadget_digits.proofs.DigitRows.{first_rows, length-digit_poly, first_rows-residues, first_rows-width}
use Rattle.gadget_digits.proofs.digits_into.Goals as goal

pub loop-k-preserved : goal.loop-k-preserved
loop-k-preserved c =
    let n = length c.args.x.now in
    let size : length c.args.out.now ≡ c.digit_count-count.result * n = c.requires.room ∙ ap (λ (t : ℕ). t * n) (sym c.digit_count-count.ensures.value) in
    let more : (c.loop-k.k + 1) * n ≤ c.digit_count-count.result * n = mul-le-mul_right n (omega arith) in
    pieces_more (λ (k : ℕ). digit_poly c.args.w k c.args.x.now) n c.loop-k.k _ c.loop-k.out c.digit_row.new.out (omega arith)
    (ap length c.digit_row.ensures ∙ length-digit_poly c.args.w c.loop-k.k c.args.x.now) c.loop-k.invariant c.digit_row.ensures

all_rows : (c : goal.After-loop-k) → c.loop-k.out ≡ first_rows c.args.w c.args.x.now c.digit_count-count.result
all_rows c =
    let size : length c.args.out.now ≡ c.digit_count-count.result * length c.args.x.now = c.requires.room ∙ ap (λ (t : ℕ). t * length c.args.x.now) (sym c.digit_count-count.ensures.value) in
    pieces_all (λ (k : ℕ). digit_poly c.args.w k c.args.x.now) (length c.args.x.now) c.digit_count-count.result c.loop-k.k c.loop-k.out (omega arith)
    c.loop-k.auto.k-end c.loop-k-test.false c.loop-k.invariant

pub returns-clause-residues : goal.returns-clause-residues
returns-clause-residues c =
    All-same (λ (d : ℕ). d < q) _ _ (all_rows c) (first_rows-residues c.args.w c.args.x.now c.digit_count-count.result c.requires.residues)

pub returns-clause-width : goal.returns-clause-width
returns-clause-width c =
    All-same (λ (d : ℕ). d < 2 ^ c.args.w) _ _ (all_rows c) (first_rows-width c.args.w c.args.x.now c.digit_count-count.result)

use Rattle.std.proofs.Common.{◌≡◌, ℕ, ◌%◌, pos, ◌+ℤ◌, map, length, get_or, arith, sym, ◌∙◌, ap}
use Rattle.std.proofs.lemmas.List.{get_or-map}
use Rattle.negacyclic.specs.Residues.{residue}
use Rattle.negacyclic.specs.Ring.{at, ring_add}
use Rattle.negacyclic.proofs.Filled.{filled_combined, filled_reduced, filled_residues}
use Rattle.word_prime.proofs.lanes.add_reduced_lanes.Goals as goal

pub loop-i-preserved : goal.loop-i-preserved
loop-i-preserved g c =
    let read : get_or (map (λ (s : ℕ). s % g.row.P) c.args.sums.now) c.loop-i.i 0 ≡ get_or c.args.sums.now c.loop-i.i 0 % g.row.P =
    get_or-map (λ (s : ℕ). s % g.row.P) c.args.sums.now c.loop-i.i 0 0 (omega arith) in
    filled_combined g.row.P (λ x y. x +ℤ y) c.args.out.now (map (λ s. s % g.row.P) c.args.sums.now) c.loop-i.i c.loop-i.out c.sum_of.result (omega arith) c.loop-i.invariant
    (c.sum_of.ensures.value
    ∙ ap (λ (m : ℕ). residue g.row.P (pos (get_or c.loop-i.out c.loop-i.i 0) +ℤ pos (get_or c.args.sums.now c.loop-i.i 0 % m))) c.from.ensures
    ∙ ap (λ (y : ℕ). residue g.row.P (pos (get_or c.loop-i.out c.loop-i.i 0) +ℤ pos y)) (sym read))

pub returns-clause-value : goal.returns-clause-value
unfolding ring_add
returns-clause-value g c =
    filled_reduced g.row.P (length c.args.out.now) (λ (k : ℕ). at c.args.out.now k +ℤ at (map (λ s. s % g.row.P) c.args.sums.now) k) c.args.out.now c.loop-i.i c.loop-i.out (omega arith) (omega arith) c.loop-i.invariant

pub returns-clause-residues : goal.returns-clause-residues
returns-clause-residues g c =
    filled_residues g.row.P (λ (k : ℕ). at c.args.out.now k +ℤ at (map (λ s. s % g.row.P) c.args.sums.now) k) c.args.out.now c.loop-i.i c.loop-i.out c.requires.modulus.0 (omega arith) c.loop-i.invariant

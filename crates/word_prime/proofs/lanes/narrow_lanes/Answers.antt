use Rattle.std.proofs.Common.{◌≡◌, ℕ, ◌%◌, ◌<◌, map, get_or, arith, sym, ◌∙◌, length, mod-eq_of_lt, mod-lt, All}
use Rattle.std.proofs.lemmas.List.{get_or-map, length-map}
use Rattle.std.proofs.lemmas.List.Elements.{All-map, All-same}
use Rattle.negacyclic.proofs.Filled.{filled_more, filled_from}
use Rattle.word_prime.proofs.lanes.narrow_lanes.Goals as goal

pub loop-i-preserved : goal.loop-i-preserved
loop-i-preserved g c =
    let inside : c.loop-i.i < length c.args.numbers.now = omega (arith, c.requires.same_length) in
    let below : get_or c.args.numbers.now c.loop-i.i 0 < g.row.P = c.requires.below c.loop-i.i 0 inside in
    filled_more (λ (k : ℕ). get_or (map (λ s. s % g.row.P) c.args.numbers.now) k 0) c.args.out.now c.loop-i.i c.loop-i.out _ (omega arith) c.loop-i.invariant
    (sym (get_or-map (λ (s : ℕ). s % g.row.P) c.args.numbers.now c.loop-i.i 0 0 inside ∙ mod-eq_of_lt below))

pub returns-clause-value : goal.returns-clause-value
returns-clause-value g c =
    filled_from (map (λ (s : ℕ). s % g.row.P) c.args.numbers.now) 0 c.args.out.now c.loop-i.i c.loop-i.out (omega arith)
    (c.requires.same_length ∙ sym (length-map c.args.numbers.now (λ (s : ℕ). s % g.row.P))) c.loop-i.invariant

pub returns-clause-residues : goal.returns-clause-residues
returns-clause-residues g c =
    All-same (λ (x : ℕ). x < g.row.P) c.loop-i.out (map (λ (s : ℕ). s % g.row.P) c.args.numbers.now) (returns-clause-value g c)
    (All-map (λ (x : ℕ). x < g.row.P) (λ (s : ℕ). s % g.row.P) c.args.numbers.now
    (λ k d h. mod-lt (get_or c.args.numbers.now k d) (let below : get_or c.args.numbers.now k d < g.row.P = c.requires.below k d h in omega (arith, below))))

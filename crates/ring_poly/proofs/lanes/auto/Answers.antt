use Rattle.std.proofs.Common.{ℕ, ◌<◌, ◌∙◌, ap, length, replicate, arith}
use Rattle.std.proofs.lemmas.List.Elements.{All-same}
use Rattle.negacyclic.proofs.Lengths.{zeros_below}
use Rattle.negacyclic.specs.Ring.{at}
use Rattle.ring_poly.proofs.Terms.{no_terms, one_term_more, all_terms}
use Rattle.ring_poly.proofs.lanes.auto.Goals as goal

pub loop-i-init : goal.loop-i-init
loop-i-init g c =
    record {
      terms = no_terms g.row.P (length c.args.a.now) c.args.g c.args.a.now c.clear.new.a c.requires.modulus.0 (c.clear.ensures ∙ ap (λ (n : ℕ). replicate n 0) c.requires.same_length);
      residues = All-same (λ x. x < g.row.P) c.clear.new.a (replicate (length c.args.out.now) 0) c.clear.ensures (zeros_below g.row.P (length c.args.out.now) c.requires.modulus.0);
    }

pub loop-i-preserved : goal.loop-i-preserved
unfolding at
loop-i-preserved g c =
    record {
      terms = one_term_more g.row.P (length c.args.a.now) c.args.g c.loop-i.i c.args.a.now c.loop-i.out c.add_power.new.a c.requires.modulus.0 c.loop-i.invariant.terms c.add_power.ensures.value;
      residues = c.add_power.ensures.residues;
    }

pub returns-clause-value : goal.returns-clause-value
returns-clause-value g c = all_terms g.row.P c.loop-i.i c.args.g c.args.a.now c.loop-i.out (omega arith) (omega arith) c.loop-i.invariant.terms

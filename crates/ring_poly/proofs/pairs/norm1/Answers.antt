use Rattle.std.proofs.Common.{◌≡◌, ℕ, ◌-◌, ◌/◌, ◌+◌, ◌*◌, ◌≤◌, unsigned_abs, get_or, take_all, sym, ◌∙◌, ap, arith}
use Rattle.negacyclic.specs.Residues.{cen, norm}
use Rattle.spiral_sets.specs.Sets.{q}
use Rattle.negacyclic.proofs.Reduction.{norm_none, norm_more}
use Rattle.word_prime.specs.Halves.{joined}
use Rattle.word_prime.proofs.Joined.{length-joined, joined-at}
use Rattle.ring_poly.proofs.pairs.norm1.Goals as goal

-- one more number below a bound
more_below : (i h sum x : ℕ) → sum ≤ i * h → x ≤ h → sum + x ≤ (i + 1) * h
more_below i h sum x so_far here = omega arith

pub loop-k-init : goal.loop-k-init
loop-k-init c = record { value = sym (norm_none q); half = omega arith; size = omega arith }

pub loop-k-preserved : goal.loop-k-preserved
loop-k-preserved c =
    let ones = c.args.ones.now in
    let twos = c.args.twos.now in
    let place : get_or (joined ones twos) c.loop-k.k 0 ≡ c.join_pair.result =
    joined-at ones twos c.loop-k.k c.join_pair.result (omega arith) c.join_pair.ensures.below c.join_pair.ensures.first c.join_pair.ensures.second in
    let more = more_below c.loop-k.k ((q - 1) / 2) c.loop-k.sum c.magnitude.result c.loop-k.invariant.half c.magnitude.ensures.half in
    record {
      value = omega (arith, norm_more q (joined ones twos) c.loop-k.k (omega (arith, length-joined ones twos)), ap (λ (x : ℕ). unsigned_abs (cen q x)) place, c.magnitude.ensures.value, c.from-sum.ensures);
      half = omega (arith, more, c.from-sum.ensures);
      size = omega (arith, c.magnitude.ensures.size, c.from-sum.ensures);
    }

pub returns-clause-value : goal.returns-clause-value
returns-clause-value c =
    c.loop-k.invariant.value ∙ ap (norm q) (take_all c.loop-k.k (joined c.args.ones.now c.args.twos.now) (omega (arith, length-joined c.args.ones.now c.args.twos.now)))

use Rattle.std.proofs.Common.{◌≡◌, true, false, ap, sym, ◌∙◌, arith, List, ℕ}
use Rattle.std.specs.Prelude.{nat_eq}
use lib.Pointwise.{pointwise}
use Rattle.spiral_sets.specs.Sets.{name_of}
use Rattle.frame_headers.proofs.HeaderReading.{named, unnamed_all, unnamed_more}
use Rattle.frame_headers.proofs.header.set_of_name.Goals as goal

pub returns-then-eq-clause-value : goal.returns-then-eq-clause-value
returns-then-eq-clause-value c =
    let set = c.set_at-set.result in
    let text : c.as_bytes.result.now ≡ name_of set = c.as_bytes.ensures.value ∙ c.name.ensures in
    let same : pointwise nat_eq c.args.name.now (name_of set) ≡ true =
    ap (λ (other : List ℕ). pointwise nat_eq c.args.name.now other) (sym text) ∙ sym c.eq.ensures ∙ c.if-eq.true in
    sym (named c.args.name.now set c.set_at-set.ensures.is_set same)

pub loop-i-preserved : goal.loop-i-preserved
loop-i-preserved c =
    let set = c.set_at-set.result in
    let text : c.as_bytes.result.now ≡ name_of set = c.as_bytes.ensures.value ∙ c.name.ensures in
    let other : pointwise nat_eq c.args.name.now (name_of set) ≡ false =
    ap (λ (other : List ℕ). pointwise nat_eq c.args.name.now other) (sym text) ∙ sym c.eq.ensures ∙ c.if-eq.false in
    unnamed_more c.args.name.now c.loop-i.i set c.loop-i.invariant (omega arith) c.set_at-set.ensures.value other

pub returns-clause-value : goal.returns-clause-value
returns-clause-value c = sym (unnamed_all c.args.name.now c.loop-i.i (omega arith) c.loop-i.invariant)

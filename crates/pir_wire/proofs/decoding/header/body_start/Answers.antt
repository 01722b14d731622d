use Rattle.std.proofs.Common.{arith, ◌≡◌, ℕ, ◌∙◌, subst, length}
use Rattle.pir_wire.specs.Headers.{BeginsWith}
use Rattle.pir_wire.proofs.Headers.{begun, not_begun}
use Rattle.pir_wire.proofs.decoding.header.body_start.Goals as goal

pub returns-clause-found : goal.returns-clause-found
returns-clause-found c =
    let len : length c.deref.result.now ≡ c.len.result = omega (arith, c.deref.ensures.len) in
    subst (λ (start : ℕ). BeginsWith c.args.kind c.args.bytes.now c.args.set.now start) len
    (begun c.args.kind c.args.set.now c.args.bytes.now c.deref.result.now c.starts_with.result (c.deref.ensures.value ∙ c.in_ok-header.ensures)
    c.starts_with.ensures.value c.requires (c.starts_with.ensures.bound c.if-not-starts_with.false) c.if-not-starts_with.false)

pub returns-then-not-starts_with-clause-none : goal.returns-then-not-starts_with-clause-none
returns-then-not-starts_with-clause-none c =
    not_begun c.args.kind c.args.set.now c.args.bytes.now c.deref.result.now c.starts_with.result (c.deref.ensures.value ∙ c.in_ok-header.ensures)
    c.starts_with.ensures.value c.if-not-starts_with.true

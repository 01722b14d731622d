use Rattle.std.proofs.Common.{◌≡◌, ◌<◌, ℕ, List, length, sym, ◌∙◌, arith}
use Rattle.std.proofs.lemmas.List.{take_rest}
use Rattle.std.proofs.lemmas.Option.{MatchOption-at_none, MatchOption-at_some}
use Rattle.bit_packing.proofs.Windows.{bytes_below}
use Rattle.spiral_sets.specs.Sets.{max_records}
use Rattle.spiral_sets.specs.Counts.{state_len}
use Rattle.frame_headers.specs.declared.kind.FrameKind.TheVariants.{State}
use Rattle.pir_wire.specs.Bodies.{IsBodyOf}
use Rattle.pir_wire.proofs.States.{index_below, secret_of_state, state_from_parts}
use Rattle.pir_wire.proofs.WholeFrames.{length_of_body, of_kind}
use Rattle.pir_wire.proofs.decoding.state.ClientStateFramedMessage.from_body.Goals as goal

pub returns-then-body-state_len-clause-none : goal.returns-then-body-state_len-clause-none
returns-then-body-state_len-clause-none c =
    λ m kind_is is. omega (arith, c.if-body-state_len.true, length_of_body State tt m kind_is c.args.set.now c.args.body.now is, c.state_len.ensures)

pub returns-then-index-max_records-clause-none : goal.returns-then-index-max_records-clause-none
returns-then-index-max_records-clause-none c =
    of_kind (λ m. IsBodyOf c.args.set.now c.args.body.now m → ⊥) State
    (λ state is. omega (arith, index_below c.args.set.now c.args.body.now state is, c.number_at-index.ensures, c.max_records.ensures))

pub returns-in_default-clause-none : goal.returns-in_default-clause-none
returns-in_default-clause-none c =
    of_kind (λ m. IsBodyOf c.args.set.now c.args.body.now m → ⊥) State
    (λ state is.
    MatchOption-at_none _ _ c.in_default.is c.in_ok-secret.ensures.none state.secret is.kept.ternary
    (secret_of_state c.args.set.now c.args.body.now state is ∙ sym (take_rest c.args.body.now 8)))

pub returns-clause-found : goal.returns-clause-found
returns-clause-found c =
    let body : List ℕ = c.args.body.now in
    let len : length body ≡ state_len c.args.set.now = omega (arith, c.if-body-state_len.false, c.state_len.ensures) in
    let low : c.number_at-index.result < max_records c.args.set.now = omega (arith, c.if-index-max_records.false, c.max_records.ensures) in
    state_from_parts c.args.set.now body c.number_at-index.result c.in-Some.secret.items c.requires (bytes_below body c.type_inv.body) len
    c.number_at-index.ensures low
    (MatchOption-at_some _ _ c.in-Some.secret c.in-Some.is c.in_ok-secret.ensures.ternary)
    (MatchOption-at_some _ _ c.in-Some.secret c.in-Some.is c.in_ok-secret.ensures.spelled ∙ take_rest body 8)

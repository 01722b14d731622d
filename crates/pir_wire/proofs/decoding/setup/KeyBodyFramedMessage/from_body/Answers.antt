use Rattle.std.proofs.Common.{◌≡◌, ℕ, ◌+◌, List, length, refl, sym, ◌∙◌, subst, arith}
use Rattle.std.proofs.lemmas.Option.{MatchOption-at_none, MatchOption-at_some}
use Rattle.spiral_sets.specs.declared.param_set.ParamSet.{ParamSet}
use Rattle.spiral_sets.specs.Sets.{rows}
use Rattle.spiral_sets.specs.Counts.{setup_len}
use Rattle.frame_headers.specs.declared.kind.FrameKind.TheVariants.{Setup}
use Rattle.spiral_model.specs.Words.{Cipher}
use Rattle.spiral_frames.specs.Frames.{setup_message}
use Rattle.spiral_frames.proofs.SetupBodies.{rounds_count, lifts_count, conversions_count, rounds_len, lifts_len, lifts_start, conversions_start, rounds_of, lifts_of, conversions_of}
use Rattle.pir_wire.specs.Bodies.{IsBodyOf}
use Rattle.pir_wire.proofs.Setups.{same_run, rounds_room, lifts_room, conversions_room, setup_of_ciphers, rounds_of_setup, lifts_of_setup, conversions_of_setup}
use Rattle.pir_wire.proofs.WholeFrames.{length_of_body, of_kind}
use Rattle.pir_wire.proofs.decoding.setup.KeyBodyFramedMessage.from_body.Goals as goal

pub returns-then-body-setup_len-clause-none : goal.returns-then-body-setup_len-clause-none
returns-then-body-setup_len-clause-none c =
    λ m kind_is is. omega (arith, c.if-body-setup_len.true, length_of_body Setup tt m kind_is c.args.set.now c.args.body.now is, c.setup_len.ensures)

pub ciphers_at-requires-clause-room : goal.ciphers_at-requires-clause-room
ciphers_at-requires-clause-room c =
    let size : length c.args.body.now ≡ setup_len c.args.set.now = omega (arith, c.if-body-setup_len.false, c.setup_len.ensures) in
    rounds_room c.args.set.now c.args.body.now size c.rounds_count.result c.rounds_count.ensures

pub returns-in_default-clause-none : goal.returns-in_default-clause-none
returns-in_default-clause-none c =
    let set : ParamSet = c.args.set.now in
    let body : List ℕ = c.args.body.now in
    of_kind (λ m. IsBodyOf set body m → ⊥) Setup
    (λ keys is.
    MatchOption-at_none _ _ c.in_default.is c.in_ok-rounds.ensures.none (rounds_of keys)
    (same_run set.degree 1 1 (rounds_count set) c.rounds_count.result 0 0 body (rounds_of keys)
    refl (sym c.rounds_count.ensures) refl (rounds_of_setup set body keys is)))

pub ciphers_at-requires-2-clause-room : goal.ciphers_at-requires-2-clause-room
ciphers_at-requires-2-clause-room c =
    let size : length c.args.body.now ≡ setup_len c.args.set.now = omega (arith, c.if-body-setup_len.false, c.setup_len.ensures) in
    lifts_room c.args.set.now c.args.body.now size c.lifts_count.result c.lifts_start-lifts_at.result c.lifts_count.ensures
    (c.lifts_start-lifts_at.ensures ∙ lifts_start c.args.set.now)

pub returns-in_default-2-clause-none : goal.returns-in_default-2-clause-none
returns-in_default-2-clause-none c =
    let set : ParamSet = c.args.set.now in
    let body : List ℕ = c.args.body.now in
    of_kind (λ m. IsBodyOf set body m → ⊥) Setup
    (λ keys is.
    MatchOption-at_none _ _ c.in_default-2.is c.in_ok-lifts.ensures.none (lifts_of keys)
    (same_run set.degree set.n set.n (lifts_count set) c.lifts_count.result (rounds_len set) c.lifts_start-lifts_at.result body (lifts_of keys)
    refl (sym c.lifts_count.ensures) (sym (c.lifts_start-lifts_at.ensures ∙ lifts_start set)) (lifts_of_setup set body keys is)))

pub ciphers_at-requires-3-clause-room : goal.ciphers_at-requires-3-clause-room
ciphers_at-requires-3-clause-room c =
    let size : length c.args.body.now ≡ setup_len c.args.set.now = omega (arith, c.if-body-setup_len.false, c.setup_len.ensures) in
    conversions_room c.args.set.now c.args.body.now size c.rows.result c.conversions_count-count.result c.conversions_start-conversions_at.result
    c.rows.ensures.value c.conversions_count-count.ensures (c.conversions_start-conversions_at.ensures ∙ conversions_start c.args.set.now)

pub returns-in_default-3-clause-none : goal.returns-in_default-3-clause-none
returns-in_default-3-clause-none c =
    let set : ParamSet = c.args.set.now in
    let body : List ℕ = c.args.body.now in
    of_kind (λ m. IsBodyOf set body m → ⊥) Setup
    (λ keys is.
    MatchOption-at_none _ _ c.in_default-3.is c.in_ok-conversions.ensures.none (conversions_of keys)
    (same_run set.degree (rows set) c.rows.result (conversions_count set) c.conversions_count-count.result (rounds_len set + lifts_len set)
    c.conversions_start-conversions_at.result body (conversions_of keys) (sym c.rows.ensures.value) (sym c.conversions_count-count.ensures)
    (sym (c.conversions_start-conversions_at.ensures ∙ conversions_start set)) (conversions_of_setup set body keys is)))

pub returns-clause-found : goal.returns-clause-found
returns-clause-found c =
    let set : ParamSet = c.args.set.now in
    let body : List ℕ = c.args.body.now in
    let size : length body ≡ setup_len set = omega (arith, c.if-body-setup_len.false, c.setup_len.ensures) in
    subst (λ (ciphers : List Cipher). IsBodyOf set body (setup_message (record { set = set; ciphers = ciphers }))) (sym c.in_ok-ciphers.ensures)
    (setup_of_ciphers set body size c.in-Some.rounds.items c.in-Some-2.lifts.items c.in-Some-3.conversions.items c.requires
    (same_run set.degree 1 1 c.rounds_count.result (rounds_count set) 0 0 body c.in-Some.rounds.items refl c.rounds_count.ensures refl
    (MatchOption-at_some _ _ c.in-Some.rounds c.in-Some.is c.in_ok-rounds.ensures.found))
    (same_run set.degree set.n set.n c.lifts_count.result (lifts_count set) c.lifts_start-lifts_at.result (rounds_len set) body
    c.in-Some-2.lifts.items refl c.lifts_count.ensures (c.lifts_start-lifts_at.ensures ∙ lifts_start set)
    (MatchOption-at_some _ _ c.in-Some-2.lifts c.in-Some-2.is c.in_ok-lifts.ensures.found))
    (same_run set.degree c.rows.result (rows set) c.conversions_count-count.result (conversions_count set) c.conversions_start-conversions_at.result
    (rounds_len set + lifts_len set) body c.in-Some-3.conversions.items c.rows.ensures.value c.conversions_count-count.ensures
    (c.conversions_start-conversions_at.ensures ∙ conversions_start set)
    (MatchOption-at_some _ _ c.in-Some-3.conversions c.in-Some-3.is c.in_ok-conversions.ensures.found)))

use Rattle.std.proofs.Common.{ℤ, List, map, slice_range, arith, ap, ◌∙◌, ◌+◌, ◌*◌, ◌/◌, ◌^◌, ◌≤◌, subst}
use Rattle.std.specs.List.{range_with_len}
use Rattle.spiral_sets.specs.declared.param_set.ParamSet.{ParamSet}
use Rattle.spiral_sets.specs.Sets.{IsSet}
use Rattle.spiral_model.specs.Replies.{QueryState, opened_entry}
use Rattle.modulus_switch.specs.Numbers.{opened_number}
use Rattle.modulus_switch.specs.Places.{row_modulus}
use Rattle.modulus_switch.proofs.Places.{row_modulus-most}
use Rattle.modulus_switch.proofs.Entries.{entry_is}
use Rattle.modulus_switch.proofs.open.open_entry.Goals as goal

pub open_numbers-requires-clause-mask_below : goal.open_numbers-requires-clause-mask_below
open_numbers-requires-clause-mask_below c =
    let same = ap (λ (state : QueryState). state.set) c.state.view_is ∙ c.requires.set in
    let known : IsSet c.args.reply.now.set = subst (λ (set : ParamSet). IsSet set) same c.state.invariant.known in
    λ k d h.
    let most : row_modulus c.args.reply.now.set 0 ≤ 2 ^ 30 = row_modulus-most c.args.reply.now.set 0 known in
    omega (arith, c.numbers-mask.ensures.switched.below k d h)

pub open_numbers-requires-clause-b_below : goal.open_numbers-requires-clause-b_below
open_numbers-requires-clause-b_below c =
    let same = ap (λ (state : QueryState). state.set) c.state.view_is ∙ c.requires.set in
    let known : IsSet c.args.reply.now.set = subst (λ (set : ParamSet). IsSet set) same c.state.invariant.known in
    λ k d h.
    let most : row_modulus c.args.reply.now.set (c.args.e / c.state.inside.set.n + 1) ≤ 2 ^ 30 = row_modulus-most c.args.reply.now.set (c.args.e / c.state.inside.set.n + 1) known in
    omega (arith, c.numbers-b.ensures.switched.below k d h)

pub returns : goal.returns
returns c =
    let s = c.state.inside in
    let state : QueryState = record { set = s.set; index = s.index; secret = s.secret.items } in
    let from = c.args.e / s.set.n * s.set.degree in
    let mask = c.numbers-mask.result.now in
    let b = c.numbers-b.result.now in
    c.open_numbers.ensures
    ∙ ap (λ (all : List ℤ). map (opened_number s.set (slice_range all from (from + s.set.degree)) mask b) (range_with_len 0 s.set.degree)) c.deref.ensures.value
    ∙ entry_is state c.args.reply.now c.args.e mask b
    (ap (λ (state : QueryState). state.set) c.state.view_is ∙ c.requires.set) c.numbers-mask.ensures.value c.numbers-b.ensures.value
    ∙ ap (λ (state : QueryState). opened_entry state c.args.reply.now c.args.e) c.state.view_is

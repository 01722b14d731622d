use Rattle.std.proofs.Common.{◌≡◌, ◌≤◌, ◌<◌, ◌+◌, ◌*◌, ℕ, List, All, length, sym, ◌∙◌, ap, subst, arith, mul-le-mul_right}
use Rattle.std.specs.List.{flat_map, range_with_len}
use Rattle.negacyclic.proofs.Filled.{pieces_none, pieces_more, pieces_all}
use Rattle.spiral_sets.specs.declared.param_set.ParamSet.{ParamSet}
use Rattle.spiral_sets.specs.Sets.{p, entries, values_count}
use Rattle.spiral_model.specs.Replies.{opened_entry, opened_values}
use Rattle.modulus_switch.proofs.Entries.{length-opened_entry, opened_values-below}
use Rattle.modulus_switch.proofs.open.open_entries.Goals as goal

pub loop-e-init : goal.loop-e-init
loop-e-init c = pieces_none (opened_entry c.args.state.now c.args.reply.now) c.set-set.result.degree c.args.out.now

pub slice_bounds-open_entry-end : goal.slice_bounds-open_entry-end
slice_bounds-open_entry-end c =
    let set = c.set-set.result in
    let room : length c.args.out.now ≡ set.n * set.n * set.degree = c.requires.room ∙ ap (λ (s : ParamSet). values_count s) (sym c.set-set.ensures.value) in
    let within : (c.loop-e.e + 1) * set.degree ≤ set.n * set.n * set.degree = mul-le-mul_right set.degree (omega arith) in
    let bound : c.loop-e.e * set.degree + set.degree ≤ length c.loop-e.out = omega arith in bound

pub loop-e-preserved : goal.loop-e-preserved
loop-e-preserved c =
    let set = c.set-set.result in
    let room : length c.args.out.now ≡ set.n * set.n * set.degree = c.requires.room ∙ ap (λ (s : ParamSet). values_count s) (sym c.set-set.ensures.value) in
    let within : (c.loop-e.e + 1) * set.degree ≤ set.n * set.n * set.degree = mul-le-mul_right set.degree (omega arith) in
    let size : length c.open_entry.new.out ≡ set.degree =
    ap length c.open_entry.ensures ∙ length-opened_entry c.args.state.now c.args.reply.now c.loop-e.e ∙ ap (λ (s : ParamSet). s.degree) (sym c.set-set.ensures.value) in
    pieces_more (opened_entry c.args.state.now c.args.reply.now) set.degree c.loop-e.e _ c.loop-e.out c.open_entry.new.out (omega arith) size c.loop-e.invariant c.open_entry.ensures

returned : goal.returns-clause-value
unfolding opened_values
returned c =
    let set = c.set-set.result in
    let room : length c.args.out.now ≡ set.n * set.n * set.degree = c.requires.room ∙ ap (λ (s : ParamSet). values_count s) (sym c.set-set.ensures.value) in
    pieces_all (opened_entry c.args.state.now c.args.reply.now) set.degree (set.n * set.n) c.loop-e.e c.loop-e.out (omega arith) (omega arith) (omega arith) c.loop-e.invariant
    ∙ ap (λ (s : ParamSet). flat_map (opened_entry c.args.state.now c.args.reply.now) (range_with_len 0 (entries s))) c.set-set.ensures.value

pub returns-clause-value : goal.returns-clause-value
returns-clause-value c = returned c

pub returns-clause-below : goal.returns-clause-below
returns-clause-below c =
    subst (λ (xs : List ℕ). All (λ x. x < p c.args.reply.now.set) xs) (sym (returned c)) (opened_values-below c.args.state.now c.args.reply.now)

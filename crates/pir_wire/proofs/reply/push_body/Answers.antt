use Rattle.std.proofs.Common.{◌≡◌, ◌<◌, ◌++◌, ◌/◌, ◌%◌, ◌+◌, length, arith, ap, ◌∙◌}
use Rattle.spiral_sets.specs.declared.param_set.ParamSet.{ParamSet}
use Rattle.spiral_sets.specs.Sets.{q1_bits, entries}
use Rattle.spiral_model.specs.Words.{poly_of}
use Rattle.spiral_frames.specs.Frames.{packed}
use Rattle.modulus_switch.specs.Places.{poly_in}
use Rattle.modulus_switch.proofs.Places.{poly_in-body}
use Rattle.pir_wire.proofs.Spelling.{polys_more}
use Rattle.pir_wire.proofs.reply.push_body.Goals as goal

pub loop-e-preserved : goal.loop-e-preserved
loop-e-preserved c =
    let reply = c.args.reply.now in
    let e = c.loop-e.e in
    let kept = c.set-set.ensures.kept in
    let set_is = c.set-set.ensures.value in
    let count : c.entries-e-end.result ≡ entries reply.set = c.entries-e-end.ensures.value ∙ ap (λ (s : ParamSet). entries s) set_is in
    let within : e < length reply.body = omega (arith, kept.body_count) in
    let numbers : c.numbers-numbers.result.now ≡ poly_of reply.body e =
    c.numbers-numbers.ensures.value ∙ ap (λ (s : ParamSet). poly_in reply (e / s.n + 1) (e % s.n + 1)) set_is ∙ poly_in-body reply e in
    polys_more (packed reply.set (q1_bits reply.set)) reply.body e c.args.out.now.items c.loop-e.out.items c.push_packed.new.out.items
    c.numbers-numbers.result.now within numbers
    c.loop-e.invariant
    (c.in_ok-push_packed.ensures
    ∙ ap (λ (width : _). c.loop-e.out.items ++ packed c.set-set.result width c.numbers-numbers.result.now) c.q1_bits.ensures.value
    ∙ ap (λ (s : ParamSet). c.loop-e.out.items ++ packed s (q1_bits s) c.numbers-numbers.result.now) set_is)

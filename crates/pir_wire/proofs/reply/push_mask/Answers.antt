use Rattle.std.proofs.Common.{◌≡◌, ◌<◌, ◌++◌, length, arith, ap, ◌∙◌}
use Rattle.spiral_sets.specs.declared.param_set.ParamSet.{ParamSet}
use Rattle.spiral_model.specs.Words.{poly_of}
use Rattle.spiral_frames.specs.Frames.{packed}
use Rattle.modulus_switch.proofs.Places.{poly_in-mask}
use Rattle.pir_wire.proofs.Spelling.{polys_more}
use Rattle.pir_wire.proofs.reply.push_mask.Goals as goal

pub loop-column-preserved : goal.loop-column-preserved
loop-column-preserved c =
    let reply = c.args.reply.now in
    let column = c.loop-column.column in
    let kept = c.set-set.ensures.kept in
    let set_is = c.set-set.ensures.value in
    let within : column < length reply.mask = omega (arith, kept.mask_count, ap (λ (s : ParamSet). s.n) set_is) in
    let numbers : c.numbers.result.now ≡ poly_of reply.mask column = c.numbers.ensures.value ∙ poly_in-mask reply column in
    polys_more (packed reply.set reply.set.q2_bits) reply.mask column c.args.out.now.items c.loop-column.out.items c.push_packed.new.out.items
    c.numbers.result.now within numbers
    c.loop-column.invariant
    (c.in_ok-push_packed.ensures ∙ ap (λ (s : ParamSet). c.loop-column.out.items ++ packed s s.q2_bits c.numbers.result.now) set_is)

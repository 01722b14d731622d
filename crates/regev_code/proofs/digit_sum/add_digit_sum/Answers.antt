use Rattle.std.proofs.Common.{◌≡◌, ◌∙◌, ℕ, List, sym, ap, subst, length, arith}
use Rattle.spiral_sets.specs.declared.param_set.ParamSet.{ParamSet}
use Rattle.gadget_digits.proofs.DigitRows.{digit_count-fewer}
use Rattle.negacyclic.proofs.Lists.{refilled, length-refilled, all_refilled}
use Rattle.regev_code.specs.Products.{IsWidth}
use Rattle.regev_code.proofs.Rooms.{digits_fit, smallest_width-some}
use Rattle.regev_code.proofs.digit_sum.add_digit_sum.Goals as goal

pub add_digits-requires-clause-digits : goal.add_digits-requires-clause-digits
add_digits-requires-clause-digits c =
    let width : IsWidth c.room.inside.set c.args.w = subst (λ (set : ParamSet). IsWidth set c.args.w) (sym c.room.view_is) c.requires.width in
    digits_fit c.room.inside.set c.args.w c.args.ring.now _ c.room.invariant.known width
    (c.requires.degree ∙ ap (λ (set : ParamSet). set.degree) (sym c.room.view_is)) (ap length c.deref_mut-2.ensures.value ∙ c.room.invariant.digits_count)

pub add_digits-requires-clause-forms_count : goal.add_digits-requires-clause-forms_count
add_digits-requires-clause-forms_count c =
    let width : IsWidth c.room.inside.set c.args.w = subst (λ (set : ParamSet). IsWidth set c.args.w) (sym c.room.view_is) c.requires.width in
    let fewer = digit_count-fewer _ c.args.w (smallest_width-some c.room.inside.set c.room.invariant.known) width.least in
    let many = ap length c.deref_mut-3.ensures.value ∙ c.room.invariant.forms_count in
    omega (arith, fewer, many)

pub invariant_of-room : goal.invariant_of-room
invariant_of-room c =
    let degree : c.args.ring.now ≡ c.room.inside.set.degree = c.requires.degree ∙ ap (λ (set : ParamSet). set.degree) (sym c.room.view_is) in
    record {
      known = c.room.invariant.known;
      numbers_count = length-refilled _ _ c.add_digits.new.numbers _ (omega arith) (omega (arith, c.room.invariant.numbers_count));
      digits_count = length-refilled _ _ c.add_digits.new.digits _ (omega arith) (omega (arith, c.room.invariant.digits_count));
      poly_degree = c.add_digits.ensures.poly ∙ degree;
      forms_count = length-refilled _ _ c.add_digits.new.forms _ (omega arith) (omega (arith, c.room.invariant.forms_count));
      forms_degree =
          all_refilled (λ (a : List ℕ). length a ≡ c.room.inside.set.degree) _ c.add_digits.new.forms _ (omega arith)
          (λ k d h. c.add_digits.ensures.forms k d h ∙ degree);
      sum_degree = c.add_digits.ensures.sum ∙ degree;
    }

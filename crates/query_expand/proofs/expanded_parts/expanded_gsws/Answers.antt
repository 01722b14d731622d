use Rattle.std.proofs.Common.{◌≡◌, ◌*◌, ◌^◌, ◌≤◌, ℕ, List, length, map, sym, ◌∙◌, ap, subst}
use Rattle.std.specs.List.{range_with_len}
use Rattle.spiral_sets.specs.declared.param_set.ParamSet.{ParamSet}
use Rattle.spiral_sets.specs.Sets.{digit_count, rho}
use Rattle.spiral_model.specs.Words.{Cipher}
use Rattle.query_expand.specs.Parts.{translated_part}
use Rattle.query_expand.proofs.SetRounds.{digits_enough}
use Rattle.query_expand.proofs.expanded_parts.expanded_gsws.Goals as goal

pub translate_each-requires-clause-enough : goal.translate_each-requires-clause-enough
translate_each-requires-clause-enough c =
    let size : length c.deref.result.now ≡ 2 ^ rho c.args.set.now = ap length c.deref.ensures.value ∙ c.in_ok-ciphers.ensures.many
    ∙ ap (λ (s : ParamSet). 2 ^ rho s) c.requires.scratch in
    subst (λ (n : ℕ). digit_count c.args.set.now.w_gsw * c.args.set.now.nu2 ≤ n) (sym size) (digits_enough c.args.set.now c.requires.known)

pub returns-clause-value : goal.returns-clause-value
returns-clause-value c =
    c.in_ok-translate_each.ensures.value
    ∙ ap (λ (cs : List Cipher). map (translated_part c.args.set.now c.args.keys.now cs) (range_with_len 0 c.args.set.now.nu2))
    (c.deref.ensures.value ∙ c.in_ok-ciphers.ensures.value)

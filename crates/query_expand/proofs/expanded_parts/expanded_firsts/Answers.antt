use Rattle.std.proofs.Common.{◌^◌, length, ◌∙◌, ap}
use Rattle.spiral_sets.specs.declared.param_set.ParamSet.{ParamSet}
use Rattle.query_expand.specs.Parts.{firsts_from}
use Rattle.query_expand.proofs.Expansions.{firsts-many}
use Rattle.query_expand.proofs.expanded_parts.expanded_firsts.Goals as goal

pub returns-clause-value : goal.returns-clause-value
returns-clause-value c =
    c.in_ok-firsts_from.ensures.value
    ∙ ap (firsts_from c.args.set.now c.args.keys.now.lift) (c.deref.ensures.value ∙ c.in_ok-ciphers.ensures.value)

pub returns-clause-many : goal.returns-clause-many
returns-clause-many c =
    firsts-many c.args.set.now (length c.deref.result.now) (2 ^ c.args.scratch.now.nu1) _ c.in_ok-firsts_from.ensures.many
    (ap length c.deref.ensures.value ∙ c.in_ok-ciphers.ensures.many) (ap (λ (s : ParamSet). 2 ^ s.nu1) c.requires.scratch)

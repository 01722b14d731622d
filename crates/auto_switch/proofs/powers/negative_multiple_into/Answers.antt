use Rattle.std.proofs.Common.{◌*◌, ◌^◌}
use Rattle.auto_switch.proofs.Multiples.{negative_multiple}
use Rattle.auto_switch.proofs.powers.negative_multiple_into.Goals as goal

pub returns-clause-value : goal.returns-clause-value
returns-clause-value c =
    negative_multiple c.args.ring.now (2 ^ (c.args.w * c.args.k)) c.negative_power.result c.args.a.now c.scale.new.out c.negative_power.ensures.value c.scale.ensures.value

use Rattle.std.proofs.Common.{length}
use Rattle.gsw_code.proofs.FirstMessages.{first_message}
use Rattle.gsw_code.proofs.intended.first_message_into.Goals as goal

pub returns-clause-value : goal.returns-clause-value
returns-clause-value c =
    first_message c.args.set.now (length c.args.out.now) c.args.index c.args.u c.args.r c.args.row c.first_value.result c.value_in.result c.put_constant.new.self c.requires.room
    c.first_value.ensures.value c.value_in.ensures.value c.put_constant.ensures.value

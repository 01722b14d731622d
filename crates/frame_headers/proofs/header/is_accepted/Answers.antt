use Rattle.std.proofs.Common.{arith, ◌∙◌, le-ltb}
use Rattle.frame_headers.proofs.HeaderReading.{no_such_kind}
use Rattle.frame_headers.proofs.header.is_accepted.Goals as goal

pub returns-else-kind-lt8 : goal.returns-else-kind-lt8
returns-else-kind-lt8 c =
    le-ltb c.args.kind 8 c.if-kind-lt8.false ∙ no_such_kind c.args.kinds c.args.kind (omega arith) c.if-kind-lt8.false

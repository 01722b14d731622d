use Rattle.std.proofs.Common.{arith}
use Rattle.tool_local.proofs.LocalLookUp.{read_more}
use Rattle.tool_local.proofs.local.read_message.Goals as goal

pub pieces-preserved : goal.pieces-preserved
pieces-preserved c =
    (read_more c.args.bytes.now c.pieces.at c.min-count.result 24 c.pieces.frame c.in-Ok.frame c.pieces.invariant.0 c.in-Ok.ensures.read, omega (arith, c.min-count.ensures))

use Rattle.std.proofs.Common.{◌-◌, ◌≡◌, ◌^◌, vec_len, length}
use Rattle.tool_fetch.proofs.OneReceived.{HasCome}
use Rattle.tool_fetch.proofs.exchange.receiving.receive_frame.Given as goal

abbrev pub invariant-pieces : goal.invariant-pieces
invariant-pieces g l = HasCome (g.L.Link.seen l.fn.link) (g.L.Link.seen l.link) l.kinds l.frame × (vec_len l.buffer ≡ 65536)

abbrev pub decreases-pieces : goal.decreases-pieces
decreases-pieces g l = 2 ^ 24 - length l.frame.bytes

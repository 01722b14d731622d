use Rattle.std.proofs.Common.{◌-◌, ◌≡◌, ◌^◌, vec_len, length}
use Rattle.tool_files.proofs.ReadingFrames.{HasCome}
use Rattle.tool_files.proofs.frames.read_frame.Given as goal

abbrev pub invariant-pieces : goal.invariant-pieces
invariant-pieces g l = HasCome (g.F.Files.seen l.fn.files) (g.F.Files.seen l.files) l.name l.kinds l.frame × (vec_len l.buffer ≡ 65536)

abbrev pub decreases-pieces : goal.decreases-pieces
decreases-pieces g l = 2 ^ 24 - length l.frame.bytes

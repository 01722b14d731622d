use Rattle.std.proofs.Common.{◌-◌, ◌≡◌, vec_len}
use Rattle.pir_io.proofs.ReadingFront.{HasRead}
use Rattle.pir_io.proofs.whole_files.read_front.Given as goal

abbrev pub invariant-pieces : goal.invariant-pieces
invariant-pieces g l = HasRead (g.F.Files.seen l.fn.files) (g.F.Files.seen l.files) l.name l.limit l.bytes.items × (vec_len l.buffer ≡ 65536)

abbrev pub decreases-pieces : goal.decreases-pieces
decreases-pieces g l = l.limit - vec_len l.bytes

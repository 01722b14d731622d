use Rattle.std.proofs.Common.{◌*◌, take}
use Rattle.pir_wire.specs.Pieces.{AreSpelled}
use Rattle.pir_wire.proofs.decoding.pieces.pieces.Given as goal

abbrev pub invariant-loop-k : goal.invariant-loop-k
invariant-loop-k g l = AreSpelled (g.P.Piece.fits l.degree l.size) (g.P.Piece.spell l.degree l.size) l.k (take (l.k * l.len) l.bytes) l.pieces.items

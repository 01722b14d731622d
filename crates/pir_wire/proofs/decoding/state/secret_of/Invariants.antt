use Rattle.std.proofs.Common.{◌≡◌, take, map, All}
use Rattle.spiral_model.specs.Replies.{IsTernary}
use Rattle.spiral_frames.specs.Frames.{secret_byte}
use Rattle.pir_wire.proofs.decoding.state.secret_of.Given as goal

abbrev pub invariant-loop-byte : goal.invariant-loop-byte
invariant-loop-byte l = All IsTernary l.secret.items × (map secret_byte l.secret.items ≡ take l.byte-index l.bytes)

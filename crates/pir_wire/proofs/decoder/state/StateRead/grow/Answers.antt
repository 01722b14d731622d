use Rattle.std.proofs.Common.{subst}
use Rattle.frame_headers.specs.declared.kind.FrameKind.TheVariants.{State}
use Rattle.pir_wire.specs.Growing.{BodySeen, Grows}
use Rattle.pir_wire.specs.BodyParts.{IsStatePart}
use Rattle.pir_wire.proofs.BodyParts.{seen, grown, state_growing}
use Rattle.pir_wire.proofs.decoder.state.StateRead.grow.Goals as goal

pub returns-then-len-lt-INDEX : goal.returns-then-len-lt-INDEX
returns-then-len-lt-INDEX c =
    let set = c.self.inside.set in
    let new = c.take_index.new.bytes.items in
    let piece = c.args.piece.now in
    subst (λ (b : BodySeen). Grows b (seen State set new) piece c.take_index.result) c.self.view_is
    (grown State set (IsStatePart set) (state_growing set) c.self.inside.bytes.items new piece c.take_index.result c.take_index.ensures)

pub returns-else-len-lt-INDEX : goal.returns-else-len-lt-INDEX
returns-else-len-lt-INDEX c =
    let set = c.self.inside.set in
    let new = c.take_secret.new.bytes.items in
    let piece = c.args.piece.now in
    subst (λ (b : BodySeen). Grows b (seen State set new) piece c.take_secret.result) c.self.view_is
    (grown State set (IsStatePart set) (state_growing set) c.self.inside.bytes.items new piece c.take_secret.result c.take_secret.ensures)

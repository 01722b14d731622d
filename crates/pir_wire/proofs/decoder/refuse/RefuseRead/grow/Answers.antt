use Rattle.std.proofs.Common.{◌<◌, length, arith, subst, sym, Ok, length-take}
use Rattle.frame_headers.specs.declared.kind.FrameKind.TheVariants.{Refuse}
use Rattle.frame_headers.specs.Kinds.{body_len_of}
use Rattle.pir_wire.specs.Growing.{BodySeen, Grows}
use Rattle.pir_wire.specs.BodyParts.{IsRefusePart}
use Rattle.pir_wire.proofs.BodyParts.{seen, grown, refuse_growing}
use Rattle.pir_wire.proofs.decoder.refuse.RefuseRead.grow.Goals as goal

pub returns : goal.returns
returns c =
    let set = c.self.inside.set in
    let old = c.self.inside.bytes.items in
    let new = c.extend_from_slice.new.self.items in
    let short : length old < 9 = subst (λ (b : BodySeen). length b.bytes < body_len_of b.kind b.set) (sym c.self.view_is) c.requires.unfinished in
    subst (λ (b : BodySeen). Grows b (seen Refuse set new) c.args.piece.now (Ok c.min-count.result)) c.self.view_is
    (grown Refuse set (IsRefusePart set) (refuse_growing set) old new c.args.piece.now (Ok c.min-count.result)
    (omega arith, omega arith, c.in_ok-extend_from_slice.ensures.items, record { known = c.self.invariant.known; within = omega (arith, c.in_ok-extend_from_slice.ensures.len, length-take c.min-count.result c.args.piece.now) }))

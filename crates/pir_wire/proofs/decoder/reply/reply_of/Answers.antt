use Rattle.std.proofs.Common.{◌≤◌, [], sym, subst, arith}
use Rattle.bit_packing.proofs.Windows.{bytes_below}
use Rattle.spiral_sets.specs.Sets.{capacity}
use Rattle.spiral_sets.proofs.SetBounds.{capacity-most}
use Rattle.spiral_model.specs.Replies.{SwitchedReply}
use Rattle.spiral_frames.specs.Frames.{reply_message}
use Rattle.pir_wire.specs.Bodies.{IsBodyOf}
use Rattle.pir_wire.specs.BodyParts.{reply_bytes}
use Rattle.pir_wire.proofs.ReplyParts.{reply_read}
use Rattle.pir_wire.proofs.decoder.reply.reply_of.Goals as goal

pub overflow_cast-length : goal.overflow_cast-length
overflow_cast-length c =
    let within : c.number_at-length.result ≤ capacity c.args.set.now =
    omega (arith, c.number_at-length.ensures, c.requires.part.numbers.right_length (omega (arith, c.requires.front))) in
    omega (arith, within, capacity-most c.args.set.now c.requires.part.known)

pub returns : goal.returns
returns c =
    let set = c.args.set.now in
    let front = c.args.front.now in
    let body = c.args.body.items in
    let mask = c.args.mask.items in
    subst (λ (r : SwitchedReply). IsBodyOf set (reply_bytes set front body mask []) (reply_message r)) (sym c.from_polys.ensures)
    (reply_read set front body mask c.number_at-count.result c.number_at-length.result c.requires.part c.requires.front c.requires.body c.requires.mask
    (bytes_below front c.type_inv.front) c.number_at-count.ensures c.number_at-length.ensures)

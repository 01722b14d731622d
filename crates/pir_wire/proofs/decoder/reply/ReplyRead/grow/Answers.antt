use Rattle.std.proofs.Common.{ℕ, ◌<◌, List, length, take, Ok, sym, subst, arith}
use Rattle.spiral_sets.specs.Sets.{entries}
use Rattle.frame_headers.specs.declared.kind.FrameKind.TheVariants.{Reply}
use Rattle.frame_headers.specs.Kinds.{body_len_of}
use Rattle.spiral_model.specs.Words.{Poly}
use Rattle.pir_wire.specs.BodyParts.{reply_bytes, IsReplyPart, PartTaken}
use Rattle.pir_wire.specs.Growing.{BodySeen, Grows}
use Rattle.pir_wire.proofs.BodyParts.{seen}
use Rattle.pir_wire.proofs.ReplyParts.{front_grown, body_step, mask_step, mask_kept, wanting_reply, goes_on_grown}
use Rattle.pir_wire.proofs.decoder.reply.ReplyRead.grow.Goals as goal

pub returns-then-len-lt-FRONT : goal.returns-then-len-lt-FRONT
returns-then-len-lt-FRONT c =
    let r = c.self.inside in
    let now = c.take_front.new.front.items in
    subst (λ (b : BodySeen). Grows b (seen Reply r.set (reply_bytes r.set now r.body.items r.mask.items r.part.items)) c.args.piece.now c.take_front.result)
    c.self.view_is
    (front_grown r.set r.front.items now r.body.items r.mask.items r.part.items c.args.piece.now c.take_front.result c.self.invariant
    (omega (arith, c.if-len-lt-FRONT.true)) c.take_front.ensures)

pub invariant_of-self-then-len-entries : goal.invariant_of-self-then-len-entries
invariant_of-self-then-len-entries c =
    let r = c.self.inside in
    let polys = c.take_part.new.polys.items in
    let part = c.take_part.new.part.items in
    let taken = take c.in_ok-count.count c.args.piece.now in
    let less : length r.body.items < entries r.set = omega (arith, c.if-len-entries.true, c.entries.ensures.value) in
    (body_step r.set r.front.items r.body.items r.mask.items r.part.items c.self.invariant (omega (arith, c.if-len-lt-FRONT.false)) polys part taken less
    (subst (λ (w : ℕ). PartTaken r.set.degree w r.body.items r.part.items polys part taken) c.q1_bits-width.ensures.value c.in_ok-count.ensures.taken)).kept

pub returns-then-len-entries : goal.returns-then-len-entries
returns-then-len-entries c =
    let r = c.self.inside in
    let polys = c.take_part.new.polys.items in
    let part = c.take_part.new.part.items in
    let n = c.in_ok-count.count in
    let taken = take n c.args.piece.now in
    let before = reply_bytes r.set r.front.items r.body.items r.mask.items r.part.items in
    let less : length r.body.items < entries r.set = omega (arith, c.if-len-entries.true, c.entries.ensures.value) in
    subst (λ (b : BodySeen). Grows b (seen Reply r.set (reply_bytes r.set r.front.items polys r.mask.items part)) c.args.piece.now (Ok n)) c.self.view_is
    (goes_on_grown r.set r.front.items polys r.mask.items part before c.args.piece.now n c.in_ok-count.ensures.some c.in_ok-count.ensures.within
    (body_step r.set r.front.items r.body.items r.mask.items r.part.items c.self.invariant (omega (arith, c.if-len-lt-FRONT.false)) polys part taken less
    (subst (λ (w : ℕ). PartTaken r.set.degree w r.body.items r.part.items polys part taken) c.q1_bits-width.ensures.value c.in_ok-count.ensures.taken)))

pub invariant_of-self-in_err-count-2 : goal.invariant_of-self-in_err-count-2
invariant_of-self-in_err-count-2 c =
    let r = c.self.inside in
    let part = c.take_part-2.new.part.items in
    let fewer : length r.mask.items < r.set.n =
    wanting_reply r.set r.front.items r.body.items r.mask.items r.part.items c.self.invariant
    (subst (λ (b : BodySeen). length b.bytes < body_len_of b.kind b.set) (sym c.self.view_is) c.requires.unfinished) in
    subst (λ (m : List Poly). IsReplyPart r.set r.front.items r.body.items m part) (sym c.in_err-count-2.ensures.kept)
    (mask_kept r.set r.front.items r.body.items r.mask.items r.part.items c.self.invariant part (omega (arith, c.if-len-lt-FRONT.false))
    (omega (arith, c.if-len-entries.false, c.entries.ensures.value)) fewer c.in_err-count-2.ensures.short)

pub invariant_of-self-2 : goal.invariant_of-self-2
invariant_of-self-2 c =
    let r = c.self.inside in
    let polys = c.take_part-2.new.polys.items in
    let part = c.take_part-2.new.part.items in
    let fewer : length r.mask.items < r.set.n =
    wanting_reply r.set r.front.items r.body.items r.mask.items r.part.items c.self.invariant
    (subst (λ (b : BodySeen). length b.bytes < body_len_of b.kind b.set) (sym c.self.view_is) c.requires.unfinished) in
    (mask_step r.set r.front.items r.body.items r.mask.items r.part.items c.self.invariant (omega (arith, c.if-len-lt-FRONT.false)) polys part
    (take c.in_ok-count-2.count c.args.piece.now) (omega (arith, c.if-len-entries.false, c.entries.ensures.value)) fewer c.in_ok-count-2.ensures.taken).kept

pub returns : goal.returns
returns c =
    let r = c.self.inside in
    let polys = c.take_part-2.new.polys.items in
    let part = c.take_part-2.new.part.items in
    let n = c.in_ok-count-2.count in
    let before = reply_bytes r.set r.front.items r.body.items r.mask.items r.part.items in
    let fewer : length r.mask.items < r.set.n =
    wanting_reply r.set r.front.items r.body.items r.mask.items r.part.items c.self.invariant
    (subst (λ (b : BodySeen). length b.bytes < body_len_of b.kind b.set) (sym c.self.view_is) c.requires.unfinished) in
    subst (λ (b : BodySeen). Grows b (seen Reply r.set (reply_bytes r.set r.front.items r.body.items polys part)) c.args.piece.now (Ok n)) c.self.view_is
    (goes_on_grown r.set r.front.items r.body.items polys part before c.args.piece.now n c.in_ok-count-2.ensures.some c.in_ok-count-2.ensures.within
    (mask_step r.set r.front.items r.body.items r.mask.items r.part.items c.self.invariant (omega (arith, c.if-len-lt-FRONT.false)) polys part
    (take n c.args.piece.now) (omega (arith, c.if-len-entries.false, c.entries.ensures.value)) fewer c.in_ok-count-2.ensures.taken))

use Rattle.std.proofs.Common.{◌≡◌, ℕ, List, [], length, refl, sym, subst}
use Rattle.frame_headers.specs.declared.kind.FrameKind.TheVariants as kinds
use Rattle.frame_headers.specs.Kinds.{body_len_of}
use Rattle.spiral_frames.specs.Frames.{reply_message}
use Rattle.pir_wire.specs.Bodies.{IsBodyOf}
use Rattle.pir_wire.specs.BodyParts.{reply_bytes}
use Rattle.pir_wire.specs.Growing.{BodySeen}
use Rattle.pir_wire.proofs.ReplyParts.{IsWholeReply, whole_reply}
use Rattle.pir_wire.proofs.decoder.reply.ReplyRead.finish.Goals as goal

pub reply_of-requires-clause-body : goal.reply_of-requires-clause-body
reply_of-requires-clause-body c =
    let r = c.self.inside in
    (whole_reply r.set r.front.items r.body.items r.mask.items r.part.items c.self.invariant
    (subst (λ (b : BodySeen). length b.bytes ≡ body_len_of b.kind b.set) (sym c.self.view_is) c.requires)).polys

pub reply_of-requires-clause-mask : goal.reply_of-requires-clause-mask
reply_of-requires-clause-mask c =
    let r = c.self.inside in
    (whole_reply r.set r.front.items r.body.items r.mask.items r.part.items c.self.invariant
    (subst (λ (b : BodySeen). length b.bytes ≡ body_len_of b.kind b.set) (sym c.self.view_is) c.requires)).mask_polys

pub returns : goal.returns
returns c =
    let r = c.self.inside in
    let message = reply_message c.reply_of.result in
    let whole : IsWholeReply r.set r.front.items r.body.items r.mask.items r.part.items =
    whole_reply r.set r.front.items r.body.items r.mask.items r.part.items c.self.invariant
    (subst (λ (b : BodySeen). length b.bytes ≡ body_len_of b.kind b.set) (sym c.self.view_is) c.requires) in
    subst (λ (b : BodySeen). IsBodyOf b.set b.bytes message × (kinds.Reply ≡ b.kind)) c.self.view_is (
      subst (λ (p : List ℕ). IsBodyOf r.set (reply_bytes r.set r.front.items r.body.items r.mask.items p) message) (sym whole.none)
          (subst (λ (f : List ℕ). IsBodyOf r.set (reply_bytes r.set f r.body.items r.mask.items []) message) c.deref.ensures.value c.reply_of.ensures),
      refl,
    )

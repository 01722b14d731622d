use Rattle.std.proofs.Common.{◌≡◌, ℕ, length, ap, ◌∙◌, subst, arith}
use Rattle.std.specs.Prelude.{nat_eq}
use Rattle.frame_headers.specs.Kinds.{body_len_of}
use Rattle.pir_wire.specs.Growing.{BodySeen}
use Rattle.pir_wire.proofs.ReplyParts.{whole_test}
use Rattle.pir_wire.proofs.decoder.reply.ReplyRead.is_whole.Goals as goal

pub returns : goal.returns
returns c =
    let r = c.self.inside in
    let count : c.len.result ≡ length r.mask.items = omega arith in
    subst (λ (b : BodySeen). nat_eq c.len.result r.set.n ≡ nat_eq (length b.bytes) (body_len_of b.kind b.set)) c.self.view_is
    (ap (λ (k : ℕ). nat_eq k r.set.n) count ∙ whole_test r.set r.front.items r.body.items r.mask.items r.part.items c.self.invariant)

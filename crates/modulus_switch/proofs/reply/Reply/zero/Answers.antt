use Rattle.std.proofs.Common.{ap, ◌∙◌, ℕ, replicate}
use Rattle.modulus_switch.proofs.Replies.{zeros_keep}
use Rattle.modulus_switch.proofs.reply.Reply.zero.Goals as goal

pub invariant_of-result : goal.invariant_of-result
invariant_of-result c =
    let entries = c.entries.ensures.value in
    zeros_keep c.args.set.now c.args.count c.args.length c.in_ok-body.body.items c.in_ok-mask.mask.items c.requires.known c.requires.count c.requires.some_length c.requires.length
    (c.in_ok-body.ensures ∙ ap (λ (count : ℕ). replicate count (replicate {A = ℕ} c.args.set.now.degree 0)) entries) c.in_ok-mask.ensures

use Rattle.std.proofs.Common.{ℕ, [], true, subst}
use Rattle.spiral_model.specs.Expansion.{round_power}
use Rattle.spiral_model.specs.Dealing.{auto_messages}
use Rattle.regev_code.specs.Shapes.{under}
use Rattle.regev_code.specs.Drawn.{Drawn}
use Rattle.auto_switch.proofs.Appended.{appended}
use Rattle.key_deal.specs.DealtKeys.{scalar_of}
use Rattle.key_deal.proofs.rounds.draw_round.Goals as goal

pub returns : goal.returns
returns c =
    let N = c.args.ring.now in
    appended N 1 (under N c.args.secret.now true) (auto_messages N (round_power N c.args.j) c.args.w (scalar_of N c.args.secret.now)) c.args.draw.now c.auto_key.new.draw
    c.in_ok-key.key.items c.args.ciphers.now.items c.append.new.self.items
    (subst (λ (g : ℕ). Drawn N 1 (under N c.args.secret.now true) (auto_messages N g c.args.w (scalar_of N c.args.secret.now)) c.args.draw.now c.auto_key.new.draw [] c.in_ok-key.key.items)
    c.automorphism-g.ensures.value c.in_ok-key.ensures.ok)
    c.in_ok-append.ensures.items

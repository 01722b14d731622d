use Rattle.std.proofs.Common.{◌+◌, ◌^◌, ◌≤◌, true, arith}
use Rattle.std.proofs.Math.Pow.{pow_mono}
use Rattle.regev_code.specs.Shapes.{under}
use Rattle.key_deal.specs.DealtKeys.{scalar_of}
use Rattle.key_deal.proofs.RoundKeys.{rounds-none, rounds-more, rounds-room, rounds-all}
use Rattle.key_deal.proofs.rounds.draw_side.Goals as goal

pub loop-i-init : goal.loop-i-init
loop-i-init c =
    let N = c.args.ring.now in
    rounds-none N c.args.first c.args.w (scalar_of N c.args.secret.now) (under N c.args.secret.now true) c.args.draw.now c.args.ciphers.now.items

pub draw_round-requires-clause-round : goal.draw_round-requires-clause-round
draw_round-requires-clause-round c =
    let place : c.args.first + c.loop-i.i + 1 ≤ c.args.first + c.args.count = omega arith in
    let low : 2 ^ (c.args.first + c.loop-i.i + 1) ≤ 2 ^ (c.args.first + c.args.count) = pow_mono place in
    omega (arith, low, c.requires.rounds)

pub draw_round-requires-clause-enough : goal.draw_round-requires-clause-enough
draw_round-requires-clause-enough c =
    let N = c.args.ring.now in
    rounds-room N c.args.first c.loop-i.i c.args.count c.args.w (scalar_of N c.args.secret.now) (under N c.args.secret.now true) c.args.draw.now c.loop-i.draw
    c.args.ciphers.now.items c.loop-i.ciphers.items (omega arith) c.loop-i.invariant c.requires.enough

pub loop-i-preserved : goal.loop-i-preserved
loop-i-preserved c =
    let N = c.args.ring.now in
    rounds-more N c.args.first c.loop-i.i c.args.w (scalar_of N c.args.secret.now) (under N c.args.secret.now true) c.args.draw.now c.loop-i.draw c.draw_round.new.draw
    c.args.ciphers.now.items c.loop-i.ciphers.items c.draw_round.new.ciphers.items c.loop-i.invariant c.in_ok-draw_round.ensures

pub returns : goal.returns
returns c =
    let N = c.args.ring.now in
    rounds-all N c.args.first c.loop-i.i c.args.count c.args.w (scalar_of N c.args.secret.now) (under N c.args.secret.now true) c.args.draw.now c.loop-i.draw
    c.args.ciphers.now.items c.loop-i.ciphers.items (omega arith) c.loop-i.invariant

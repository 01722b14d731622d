use Rattle.std.proofs.Common.{◌*◌, ◌^◌, ◌≤◌, arith}
use Rattle.ring_poly.proofs.Modulus.{q_is}
use Rattle.noise_check.proofs.SideBounds.{product_of_three}
use Rattle.noise_check.proofs.sides.noise_part.Goals as goal

size : (c : goal.After-reply_moduli) → 2 * c.from.result * c.reply_moduli.result * c.args.noise ≤ 2 ^ 16 * 2 ^ 47 * 2 ^ 56
size c =
    let noise : c.args.noise ≤ 2 ^ 56 = omega (arith, q_is) in
    let twice : 2 * c.from.result ≤ 2 ^ 16 = omega arith in
    product_of_three (2 * c.from.result) c.reply_moduli.result c.args.noise (2 ^ 16) (2 ^ 47) (2 ^ 56) twice c.reply_moduli.ensures.size noise

pub overflow_mul-result-3 : goal.overflow_mul-result-3
overflow_mul-result-3 c = let small = size c in omega arith

pub returns-clause-size : goal.returns-clause-size
returns-clause-size c = let small = size c in omega arith

use Rattle.std.proofs.Common.{◌≡◌, ℕ, ◌^◌, ◌<◌, ◌≤◌, get_or, arith}
use Rattle.std.proofs.Math.Nat.{pow-le-pow_right}
use Rattle.regev_code.proofs.digit_sum.put_digit.Goals as goal

pub put_small-requires-clause-below : goal.put_small-requires-clause-below
put_small-requires-clause-below c k d h =
    let small : get_or c.args.digit.now k d < 2 ^ c.args.w = c.requires.width k d h in
    let power : 2 ^ c.args.w ≤ 2 ^ 27 = pow-le-pow_right (omega arith) c.if-w-le27.true in
    omega (arith, small, power)

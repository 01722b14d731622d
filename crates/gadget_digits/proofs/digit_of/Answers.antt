use Rattle.std.proofs.Common.{◌<◌, ◌%◌, ◌/◌, ◌^◌, ℕ, ap, arith}
use Rattle.std.proofs.lemmas.Nat.{one_shl, and_mask}
use Rattle.negacyclic.specs.Digits.{digit}
use Rattle.negacyclic.proofs.Digits.{pow-mul}
use Rattle.gadget_digits.proofs.digit_of.Goals as goal

pub returns-clause-value : goal.returns-clause-value
unfolding digit
returns-clause-value c =
    let narrow : c.args.w < 64 = omega arith in
    rw (one_shl c.args.w 64 narrow, and_mask) (ap (λ (b : ℕ). c.args.x / b % 2 ^ c.args.w) (pow-mul 2 c.args.w c.args.k))

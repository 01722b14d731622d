use Rattle.std.proofs.Common.{◌+◌, ◌≤◌, ◌*◌, ◌^◌, sym, arith, mul-le-mul_left}
use Rattle.negacyclic.proofs.Digits.{number_of-nil}
use Rattle.bit_packing.proofs.Windows.{gather_more, gather_fits}
use Rattle.bit_packing.proofs.number_of_values.Goals as goal

pub loop-k-init : goal.loop-k-init
loop-k-init c = sym (number_of-nil (2 ^ c.args.width))

pub overflow_add-number : goal.overflow_add-number
overflow_add-number c =
    let here : c.loop-k.k + 1 ≤ c.args.count = omega arith in
    let room : c.args.width * (c.loop-k.k + 1) ≤ c.args.width * c.args.count = mul-le-mul_left c.args.width here in
    omega (arith, gather_fits 128 c.args.width c.loop-k.k c.loop-k.number c.args.values.now c.requires.fit (omega arith) (omega arith) c.loop-k.invariant)

pub loop-k-preserved : goal.loop-k-preserved
loop-k-preserved c =
    let here : c.loop-k.k + 1 ≤ c.args.count = omega arith in
    let room : c.args.width * (c.loop-k.k + 1) ≤ c.args.width * c.args.count = mul-le-mul_left c.args.width here in
    gather_more 128 c.args.width c.loop-k.k c.loop-k.number c.args.values.now c.requires.fit (omega arith) (omega arith) c.loop-k.invariant

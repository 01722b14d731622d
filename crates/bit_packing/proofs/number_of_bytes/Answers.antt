use Rattle.std.proofs.Common.{◌≡◌, ◌<◌, ◌≤◌, sym, ap, ◌∙◌, List, ℕ, length, take, arith, w64, length-take}
use Rattle.negacyclic.specs.Digits.{number_of}
use Rattle.negacyclic.proofs.Digits.{number_of-nil, from_le_bytes-number_of}
use Rattle.bit_packing.proofs.Windows.{bytes_below, gather_more, gather_fits}
use Rattle.bit_packing.proofs.number_of_bytes.Goals as goal

pub returns-in-Some : goal.returns-in-Some
returns-in-Some c =
    let same : c.in-Some.window.now ≡ take 8 c.args.bytes.now = c.in-Some.ensures.cases.same in
    let enough : 8 ≤ length c.args.bytes.now = c.in-Some.ensures.cases.enough in
    let whole : length c.in-Some.window.now ≡ 8 = rw same (simp length-take (omega arith)) in
    c.from_le_bytes.ensures
    ∙ from_le_bytes-number_of w64 c.in-Some.window.now (omega arith) whole
    ∙ ap (λ (bytes : List ℕ). number_of 256 bytes) same

pub loop-k-init : goal.loop-k-init
loop-k-init c = sym (number_of-nil 256)

pub overflow_add-number : goal.overflow_add-number
overflow_add-number c =
    let few : length c.args.bytes.now < 8 = c.in_default.ensures.cases in
    omega (arith, gather_fits 64 8 c.loop-k.k c.loop-k.number c.args.bytes.now (bytes_below c.args.bytes.now c.type_inv.bytes) (omega arith) (omega arith) c.loop-k.invariant)

pub loop-k-preserved : goal.loop-k-preserved
loop-k-preserved c =
    let few : length c.args.bytes.now < 8 = c.in_default.ensures.cases in
    gather_more 64 8 c.loop-k.k c.loop-k.number c.args.bytes.now (bytes_below c.args.bytes.now c.type_inv.bytes) (omega arith) (omega arith) c.loop-k.invariant

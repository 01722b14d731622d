use Rattle.std.proofs.Common.{arith, ℤ, ◌++◌, ◌∷◌, [], ap, ◌∙◌}
use Rattle.std.proofs.lemmas.Int.{ints, to_z-of_z}
use mir.Val.{SFits}
use mir.Syntax.{w8}
use Rattle.pir_wire.proofs.States.{too_large, secret_more}
use Rattle.pir_wire.proofs.decoding.state.secret_of.Goals as goal

pub returns-then-byte-gt2-clause-none : goal.returns-then-byte-gt2-clause-none
returns-then-byte-gt2-clause-none c = λ secret ternary e. too_large secret c.args.bytes.now c.loop-byte.byte-index ternary e (omega arith) (omega arith)

pub loop-byte-preserved : goal.loop-byte-preserved
loop-byte-preserved c =
    let z : ℤ = c.secret_number.result in
    let fits : SFits w8 z = omega (arith, ints, c.secret_number.ensures.ternary) in
    secret_more c.loop-byte.secret.items c.push.new.self.items c.args.bytes.now c.loop-byte.byte-index z c.loop-byte.invariant
    (omega arith) c.secret_number.ensures.ternary c.secret_number.ensures.byte
    (c.in_ok-push.ensures.items ∙ ap (λ (x : ℤ). c.loop-byte.secret.items ++ x ∷ []) (to_z-of_z w8 z fits))

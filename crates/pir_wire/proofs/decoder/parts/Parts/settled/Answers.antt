use Rattle.std.proofs.Common.{◌≡◌, ℕ, [], ◌∷◌, ◌++◌, length, get_or, ap, ◌∙◌, arith}
use Rattle.spiral_model.specs.Words.{Poly}
use Rattle.pir_wire.specs.CipherParts.{made, shapes, below_at_hand}
use Rattle.pir_wire.proofs.CipherSteps.{settled_same, settled_row, rows_same}
use Rattle.pir_wire.proofs.decoder.parts.Parts.settled.Goals as goal

pub returns-then-len-self : goal.returns-then-len-self
returns-then-len-self c = settled_same (made c.args.self) c.requires (omega (arith, c.if-len-self.true, c.len.ensures))

pub put_cipher-requires-clause-same : goal.put_cipher-requires-clause-same
put_cipher-requires-clause-same c =
    rows_same (made c.args.self) c.requires (omega (arith, c.if-len-self.false, c.len.ensures)) c.push.new.self.items
    (c.in_ok-push.ensures.items ∙ ap (λ (row : Poly). c.args.self.rows.items ++ row ∷ []) (c.in_ok-from_coeffs.ensures ∙ c.deref.ensures.value))

pub returns : goal.returns
returns c =
    let many : c.len-2.result ≡ length c.args.self.ciphers.items = omega (arith, c.len-2.ensures) in
    let m_is : c.rows_at-m.result ≡ below_at_hand (made c.args.self) =
    c.rows_at-m.ensures.value ∙ ap (λ (k : ℕ). get_or (shapes c.args.self.is_setup c.args.self.set) k 0) many in
    settled_row (made c.args.self) c.requires (omega (arith, c.if-len-self.false, c.len.ensures)) c.push.new.self.items
    (c.in_ok-push.ensures.items ∙ ap (λ (row : Poly). c.args.self.rows.items ++ row ∷ []) (c.in_ok-from_coeffs.ensures ∙ c.deref.ensures.value))
    c.rows_at-m.result c.put_cipher.new.ciphers.items c.in_ok-rows.rows.items c.clear.new.self.items m_is c.clear.ensures.items c.in_ok-rows.ensures

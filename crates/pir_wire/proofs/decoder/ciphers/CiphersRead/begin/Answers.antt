use Rattle.std.proofs.Common.{ℕ, List, sym, subst}
use Rattle.pir_wire.specs.CipherParts.{made, IsAtHand}
use Rattle.pir_wire.proofs.CipherParts.{kept}
use Rattle.pir_wire.proofs.decoder.ciphers.CiphersRead.begin.Goals as goal

pub invariant_of-result : goal.invariant_of-result
invariant_of-result c =
    kept (made c.none.result) c.new.result.items
    (subst (λ (few : List ℕ). IsAtHand (made c.none.result) few) (sym c.new.ensures.items) c.none.ensures.at_hand)

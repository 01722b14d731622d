use Rattle.std.proofs.Common.{◌≡◌, ℕ, List, [], sym, subst, arith}
use Rattle.std.proofs.lemmas.Grind.{common_steps}
use Rattle.pir_wire.specs.CipherParts.{made, IsAtHand, GrownBy}
use Rattle.pir_wire.proofs.CipherParts.{kept, grows_ok}
use Rattle.pir_wire.proofs.decoder.ciphers.CiphersRead.grown.Goals as goal

pub invariant_of-result : goal.invariant_of-result
invariant_of-result c = kept (made c.in_ok-parts.parts) c.in_ok-parts.few.items c.in_ok-parts.ensures.at_hand

pub returns-then-piece-lt-RESIDUE : goal.returns-then-piece-lt-RESIDUE
returns-then-piece-lt-RESIDUE c =
    grows_ok (made c.self.inside.parts) c.self.inside.few.items c.args.self c.args.piece.now (made c.in_ok-parts.parts) c.in_ok-parts.few.items
    c.in_ok-parts.taken c.self.view_is c.in_ok-parts.ensures

pub invariant_of-result-2 : goal.invariant_of-result-2
invariant_of-result-2 c =
    let none : c.self.inside.few.items ≡ [] = grind (arith, common_steps) in
    kept (made c.in_ok-parts-2.parts) c.self.inside.few.items
    (subst (λ (few : List ℕ). IsAtHand (made c.in_ok-parts-2.parts) few) (sym none) c.in_ok-parts-2.ensures.at_hand)

pub returns : goal.returns
returns c =
    let none : c.self.inside.few.items ≡ [] = grind (arith, common_steps) in
    grows_ok (made c.self.inside.parts) c.self.inside.few.items c.args.self c.args.piece.now (made c.in_ok-parts-2.parts) c.self.inside.few.items
    c.in_ok-parts-2.taken c.self.view_is
    (subst (λ (few : List ℕ). GrownBy (made c.self.inside.parts) few c.args.piece.now (made c.in_ok-parts-2.parts) few c.in_ok-parts-2.taken) (sym none)
    c.in_ok-parts-2.ensures)

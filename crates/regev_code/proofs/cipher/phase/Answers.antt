use Rattle.std.proofs.Common.{◌≡◌, List, [], ℕ, length, ◌∙◌, ap}
use Rattle.negacyclic.specs.Ring.{ring_sub, ring_mul}
use Rattle.spiral_model.specs.Sets.{q}
use Rattle.spiral_model.specs.Words.{row_of}
use Rattle.spiral_model.specs.Ciphertexts.{phase}
use Rattle.regev_code.proofs.cipher.phase.Goals as goal

pub returns : goal.returns
unfolding phase
returns c =
    let N = c.args.ring.now in
    let cipher = c.args.c.now in
    let from : c.in_ok-phase.phase ≡ row_of cipher c.args.row = c.in_ok-phase.ensures ∙ c.row.ensures in
    let size : length c.in_ok-phase.phase ≡ N = ap length from ∙ c.requires.degree c.args.row [] c.requires.row_in in
    let product : c.in_ok-product.product ≡ ring_mul q N c.args.secret.now (row_of cipher 0) =
    c.in_ok-product.ensures.value ∙ ap (λ (a : List ℕ). ring_mul q N c.args.secret.now a) c.row-2.ensures in
    c.sub_assign.ensures.value ∙ ap (λ (n : ℕ). ring_sub q n c.in_ok-phase.phase c.in_ok-product.product) size
    ∙ ap (λ (a : List ℕ). ring_sub q N a c.in_ok-product.product) from
    ∙ ap (λ (a : List ℕ). ring_sub q N (row_of cipher c.args.row) a) product

use Rattle.std.proofs.Common.{◌≡◌, ◌+◌, ◌*◌, ◌∷◌, take}
use Rattle.spiral_model.specs.Sampling.{uniform_poly}
use Rattle.spiral_model.specs.Ciphertexts.{encrypted_rows}
use Rattle.regev_code.specs.Shapes.{under}
use Rattle.regev_code.proofs.encrypt.encrypt.Given as goal

abbrev pub invariant-loop-i : goal.invariant-loop-i
invariant-loop-i l =
    (l.mask ≡ uniform_poly l.ring l.words l.start)
    × (l.rows.items ≡ uniform_poly l.ring l.words l.start ∷ encrypted_rows l.ring l.words (l.start + 2 * l.ring) (uniform_poly l.ring l.words l.start) (take l.i (under l.ring l.secret l.scalar)) (take l.i l.message))

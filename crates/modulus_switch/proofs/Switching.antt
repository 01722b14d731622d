-- The modulus switch of a residue.
use Rattle.std.proofs.Common.{◌≡◌, ◌<◌, ◌*◌, ℕ, ℤ, pos, ◌∙◌, ap, to_z, of_z, SFits}
use Rattle.std.proofs.lemmas.Int.{to_z-of_z}
use mir.Syntax.{w128}
use Rattle.negacyclic.specs.Residues.{residue, nearest}
use Rattle.negacyclic.proofs.Residues.{residue-below}
use Rattle.spiral_sets.specs.Sets.{q}
use Rattle.spiral_model.specs.Replies.{switched}

pub switched_is : (c m result : ℕ) (z : ℤ) → SFits w128 z → z ≡ pos (c * m) → result ≡ residue m (nearest (to_z w128 (of_z w128 z)) q) → result ≡ switched m c
unfolding switched
switched_is c m result z fits e h =
    let same : to_z w128 (of_z w128 z) ≡ pos (c * m) = to_z-of_z w128 z fits ∙ e in
    h ∙ ap (λ (x : ℤ). residue m (nearest x q)) same

pub switched_below : (c m : ℕ) → 0 < m → switched m c < m
unfolding switched
switched_below c m some = residue-below m (nearest (pos (c * m)) q) some

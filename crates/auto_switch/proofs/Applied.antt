-- The automorphism of a ciphertext, as it is worked out row by row.
use Rattle.std.proofs.Common.{◌≡◌, ℕ, ◌∙◌, ap, ap₂}
use Rattle.negacyclic.specs.Ring.{tau}
use Rattle.spiral_sets.specs.Sets.{q}
use Rattle.spiral_model.specs.Words.{Poly, Cipher, row_of}
use Rattle.spiral_model.specs.KeySwitching.{DigitKey, key_switched, auto_applied}

-- Key switching of the automorphism of both rows is the automorphism of the ciphertext.
pub applied_is : (N g : ℕ) (key : DigitKey) (c new : Cipher) (first second a b : Poly) → first ≡ row_of c 0 → second ≡ row_of c 1 → a ≡ tau q N g first → b ≡ tau q N g second
    → new ≡ key_switched N 1 1 key b a → new ≡ auto_applied N g key c
unfolding auto_applied
applied_is N g key c new first second a b row0 row1 turned0 turned1 switched =
    switched ∙ ap₂ (λ (y x : Poly). key_switched N 1 1 key y x) (turned1 ∙ ap (tau q N g) row1) (turned0 ∙ ap (tau q N g) row0)

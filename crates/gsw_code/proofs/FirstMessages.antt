-- The polynomials that a first-dimension ciphertext encrypts, from how the code works them out.
use Rattle.std.proofs.Common.{◌≡◌, ℕ, ◌==◌, if◌then◌else◌, Bool, true, false, ℤ, pos, refl, ◌∙◌, ap}
use Rattle.negacyclic.specs.Ring.{reduced}
use Rattle.spiral_sets.specs.declared.param_set.ParamSet.{ParamSet}
use Rattle.spiral_sets.specs.Sets.{q, delta}
use Rattle.spiral_model.specs.Words.{Poly}
use Rattle.spiral_model.specs.Ciphertexts.{constant}
use Rattle.spiral_model.specs.Queries.{first_place, row_message}

chosen_pos : (b : Bool) (x : ℕ) → pos (if b then x else 0) ≡ (if b then pos x else pos 0)
chosen_pos true x = refl
chosen_pos false x = refl

-- what a row encrypts
pub first_message : (set : ParamSet) (n index u r row value here : ℕ) (message : Poly) → n ≡ set.degree → value ≡ (if u == first_place set index then delta set else 0)
    → here ≡ (if row == r then value else 0) → message ≡ reduced q n (λ k. if k == 0 then pos here else pos 0)
    → message ≡ row_message set r (if u == first_place set index then pos (delta set) else pos 0) row
unfolding row_message constant
first_message set n index u r row value here message size asked chosen worked =
    worked ∙ ap (λ (m : ℕ). constant m (pos here)) size ∙ ap (λ (x : ℕ). constant set.degree (pos x)) chosen
    ∙ ap (constant set.degree) (chosen_pos (row == r) value)
    ∙ ap (λ (z : ℤ). constant set.degree (if row == r then z else pos 0)) (ap pos asked ∙ chosen_pos (u == first_place set index) (delta set))

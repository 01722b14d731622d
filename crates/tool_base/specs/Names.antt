-- The names of the sets.
use Rattle.std.specs.Prelude.{ℕ, List, ◌≡◌, Some}
use Rattle.spiral_sets.specs.declared.param_set.ParamSet.{ParamSet}
use Rattle.spiral_model.specs.Sets.{set_of}

-- the name is that of this set
pub record Names (name : List ℕ) (set : ParamSet) : Type 0 where
  pub named : set_of name ≡ Some set

-- it is that of none
abbrev pub NamesNone : List ℕ → Type 0
NamesNone name = (set : ParamSet) → Names name set → ⊥

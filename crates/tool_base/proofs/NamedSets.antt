-- The set of a name is one of the ten; where there is none, no set has the name.
use Rattle.std.proofs.Common.{ℕ, List, [], ◌∷◌, ◌≡◌, ◌∙◌, Option, Some, None, nat_eq, true, false, refl, sym, subst, lit<}
use Rattle.std.specs.Prelude.{if◌then◌else◌, IfSome, IfNone}
use Rattle.std.specs.List.{AllByRecursion}
use lib.Pointwise.{pointwise}
use Rattle.spiral_sets.specs.declared.param_set.ParamSet.{ParamSet}
use Rattle.spiral_sets.specs.declared.sets.TheConstants.{SETS}
use Rattle.spiral_model.specs.Sets.{IsSet, names, named_among, set_of}
use Rattle.tool_base.specs.Names.{Names, NamesNone}

-- what holds of each row holds of the one that a name is found at
found_row : (P : ParamSet → Type 0) (name : List ℕ) (others : List (List ℕ)) (sets : List ParamSet) (set : ParamSet)
    → AllByRecursion P sets → named_among name others sets ≡ Some set → P set
found_row P name [] sets set all e = absurd (cc)
found_row P name (other ∷ others) [] set all e = absurd (cc)
found_row P name (other ∷ others) (first ∷ sets) set all e =
    elim (pointwise nat_eq name other) as (λ same. (if same then Some first else named_among name others sets) ≡ Some set → P set)
    [ true ↦ λ found. (let it : first ≡ set = cc in subst P it all.0) | false ↦ λ later. found_row P name others sets set all.1 later ] e

rows_known : AllByRecursion IsSet SETS
rows_known = (
  (0, lit< tt, refl),
  (
    (1, lit< tt, refl),
    (
      (2, lit< tt, refl),
      (
        (3, lit< tt, refl),
        (
          (4, lit< tt, refl),
          ((5, lit< tt, refl), ((6, lit< tt, refl), ((7, lit< tt, refl), ((8, lit< tt, refl), ((9, lit< tt, refl), tt))))),
        ),
      ),
    ),
  ),
)

-- What was found by a name is one of the ten,
pub named_known : (name : List ℕ) (found : Option ParamSet) → found ≡ set_of name → IfSome found IsSet
named_known name (Some set) e = found_row IsSet name names SETS set rows_known (sym e)
named_known name None e = tt

-- and has that name;
pub named_found : (name : List ℕ) (found : Option ParamSet) → found ≡ set_of name → IfSome found (Names name)
named_found name (Some set) e = record { named = sym e }
named_found name None e = tt

-- where nothing was found, no set has it.
pub named_none : (name : List ℕ) (found : Option ParamSet) → found ≡ set_of name → IfNone found (NamesNone name)
named_none name (Some set) e = tt
named_none name None e = λ set is. (let differ : None ≡ Some set = e ∙ is.named in absurd (cc))

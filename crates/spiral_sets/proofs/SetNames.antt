-- Names of sets, and the lengths that every set's bodies keep.
use Rattle.std.proofs.Common.{◌≡◌, ◌≤◌, length, sym, ◌∙◌, ap, Some, refl, lit≤}
use Rattle.spiral_sets.specs.declared.param_set.ParamSet.{ParamSet}
use Rattle.spiral_sets.specs.Sets.{IsSet, name_of, set_of}
use Rattle.spiral_sets.specs.Counts.{state_len, reply_len}
use Rattle.spiral_sets.proofs.EachSet.{each_set}

pub set_of_name : (set : ParamSet) → IsSet set → set_of (name_of set) ≡ Some set
set_of_name =
    each_set (λ set. set_of (name_of set) ≡ Some set)
    (refl, (refl, (refl, (refl, (refl, (refl, (refl, (refl, (refl, (refl, tt))))))))))

-- a name is that of one set
pub same_from_name : (s t : ParamSet) → IsSet s → IsSet t → name_of s ≡ name_of t → s ≡ t
same_from_name s t hs ht e =
    let named : Some s ≡ Some t = sym (set_of_name s hs) ∙ ap set_of e ∙ set_of_name t ht in
    cc

pub name-most : (set : ParamSet) → IsSet set → length (name_of set) ≤ 15
name-most =
    each_set (λ set. length (name_of set) ≤ 15)
    (lit≤ tt, (lit≤ tt, (lit≤ tt, (lit≤ tt, (lit≤ tt, (lit≤ tt, (lit≤ tt, (lit≤ tt, (lit≤ tt, (lit≤ tt, tt))))))))))

-- ---- lengths of bodies

pub state_len-most : (set : ParamSet) → IsSet set → state_len set ≤ 8200
state_len-most =
    each_set (λ set. state_len set ≤ 8200)
    (lit≤ tt, (lit≤ tt, (lit≤ tt, (lit≤ tt, (lit≤ tt, (lit≤ tt, (lit≤ tt, (lit≤ tt, (lit≤ tt, (lit≤ tt, tt))))))))))

pub reply_len-most : (set : ParamSet) → IsSet set → reply_len set ≤ 88080
reply_len-most =
    each_set (λ set. reply_len set ≤ 88080)
    (lit≤ tt, (lit≤ tt, (lit≤ tt, (lit≤ tt, (lit≤ tt, (lit≤ tt, (lit≤ tt, (lit≤ tt, (lit≤ tt, (lit≤ tt, tt))))))))))

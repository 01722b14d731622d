-- The widths of a set's keys are widths of the set, so that each of its keys serves with the set's room.
use Rattle.std.proofs.Common.{◌≡◌, ℕ, ◌<◌, ◌≤◌, Bool, true, false, List, All, Some, None, if◌then◌else◌, leb, leb-true, refl, sym, ◌∙◌, ap, subst, arith}
use Rattle.spiral_sets.specs.declared.param_set.ParamSet.{ParamSet}
use Rattle.spiral_sets.specs.Sets.{IsSet, digit_count, smallest_width, has_keys, rows}
use Rattle.spiral_sets.proofs.SetBounds.{passes, at_most}
use Rattle.spiral_model.specs.KeySwitching.{DigitKey}
use Rattle.spiral_model.specs.Keys.{SetKeys}
use Rattle.regev_code.specs.Products.{IsWidth}
use Rattle.regev_code.specs.KeyShapes.{IsKey, AreKeys, IsKeyOf, IsConversion, AreSetKeys}

-- ---- widths

-- a test that counts where b is the one or the other
where_false : (b : Bool) (x y : ℕ) → leb (if b then y else x) y ≡ true → b ≡ false → x ≤ y
where_false b x y passed isnt = leb-true x y (ap (λ (c : Bool). leb (if c then y else x) y) (sym isnt) ∙ passed)

where_true : (b : Bool) (x y : ℕ) → leb (if b then x else y) y ≡ true → b ≡ true → x ≤ y
where_true b x y passed is = leb-true x y (ap (λ (c : Bool). leb (if c then x else y) y) (sym is) ∙ passed)

-- The widths of the rounds' keys, in a set that expands.
pub w_right-width : (set : ParamSet) → IsSet set → set.direct ≡ false → IsWidth set set.w_right
w_right-width set is expands = record {
  least = where_false set.direct (smallest_width set) set.w_right
      (passes (λ set. leb (if set.direct then set.w_right else smallest_width set) set.w_right)
      (refl, (refl, (refl, (refl, (refl, (refl, (refl, (refl, (refl, (refl, tt)))))))))) set is)
      expands;
  most = at_most (λ set. set.w_right) 56 (refl, (refl, (refl, (refl, (refl, (refl, (refl, (refl, (refl, (refl, tt)))))))))) set is;
}

pub w_left-width : (set : ParamSet) → IsSet set → set.direct ≡ false → IsWidth set set.w_left
w_left-width set is expands = record {
  least = where_false set.direct (smallest_width set) set.w_left
      (passes (λ set. leb (if set.direct then set.w_left else smallest_width set) set.w_left)
      (refl, (refl, (refl, (refl, (refl, (refl, (refl, (refl, (refl, (refl, tt)))))))))) set is)
      expands;
  most = at_most (λ set. set.w_left) 56 (refl, (refl, (refl, (refl, (refl, (refl, (refl, (refl, (refl, (refl, tt)))))))))) set is;
}

-- The width of the lift keys and the conversion key, in a set with keys.
pub w_conv-width : (set : ParamSet) → IsSet set → has_keys set ≡ true → IsWidth set set.w_conv
w_conv-width set is some = record {
  least = where_true (has_keys set) (smallest_width set) set.w_conv
      (passes (λ set. leb (if has_keys set then smallest_width set else set.w_conv) set.w_conv)
      (refl, (refl, (refl, (refl, (refl, (refl, (refl, (refl, (refl, (refl, tt)))))))))) set is)
      some;
  most = at_most (λ set. set.w_conv) 56 (refl, (refl, (refl, (refl, (refl, (refl, (refl, (refl, (refl, (refl, tt)))))))))) set is;
}

-- ---- keys

-- A key of a width of the set is one of its keys.
pub key_of_width : (set : ParamSet) (m w : ℕ) (key : DigitKey) → IsWidth set w → IsKey set.degree m w key → IsKeyOf set m key
key_of_width set m w key width is = record {
  is = record { width = refl; count = is.count ∙ ap digit_count (sym is.width); shapes = is.shapes };
  width = subst (IsWidth set) (sym is.width) width;
}

-- Keys, where there are any, of a width of the set.
pub keys_of_width : (set : ParamSet) (m w count : ℕ) (keys : List DigitKey) → (0 < count → IsWidth set w) → AreKeys set.degree m w count keys
    → All (IsKeyOf set m) keys
keys_of_width set m w count keys width are k d h =
    let some : 0 < count = omega (arith, are.many) in
    key_of_width set m w _ (width some) (are.each k d h)

-- where there are keys but for a direct set, it expands
none_if_direct : (b : Bool) (n : ℕ) → 0 < (if b then 0 else n) → b ≡ false
none_if_direct true n h = absurd (omega arith)
none_if_direct false n h = refl

-- The keys of the rounds.
pub round0_keys_of : (keys : SetKeys) → AreSetKeys keys → All (IsKeyOf keys.set 1) keys.round0
round0_keys_of keys are =
    keys_of_width keys.set 1 keys.set.w_right _ keys.round0 (λ h. w_right-width keys.set are.known (none_if_direct keys.set.direct 1 h)) are.round0

pub left_keys_of : (keys : SetKeys) → AreSetKeys keys → All (IsKeyOf keys.set 1) keys.left
left_keys_of keys are =
    keys_of_width keys.set 1 keys.set.w_left _ keys.left (λ h. w_left-width keys.set are.known (none_if_direct keys.set.direct keys.set.nu1 h)) are.left

pub right_keys_of : (keys : SetKeys) → AreSetKeys keys → All (IsKeyOf keys.set 1) keys.right
right_keys_of keys are =
    keys_of_width keys.set 1 keys.set.w_right _ keys.right (λ h. w_right-width keys.set are.known (none_if_direct keys.set.direct _ h)) are.right

-- The lift keys.
pub lift_keys_of : (keys : SetKeys) → AreSetKeys keys → All (IsKeyOf keys.set keys.set.n) keys.lift
lift_keys_of keys are =
    keys_of_width keys.set keys.set.n keys.set.w_conv keys.set.n keys.lift (λ h. w_conv-width keys.set are.known are.some) are.lift

-- The conversion key, where there is one.
pub conversion_key_of : (keys : SetKeys) (key : DigitKey) → AreSetKeys keys → keys.conv ≡ Some key → IsKeyOf keys.set (rows keys.set) key
conversion_key_of keys key are there =
    let is : IsConversion keys.set (Some key) = subst (IsConversion keys.set) there are.conv in
    key_of_width keys.set (rows keys.set) keys.set.w_conv key (w_conv-width keys.set are.known are.some) is.1

-- There is none in a direct set alone.
pub conversion_none : (keys : SetKeys) → AreSetKeys keys → keys.conv ≡ None → keys.set.direct ≡ true
conversion_none keys are none = subst (IsConversion keys.set) none are.conv

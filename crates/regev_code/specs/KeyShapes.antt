-- What the keys of a set keep: how many there are, their widths, and the shapes of their ciphertexts.
use Rattle.std.specs.Prelude.{ℕ, List, ◌≡◌, ◌+◌, true, false, if◌then◌else◌, length, All, Option, Some, None, MatchOption}
use Rattle.spiral_sets.specs.declared.param_set.ParamSet.{ParamSet}
use Rattle.spiral_sets.specs.Sets.{IsSet, digit_count, rho, rows, has_keys}
use Rattle.spiral_model.specs.KeySwitching.{DigitKey}
use Rattle.spiral_model.specs.Keys.{SetKeys}
use Rattle.regev_code.specs.Products.{HasShape, IsWidth}

-- A switching key of width w: t ciphertexts with rows 0 to m, each of N coefficients.
pub record IsKey (N m w : ℕ) (key : DigitKey) : Type 0 where
  pub width : key.w ≡ w
  pub count : length key.ciphers ≡ digit_count w
  pub shapes : All (HasShape N (m + 1)) key.ciphers

-- so many keys of one width and shape
pub record AreKeys (N m w count : ℕ) (keys : List DigitKey) : Type 0 where
  pub many : length keys ≡ count
  pub each : All (IsKey N m w) keys

-- a key's width is one for which the set's room suffices, and its ciphertexts have rows 0 to m
pub record IsKeyOf (set : ParamSet) (m : ℕ) (key : DigitKey) : Type 0 where
  pub is : IsKey set.degree m key.w key
  pub width : IsWidth set key.w

-- the conversion key, with the rows of the set's GSW ciphertexts: there is none exactly in a direct set
abbrev pub IsConversion : ParamSet → Option DigitKey → Type 0
IsConversion set conv = MatchOption conv (set.direct ≡ true) (λ key. (set.direct ≡ false) × IsKey set.degree (rows set) set.w_conv key)

-- What the keys of every set with keys keep: their numbers, widths and shapes. The rounds' lists are empty in a direct set.
pub record AreSetKeys (keys : SetKeys) : Type 0 where
  pub known : IsSet keys.set
  pub some : has_keys keys.set ≡ true
  pub round0 : AreKeys keys.set.degree 1 keys.set.w_right (if keys.set.direct then 0 else 1) keys.round0
  pub left : AreKeys keys.set.degree 1 keys.set.w_left (if keys.set.direct then 0 else keys.set.nu1) keys.left
  pub right : AreKeys keys.set.degree 1 keys.set.w_right (if keys.set.direct then 0 else rho keys.set) keys.right
  pub lift : AreKeys keys.set.degree keys.set.n keys.set.w_conv keys.set.n keys.lift
  pub conv : IsConversion keys.set keys.conv

-- The keys with which a set's queries are made ready and answered: a set with keys takes its own; another takes any, or none.
abbrev pub AreKeysFor : ParamSet → Option SetKeys → Type 0
AreKeysFor set (Some keys) = has_keys set ≡ true → keys.set ≡ set
AreKeysFor set None = has_keys set ≡ false

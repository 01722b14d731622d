-- The columns of a result: what the fold leaves, packed with the lift keys where the set packs.
use Rattle.std.proofs.Common.{◌≡◌, ℕ, ◌+◌, ◌*◌, ◌≤◌, Bool, true, false, ◌||◌, not, if◌then◌else◌, List, length, All, Option, Some}
use Rattle.std.proofs.Common.{refl, sym, ◌∙◌, ap, subst, arith}
use Rattle.spiral_sets.specs.declared.param_set.ParamSet.{ParamSet}
use Rattle.spiral_model.specs.Sets.{rows, columns, has_keys}
use Rattle.spiral_model.specs.Words.{Cipher}
use Rattle.spiral_model.specs.KeySwitching.{DigitKey}
use Rattle.spiral_model.specs.Keys.{SetKeys, lift_keys}
use Rattle.spiral_model.specs.Replies.{SwitchedReply}
use Rattle.spiral_model.specs.Packing.{packed}
use Rattle.spiral_model.specs.Answering.{result_columns}
use Rattle.regev_code.specs.Products.{HasShape}
use Rattle.regev_code.specs.KeyShapes.{AreKeysFor}
use Rattle.pir_server.specs.Switched.{switched_from}

-- ---- the two kinds of sets

packing_rows : (s : ParamSet) → s.pack ≡ true → rows s ≡ 1
packing_rows s packs = ap (λ (b : Bool). if b then 1 else s.n) packs

packing_columns : (s : ParamSet) → s.pack ≡ true → columns s ≡ s.n * s.n
packing_columns s packs = ap (λ (b : Bool). if b then s.n * s.n else s.n) packs

plain_rows : (s : ParamSet) → s.pack ≡ false → rows s ≡ s.n
plain_rows s plain = ap (λ (b : Bool). if b then 1 else s.n) plain

plain_columns : (s : ParamSet) → s.pack ≡ false → columns s ≡ s.n
plain_columns s plain = ap (λ (b : Bool). if b then s.n * s.n else s.n) plain

-- Where the set packs, the fold leaves n times n ciphertexts.
pub scalar_count : (s t : ParamSet) (folded : List Cipher) → s.pack ≡ true → t ≡ s → length folded ≡ columns s → length folded ≡ t.n * t.n
scalar_count s t folded packs same count = count ∙ packing_columns s packs ∙ ap (λ (u : ParamSet). u.n * u.n) (sym same)

-- They are scalar ones, of two rows.
pub scalar_shapes : (s : ParamSet) (N : ℕ) (folded : List Cipher) → s.pack ≡ true → N ≡ s.degree
    → All (HasShape s.degree (rows s + 1)) folded → All (HasShape N 2) folded
scalar_shapes s N folded packs degree shapes =
    subst (λ (d : ℕ). All (HasShape d 2) folded) (sym degree) (subst (λ (m : ℕ). All (HasShape s.degree (m + 1)) folded) (packing_rows s packs) shapes)

-- Where it doesn't, they are n.
pub column_count : (s : ParamSet) (folded : List Cipher) → s.pack ≡ false → length folded ≡ columns s → s.n ≤ length folded
column_count s folded plain count = let all : length folded ≡ s.n = count ∙ plain_columns s plain in omega (arith, all)

-- They are columns of n + 1 rows.
pub column_shapes : (s : ParamSet) (folded : List Cipher) → s.pack ≡ false
    → All (HasShape s.degree (rows s + 1)) folded → All (HasShape s.degree (s.n + 1)) folded
column_shapes s folded plain shapes = subst (λ (m : ℕ). All (HasShape s.degree (m + 1)) folded) (plain_rows s plain) shapes

-- ---- the keys of a set that packs

or_last : (a b : Bool) → b ≡ true → (a || b) ≡ true
or_last true b is = refl
or_last false b is = is

-- A set that packs has keys.
packing-keys : (s : ParamSet) → s.pack ≡ true → has_keys s ≡ true
packing-keys s packs = or_last (not s.direct) s.pack packs

-- Its keys are of this set.
pub packing-own : (s : ParamSet) (given : Option SetKeys) (keys : SetKeys) → s.pack ≡ true → given ≡ Some keys → AreKeysFor s given → keys.set ≡ s
packing-own s given keys packs some are =
    let own : AreKeysFor s (Some keys) = subst (AreKeysFor s) some are in own (packing-keys s packs)

-- ---- the columns of the result

packed_result : (s : ParamSet) (lift : List DigitKey) (folded : List Cipher) → s.pack ≡ true → result_columns s lift folded ≡ packed s lift folded
unfolding result_columns
packed_result s lift folded packs = ap (λ (pack : Bool). if pack then packed s lift folded else folded) packs

plain_result : (s : ParamSet) (lift : List DigitKey) (folded : List Cipher) → s.pack ≡ false → result_columns s lift folded ≡ folded
unfolding result_columns
plain_result s lift folded plain = ap (λ (pack : Bool). if pack then packed s lift folded else folded) plain

-- The result put where the set packs is that of the definition.
pub packed_put : (s : ParamSet) (given : Option SetKeys) (keys : SetKeys) (folded : List Cipher) (old : SwitchedReply) → s.pack ≡ true → given ≡ Some keys
    → switched_from s old (packed s keys.lift folded) ≡ switched_from s old (result_columns s (lift_keys given) folded)
packed_put s given keys folded old packs some =
    let columns_are : result_columns s (lift_keys given) folded ≡ packed s keys.lift folded =
    packed_result s (lift_keys given) folded packs ∙ ap (λ (k : Option SetKeys). packed s (lift_keys k) folded) some in
    ap (switched_from s old) (sym columns_are)

-- So is the result put where it doesn't.
pub plain_put : (s : ParamSet) (given : Option SetKeys) (folded : List Cipher) (old : SwitchedReply) → s.pack ≡ false
    → switched_from s old folded ≡ switched_from s old (result_columns s (lift_keys given) folded)
plain_put s given folded old plain = ap (switched_from s old) (sym (plain_result s (lift_keys given) folded plain))

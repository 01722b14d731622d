-- The columns of a translated GSW ciphertext, by row and digit.
use Rattle.std.proofs.Common.{◌≡◌, ℕ, ◌+◌, ◌*◌, ◌/◌, ◌%◌, ◌<◌, ◌≤◌, ◌≢◌, ne_eqb, if◌then◌else◌, Bool, true, false, List, [], ◌∷◌, ◌++◌, length, get_or, replicate, map, All, Option, sym, ◌∙◌, ap, ap₂, subst, arith}
use Rattle.std.specs.List.{range_with_len}
use Rattle.std.proofs.lemmas.Nat.{div_below, mod_below}
use Rattle.std.proofs.lemmas.List.Elements.{All-nil, All-push, All-same}
use Rattle.std.proofs.lemmas.List.FromFn.{length-map-range_with_len}
use Rattle.negacyclic.proofs.Lists.{at_range, pushed_more, rows_from_places}
use Rattle.spiral_sets.specs.declared.param_set.ParamSet.{ParamSet}
use Rattle.spiral_sets.specs.Sets.{digit_count, rows}
use Rattle.spiral_sets.specs.Counts.{gsw_count}
use Rattle.spiral_model.specs.Words.{Cipher, row_of, cipher_at}
use Rattle.spiral_model.specs.KeySwitching.{DigitKey, key_switched, lifted}
use Rattle.spiral_model.specs.Keys.{SetKeys}
use Rattle.spiral_model.specs.Packing.{conversion_key, lift_row, translated_column, translated_row, translated}
use Rattle.regev_code.specs.Products.{HasShape}
use Rattle.regev_code.proofs.Products.{zeros_shape}

-- ---- a column of row 0

-- with the rows of the ciphertext as they were read
pub converted_is : (N m : ℕ) (set : ParamSet) (key : DigitKey) (c out : Cipher) (high low : List ℕ) → m ≡ rows set → high ≡ row_of c 1 → low ≡ row_of c 0
    → out ≡ key_switched N m 0 key high low → out ≡ lifted N (rows set) 0 key c
unfolding lifted
converted_is N m set key c out high low count first second worked =
    worked ∙ ap (λ (n : ℕ). key_switched N n 0 key high low) count
    ∙ ap₂ (λ (b a : List ℕ). key_switched N (rows set) 0 key b a) first second

-- the same, where the degree, the set and the key are known by equations
pub converted-value : (N : ℕ) (set seen : ParamSet) (conv : Option DigitKey) (key : DigitKey) (c out : Cipher) → N ≡ set.degree → seen ≡ set → key ≡ conversion_key conv
    → out ≡ lifted N (rows seen) 0 key c → out ≡ lifted set.degree (rows set) 0 (conversion_key conv) c
converted-value N set seen conv key c out degree same is worked =
    worked ∙ ap (λ (n : ℕ). lifted n (rows seen) 0 key c) degree
    ∙ ap (λ (s : ParamSet). lifted set.degree (rows s) 0 key c) same
    ∙ ap (λ (k : DigitKey). lifted set.degree (rows set) 0 k c) is

-- ---- room

-- rows of zeros have their shape
pub zeros-rows : (N m count : ℕ) (set : ParamSet) (out : Cipher) → N ≡ set.degree → m ≡ count → out ≡ replicate (m + 1) (replicate {A = ℕ} set.degree 0)
    → HasShape N (count + 1) out
zeros-rows N m count set out degree rows_are zeros =
    subst (λ (n : ℕ). HasShape n (count + 1) out) (sym degree)
    (zeros_shape set.degree (count + 1) out (zeros ∙ ap (λ (k : ℕ). replicate (k + 1) (replicate {A = ℕ} set.degree 0)) rows_are))

-- ---- one column

-- that of row 0,
pub column-converted : (set : ParamSet) (keys : SetKeys) (c out : Cipher) (r : ℕ) → r ≡ 0 → out ≡ lifted set.degree (rows set) 0 (conversion_key keys.conv) c
    → out ≡ translated_column set keys c r
unfolding translated_column
column-converted set keys c out r none worked = rw none worked

-- of a further row where the set packs,
pub column-same : (set : ParamSet) (keys : SetKeys) (c out : Cipher) (r : ℕ) → r ≢ 0 → set.pack ≡ true → out ≡ c → out ≡ translated_column set keys c r
unfolding translated_column
column-same set keys c out r other packs same =
    rw (ne_eqb r 0 other) (same ∙ sym (ap (λ (b : Bool). if b then c else lift_row set keys.lift c r) packs))

-- and where it doesn't
pub column-lifted : (set : ParamSet) (keys : SetKeys) (c out : Cipher) (r : ℕ) → r ≢ 0 → set.pack ≡ false → out ≡ lift_row set keys.lift c r
    → out ≡ translated_column set keys c r
unfolding translated_column
column-lifted set keys c out r other plain worked =
    rw (ne_eqb r 0 other) (worked ∙ sym (ap (λ (b : Bool). if b then c else lift_row set keys.lift c r) plain))

-- ---- all columns, one place after the other

-- the column at a place: by row, within it by digit
abbrev pub column_at : ParamSet → SetKeys → List Cipher → ℕ → Cipher
column_at set keys bits place = translated_column set keys (cipher_at bits (place % digit_count set.w_gsw)) (place / digit_count set.w_gsw)

-- the row of a place is one of the set's,
pub row_within : (set : ParamSet) (place end digits : ℕ) → digits ≡ digit_count set.w_gsw → end ≡ gsw_count set → 1 ≤ digits → place < end → place / digits ≤ rows set
row_within set place end digits count all some h =
    let whole : end ≡ (rows set + 1) * digits = all ∙ ap (λ (t : ℕ). (rows set + 1) * t) (sym count) in
    let below : place / digits < rows set + 1 = div_below place digits (rows set + 1) some (subst (λ (n : ℕ). place < n) whole h) in
    omega (arith, below)

-- and its digit one of the bit's
pub digit_within : (set : ParamSet) (place digits : ℕ) (bits : List Cipher) → digits ≡ digit_count set.w_gsw → length bits ≡ digit_count set.w_gsw → 1 ≤ digits
    → place % digits < length bits
digit_within set place digits bits count all some =
    let below : place % digits < digits = mod_below place digits some in
    omega (arith, below, count, all)

-- What the loop over the places keeps.
pub record Translates (N : ℕ) (set : ParamSet) (keys : SetKeys) (bits : List Cipher) (place : ℕ) (columns : List Cipher) (scratch : ParamSet) : Type 0 where
  pub so_far : columns ≡ map (column_at set keys bits) (range_with_len 0 place)
  pub shapes : All (HasShape N (rows set + 1)) columns
  pub kept : scratch ≡ set

-- none so far
pub translates-none : (N : ℕ) (set : ParamSet) (keys : SetKeys) (bits columns : List Cipher) (scratch : ParamSet) → columns ≡ [] → scratch ≡ set
    → Translates N set keys bits 0 columns scratch
translates-none N set keys bits columns scratch none kept = record {
  so_far = none;
  shapes = All-same (HasShape N (rows set + 1)) columns [] none (All-nil (HasShape N (rows set + 1)));
  kept = kept;
}

-- one more
pub translates-more : (N digits : ℕ) (set : ParamSet) (keys : SetKeys) (bits : List Cipher) (place : ℕ) (columns new : List Cipher) (bit column : Cipher) (scratch after : ParamSet)
    → digits ≡ digit_count set.w_gsw → Translates N set keys bits place columns scratch → bit ≡ cipher_at bits (place % digits)
    → column ≡ translated_column set keys bit (place / digits) → HasShape N (rows set + 1) column → after ≡ scratch → new ≡ columns ++ column ∷ []
    → Translates N set keys bits (place + 1) new after
translates-more N digits set keys bits place columns new bit column scratch after count so_far read worked shape kept pushed =
    record {
      so_far =
          pushed_more (column_at set keys bits) 0 place place columns new column (omega arith) so_far.so_far pushed
          (worked ∙ ap (λ (b : Cipher). translated_column set keys b (place / digits)) read
          ∙ ap (λ (t : ℕ). translated_column set keys (cipher_at bits (place % t)) (place / t)) count);
      shapes =
          All-same (HasShape N (rows set + 1)) new (columns ++ column ∷ []) pushed (All-push (HasShape N (rows set + 1)) columns column so_far.shapes shape);
      kept = kept ∙ so_far.kept;
    }

-- how many they are
pub translates-count : (N : ℕ) (set : ParamSet) (keys : SetKeys) (bits columns : List Cipher) (place : ℕ) (scratch : ParamSet) → place ≡ gsw_count set
    → Translates N set keys bits place columns scratch → length columns ≡ gsw_count set
translates-count N set keys bits columns place scratch all so_far =
    ap length so_far.so_far ∙ length-map-range_with_len (column_at set keys bits) 0 place ∙ all

-- all of them
pub translates-all : (N : ℕ) (set : ParamSet) (keys : SetKeys) (bits columns : List Cipher) (place : ℕ) (scratch : ParamSet) → place ≡ gsw_count set
    → Translates N set keys bits place columns scratch → columns ≡ translated set keys bits
unfolding translated translated_row
translates-all N set keys bits columns place scratch all so_far =
    let size : length columns ≡ gsw_count set = translates-count N set keys bits columns place scratch all so_far in
    rows_from_places (λ r k. translated_column set keys (cipher_at bits k) r) (digit_count set.w_gsw) (rows set + 1) columns [] size
    (λ p h.
    ap (λ (xs : List Cipher). get_or xs p []) so_far.so_far ∙ at_range (column_at set keys bits) place p [] (omega (arith, size)))

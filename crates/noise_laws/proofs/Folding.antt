-- The fold: each step keeps the phase of the ciphertext whose half its bit says, so that the whole keeps that of the asked folded place.
use Rattle.std.proofs.Common.{◌≡◌, ℕ, zero, suc, ◌+◌, ◌-◌, ◌*◌, ◌/◌, ◌%◌, ◌^◌, ◌<◌, ◌≤◌, ◌==◌, if◌then◌else◌, List, [], ◌∷◌, length, sum_by, sym, ◌∙◌, ap, ap₂, subst, subst₂, arith, le_refl, le_of_eq, mod-lt, mod-eq_of_lt, pow-add}
use Rattle.std.specs.List.{range_with_len}
use Rattle.std.proofs.Math.Nat.{pow-succ'}
use Rattle.std.proofs.Math.Arith.{mod-mul}
use Rattle.std.proofs.lemmas.Nat.{pow_pos, row_fits, div-add-mod', div_below, mod_below}
use Rattle.std.proofs.lemmas.List.FromFn.{length-map-range_with_len}
use Rattle.negacyclic.proofs.RangeSums.{range_sum-split, range_sum-same}
use Rattle.negacyclic.proofs.Lists.{at_range, length-pieces, pieces-at}
use Rattle.negacyclic.proofs.Phases.{carries_most}
use Rattle.spiral_sets.specs.declared.param_set.ParamSet.{ParamSet}
use Rattle.spiral_sets.specs.Sets.{IsSet, rows, columns, max_records}
use Rattle.spiral_model.specs.Words.{Poly, Cipher, Gsw, Matrix, poly_of, cipher_at, gsw_at}
use Rattle.spiral_model.specs.Gadgets.{selected}
use Rattle.spiral_model.specs.Queries.{folded_place}
use Rattle.spiral_model.specs.Answering.{first_row, first_product, first_columns_of, first_products, fold_pair, fold_step, folded}
use Rattle.spiral_model.specs.Noise.{selection_noise, gsw_noise}
use Rattle.noise_laws.specs.Laws.{FoldKeeps}
use Rattle.noise_laws.proofs.Measured.{Keeps, keeps_itself, keeps_then, near_kept}
use Rattle.noise_laws.proofs.Selections.{length-selected, selection_carries}

-- ---- places

-- half of size * 2^(n + 1)
half_is : (len size n : ℕ) → len ≡ size * 2 ^ suc n → len / 2 ≡ size * 2 ^ n
half_is len size n e =
    let twice : 2 ^ suc n ≡ 2 * 2 ^ n = pow-succ' 2 n in
    let whole : len ≡ 2 * (size * 2 ^ n) = e ∙ ap (λ (m : ℕ). size * m) twice ∙ omega arith in omega arith

-- a place of size * 2^n, from one of size and one of 2^n
place_within : (size x r n : ℕ) → x < size → r < n → x + size * r < size * n
place_within size x r n h g = let fits : r * size + size ≤ n * size = row_fits r size n size g (le_refl size) in omega arith

-- The place of n + 1 bits: that of n bits, in the half that the highest says.
place_joined : (size x place n : ℕ) → x + size * (place % 2 ^ n) + place / 2 ^ n % 2 * (size * 2 ^ n) ≡ x + size * (place % 2 ^ suc n)
place_joined size x place n =
    let split : place % (2 * 2 ^ n) ≡ place / 2 ^ n % 2 * 2 ^ n + place % 2 ^ n = mod-mul place (omega arith) (pow_pos n) in
    let whole : place % 2 ^ suc n ≡ place / 2 ^ n % 2 * 2 ^ n + place % 2 ^ n = ap (λ (m : ℕ). place % m) (pow-succ' 2 n) ∙ split in
    joined size x (place % 2 ^ n) (place / 2 ^ n % 2) (2 ^ n) ∙ sym (ap (λ (m : ℕ). x + size * m) whole)
  where
    joined : (size x r b h : ℕ) → x + size * r + b * (size * h) ≡ x + size * (b * h + r)
    joined size x r b h = omega arith

-- ---- one step

-- every ciphertext has the rows of a set
abbrev HaveRows : ParamSet → List Cipher → Type 0
HaveRows set ciphers = (y : ℕ) → y < length ciphers → length (cipher_at ciphers y) ≡ rows set + 1

pub length-fold_step : (N w : ℕ) (gsw : Gsw) (ciphers : List Cipher) → length (fold_step N w gsw ciphers) ≡ length ciphers / 2
unfolding fold_step
length-fold_step N w gsw ciphers = length-map-range_with_len (fold_pair N w gsw ciphers) 0 (length ciphers / 2)

-- a ciphertext of a step
step_at : (N w : ℕ) (gsw : Gsw) (ciphers : List Cipher) (y : ℕ) → y < length ciphers / 2
    → cipher_at (fold_step N w gsw ciphers) y ≡ selected N w gsw (cipher_at ciphers y) (cipher_at ciphers (y + length ciphers / 2))
unfolding fold_step fold_pair
step_at N w gsw ciphers y h = at_range (fold_pair N w gsw ciphers) (length ciphers / 2) y [] h

step_rows : (set : ParamSet) (gsw : Gsw) (ciphers : List Cipher) → HaveRows set ciphers → HaveRows set (fold_step set.degree set.w_gsw gsw ciphers)
step_rows set gsw ciphers have y h =
    let half : y < length ciphers / 2 = omega (arith, length-fold_step set.degree set.w_gsw gsw ciphers) in
    ap length (step_at set.degree set.w_gsw gsw ciphers y half)
    ∙ length-selected set.degree set.w_gsw gsw (cipher_at ciphers y) (cipher_at ciphers (y + length ciphers / 2))
    ∙ have y (omega arith)

-- the ciphertext of the half that a bit says
chosen_half : (ciphers : List Cipher) (bit y half : ℕ) → bit < 2
    → (if bit == 0 then cipher_at ciphers y else cipher_at ciphers (y + half)) ≡ cipher_at ciphers (y + bit * half)
chosen_half ciphers zero y half few = let here : y ≡ y + 0 * half = omega arith in ap (cipher_at ciphers) here
chosen_half ciphers (suc zero) y half few = let there : y + half ≡ y + 1 * half = omega arith in ap (cipher_at ciphers) there
chosen_half ciphers (suc (suc n)) y half few = absurd (omega arith)

-- ---- the noise of many selections

-- the bit of selection l out of n
abbrev bit_of : ℕ → ℕ → ℕ → ℕ
bit_of place n l = place / 2 ^ (n - 1 - l) % 2

abbrev bits_noise : ParamSet → List Poly → ℕ → ℕ → List Gsw → ℕ → ℕ
bits_noise set secrets place row gsws n = sum_by (λ l. selection_noise set secrets (bit_of place n l) (gsw_at gsws l) row) (range_with_len 0 n)

-- of one selection more, in front
bits_noise-more : (set : ParamSet) (secrets : List Poly) (place row n : ℕ) (gsw : Gsw) (gsws : List Gsw)
    → bits_noise set secrets place row gsws n + selection_noise set secrets (place / 2 ^ n % 2) gsw row ≡ bits_noise set secrets place row (gsw ∷ gsws) (suc n)
bits_noise-more set secrets place row n gsw gsws =
    let term : ℕ → ℕ = λ l. selection_noise set secrets (bit_of place (suc n) l) (gsw_at (gsw ∷ gsws) l) row in
    let all : suc n ≡ 1 + n = omega arith in
    let highest : suc n - 1 - 0 ≡ n = omega arith in
    let first : term 0 ≡ selection_noise set secrets (place / 2 ^ n % 2) gsw row =
    ap (λ (e : ℕ). selection_noise set secrets (place / 2 ^ e % 2) gsw row) highest in
    let rest : sum_by (λ l. term (1 + l)) (range_with_len 0 n) ≡ bits_noise set secrets place row gsws n =
    range_sum-same n (λ l. term (1 + l)) (λ l. selection_noise set secrets (bit_of place n l) (gsw_at gsws l) row) (λ l h. later l) in
    let one : sum_by term (range_with_len 0 1) ≡ term 0 = omega arith in
    sym
    (ap (λ (m : ℕ). sum_by term (range_with_len 0 m)) all
    ∙ range_sum-split 1 n term
    ∙ ap₂ (λ (x y : ℕ). x + y) (one ∙ first) rest
    ∙ omega arith)
  where
    later : (l : ℕ) → selection_noise set secrets (bit_of place (suc n) (1 + l)) (gsw_at (gsw ∷ gsws) (1 + l)) row
        ≡ selection_noise set secrets (bit_of place n l) (gsw_at gsws l) row
    later l =
        let lower : suc n - 1 - (1 + l) ≡ n - 1 - l = omega arith in
        let next : 1 + l ≡ suc l = omega arith in
        ap₂ (λ (e i : ℕ). selection_noise set secrets (place / 2 ^ e % 2) (gsw_at (gsw ∷ gsws) i) row) lower next

-- ---- all steps

module _ (set : ParamSet) (secrets : List Poly) (row : ℕ) (is : IsSet set) (below : row < rows set) where
  -- one ciphertext keeps the phase of another, within 2^w - 1 times the noise
  abbrev Kept : ℕ → Cipher → Cipher → Type 0
  Kept m c d = Keeps set.degree (poly_of secrets row) (row + 1) ((2 ^ set.w_gsw - 1) * m) c d

  kept_then : (m n : ℕ) (c d e : Cipher) → Kept m c d → Kept n d e → Kept (m + n) c e
  kept_then m n c d e h l = carries_most (le_of_eq (times (2 ^ set.w_gsw - 1) m n)) (keeps_then (row + 1) c d e h l)
    where
      times : (w a b : ℕ) → w * a + w * b ≡ w * (a + b)
      times w a b = omega arith

  -- A step keeps the phase of the ciphertext of that half.
  step_keeps : (bit : ℕ) (gsw : Gsw) (ciphers : List Cipher) (y half : ℕ) → bit < 2 → HaveRows set ciphers → length ciphers / 2 ≡ half → y < half
      → Kept (selection_noise set secrets bit gsw row) (cipher_at (fold_step set.degree set.w_gsw gsw ciphers) y) (cipher_at ciphers (y + bit * half))
  step_keeps bit gsw ciphers y half few have size h =
      let low : Cipher = cipher_at ciphers y in
      let high : Cipher = cipher_at ciphers (y + length ciphers / 2) in
      let noise : ℕ = selection_noise set secrets bit gsw row in
      let chosen : (if bit == 0 then low else high) ≡ cipher_at ciphers (y + bit * half) =
      ap (λ (n : ℕ). if bit == 0 then low else cipher_at ciphers (y + n)) size ∙ chosen_half ciphers bit y half few in
      subst₂ (Kept noise) (sym (step_at set.degree set.w_gsw gsw ciphers y (omega arith))) chosen
      (selection_carries set secrets bit row gsw is below low high few (have y (omega arith)) (have (y + length ciphers / 2) (omega arith)))

  -- The fold keeps, in column x of size columns, the phase of that column of the place.
  folds_keep : (place size x : ℕ) (gsws : List Gsw) (ciphers : List Cipher) → HaveRows set ciphers → length ciphers ≡ size * 2 ^ length gsws → x < size
      → Kept (bits_noise set secrets place row gsws (length gsws)) (cipher_at (folded set.degree set.w_gsw gsws ciphers) x)
      (cipher_at ciphers (x + size * (place % 2 ^ length gsws)))
  unfolding folded
  folds_keep place size x [] ciphers have count h =
      let none : place % 2 ^ 0 ≡ 0 = omega arith in
      let here : x + size * (place % 2 ^ 0) ≡ x = ap (λ (r : ℕ). x + size * r) none ∙ omega arith in
      let noise : ℕ = bits_noise set secrets place row [] 0 in
      subst (λ (i : ℕ). Kept noise (cipher_at ciphers x) (cipher_at ciphers i)) (sym here)
      (keeps_itself set.degree (poly_of secrets row) (row + 1) ((2 ^ set.w_gsw - 1) * noise) (cipher_at ciphers x))
  folds_keep place size x (gsw ∷ gsws) ciphers have count h =
      let n : ℕ = length gsws in
      let half : ℕ = size * 2 ^ n in
      let bit : ℕ = place / 2 ^ n % 2 in
      let y : ℕ = x + size * (place % 2 ^ n) in
      let step : List Cipher = fold_step set.degree set.w_gsw gsw ciphers in
      let result : Cipher = cipher_at (folded set.degree set.w_gsw gsws step) x in
      let halved : length ciphers / 2 ≡ half = half_is (length ciphers) size n count in
      let within : y < half = place_within size x (place % 2 ^ n) (2 ^ n) h (mod-lt place (pow_pos n)) in
      let front = folds_keep place size x gsws step (step_rows set gsw ciphers have) (length-fold_step set.degree set.w_gsw gsw ciphers ∙ halved) h in
      let last = step_keeps bit gsw ciphers y half (mod-lt (place / 2 ^ n) (omega arith)) have halved within in
      subst₂ (λ (m i : ℕ). Kept m result (cipher_at ciphers i)) (bits_noise-more set secrets place row n gsw gsws) (place_joined size x place n)
      (kept_then (bits_noise set secrets place row gsws n) (selection_noise set secrets bit gsw row) result (cipher_at step y)
      (cipher_at ciphers (y + bit * half)) front last)

-- ---- from the first dimension on

length-first_product : (set : ParamSet) (matrices : List Matrix) (firsts : List Cipher) (j c : ℕ)
    → length (first_product set matrices firsts j c) ≡ rows set + 1
unfolding first_product
length-first_product set matrices firsts j c = length-map-range_with_len (first_row set matrices firsts j c) 0 (rows set + 1)

module _ (set : ParamSet) (matrices : List Matrix) (firsts : List Cipher) where
  length-first_columns : (j : ℕ) → length (first_columns_of set matrices firsts j) ≡ columns set
  unfolding first_columns_of
  length-first_columns j = length-map-range_with_len (first_product set matrices firsts j) 0 (columns set)

  pub length-first_products : length (first_products set matrices firsts) ≡ 2 ^ set.nu2 * columns set
  unfolding first_products
  length-first_products = length-pieces (first_columns_of set matrices firsts) (columns set) (2 ^ set.nu2) (λ j h. length-first_columns j)

  -- column c of folded place j
  first_products-at : (j c : ℕ) → j < 2 ^ set.nu2 → c < columns set
      → cipher_at (first_products set matrices firsts) (j * columns set + c) ≡ first_product set matrices firsts j c
  unfolding first_products first_columns_of
  first_products-at j c h g =
      pieces-at (first_columns_of set matrices firsts) (columns set) (2 ^ set.nu2) j c [] (λ k lt. length-first_columns k) h g
      ∙ at_range (first_product set matrices firsts j) (columns set) c [] g

  first_products-rows : HaveRows set (first_products set matrices firsts)
  first_products-rows y h =
      let within : y < 2 ^ set.nu2 * columns set = omega (arith, length-first_products) in
      let some : 0 < columns set = some_factor y (2 ^ set.nu2) (columns set) within in
      let place : y / columns set * columns set + y % columns set ≡ y = div-add-mod' y (columns set) in
      ap length
      (ap (cipher_at (first_products set matrices firsts)) (sym place)
      ∙ first_products-at (y / columns set) (y % columns set) (div_below y (columns set) (2 ^ set.nu2) some within) (mod_below y (columns set) some))
      ∙ length-first_product set matrices firsts (y / columns set) (y % columns set)
    where
      some_factor : (k n w : ℕ) → k < n * w → 0 < w
      some_factor k n zero h = absurd (omega arith)
      some_factor k n (suc v) h = omega arith

-- the folded place of an index is one of 2^nu2
folded_place-below : (set : ParamSet) (index : ℕ) → index < max_records set → folded_place set index < 2 ^ set.nu2
folded_place-below set index h =
    let all : 2 ^ (set.nu1 + set.nu2) ≡ 2 ^ set.nu1 * 2 ^ set.nu2 = pow-add 2 set.nu1 set.nu2 in
    let within : index < 2 ^ set.nu2 * 2 ^ set.nu1 = omega arith in
    div_below index (2 ^ set.nu1) (2 ^ set.nu2) (pow_pos set.nu1) within

-- Law: the fold keeps the phase of each column of the asked folded place, within 2^w - 1 times G.
pub fold_keeps : FoldKeeps
unfolding gsw_noise
fold_keeps set secrets index row c matrices firsts gsws is below inside few count =
    let place : ℕ = folded_place set index in
    let size : ℕ = columns set in
    let ciphers : List Cipher = first_products set matrices firsts in
    let result : Cipher = cipher_at (folded set.degree set.w_gsw gsws ciphers) c in
    let h : place < 2 ^ set.nu2 = folded_place-below set index few in
    let all : length ciphers ≡ size * 2 ^ length gsws =
    length-first_products set matrices firsts ∙ omega arith ∙ ap (λ (n : ℕ). size * 2 ^ n) (sym count) in
    let same : place % 2 ^ length gsws ≡ place = ap (λ (n : ℕ). place % 2 ^ n) count ∙ mod-eq_of_lt h in
    let order : c + size * place ≡ place * size + c = omega arith in
    let there : cipher_at ciphers (c + size * (place % 2 ^ length gsws)) ≡ first_product set matrices firsts place c =
    ap (λ (r : ℕ). cipher_at ciphers (c + size * r)) same ∙ ap (cipher_at ciphers) order ∙ first_products-at set matrices firsts place c h inside in
    let all_noise : bits_noise set secrets place row gsws (length gsws) ≡ gsw_noise set secrets index gsws row =
    ap (bits_noise set secrets place row gsws) count in
    near_kept set (poly_of secrets row) (row + 1) ((2 ^ set.w_gsw - 1) * gsw_noise set secrets index gsws row) result
    (first_product set matrices firsts place c)
    (subst₂ (λ (m : ℕ) (d : Cipher). Kept set secrets row is below m result d) all_noise there
    (folds_keep set secrets row is below place size c gsws ciphers (first_products-rows set matrices firsts) all inside))

-- The rows of a report, and the weights of their secrets.
use Rattle.std.proofs.Common.{◌≡◌, ℕ, ◌+◌, ◌<◌, ◌≤◌, ℤ, pos, Bool, true, false, not, nat_eq, unsigned_abs, if◌then◌else◌, List, [], ◌∷◌, length, get_or, take, map, Some, None, refl, sym, ◌∙◌, ap, ap₂, lt-ltb, le-ltb, arith}
use Rattle.std.specs.List.{range_with_len}
use Rattle.std.proofs.lemmas.List.Sums.{sum_by_more}
use Rattle.std.proofs.lemmas.List.FromFn.{length-map-range_with_len}
use Rattle.negacyclic.proofs.Lists.{at_range, same_range}
use Rattle.spiral_sets.specs.declared.param_set.ParamSet.{ParamSet}
use Rattle.spiral_sets.specs.Sets.{IsSet, q, rows}
use Rattle.spiral_sets.proofs.SetBounds.{at_most}
use Rattle.spiral_model.specs.Words.{Poly}
use Rattle.spiral_model.specs.KeySwitching.{DigitKey}
use Rattle.spiral_model.specs.Answering.{Ready}
use Rattle.spiral_model.specs.Noise.{NoiseRow, first_noise, gsw_noise, lift_noise, noise_bound, secret_weight, polys_of, report_row, noise_left}
use Rattle.regev_code.specs.Seen.{Secrets}
use Rattle.regev_code.specs.Shapes.{numbers_under, under, scalar_of}
use Rattle.regev_code.proofs.Rows.{under-count}
use Rattle.gsw_code.specs.Columns.{row_secrets_of}
use Rattle.noise_check.specs.Reports.{left_of, reported, reported_at}

-- one number more of a secret
pub weight_more : (numbers : List ℤ) (place : ℕ) (z : ℤ) (x : ℕ) → place < length numbers → z ≡ get_or numbers place (pos 0) → x ≡ (if not (nat_eq (unsigned_abs z) 0) then 1 else 0)
    → secret_weight (take (place + 1) numbers) ≡ secret_weight (take place numbers) + x
weight_more numbers place z x within read is =
    sum_by_more (λ (y : ℤ). if not (nat_eq (unsigned_abs y) 0) then 1 else 0) numbers place (pos 0) within
    ∙ ap (λ (n : ℕ). secret_weight (take place numbers) + n) (ap (λ (y : ℤ). if not (nat_eq (unsigned_abs y) 0) then 1 else 0) (sym read) ∙ sym is)

-- what a digit of a GSW ciphertext is below
pub w_gsw-most : (set : ParamSet) → IsSet set → set.w_gsw ≤ 7
w_gsw-most = at_most (λ set. set.w_gsw) 7 (refl, (refl, (refl, (refl, (refl, (refl, (refl, (refl, (refl, (refl, tt))))))))))

-- what a digit of a lift key is below
pub w_conv-most : (set : ParamSet) → IsSet set → set.w_conv ≤ 7
w_conv-most = at_most (λ set. set.w_conv) 7 (refl, (refl, (refl, (refl, (refl, (refl, (refl, (refl, (refl, (refl, tt))))))))))

-- ---- the secrets under which first-dimension and GSW ciphertexts stand

-- all n in a set that doesn't pack,
plain_secrets : (set : ParamSet) (secrets : Secrets) → set.pack ≡ false → row_secrets_of set secrets ≡ polys_of set secrets.rows
plain_secrets set secrets plain = ap (λ (b : Bool). under set.degree secrets b) plain

only : (polys : List Poly) → length polys ≡ 1 → polys ≡ get_or polys 0 [] ∷ []
only [] none = absurd (omega arith)
only (a ∷ []) one = refl
only (a ∷ b ∷ polys) more = absurd (omega arith)

-- else the scalar one alone.
scalar_secrets : (set : ParamSet) (secrets : Secrets) → set.pack ≡ true → length (numbers_under secrets true) ≡ 1 → row_secrets_of set secrets ≡ scalar_of set.degree secrets ∷ []
scalar_secrets set secrets packs one =
    ap (λ (b : Bool). under set.degree secrets b) packs ∙ only (under set.degree secrets true) (under-count set.degree secrets true ∙ one)

-- A set that packs has one.
pub one_scalar : (set : ParamSet) (secrets : Secrets) → set.pack ≡ true → length (row_secrets_of set secrets) ≡ rows set → length (numbers_under secrets true) ≡ 1
one_scalar set secrets packs is =
    sym (under-count set.degree secrets true) ∙ ap (λ (b : Bool). length (under set.degree secrets b)) (sym packs) ∙ is
    ∙ ap (λ (b : Bool). if b then 1 else set.n) packs

-- ---- a row of the model's report

-- by the set's kind: of the three sums and the weight
row_by_kind : (set : ParamSet) (s : Poly) (numbers : List (List ℤ)) (index row place first gsw lifts noise weight : ℕ) (secrets : List Poly) (lift : List DigitKey) (ready : Ready)
    (b : Bool) → set.pack ≡ b → secrets ≡ (if b then s ∷ [] else polys_of set numbers) → place ≡ (if b then 0 else row)
    → first ≡ first_noise set secrets index ready.firsts place → gsw ≡ gsw_noise set secrets index ready.gsws place
    → lifts ≡ (if b then lift_noise set s (polys_of set numbers) lift row else 0) → noise ≡ noise_bound set first gsw lifts → weight ≡ secret_weight (get_or numbers row [])
    → record { noise = noise; weight = weight } ≡ report_row set s numbers index lift ready row
unfolding report_row
row_by_kind set s numbers index row place first gsw lifts noise weight secrets lift ready b kind under_is place_is first_is gsw_is lifts_is bound counted =
    let made : ℕ → ℕ → NoiseRow = λ n w. record { noise = n; weight = w } in
    let F : List Poly → ℕ → ℕ = λ ss r. first_noise set ss index ready.firsts r in
    let G : List Poly → ℕ → ℕ = λ ss r. gsw_noise set ss index ready.gsws r in
    let S : Bool → List Poly = λ x. if x then s ∷ [] else polys_of set numbers in
    let R : Bool → ℕ = λ x. if x then 0 else row in
    let K : Bool → ℕ = λ x. if x then lift_noise set s (polys_of set numbers) lift row else 0 in
    let whole : noise ≡ noise_bound set (F (S b) (R b)) (G (S b) (R b)) (K b) =
    bound
    ∙ ap (λ (f : ℕ). noise_bound set f gsw lifts) (first_is ∙ ap (λ (ss : List Poly). F ss place) under_is ∙ ap (F (S b)) place_is)
    ∙ ap (λ (g : ℕ). noise_bound set (F (S b) (R b)) g lifts) (gsw_is ∙ ap (λ (ss : List Poly). G ss place) under_is ∙ ap (G (S b)) place_is)
    ∙ ap (λ (k : ℕ). noise_bound set (F (S b) (R b)) (G (S b) (R b)) k) lifts_is in
    ap₂ made whole counted
    ∙ ap (λ (x : Bool). made (noise_bound set (F (S x) (R x)) (G (S x) (R x)) (K x)) (secret_weight (get_or numbers row []))) (sym kind)

-- the row of a report in a set that doesn't pack,
pub plain_row : (set : ParamSet) (s : Poly) (secrets : Secrets) (index row first gsw noise weight : ℕ) (lift : List DigitKey) (ready : Ready) → set.pack ≡ false
    → first ≡ first_noise set (row_secrets_of set secrets) index ready.firsts row → gsw ≡ gsw_noise set (row_secrets_of set secrets) index ready.gsws row
    → noise ≡ noise_bound set first gsw 0 → weight ≡ secret_weight (get_or secrets.rows row [])
    → record { noise = noise; weight = weight } ≡ report_row set s secrets.rows index lift ready row
plain_row set s secrets index row first gsw noise weight lift ready plain first_is gsw_is bound counted =
    row_by_kind set s secrets.rows index row row first gsw 0 noise weight (row_secrets_of set secrets) lift ready false plain (plain_secrets set secrets plain) refl first_is gsw_is refl
    bound counted

-- and in one that packs.
pub packed_row : (set : ParamSet) (secrets : Secrets) (index row first gsw noise weight : ℕ) (lift : List DigitKey) (ready : Ready) → set.pack ≡ true
    → length (numbers_under secrets true) ≡ 1
    → first ≡ first_noise set (row_secrets_of set secrets) index ready.firsts 0 → gsw ≡ gsw_noise set (row_secrets_of set secrets) index ready.gsws 0
    → noise ≡ noise_bound set first gsw (lift_noise set (scalar_of set.degree secrets) (polys_of set secrets.rows) lift row) → weight ≡ secret_weight (get_or secrets.rows row [])
    → record { noise = noise; weight = weight } ≡ report_row set (scalar_of set.degree secrets) secrets.rows index lift ready row
packed_row set secrets index row first gsw noise weight lift ready packs one first_is gsw_is bound counted =
    let s : Poly = scalar_of set.degree secrets in
    row_by_kind set s secrets.rows index row 0 first gsw (lift_noise set s (polys_of set secrets.rows) lift row) noise weight (row_secrets_of set secrets) lift ready true packs
    (scalar_secrets set secrets packs one) refl first_is gsw_is refl bound counted

-- the rows of a report as a loop fills them
pub reported_rows : (set : ParamSet) (f : ℕ → NoiseRow) (n : ℕ)
    → map (λ r. reported set r (f r)) (range_with_len 0 n) ≡ map (reported_at set (map f (range_with_len 0 n))) (range_with_len 0 (length (map f (range_with_len 0 n))))
reported_rows set f n =
    let rows : List NoiseRow = map f (range_with_len 0 n) in
    let none : NoiseRow = record { noise = 0; weight = 0 } in
    same_range (λ r. reported set r (f r)) (reported_at set rows) n (λ r h. ap (reported set r) (sym (at_range f n r none h)))
    ∙ ap (λ (k : ℕ). map (reported_at set rows) (range_with_len 0 k)) (sym (length-map-range_with_len f 0 n))

-- The left side is there where T is below q,
pub left_there : (set : ParamSet) (row : NoiseRow) → row.noise < q → Some (noise_left set row) ≡ left_of set row
left_there set row small = ap (λ (b : Bool). if b then Some (noise_left set row) else None) (sym (lt-ltb row.noise q small))

-- and not else.
pub left_missing : (set : ParamSet) (row : NoiseRow) → q ≤ row.noise → None ≡ left_of set row
left_missing set row large = ap (λ (b : Bool). if b then Some (noise_left set row) else None) (sym (le-ltb row.noise q large))

-- The parts of an expanded query: lifts of the left side, translations of the right one.
use Rattle.std.proofs.Common.{◌≡◌, ℕ, ◌+◌, ◌*◌, ◌^◌, ◌<◌, ◌≤◌, Bool, true, false, if◌then◌else◌, List, [], ◌∷◌, ◌++◌, length, get_or, take, drop, map, All, refl, sym, ◌∙◌, ap, ap₂, subst, arith, append-nil, length-append, take_all}
use Rattle.std.specs.List.{range_with_len, flat_map}
use Rattle.std.proofs.lemmas.List.{take_more}
use Rattle.std.proofs.lemmas.List.Concat.{flat_map-append}
use Rattle.std.proofs.lemmas.List.Elements.{All-nil, All-append, All-push, All-same}
use Rattle.negacyclic.proofs.Lists.{pushed_more}
use Rattle.spiral_sets.specs.declared.param_set.ParamSet.{ParamSet}
use Rattle.spiral_sets.specs.Sets.{digit_count, rows}
use Rattle.spiral_sets.specs.Counts.{firsts_count, gsw_count}
use Rattle.spiral_model.specs.Words.{Cipher, Gsw, cipher_at}
use Rattle.spiral_model.specs.KeySwitching.{DigitKey}
use Rattle.spiral_model.specs.Keys.{SetKeys}
use Rattle.spiral_model.specs.Expansion.{expanded, sides, left_side, right_side}
use Rattle.spiral_model.specs.Packing.{lift_matrix, translated}
use Rattle.spiral_model.specs.Answering.{Ready, expanded_firsts, expanded_gsw, expanded_gsws}
use Rattle.regev_code.specs.Products.{HasShape}
use Rattle.gsw_code.specs.Products.{IsGsw}
use Rattle.spiral_pack.proofs.Lifts.{length-lift_matrix}
use Rattle.query_expand.specs.Parts.{firsts_from, translated_part}

-- ---- the lifts of one ciphertext after the other

-- the pieces of one element more
flat_map-take : {X A : Type 0} (f : X → List A) (xs : List X) (i : ℕ) (x : X) → i < length xs → x ≡ get_or xs i x
    → flat_map f (take (i + 1) xs) ≡ flat_map f (take i xs) ++ f x
flat_map-take {X} f xs i x h is =
    ap (flat_map f) (take_more xs i x h ∙ ap (λ (y : X). take i xs ++ y ∷ []) (sym is))
    ∙ flat_map-append f (take i xs) (x ∷ [])
    ∙ ap (λ ys. flat_map f (take i xs) ++ ys) (append-nil (f x))

-- What the loop over the ciphertexts keeps.
pub record LiftsEach (N : ℕ) (set : ParamSet) (keys : SetKeys) (ciphers : List Cipher) (i : ℕ) (firsts : List Cipher) (scratch : ParamSet) : Type 0 where
  pub so_far : firsts ≡ flat_map (lift_matrix set keys.lift) (take i ciphers)
  pub shapes : All (HasShape N (set.n + 1)) firsts
  pub kept : scratch ≡ set

-- none so far
pub lifts_each-none : (N : ℕ) (set : ParamSet) (keys : SetKeys) (ciphers firsts : List Cipher) → firsts ≡ [] → LiftsEach N set keys ciphers 0 firsts set
lifts_each-none N set keys ciphers firsts none = record {
  so_far = none;
  shapes = All-same (HasShape N (set.n + 1)) firsts [] none (All-nil (HasShape N (set.n + 1)));
  kept = refl;
}

-- those of one ciphertext more
pub lifts_each-more : (N : ℕ) (set : ParamSet) (keys : SetKeys) (ciphers : List Cipher) (i : ℕ) (firsts new columns : List Cipher) (c : Cipher)
    (scratch after : ParamSet) → LiftsEach N set keys ciphers i firsts scratch → i < length ciphers → c ≡ get_or ciphers i c
    → columns ≡ lift_matrix scratch keys.lift c → All (HasShape N (scratch.n + 1)) columns → after ≡ scratch → new ≡ firsts ++ columns
    → LiftsEach N set keys ciphers (i + 1) new after
lifts_each-more N set keys ciphers i firsts new columns c scratch after lifts h is worked shapes kept appended = record {
  so_far =
      appended
      ∙ ap₂ (λ (xs ys : List Cipher). xs ++ ys) lifts.so_far (worked ∙ ap (λ (s : ParamSet). lift_matrix s keys.lift c) lifts.kept)
      ∙ sym (flat_map-take (lift_matrix set keys.lift) ciphers i c h is);
  shapes =
      All-same (HasShape N (set.n + 1)) new (firsts ++ columns) appended
      (All-append (HasShape N (set.n + 1)) firsts columns lifts.shapes (subst (λ (s : ParamSet). All (HasShape N (s.n + 1)) columns) lifts.kept shapes));
  kept = kept ∙ lifts.kept;
}

-- all of them
pub lifts_each-all : (N : ℕ) (set : ParamSet) (keys : SetKeys) (ciphers : List Cipher) (i : ℕ) (firsts : List Cipher) (scratch : ParamSet) → length ciphers ≤ i
    → LiftsEach N set keys ciphers i firsts scratch → firsts ≡ flat_map (lift_matrix set keys.lift) ciphers
lifts_each-all N set keys ciphers i firsts scratch past lifts =
    lifts.so_far ∙ ap (flat_map (lift_matrix set keys.lift)) (take_all i ciphers past)

-- how many they are
length-lifts : (set : ParamSet) (lift : List DigitKey) (ciphers : List Cipher) → length (flat_map (lift_matrix set lift) ciphers) ≡ length ciphers * set.n
length-lifts set lift [] = omega arith
length-lifts set lift (c ∷ ciphers) =
    let front = length-lift_matrix set lift c in
    let rest = length-lifts set lift ciphers in
    length-append (lift_matrix set lift c) (flat_map (lift_matrix set lift) ciphers) ∙ omega (arith, front, rest)

-- ---- the first dimension from the scalar ciphertexts of its places

-- Where the set packs they are taken as they are,
pub firsts-kept : (set : ParamSet) (lift : List DigitKey) (ciphers firsts : List Cipher) → set.pack ≡ true → firsts ≡ ciphers
    → firsts ≡ firsts_from set lift ciphers
firsts-kept set lift ciphers firsts packs same =
    same ∙ sym (ap (λ (b : Bool). if b then ciphers else flat_map (lift_matrix set lift) ciphers) packs)

-- and else they are lifted.
pub firsts-lifted : (set after : ParamSet) (lift : List DigitKey) (ciphers firsts : List Cipher) → set.pack ≡ false → after ≡ set
    → firsts ≡ flat_map (lift_matrix after lift) ciphers → firsts ≡ firsts_from set lift ciphers
firsts-lifted set after lift ciphers firsts plain kept worked =
    worked
    ∙ ap (λ (s : ParamSet). flat_map (lift_matrix s lift) ciphers) kept
    ∙ sym (ap (λ (b : Bool). if b then ciphers else flat_map (lift_matrix set lift) ciphers) plain)

-- m is 1 where the set packs,
rows-packed : (set : ParamSet) → set.pack ≡ true → rows set ≡ 1
rows-packed set packs = ap (λ (b : Bool). if b then 1 else set.n) packs

-- and else n
rows-plain : (set : ParamSet) → set.pack ≡ false → rows set ≡ set.n
rows-plain set plain = ap (λ (b : Bool). if b then 1 else set.n) plain

-- Either way there are m for each place: as they are,
pub kept-many : (set : ParamSet) (ciphers firsts : List Cipher) → set.pack ≡ true → firsts ≡ ciphers → length firsts ≡ length ciphers * rows set
kept-many set ciphers firsts packs same =
    let once : length ciphers ≡ length ciphers * 1 = omega arith in
    ap length same ∙ once ∙ sym (ap (λ (m : ℕ). length ciphers * m) (rows-packed set packs))

-- and lifted,
pub lifted-many : (set after : ParamSet) (lift : List DigitKey) (ciphers firsts : List Cipher) → set.pack ≡ false → after ≡ set
    → firsts ≡ flat_map (lift_matrix after lift) ciphers → length firsts ≡ length ciphers * rows set
lifted-many set after lift ciphers firsts plain kept worked =
    ap length worked ∙ length-lifts after lift ciphers
    ∙ ap (λ (s : ParamSet). length ciphers * s.n) kept
    ∙ sym (ap (λ (m : ℕ). length ciphers * m) (rows-plain set plain))

-- and each has rows 0 to m: as they are,
pub kept-shapes : (N : ℕ) (set : ParamSet) (ciphers firsts : List Cipher) → set.pack ≡ true → firsts ≡ ciphers → All (HasShape N 2) ciphers
    → All (HasShape N (rows set + 1)) firsts
kept-shapes N set ciphers firsts packs same shapes =
    subst (λ (m : ℕ). All (HasShape N (m + 1)) firsts) (sym (rows-packed set packs)) (All-same (HasShape N 2) firsts ciphers same shapes)

-- and lifted
pub lifted-shapes : (N : ℕ) (set after : ParamSet) (firsts : List Cipher) → set.pack ≡ false → after ≡ set → All (HasShape N (after.n + 1)) firsts
    → All (HasShape N (rows set + 1)) firsts
lifted-shapes N set after firsts plain kept shapes =
    subst (λ (m : ℕ). All (HasShape N (m + 1)) firsts) (sym (rows-plain set plain))
    (subst (λ (s : ParamSet). All (HasShape N (s.n + 1)) firsts) kept shapes)

-- the first dimension has m ciphertexts for each of its 2^nu1 places
pub firsts-many : (set : ParamSet) (count places many : ℕ) → many ≡ count * rows set → count ≡ places → places ≡ 2 ^ set.nu1 → many ≡ firsts_count set
firsts-many set count places many all same power = all ∙ ap (λ (k : ℕ). k * rows set) (same ∙ power)

-- round 0 makes the two sides
pub sides-are : (N : ℕ) (keys : SetKeys) (c : Cipher) (lent : List DigitKey) (both : List Cipher) → lent ≡ keys.round0 → both ≡ expanded N 0 lent (c ∷ [])
    → both ≡ sides N keys c
unfolding sides
sides-are N keys c lent both same worked = worked ∙ ap (λ (ks : List DigitKey). expanded N 0 ks (c ∷ [])) same

-- ---- the selections, one after the other

-- the GSW ciphertext of selection l
pub part_is : (set : ParamSet) (keys : SetKeys) (ciphers bits : List Cipher) (l start len digits : ℕ) (columns gsw : Gsw) → digits ≡ digit_count set.w_gsw
    → start ≡ l * digits → len ≡ digits → bits ≡ take len (drop start ciphers) → columns ≡ translated set keys bits → gsw ≡ columns
    → gsw ≡ translated_part set keys ciphers l
part_is set keys ciphers bits l start len digits columns gsw count place size cut worked same =
    same ∙ worked
    ∙ ap (translated set keys) (cut ∙ ap (λ (n : ℕ). take n (drop start ciphers)) size ∙ ap (λ (p : ℕ). take digits (drop p ciphers)) place)
    ∙ ap (λ (t : ℕ). translated set keys (take t (drop (l * t) ciphers))) count

-- columns of the right number and shape are a GSW ciphertext
pub is_gsw : (N : ℕ) (set : ParamSet) (columns gsw : Gsw) → N ≡ set.degree → gsw ≡ columns → length columns ≡ gsw_count set → All (HasShape N (rows set + 1)) columns
    → IsGsw set gsw
is_gsw N set columns gsw degree same many shapes = record {
  count = ap length same ∙ many;
  shapes =
      All-same (HasShape set.degree (rows set + 1)) gsw columns same (subst (λ (n : ℕ). All (HasShape n (rows set + 1)) columns) degree shapes);
}

-- What the loop over the selections keeps.
pub record TranslatesEach (set : ParamSet) (keys : SetKeys) (ciphers : List Cipher) (l : ℕ) (gsws : List Gsw) (scratch : ParamSet) : Type 0 where
  pub so_far : gsws ≡ map (translated_part set keys ciphers) (range_with_len 0 l)
  pub shapes : All (IsGsw set) gsws
  pub kept : scratch ≡ set

-- none so far
pub translates_each-none : (set : ParamSet) (keys : SetKeys) (ciphers : List Cipher) (gsws : List Gsw) (scratch : ParamSet) → gsws ≡ [] → scratch ≡ set
    → TranslatesEach set keys ciphers 0 gsws scratch
translates_each-none set keys ciphers gsws scratch none kept = record {
  so_far = none;
  shapes = All-same (IsGsw set) gsws [] none (All-nil (IsGsw set));
  kept = kept;
}

-- one more
pub translates_each-more : (set : ParamSet) (keys : SetKeys) (ciphers : List Cipher) (l : ℕ) (gsws new : List Gsw) (gsw : Gsw) (scratch after : ParamSet)
    → TranslatesEach set keys ciphers l gsws scratch → gsw ≡ translated_part set keys ciphers l → IsGsw set gsw → after ≡ scratch → new ≡ gsws ++ gsw ∷ []
    → TranslatesEach set keys ciphers (l + 1) new after
translates_each-more set keys ciphers l gsws new gsw scratch after each worked shape kept pushed = record {
  so_far = pushed_more (translated_part set keys ciphers) 0 l l gsws new gsw (omega arith) each.so_far pushed worked;
  shapes = All-same (IsGsw set) new (gsws ++ gsw ∷ []) pushed (All-push (IsGsw set) gsws gsw each.shapes shape);
  kept = kept ∙ each.kept;
}

-- all of them
pub translates_each-all : (set : ParamSet) (keys : SetKeys) (ciphers : List Cipher) (l : ℕ) (gsws : List Gsw) (scratch : ParamSet) → l ≡ set.nu2
    → TranslatesEach set keys ciphers l gsws scratch → gsws ≡ map (translated_part set keys ciphers) (range_with_len 0 set.nu2)
translates_each-all set keys ciphers l gsws scratch all each =
    each.so_far ∙ ap (λ (n : ℕ). map (translated_part set keys ciphers) (range_with_len 0 n)) all

-- ---- both parts

-- the first dimension, from the two sides
firsts_are : (N : ℕ) (set : ParamSet) (keys : SetKeys) (c : Cipher) (both firsts : List Cipher) → N ≡ set.degree → both ≡ sides N keys c
    → firsts ≡ firsts_from set keys.lift (expanded N 1 keys.left (cipher_at both 0 ∷ [])) → firsts ≡ expanded_firsts set keys c
unfolding expanded_firsts left_side
firsts_are N set keys c both firsts degree two worked =
    worked
    ∙ ap (λ (cs : List Cipher). firsts_from set keys.lift (expanded N 1 keys.left (cipher_at cs 0 ∷ []))) two
    ∙ ap (λ (n : ℕ). firsts_from set keys.lift (expanded n 1 keys.left (cipher_at (sides n keys c) 0 ∷ []))) degree

-- the selections
gsws_are : (N : ℕ) (set : ParamSet) (keys : SetKeys) (c : Cipher) (both : List Cipher) (gsws : List Gsw) → N ≡ set.degree → both ≡ sides N keys c
    → gsws ≡ map (translated_part set keys (expanded N 1 keys.right (cipher_at both 1 ∷ []))) (range_with_len 0 set.nu2) → gsws ≡ expanded_gsws set keys c
unfolding expanded_gsws expanded_gsw right_side
gsws_are N set keys c both gsws degree two worked =
    let parts : List Cipher → List Gsw = λ cs. map (translated_part set keys cs) (range_with_len 0 set.nu2) in
    worked
    ∙ ap (λ (cs : List Cipher). parts (expanded N 1 keys.right (cipher_at cs 1 ∷ []))) two
    ∙ ap (λ (n : ℕ). parts (expanded n 1 keys.right (cipher_at (sides n keys c) 1 ∷ []))) degree

abbrev of_parts : List Cipher → List Gsw → Ready
of_parts firsts gsws = record { firsts = firsts; gsws = gsws }

-- a query's one ciphertext, expanded
pub expanded-is : (N : ℕ) (set : ParamSet) (keys : SetKeys) (c first second : Cipher) (both firsts : List Cipher) (gsws : List Gsw) → N ≡ set.degree
    → both ≡ sides N keys c → first ≡ cipher_at both 0 → second ≡ cipher_at both 1 → firsts ≡ firsts_from set keys.lift (expanded N 1 keys.left (first ∷ []))
    → gsws ≡ map (translated_part set keys (expanded N 1 keys.right (second ∷ []))) (range_with_len 0 set.nu2)
    → record { firsts = firsts; gsws = gsws } ≡ of_parts (expanded_firsts set keys c) (expanded_gsws set keys c)
expanded-is N set keys c first second both firsts gsws degree two first_is second_is first_worked rest_worked =
    ap₂ of_parts
    (firsts_are N set keys c both firsts degree two
    (first_worked ∙ ap (λ (d : Cipher). firsts_from set keys.lift (expanded N 1 keys.left (d ∷ []))) first_is))
    (gsws_are N set keys c both gsws degree two
    (rest_worked ∙ ap (λ (d : Cipher). map (translated_part set keys (expanded N 1 keys.right (d ∷ []))) (range_with_len 0 set.nu2)) second_is))

-- The lifts of a scalar ciphertext, one row after the other.
use Rattle.std.proofs.Common.{◌≡◌, ℕ, ◌+◌, ◌-◌, List, [], ◌∷◌, ◌++◌, length, replicate, map, All, refl, sym, ◌∙◌, ap, subst, arith}
use Rattle.std.specs.List.{range_with_len}
use Rattle.std.proofs.lemmas.List.Elements.{All-nil, All-push, All-same}
use Rattle.std.proofs.lemmas.List.FromFn.{length-map-range_with_len}
use Rattle.negacyclic.proofs.Lists.{pushed_more}
use Rattle.spiral_sets.specs.declared.param_set.ParamSet.{ParamSet}
use Rattle.spiral_model.specs.Words.{Cipher}
use Rattle.spiral_model.specs.KeySwitching.{DigitKey, lifted}
use Rattle.spiral_model.specs.Keys.{SetKeys, key_at}
use Rattle.spiral_model.specs.Packing.{lift_row, lift_matrix}
use Rattle.regev_code.specs.Products.{HasShape}
use Rattle.regev_code.proofs.Products.{zeros_shape}

-- ---- one row

-- what `lifted` gives with the key of row r, where the degree and the key are known by an equation
pub lifted_is : (set : ParamSet) (N r : ℕ) (lift : List DigitKey) (key : DigitKey) (c out : Cipher) → N ≡ set.degree → key ≡ key_at lift (r - 1)
    → out ≡ lifted N set.n r key c → out ≡ lift_row set lift c r
unfolding lift_row
lifted_is set N r lift key c out degree is worked =
    worked ∙ ap (λ (n : ℕ). lifted n set.n r key c) degree ∙ ap (λ (k : DigitKey). lifted set.degree set.n r k c) is

-- ---- all rows

-- What the loop over the rows keeps: the lifts into the first rows, and the set of the scratch.
pub record Lifts (N : ℕ) (set : ParamSet) (keys : SetKeys) (c : Cipher) (i : ℕ) (columns : List Cipher) (scratch : ParamSet) : Type 0 where
  pub so_far : columns ≡ map (lift_row set keys.lift c) (range_with_len 1 i)
  pub shapes : All (HasShape N (set.n + 1)) columns
  pub kept : scratch ≡ set

-- none so far
pub lifts_none : (N : ℕ) (set : ParamSet) (keys : SetKeys) (c : Cipher) (columns : List Cipher) → columns ≡ [] → Lifts N set keys c 0 columns set
lifts_none N set keys c columns none = record {
  so_far = none;
  shapes = All-same (HasShape N (set.n + 1)) columns [] none (All-nil (HasShape N (set.n + 1)));
  kept = refl;
}

-- rows of zeros for the next one
pub lift_room : (N : ℕ) (set seen scratch : ParamSet) (room : Cipher) → N ≡ set.degree → seen ≡ set → scratch ≡ set
    → room ≡ replicate (seen.n + 1) (replicate {A = ℕ} seen.degree 0) → HasShape N (scratch.n + 1) room
lift_room N set seen scratch room degree same kept zeros =
    subst (λ (s : ParamSet). HasShape N (s.n + 1) room) (sym kept)
    (subst (λ (n : ℕ). HasShape n (set.n + 1) room) (sym degree)
    (subst (λ (s : ParamSet). HasShape s.degree (s.n + 1) room) same (zeros_shape seen.degree (seen.n + 1) room zeros)))

-- one more
pub lifts_more : (N : ℕ) (set : ParamSet) (keys : SetKeys) (c : Cipher) (i : ℕ) (columns new : List Cipher) (next : Cipher) (scratch after : ParamSet)
    → Lifts N set keys c i columns scratch → next ≡ lift_row scratch keys.lift c (i + 1) → HasShape N (scratch.n + 1) next → after ≡ scratch
    → new ≡ columns ++ next ∷ [] → Lifts N set keys c (i + 1) new after
lifts_more N set keys c i columns new next scratch after lifts worked shape kept pushed =
    let here : HasShape N (set.n + 1) next = subst (λ (s : ParamSet). HasShape N (s.n + 1) next) lifts.kept shape in
    record {
      so_far =
          pushed_more (lift_row set keys.lift c) 1 i (i + 1) columns new next (omega arith) lifts.so_far pushed
          (worked ∙ ap (λ (s : ParamSet). lift_row s keys.lift c (i + 1)) lifts.kept);
      shapes = All-same (HasShape N (set.n + 1)) new (columns ++ next ∷ []) pushed (All-push (HasShape N (set.n + 1)) columns next lifts.shapes here);
      kept = kept ∙ lifts.kept;
    }

-- all of them
pub lifts_all : (set : ParamSet) (lift : List DigitKey) (c : Cipher) (n : ℕ) (columns : List Cipher) → n ≡ set.n
    → columns ≡ map (lift_row set lift c) (range_with_len 1 n) → columns ≡ lift_matrix set lift c
unfolding lift_matrix
lifts_all set lift c n columns all so_far = so_far ∙ ap (λ (k : ℕ). map (lift_row set lift c) (range_with_len 1 k)) all

-- how many they are
pub length-lift_matrix : (set : ParamSet) (lift : List DigitKey) (c : Cipher) → length (lift_matrix set lift c) ≡ set.n
unfolding lift_matrix
length-lift_matrix set lift c = length-map-range_with_len (lift_row set lift c) 1 set.n

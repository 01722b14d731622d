-- Headers as they are found, and what the loops over the table of sets keep.
use Rattle.std.proofs.Common.{◌≡◌, ℕ, ◌+◌, ◌^◌, ◌<◌, ◌≤◌, true, false, List, ◌++◌, length, get_or, drop, refl, ap, sym, ◌∙◌, subst, arith, Some, Bool}
use Rattle.std.proofs.lemmas.Option.{get_or_from_slice_get}
use Rattle.std.proofs.lemmas.Slice.Eq.{starts_is}
use Rattle.std.proofs.lemmas.Bool.Decides.{Decides-eqb}
use Rattle.std.specs.Prelude.{slice_get, nat_eq}
use Rattle.std.specs.List.{starts_with}
use borrow.Author.Count.{below_more}
use Rattle.spiral_sets.specs.declared.param_set.ParamSet.{ParamSet}
use Rattle.spiral_sets.specs.declared.sets.TheConstants.{SETS}
use Rattle.spiral_sets.specs.Sets.{IsSet}
use Rattle.spiral_sets.specs.Counts.{setup_len, query_len}
use Rattle.spiral_sets.proofs.SetBounds.{at_most}
use Rattle.spiral_sets.proofs.SetNames.{state_len-most, reply_len-most}
use Rattle.frame_headers.specs.declared.kind.FrameKind.{FrameKind}
use Rattle.frame_headers.specs.declared.kind.FrameKind.TheVariants.{Setup, Query, Reply, Refuse, State, Database}
use Rattle.frame_headers.specs.Kinds.{body_len_of}
use Rattle.frame_streams.specs.Heads.{header_of}
use Rattle.pir_wire.specs.Headers.{BeginsWith, HasOtherFront}

-- ---- the length of a body

setup_len-most : (set : ParamSet) → IsSet set → setup_len set ≤ 2 ^ 24
setup_len-most = at_most (λ set. setup_len set) (2 ^ 24) (refl, (refl, (refl, (refl, (refl, (refl, (refl, (refl, (refl, (refl, tt))))))))))

query_len-most : (set : ParamSet) → IsSet set → query_len set ≤ 2 ^ 24
query_len-most = at_most (λ set. query_len set) (2 ^ 24) (refl, (refl, (refl, (refl, (refl, (refl, (refl, (refl, (refl, (refl, tt))))))))))

pub body_len-most : (kind : FrameKind) (set : ParamSet) → IsSet set → body_len_of kind set ≤ 2 ^ 24
body_len-most Setup set is = setup_len-most set is
body_len-most Query set is = query_len-most set is
body_len-most Reply set is = omega (arith, reply_len-most set is)
body_len-most Refuse set is = omega arith
body_len-most State set is = omega (arith, state_len-most set is)
body_len-most Database set is = omega arith

-- ---- what the test of the bytes' front tells

module _ (kind : FrameKind) (set : ParamSet) (bytes written : List ℕ) (starts : Bool) (e : written ≡ header_of kind set)
    (is : starts ≡ starts_with nat_eq bytes written) where
  pub begun : IsSet set → length written ≤ length bytes → starts ≡ true → BeginsWith kind bytes set (length written)
  begun known within told = record {
    known = known;
    within = within;
    front = (starts_is Decides-eqb bytes written starts is).0 told ∙ ap (λ (h : List ℕ). h ++ drop (length written) bytes) e;
  }

  pub not_begun : starts ≡ false → HasOtherFront kind bytes set
  not_begun told body front =
      let yes : starts ≡ true = (starts_is Decides-eqb bytes written starts is).1 body (front ∙ ap (λ (h : List ℕ). h ++ body) (sym e)) in
      cc

-- ---- rows of the table of sets

-- P of each of the first `count` rows
abbrev pub FirstRows : (ParamSet → Type 0) → ℕ → Type 0
FirstRows P count = (j : ℕ) → j < count → (set : ParamSet) → get_or SETS j set ≡ set → P set

pub first_rows-more : (P : ParamSet → Type 0) (i : ℕ) (row : ParamSet) → FirstRows P i → slice_get SETS i ≡ Some row → P row → FirstRows P (i + 1)
first_rows-more P i row before at here =
    below_more (λ j. (set : ParamSet) → get_or SETS j set ≡ set → P set) i before
    (λ set is. subst P (sym (get_or_from_slice_get SETS i row set at) ∙ is) here)

pub first_rows-all : (P : ParamSet → Type 0) (count : ℕ) → 10 ≤ count → FirstRows P count → (set : ParamSet) → IsSet set → P set
first_rows-all P count all before set is = before is.0 (omega (arith, is.1)) set is.2

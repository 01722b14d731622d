-- The parts of a header, read again from whatever it is a front of.
use Rattle.std.proofs.Common.{◌≡◌, ℕ, ◌+◌, ◌^◌, ◌<◌, List, ◌++◌, length, get_or, take, drop, Some, refl, sym, ◌∙◌, ap}
use Rattle.std.proofs.lemmas.List.{drop_at, drop-drop}
use Rattle.negacyclic.specs.Digits.{number_of}
use Rattle.spiral_sets.specs.declared.param_set.ParamSet.{ParamSet}
use Rattle.spiral_sets.specs.Sets.{IsSet, name_of, set_of}
use Rattle.spiral_sets.proofs.SetNames.{set_of_name}
use Rattle.frame_headers.specs.Headers.{header, number}
use Rattle.frame_headers.specs.Checks.{kind_in, set_in, name_len_in, body_len_in, header_len_in}
use Rattle.frame_headers.proofs.HeaderLaws.{length-header, header_parts, name_in_front, number_at_front}

module _ (code : ℕ) (set : ParamSet) (len : ℕ) (body : List ℕ) where
  abbrev whole : List ℕ
  whole = header code set len ++ body

  -- its kind
  pub kind_back : kind_in whole ≡ code
  kind_back = ap (λ (l : List ℕ). get_or l 5 0) (header_parts code set len body)

  -- how long its name is
  pub name_len_back : name_len_in whole ≡ length (name_of set)
  name_len_back = ap (λ (l : List ℕ). get_or l 6 0) (header_parts code set len body)

  -- its set
  pub set_back : IsSet set → set_in whole ≡ Some set
  unfolding set_in
  set_back known = ap set_of (name_in_front code set len body) ∙ set_of_name set known

  -- the body behind it
  pub body_back : drop (header_len_in whole) whole ≡ body
  body_back =
      ap (λ (k : ℕ). drop (15 + k) whole) name_len_back ∙ drop_at (header code set len) body (15 + length (name_of set)) (length-header code set len)

  -- and that body's length
  pub body_len_back : len < 256 ^ 8 → body_len_in whole ≡ len
  body_len_back fits =
      let behind : drop (7 + length (name_of set)) whole ≡ number 8 len ++ body =
      sym (drop-drop (length (name_of set)) 7 whole)
      ∙ ap (λ (l : List ℕ). drop (length (name_of set)) (drop 7 l)) (header_parts code set len body)
      ∙ drop_at (name_of set) (number 8 len ++ body) (length (name_of set)) refl in
      ap (λ (k : ℕ). number_of 256 (take 8 (drop (7 + k) whole))) name_len_back
      ∙ ap (λ (l : List ℕ). number_of 256 (take 8 l)) behind
      ∙ number_at_front 8 len body fits

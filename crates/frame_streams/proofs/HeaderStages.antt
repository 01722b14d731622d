-- How a header comes: it is short while it is wanting, and once its checks pass, it is that of a kind and of a set.
use Rattle.std.proofs.Common.{◌≡◌, ℕ, zero, suc, ◌+◌, ◌/◌, ◌%◌, ◌^◌, ◌<◌, ◌≤◌, ◌≢◌, inl, inr, true, false, List, ◌∷◌, ◌++◌, length, get_or, take, drop, All, Some, refl, ap, sym, ◌∙◌, arith, length-take}
use Rattle.std.specs.Prelude.{nat_eq}
use Rattle.std.proofs.lemmas.Bool.{cases_lt}
use Rattle.std.proofs.lemmas.List.{length-drop}
use Rattle.std.proofs.Math.Nat.{pow-le-pow_right, div-eq_of_lt}
use Rattle.spiral_sets.specs.declared.param_set.ParamSet.{ParamSet}
use Rattle.spiral_sets.specs.Sets.{IsSet, name_of}
use Rattle.frame_headers.specs.declared.header.HeaderRead.TheVariants.{More}
use Rattle.frame_headers.specs.declared.kind.FrameKind.{FrameKind}
use Rattle.frame_headers.specs.declared.kind.FrameKind.TheVariants.{Setup, Query, Reply, Refuse, State, Database}
use Rattle.frame_headers.specs.Kinds.{code_of_kind, kind_of_code, body_len_of}
use Rattle.frame_headers.specs.Headers.{header, number}
use Rattle.frame_headers.specs.Checks.{checked, passes, accepts, is_none, wrong_length, needed_in, needed_of, kind_in, name_len_in, set_in, body_len_in, header_len_in, header_checks, header_read}
use Rattle.frame_headers.proofs.HeaderLaws.{header_parts}
use Rattle.frame_headers.proofs.HeaderReading.{header_read_is}
use Rattle.frame_headers.proofs.Outcomes.{AllPass, all_pass, AllBefore, more_ends, set_in-named}
use Rattle.spiral_frames.proofs.DatabaseFrames.{decided_all, seven, cut, number_there, same_number, not_false}
use Rattle.frame_streams.specs.Decoding.{AreKinds}
use Rattle.frame_streams.specs.Heads.{header_of}

-- ---- a header that is wanting is short

header_before : (kinds : ℕ) (x : List ℕ) → 14 + name_len_in x < length x → AllBefore (header_checks kinds x) (length x)
unfolding header_checks
header_before kinds x long = (omega arith, (omega arith, (omega arith, (omega arith, (omega arith, (omega arith, (omega arith, (omega arith, tt))))))))

-- A header that is wanting has not come up to the last byte that its name's length tells.
pub wanting_short : (kinds : ℕ) (x : List ℕ) → header_read x kinds ≡ More → length x ≤ 14 + name_len_in x
wanting_short kinds x h =
    let ends = more_ends (checked (header_checks kinds x) (length x)) x (sym (header_read_is kinds x) ∙ h) in
    elim (cases_lt (14 + name_len_in x) (length x)) [
      | inl long ↦ absurd (decided_all (header_checks kinds x) (length x) (length x) (omega arith) (header_before kinds x long) ends)
      | inr short ↦ short
    ]

-- ---- the kinds that may be accepted

-- the code of a kind other than Database
pub record IsOtherKind (code : ℕ) : Type 0 where
  pub kind : FrameKind
  pub kind_is : kind_of_code code ≡ Some kind
  pub code_is : code ≡ code_of_kind kind
  pub other : kind ≢ Database

kind_below : (code : ℕ) → 0 < code → code < 6 → IsOtherKind code
kind_below zero some low = absurd (omega arith)
kind_below (suc zero) some low = record { kind = Setup; kind_is = refl; code_is = refl; other = λ e. cc }
kind_below (suc (suc zero)) some low = record { kind = Query; kind_is = refl; code_is = refl; other = λ e. cc }
kind_below (suc (suc (suc zero))) some low = record { kind = Reply; kind_is = refl; code_is = refl; other = λ e. cc }
kind_below (suc (suc (suc (suc zero)))) some low = record { kind = Refuse; kind_is = refl; code_is = refl; other = λ e. cc }
kind_below (suc (suc (suc (suc (suc zero))))) some low = record { kind = State; kind_is = refl; code_is = refl; other = λ e. cc }
kind_below (suc (suc (suc (suc (suc (suc code)))))) some low = absurd (omega arith)

even_accepts : (kinds : ℕ) → kinds % 2 ≡ 0 → accepts kinds 0 ≡ false
even_accepts kinds even =
    let bit : kinds / 2 ^ 0 % 2 ≡ 0 = omega (arith, even) in
    ap (λ (k : ℕ). nat_eq k 1) bit

-- Kinds 1 to 5 are all that can be accepted.
pub accepted_kind : (kinds code : ℕ) → AreKinds kinds → accepts kinds code ≡ true → IsOtherKind code
accepted_kind kinds code are h =
    elim (cases_lt code 6) [
      | inl low ↦
          elim (cases_lt 0 code) [
            | inl some ↦ kind_below code some low
            | inr none ↦
                let is : code ≡ 0 = omega arith in
                let refused : accepts kinds code ≡ false = ap (λ (k : ℕ). accepts kinds k) is ∙ even_accepts kinds are.1 in
                absurd (cc)
          ]
      | inr high ↦
          let large : 2 ^ 6 ≤ 2 ^ code = pow-le-pow_right (omega arith) high in
          let past : kinds / 2 ^ code ≡ 0 = div-eq_of_lt (omega (arith, are.0)) in
          let refused : accepts kinds code ≡ false = rw past refl in
          absurd (cc)
    ]

-- the length that is not wrong is the one that the kind needs
len_needed : (kind : FrameKind) (set : ParamSet) (len : ℕ) → kind ≢ Database → wrong_length (code_of_kind kind) len (needed_of (code_of_kind kind) set) ≡ false
    → len ≡ body_len_of kind set
len_needed Setup set len other h = same_number len (body_len_of Setup set) h
len_needed Query set len other h = same_number len (body_len_of Query set) h
len_needed Reply set len other h = same_number len (body_len_of Reply set) h
len_needed Refuse set len other h = same_number len 9 h
len_needed State set len other h = same_number len (body_len_of State set) h
len_needed Database set len other h = absurd (other refl)

-- ---- bytes whose header passes the checks

-- a set is named there
pub passed_named : (kinds : ℕ) (x : List ℕ) → AllPass (header_checks kinds x) (length x) → is_none (set_in x) ≡ false
unfolding header_checks
passed_named kinds x h = h.1.1.1.1.1.1.1.1.1.1.1.1.1.0

-- the bytes begin with the header of a kind other than Database and of this set
pub record HasHeader (kinds : ℕ) (x : List ℕ) (set : ParamSet) : Type 0 where
  pub is_kind : IsOtherKind (kind_in x)
  pub known : IsSet set
  pub accepted : accepts kinds (kind_in x) ≡ true
  pub len_is : body_len_in x ≡ body_len_of is_kind.kind set
  pub long : header_len_in x ≤ length x
  pub front : x ≡ header_of is_kind.kind set ++ drop (header_len_in x) x

module _ (kinds : ℕ) (x : List ℕ) (set : ParamSet) (below : All (λ b. b < 256) x) (are : AreKinds kinds) (named : set_in x ≡ Some set) where
  abbrev n : ℕ
  n = name_len_in x

  abbrev rest : List ℕ
  rest = drop (header_len_in x) x

  module _ (long : 14 + n < length x) where
    name_is : take n (drop 7 x) ≡ name_of set
    name_is = (set_in-named x set named).name_is

    name_len : get_or x 6 0 ≡ length (name_of set)
    name_len =
        let within : n ≤ length (drop 7 x) = omega (arith, length-drop 7 x, long) in
        sym (length-take n (drop 7 x) ∙ omega arith) ∙ ap length name_is

    tail_is : drop 7 x ≡ name_of set ++ (number 8 (body_len_in x) ++ rest)
    tail_is =
        let c0 : drop 7 x ≡ take n (drop 7 x) ++ drop (7 + n) x = cut x 7 n (7 + n) refl in
        let c1 : drop (7 + n) x ≡ take 8 (drop (7 + n) x) ++ rest = cut x (7 + n) 8 (15 + n) (omega arith) in
        c0
        ∙ ap (λ (t : List ℕ). t ++ drop (7 + n) x) name_is
        ∙ ap (λ (t : List ℕ). name_of set ++ t) (c1 ∙ ap (λ (t : List ℕ). t ++ rest) (number_there x (7 + n) below (omega (arith, long))))

    spelled_header : (code : ℕ) → get_or x 0 0 ≡ 83 → get_or x 1 0 ≡ 80 → get_or x 2 0 ≡ 73 → get_or x 3 0 ≡ 82 → get_or x 4 0 ≡ 1 → kind_in x ≡ code
        → x ≡ header code set (body_len_in x) ++ rest
    spelled_header code b0 b1 b2 b3 b4 b5 =
        seven x 83 80 73 82 1 code (length (name_of set)) (omega (arith, long)) b0 b1 b2 b3 b4 b5 name_len
        ∙ ap (λ (t : List ℕ). 83 ∷ 80 ∷ 73 ∷ 82 ∷ 1 ∷ code ∷ length (name_of set) ∷ t) tail_is
        ∙ sym (header_parts code set (body_len_in x) rest)

  -- by the checks one by one
  pub header_in_front : AllPass (header_checks kinds x) (length x) → HasHeader kinds x set
  unfolding header_checks
  header_in_front h =
      let h1 = h.1.1 in
      let h2 = h1.1.1 in
      let h3 = h2.1.1 in
      let h4 = h3.1.1 in
      let h5 = h4.1.1 in
      let h6 = h5.1.1 in
      let h7 = h6.1.1 in
      let long : 14 + n < length x = h7.0 in
      let accepted : accepts kinds (kind_in x) ≡ true = not_false (accepts kinds (kind_in x)) h5.1.0 in
      let is_kind : IsOtherKind (kind_in x) = accepted_kind kinds (kind_in x) are accepted in
      let right : wrong_length (kind_in x) (body_len_in x) (needed_in (set_in x) (kind_in x)) ≡ false = h7.1.0 in
      let needed : wrong_length (code_of_kind is_kind.kind) (body_len_in x) (needed_of (code_of_kind is_kind.kind) set) ≡ false =
      ap (λ (k : ℕ). wrong_length k (body_len_in x) (needed_of k set)) (sym is_kind.code_is)
      ∙ ap (λ s. wrong_length (kind_in x) (body_len_in x) (needed_in s (kind_in x))) (sym named) ∙ right in
      let len_is : body_len_in x ≡ body_len_of is_kind.kind set = len_needed is_kind.kind set (body_len_in x) is_kind.other needed in
      record {
        is_kind = is_kind;
        known = (set_in-named x set named).known;
        accepted = accepted;
        len_is = len_is;
        long = omega (arith, long);
        front =
            spelled_header long (code_of_kind is_kind.kind) (same_number (get_or x 0 0) 83 h.1.0) (same_number (get_or x 1 0) 80 h1.1.0)
            (same_number (get_or x 2 0) 73 h2.1.0) (same_number (get_or x 3 0) 82 h3.1.0) (same_number (get_or x 4 0) 1 h4.1.0) is_kind.code_is
            ∙ ap (λ (k : ℕ). header (code_of_kind is_kind.kind) set k ++ rest) len_is;
      }

  -- Bytes whose header passes all checks begin with that of a kind and of the set.
  pub passed_header : checked (header_checks kinds x) (length x) ≡ passes → HasHeader kinds x set
  passed_header passed = header_in_front (all_pass (header_checks kinds x) (length x) passed)

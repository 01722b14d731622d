-- Ciphertexts in the making: the lengths of their bytes, and the residues that these are.
use Rattle.std.proofs.Common.{◌≡◌, ℕ, zero, suc, ◌+◌, ◌*◌, ◌/◌, ◌^◌, ◌<◌, ◌≤◌, Bool, true, false, List, [], ◌∷◌, ◌++◌, length, get_or, take, drop, replicate, All, Ok, Err, refl, sym, ◌∙◌, ap, ap₂, subst, arith, inl, inr, length-append, drop-cons, mul-le-mul_right, append_assoc}
use Rattle.std.specs.List.{flat_map}
use Rattle.std.proofs.lemmas.Bool.{cases_lt}
use Rattle.std.proofs.lemmas.List.{length-replicate, take_all}
use Rattle.std.proofs.lemmas.List.Concat.{flat_map-append}
use Rattle.std.proofs.lemmas.List.Elements.{All-nil, All-append, All-head, All-tail}
use Rattle.std.proofs.lemmas.List.Sums.{sum_by-cons}
use Rattle.negacyclic.specs.Digits.{number_of}
use Rattle.spiral_sets.specs.declared.param_set.ParamSet.{ParamSet}
use Rattle.spiral_sets.specs.Sets.{q, name_of}
use Rattle.spiral_sets.specs.Counts.{Ciphertexts, ciphertext_count, bytes_of, setup_ciphertexts, query_ciphertexts}
use Rattle.frame_headers.specs.declared.frame_error.FrameError.{FrameError}
use Rattle.frame_headers.specs.declared.frame_error.FrameError.TheVariants.{Residue}
use Rattle.frame_headers.specs.declared.kind.FrameKind.{FrameKind}
use Rattle.frame_headers.specs.Kinds.{code_of_kind, body_len_of}
use Rattle.frame_headers.specs.Headers.{number}
use Rattle.frame_headers.specs.Checks.{refuses}
use Rattle.frame_headers.proofs.HeaderLaws.{length-header}
use Rattle.frame_streams.specs.Heads.{header_of, found, NotRefused}
use Rattle.spiral_model.specs.Words.{Poly, Cipher}
use Rattle.spiral_model.specs.Bodies.{rows_of}
use Rattle.spiral_frames.specs.Frames.{poly_bytes, rows_bytes, cipher_bytes}
use Rattle.spiral_frames.proofs.Bodies.{length-poly_bytes, rows_of_cipher}
use Rattle.spiral_frames.proofs.SetupBodies.{FitRows}
use Rattle.pir_wire.specs.declared.decoder.body.GrowError.{GrowError}
use Rattle.pir_wire.specs.declared.decoder.body.GrowError.TheVariants.{Refused, NoMemory}
use Rattle.pir_wire.specs.Growing.{BodySeen, Grows}
use Rattle.pir_wire.specs.CipherParts.{kind_by, shapes, Made, bytes_made, body_seen_of, AreParts, IsAtHand, IsKept, GrownBy, RefusedBy}
use Rattle.pir_wire.proofs.Headers.{body_len-most}
use Rattle.frame_streams.proofs.ResidueChecks.{HasResidues, of_setup, of_query, residues_clean, residue_refused}

abbrev seen_as : FrameKind → ParamSet → List ℕ → BodySeen
seen_as kind set bytes = record { kind = kind; set = set; bytes = bytes }

-- a row of N residues
abbrev pub IsRow : ℕ → Poly → Type 0
IsRow N poly = (length poly ≡ N) × All (λ x. x < q) poly

-- ---- residues

-- The bytes are those of residues below q.
pub record AreBelow (bytes : List ℕ) : Type 0 where
  pub residues : List ℕ
  pub below : All (λ x. x < q) residues
  pub spelled : bytes ≡ poly_bytes residues

below_joined : (xs ys : List ℕ) → AreBelow xs → AreBelow ys → AreBelow (xs ++ ys)
below_joined xs ys a b = record {
  residues = a.residues ++ b.residues;
  below = All-append (λ x. x < q) a.residues b.residues a.below b.below;
  spelled = ap₂ (λ (s t : List ℕ). s ++ t) a.spelled b.spelled ∙ sym (flat_map-append (number 7) a.residues b.residues);
}

below_none : AreBelow []
below_none = record { residues = []; below = All-nil (λ x. x < q); spelled = refl }

below_numbers : (xs : List ℕ) → All (λ x. x < q) xs → AreBelow (poly_bytes xs)
below_numbers xs below = record { residues = xs; below = below; spelled = refl }

below_rows : (N : ℕ) (rows : List Poly) → All (IsRow N) rows → AreBelow (rows_bytes rows)
below_rows N [] fit = below_none
below_rows N (row ∷ rows) fit =
    below_joined (poly_bytes row) (rows_bytes rows) (below_numbers row (All-head (IsRow N) row rows fit).1)
    (below_rows N rows (All-tail (IsRow N) row rows fit))

below_ciphers : (N : ℕ) (ms : List ℕ) (ciphers : List Cipher) → FitRows N ms ciphers → AreBelow (cipher_bytes ciphers)
unfolding cipher_bytes
below_ciphers N ms [] fit = below_none
below_ciphers N [] (cipher ∷ ciphers) fit =
    below_joined (rows_bytes cipher) (cipher_bytes ciphers) (below_rows N cipher (fit 0 (omega arith)).residues)
    (below_ciphers N [] ciphers (λ x h. fit (suc x) (omega (arith, h))))
below_ciphers N (m ∷ ms) (cipher ∷ ciphers) fit =
    below_joined (rows_bytes cipher) (cipher_bytes ciphers) (below_rows N cipher (fit 0 (omega arith)).residues)
    (below_ciphers N ms ciphers (λ x h. fit (suc x) (omega (arith, h))))

pub below_parts : (p : Made) → AreParts p → AreBelow (bytes_made p)
below_parts p are =
    below_joined (cipher_bytes p.ciphers ++ rows_bytes p.rows) (poly_bytes p.numbers)
    (below_joined (cipher_bytes p.ciphers) (rows_bytes p.rows) (below_ciphers p.set.degree (shapes p.is_setup p.set) p.ciphers are.each)
    (below_rows p.set.degree p.rows are.rows_fit))
    (below_numbers p.numbers are.numbers_fit)

-- ---- lengths

-- how many bytes ciphertexts have whose rows below row 0 these are
pub sizes : ℕ → List ℕ → ℕ
sizes N [] = 0
sizes N (m ∷ ms) = (m + 1) * (7 * N) + sizes N ms

sizes-append : (N : ℕ) (xs ys : List ℕ) → sizes N (xs ++ ys) ≡ sizes N xs + sizes N ys
unfolding sizes
sizes-append N [] ys = omega arith
sizes-append N (x ∷ xs) ys = omega (arith, sizes-append N xs ys)

sizes-replicate : (N m count : ℕ) → sizes N (replicate count m) ≡ count * ((m + 1) * (7 * N))
unfolding sizes
sizes-replicate N m zero = omega arith
sizes-replicate N m (suc count) = omega (arith, sizes-replicate N m count)

sizes-none : (N k : ℕ) (ms : List ℕ) → length ms ≤ k → sizes N (drop k ms) ≡ 0
unfolding sizes
sizes-none N zero [] le = refl
sizes-none N (suc k) [] le = refl
sizes-none N zero (m ∷ ms) le = absurd (omega (arith, le))
sizes-none N (suc k) (m ∷ ms) le = sizes-none N k ms (omega (arith, le))

-- those of a set's ciphertexts
sizes-rows : (set : ParamSet) (cts : List Ciphertexts) → sizes set.degree (rows_of cts) ≡ bytes_of set cts
unfolding sizes
sizes-rows set [] = omega arith
sizes-rows set (c ∷ cts) =
    let here : c.how_many * ((c.m + 1) * (7 * set.degree)) ≡ c.how_many * (7 * (set.degree * (c.m + 1))) = omega arith in
    sizes-append set.degree (replicate c.how_many c.m) (rows_of cts)
    ∙ ap₂ (λ (x y : ℕ). x + y) (sizes-replicate set.degree c.m c.how_many ∙ here) (sizes-rows set cts)
    ∙ sym (sum_by-cons (λ (k : Ciphertexts). k.how_many * (7 * (set.degree * (k.m + 1)))) c cts)

pub body_sizes : (is_setup : Bool) (set : ParamSet) → sizes set.degree (shapes is_setup set) ≡ body_len_of (kind_by is_setup) set
body_sizes true set = sizes-rows set (setup_ciphertexts set)
body_sizes false set = sizes-rows set (query_ciphertexts set)

-- how many ciphertexts there are
pub count-rows : (cts : List Ciphertexts) → length (rows_of cts) ≡ ciphertext_count cts
count-rows [] = omega arith
count-rows (c ∷ cts) =
    length-append (replicate c.how_many c.m) (rows_of cts)
    ∙ ap₂ (λ (x y : ℕ). x + y) (length-replicate {A = ℕ} c.how_many c.m) (count-rows cts)
    ∙ sym (sum_by-cons (λ (k : Ciphertexts). k.how_many) c cts)

rows_length : (N : ℕ) (rows : List Poly) → All (IsRow N) rows → length (rows_bytes rows) ≡ length rows * (7 * N)
rows_length N [] fit = omega arith
rows_length N (row ∷ rows) fit =
    let first : length row ≡ N = (All-head (IsRow N) row rows fit).0 in
    let rest = rows_length N rows (All-tail (IsRow N) row rows fit) in
    omega (arith, length-append (poly_bytes row) (rows_bytes rows), length-poly_bytes row, ap (λ (k : ℕ). 7 * k) first, rest)

-- whole ciphertexts, and those that are wanting
ciphers_length : (N : ℕ) (ms : List ℕ) (ciphers : List Cipher) → FitRows N ms ciphers → length ciphers ≤ length ms
    → length (cipher_bytes ciphers) + sizes N (drop (length ciphers) ms) ≡ sizes N ms
unfolding cipher_bytes sizes
ciphers_length N ms [] fit le = omega arith
ciphers_length N [] (cipher ∷ ciphers) fit le = absurd (omega (arith, le))
ciphers_length N (m ∷ ms) (cipher ∷ ciphers) fit le =
    let first = rows_of_cipher N m cipher (fit 0 (omega arith)) in
    let rest = ciphers_length N ms ciphers (λ x h. fit (suc x) (omega (arith, h))) (omega (arith, le)) in
    omega (arith, length-append (rows_bytes cipher) (flat_map rows_bytes ciphers), first, rest)

made_length : (p : Made) → AreParts p → length (bytes_made p) ≡ length (cipher_bytes p.ciphers) + length p.rows * (7 * p.set.degree) + 7 * length p.numbers
made_length p are =
    omega (
      arith,
      length-append (cipher_bytes p.ciphers ++ rows_bytes p.rows) (poly_bytes p.numbers),
      length-append (cipher_bytes p.ciphers) (rows_bytes p.rows),
      rows_length p.set.degree p.rows are.rows_fit,
      length-poly_bytes p.numbers,
    )

pub no_rows : (ms : List ℕ) (k n : ℕ) → length ms ≤ k → n ≤ get_or ms k 0 → n ≡ 0
no_rows [] zero n le few = omega (arith, few)
no_rows [] (suc k) n le few = omega (arith, few)
no_rows (m ∷ ms) zero n le few = absurd (omega (arith, le))
no_rows (m ∷ ms) (suc k) n le few = no_rows ms k n (omega (arith, le)) few

-- room for a residue, by numbers alone
residue_room : (N m rows numbers before behind : ℕ) → rows ≤ m → numbers < N
    → before + rows * (7 * N) + 7 * numbers + 7 ≤ before + ((m + 1) * (7 * N) + behind)
residue_room N m rows numbers before behind few less =
    let product : rows * (7 * N) ≤ m * (7 * N) = mul-le-mul_right (7 * N) few in omega (arith, product, less)

module _ (p : Made) (few : List ℕ) (is : IsAtHand p few) where
  abbrev ms : List ℕ
  ms = shapes p.is_setup p.set

  abbrev whole : ℕ
  whole = body_len_of (kind_by p.is_setup) p.set

  total : length (cipher_bytes p.ciphers) + sizes p.set.degree (drop (length p.ciphers) ms) ≡ whole
  total = ciphers_length p.set.degree ms p.ciphers is.parts.each is.within ∙ body_sizes p.is_setup p.set

  -- A residue more is within the body where a ciphertext is wanting.
  pub room : length p.ciphers < length ms → length (bytes_made p) + 7 ≤ whole
  unfolding sizes
  room wanting =
      let N : ℕ = p.set.degree in
      let k : ℕ = length p.ciphers in
      let next : sizes N (drop k ms) ≡ (get_or ms k 0 + 1) * (7 * N) + sizes N (drop (suc k) ms) = ap (sizes N) (drop-cons ms k 0 wanting) in
      let fits = residue_room N (get_or ms k 0) (length p.rows) (length p.numbers) (length (cipher_bytes p.ciphers)) (sizes N (drop (suc k) ms))
      is.rows_few is.numbers_few in
      omega (arith, total, next, fits, made_length p is.parts)

  -- Where none is, all has come.
  pub all_come : length p.ciphers ≡ length ms → length (bytes_made p) ≡ whole
  all_come e =
      let none : length p.rows ≡ 0 = no_rows ms (length p.ciphers) (length p.rows) (omega (arith, e)) is.rows_few in
      let no_bytes : length p.rows * (7 * p.set.degree) ≡ 0 * (7 * p.set.degree) = ap (λ (n : ℕ). n * (7 * p.set.degree)) none in
      let rest : sizes p.set.degree (drop (length p.ciphers) ms) ≡ 0 = sizes-none p.set.degree (length p.ciphers) ms (omega (arith, e)) in
      omega (arith, total, rest, no_bytes, made_length p is.parts, (is.ended e).0)

  pub wanting_of : length (bytes_made p) < whole → length p.ciphers < length ms
  wanting_of less =
      elim (cases_lt (length p.ciphers) (length ms)) [
        | inl lt ↦ lt
        | inr le ↦ let e : length p.ciphers ≡ length ms = omega (arith, le, is.within) in absurd (omega (arith, all_come e, less))
      ]

  pub ended_of : length (bytes_made p ++ few) ≡ whole → length p.ciphers ≡ length ms
  ended_of e =
      elim (cases_lt (length p.ciphers) (length ms)) [
        | inl lt ↦ absurd (omega (arith, room lt, is.few_few, length-append (bytes_made p) few, e))
        | inr le ↦ omega (arith, le, is.within)
      ]

  within_body : length (bytes_made p ++ few) ≤ whole
  within_body =
      elim (cases_lt (length p.ciphers) (length ms)) [
        | inl lt ↦ omega (arith, room lt, is.few_few, length-append (bytes_made p) few)
        | inr le ↦
            let e : length p.ciphers ≡ length ms = omega (arith, le, is.within) in
            omega (arith, all_come e, (is.ended e).1, length-append (bytes_made p) few)
      ]

has_residues : (is_setup : Bool) → HasResidues (kind_by is_setup)
has_residues true = of_setup
has_residues false = of_query

-- What is at hand is not refused, and within the body.
pub kept : (p : Made) (few : List ℕ) → IsAtHand p few → IsKept p few
kept p few is =
    let spell = below_parts p is.parts in
    record {
      at_hand = is;
      growing = record {
        known = is.parts.known;
        clean =
            subst (λ (bytes : List ℕ). NotRefused (kind_by p.is_setup) p.set (bytes ++ few)) (sym spell.spelled)
            (residues_clean (kind_by p.is_setup) p.set spell.residues few (has_residues p.is_setup) is.parts.known spell.below is.few_few);
        within = within_body p few is;
      };
    }

-- A residue that isn't below q is refused, behind what is at hand.
pub refused_behind : (p : Made) (few more : List ℕ) (x : ℕ) → IsAtHand p few → length (bytes_made p) < body_len_of (kind_by p.is_setup) p.set
    → length more ≡ 7 → x ≡ number_of 256 more → q ≤ x
    → found (kind_by p.is_setup) p.set (bytes_made p ++ more) ≡ refuses (Residue (15 + length (name_of p.set) + 7 * p.count) x q)
refused_behind p few more x is less seven number_is large =
    let kind = kind_by p.is_setup in
    let spell = below_parts p is.parts in
    let all : take 7 more ≡ more = take_all 7 more (omega (arith, seven)) in
    let value : number_of 256 (take 7 more) ≡ x = ap (number_of 256) all ∙ sym number_is in
    let many : 7 * length spell.residues ≡ length (bytes_made p) = sym (ap length spell.spelled ∙ length-poly_bytes spell.residues) in
    let space = room p few is (wanting_of p few is less) in
    let within : length spell.residues < body_len_of kind p.set / 7 = omega (arith, many, space) in
    let place : length (header_of kind p.set) + 7 * length spell.residues ≡ 15 + length (name_of p.set) + 7 * p.count =
    omega (arith, many, is.parts.counted, length-header (code_of_kind kind) p.set (body_len_of kind p.set)) in
    ap (λ (bytes : List ℕ). found kind p.set (bytes ++ more)) spell.spelled
    ∙ residue_refused kind p.set spell.residues more (has_residues p.is_setup) is.parts.known spell.below (omega (arith, seven))
    (omega (arith, value, large)) within
    ∙ ap₂ (λ (at number : ℕ). refuses (Residue at number q)) place value

-- how many residues there are is small
pub count_most : (p : Made) (few : List ℕ) → IsAtHand p few → length (bytes_made p) < body_len_of (kind_by p.is_setup) p.set → 7 * p.count ≤ 2 ^ 24
count_most p few is less = omega (arith, is.parts.counted, less, body_len-most (kind_by p.is_setup) p.set is.parts.known)

-- as what a piece is refused for
pub refused_by : (p : Made) (few more piece : List ℕ) (n x : ℕ) (error : FrameError) → IsAtHand p few
    → length (bytes_made p) < body_len_of (kind_by p.is_setup) p.set → n ≤ length piece → more ≡ few ++ take n piece → length more ≡ 7
    → x ≡ number_of 256 more → q ≤ x → error ≡ Residue (15 + length (name_of p.set) + 7 * p.count) x q → RefusedBy p few piece (Refused error)
refused_by p few more piece n x error is less within same seven number_is large error_is =
    let bytes : (bytes_made p ++ few) ++ take n piece ≡ bytes_made p ++ more =
    append_assoc (bytes_made p) few (take n piece) ∙ ap (λ (t : List ℕ). bytes_made p ++ t) (sym same) in (
      n,
      within,
      ap (λ (b : List ℕ). found (kind_by p.is_setup) p.set b) bytes ∙ refused_behind p few more x is less seven number_is large ∙ ap refuses (sym error_is),
    )

-- ---- as they are seen

-- what has grown
pub grows_ok : (p : Made) (few : List ℕ) (seen : BodySeen) (piece : List ℕ) (r : Made) (left : List ℕ) (n : ℕ) → body_seen_of p few ≡ seen
    → GrownBy p few piece r left n → Grows seen (body_seen_of r left) piece (Ok n)
grows_ok p few seen piece r left n view g =
    let bytes : List ℕ = (bytes_made p ++ few) ++ take n piece in
    let now : body_seen_of r left ≡ record { kind = kind_by p.is_setup; set = p.set; bytes = bytes } =
    ap (λ (b : List ℕ). seen_as (kind_by r.is_setup) r.set b) g.bytes
    ∙ ap (λ (set : ParamSet). seen_as (kind_by r.is_setup) set bytes) g.same_set
    ∙ ap (λ (flag : Bool). seen_as (kind_by flag) p.set bytes) g.same_kind in
    subst (λ (s : BodySeen). Grows s (body_seen_of r left) piece (Ok n)) view (g.some, g.within, now, (kept r left g.at_hand).growing)

-- and what is refused
pub grows_err : (p : Made) (few : List ℕ) (seen : BodySeen) (piece : List ℕ) (error : GrowError) → body_seen_of p few ≡ seen
    → RefusedBy p few piece error → Grows seen seen piece (Err error)
grows_err p few seen piece (Refused error) view by = subst (λ (s : BodySeen). Grows s s piece (Err (Refused error))) view by
grows_err p few seen piece NoMemory view by = tt

-- Ciphertexts in the making: what becomes of them by residues, by whole rows, and at the end.
use Rattle.std.proofs.Common.{◌≡◌, ℕ, ◌+◌, ◌-◌, ◌*◌, ◌%◌, ◌^◌, ◌<◌, ◌≤◌, Bool, true, false, List, [], ◌∷◌, ◌++◌, length, get_or, take, drop, replicate, All, refl, sym, ◌∙◌, ap, ap₂, subst, arith, inl, inr, length-append, append_assoc, append-nil}
use Rattle.std.specs.Int.{w64, from_le_bytes}
use Rattle.std.proofs.lemmas.Bool.{cases_lt}
use Rattle.std.proofs.lemmas.List.{take-take, length-take, length-drop, length-replicate, get_or-replicate, get_or_append_left, get_or-append-add}
use Rattle.std.proofs.lemmas.List.Concat.{flat_map-append}
use Rattle.std.proofs.lemmas.List.Elements.{All-nil, All-append, All-push, All-take, All-drop}
use Rattle.std.proofs.Math.Seq.{take-add}
use Rattle.negacyclic.specs.Digits.{number_of}
use Rattle.negacyclic.proofs.Digits.{from_le_bytes-number_of, number_of-append_zeros, number_of-take}
use Rattle.spiral_sets.specs.declared.param_set.ParamSet.{ParamSet}
use Rattle.spiral_sets.specs.Sets.{IsSet, q, rows}
use Rattle.spiral_sets.specs.Counts.{ciphertext_count, setup_ciphertexts, query_ciphertexts}
use Rattle.spiral_sets.proofs.SetBounds.{degree-some}
use Rattle.frame_headers.specs.declared.kind.FrameKind.TheVariants.{Setup, Query}
use Rattle.frame_headers.specs.Kinds.{body_len_of}
use Rattle.frame_headers.specs.Headers.{number}
use Rattle.frame_headers.specs.Checks.{number_at}
use Rattle.spiral_model.specs.Words.{Poly, Cipher, cipher_at}
use Rattle.spiral_model.specs.Ciphertexts.{IsCipher}
use Rattle.spiral_model.specs.Bodies.{query_rows}
use Rattle.spiral_frames.specs.Frames.{poly_bytes, rows_bytes, cipher_bytes, setup_message, query_message}
use Rattle.spiral_frames.proofs.Bodies.{length-poly_bytes}
use Rattle.spiral_frames.proofs.SetupBodies.{HaveRows, FitRows, rows_of_one_shape, run_of_fit, setup_rows, rounds_count, lifts_count, conversions_count, setup_count}
use Rattle.pir_wire.specs.Bodies.{IsBodyOf}
use Rattle.pir_wire.specs.Growing.{BodySeen}
use Rattle.pir_wire.specs.CipherParts.{body_seen_of, Takes, kind_by, shapes, Made, bytes_made, below_at_hand, IsFilling, IsAtHand, Settles, PutsCipher, Took, GrownBy}
use Rattle.pir_wire.proofs.Queries.{residue_spelled}
use Rattle.pir_wire.proofs.CipherParts.{IsRow, count-rows, wanting_of, ended_of, no_rows}

pub nil_of : {A : Type 0} (xs : List A) → length xs ≡ 0 → xs ≡ []
nil_of [] e = refl
nil_of (x ∷ xs) e = absurd (omega (arith, e))

-- ---- reading residues

-- Seven bytes are read as eight, of which the last is 0.
pub seven_worth : (bytes filled : List ℕ) (x : ℕ) → length bytes ≡ 7 → filled ≡ bytes → x ≡ from_le_bytes w64 (filled ++ 0 ∷ []) → x ≡ number_of 256 bytes
seven_worth bytes filled x seven is read =
    let eight : length (bytes ++ 0 ∷ []) ≡ 8 = omega (arith, length-append bytes (0 ∷ []), seven) in
    read ∙ ap (λ (b : List ℕ). from_le_bytes w64 (b ++ 0 ∷ [])) is ∙ from_le_bytes-number_of w64 (bytes ++ 0 ∷ []) (omega arith) eight
    ∙ number_of-append_zeros 256 bytes 1

-- Of eight bytes read at once the last one is dropped.
module _ (piece : List ℕ) (place : ℕ) (bytes : All (λ b. b < 256) piece) where
  rest_bytes : All (λ b. b < 256) (drop place piece)
  rest_bytes = All-drop (λ b. b < 256) place piece bytes

  pub seven_of_eight : (x : ℕ) → x ≡ number_at piece place → x % 2 ^ 56 ≡ number_of 256 (take 7 (drop place piece))
  seven_of_eight x is =
      let eight : List ℕ = take 8 (drop place piece) in
      let front : take 7 eight ≡ take 7 (drop place piece) = take-take 7 8 (drop place piece) (omega arith) in
      ap (λ (n : ℕ). n % 2 ^ 56) is ∙ number_of-take 256 eight 7 (All-take (λ b. b < 256) 8 (drop place piece) rest_bytes) ∙ ap (number_of 256) front

  pub seven_spelled : (x : ℕ) → place + 7 ≤ length piece → x ≡ number_of 256 (take 7 (drop place piece)) → number 7 x ≡ take 7 (drop place piece)
  seven_spelled x room is =
      let seven : length (take 7 (drop place piece)) ≡ 7 = omega (arith, length-take 7 (drop place piece), length-drop place piece, room) in
      residue_spelled x (take 7 (drop place piece)) seven (All-take (λ b. b < 256) 7 (drop place piece) rest_bytes) is

-- a residue as a slice of the piece
pub as_slice : (piece : List ℕ) (place : ℕ) → take (place + 7 - place) (drop place piece) ≡ take 7 (drop place piece)
as_slice piece place = let seven : place + 7 - place ≡ 7 = omega arith in ap (λ (n : ℕ). take n (drop place piece)) seven

-- the first residue of a piece
pub first_too_large : (piece : List ℕ) (k x : ℕ) → x ≡ number_of 256 (take 7 (drop (7 * k) piece)) → q ≤ x → k ≡ 0 → q ≤ number_of 256 (take 7 piece)
first_too_large piece k x is large e =
    let first : x ≡ number_of 256 (take 7 piece) = is ∙ ap (λ (i : ℕ). number_of 256 (take 7 (drop (7 * i) piece))) e in omega (arith, large, first)

pub took_none : (piece old now : List ℕ) → now ≡ old → Took piece old now 0
took_none piece old now same = record {
  residues = [];
  appended = same ∙ sym (append-nil old);
  many = refl;
  below = All-nil (λ x. x < q);
  spelled = refl;
}

-- one residue more
pub took_more : (piece old now new : List ℕ) (k x : ℕ) → Took piece old now k → x < q → number 7 x ≡ take 7 (drop (7 * k) piece)
    → new ≡ now ++ x ∷ [] → Took piece old new (k + 1)
took_more piece old now new k x t less spelled e =
    let longer : 7 * (k + 1) ≡ 7 * k + 7 = omega arith in
    let front : take (7 * (k + 1)) piece ≡ take (7 * k) piece ++ take 7 (drop (7 * k) piece) =
    ap (λ (n : ℕ). take n piece) longer ∙ take-add (7 * k) 7 piece in
    let last : number 7 x ++ [] ≡ take 7 (drop (7 * k) piece) = append-nil (number 7 x) ∙ spelled in
    record {
      residues = t.residues ++ x ∷ [];
      appended = e ∙ ap (λ (l : List ℕ). l ++ x ∷ []) t.appended ∙ append_assoc old t.residues (x ∷ []);
      many = omega (arith, length-append t.residues (x ∷ []), t.many);
      below = All-push (λ y. y < q) t.residues x t.below less;
      spelled = flat_map-append (number 7) t.residues (x ∷ []) ∙ ap₂ (λ (a b : List ℕ). a ++ b) t.spelled last ∙ sym front;
    }

-- ---- the start

abbrev begun : ParamSet → Bool → List Cipher → List Poly → List ℕ → Made
begun set is_setup ciphers rows numbers = record { set = set; is_setup = is_setup; ciphers = ciphers; rows = rows; numbers = numbers; count = 0 }

abbrev HasNothing : Made → Type 0
HasNothing p = IsAtHand p [] × (bytes_made p ≡ [])

nothing_made : (set : ParamSet) (is_setup : Bool) → IsSet set → HasNothing (begun set is_setup [] [] [])
unfolding cipher_bytes
nothing_made set is_setup known = (
  record {
    parts = record { known = known; each = λ x h. absurd (omega (arith, h)); rows_fit = All-nil (IsRow set.degree); numbers_fit = All-nil (λ x. x < q); counted = refl };
    within = omega arith;
    rows_few = omega arith;
    numbers_few = omega (arith, degree-some set known);
    few_few = omega arith;
    ended = λ _. (refl, refl);
  },
  refl,
)

pub nothing : (set : ParamSet) (is_setup : Bool) (ciphers : List Cipher) (rows : List Poly) (numbers : List ℕ) → IsSet set → ciphers ≡ [] → rows ≡ []
    → numbers ≡ [] → HasNothing (begun set is_setup ciphers rows numbers)
nothing set is_setup ciphers rows numbers known no_ciphers no_rows no_numbers =
    subst (λ (cs : List Cipher). HasNothing (begun set is_setup cs rows numbers)) (sym no_ciphers)
    (subst (λ (rs : List Poly). HasNothing (begun set is_setup [] rs numbers)) (sym no_rows)
    (subst (λ (ns : List ℕ). HasNothing (begun set is_setup [] [] ns)) (sym no_numbers) (nothing_made set is_setup known)))

-- ---- residues behind those at hand

module _ (p : Made) (few : List ℕ) (is : IsAtHand p few) (unfinished : length (bytes_made p) < body_len_of (kind_by p.is_setup) p.set) where
  module _ (xs numbers : List ℕ) (count : ℕ) (below : All (λ x. x < q) xs) (same : numbers ≡ p.numbers ++ xs) (counted : count ≡ p.count + length xs) where
    bytes_more : bytes_made (record p { numbers = numbers; count = count }) ≡ bytes_made p ++ poly_bytes xs
    bytes_more =
        let before : List ℕ = cipher_bytes p.ciphers ++ rows_bytes p.rows in
        ap (λ (ns : List ℕ). before ++ poly_bytes ns) same
        ∙ ap (λ (t : List ℕ). before ++ t) (flat_map-append (number 7) p.numbers xs)
        ∙ sym (append_assoc before (poly_bytes p.numbers) (poly_bytes xs))

    pub filled : length p.numbers + length xs ≤ p.set.degree → IsFilling (record p { numbers = numbers; count = count })
    filled fits = record {
      parts = record {
        known = is.parts.known;
        each = is.parts.each;
        rows_fit = is.parts.rows_fit;
        numbers_fit = subst (λ (ns : List ℕ). All (λ x. x < q) ns) (sym same) (All-append (λ x. x < q) p.numbers xs is.parts.numbers_fit below);
        counted = omega (arith, counted, is.parts.counted, ap length bytes_more, length-append (bytes_made p) (poly_bytes xs), length-poly_bytes xs);
      };
      wanting = wanting_of p few is unfinished;
      rows_few = is.rows_few;
      numbers_few = omega (arith, ap length same, length-append p.numbers xs, fits);
    }

    -- they are taken from a piece
    pub grown_by : (r : Made) (piece : List ℕ) (n : ℕ) → Settles (record p { numbers = numbers; count = count }) r → 1 ≤ n → n ≤ length piece
        → poly_bytes xs ≡ few ++ take n piece → GrownBy p few piece r [] n
    grown_by r piece n settles some within spelled = record {
      some = some;
      within = within;
      at_hand = settles.kept;
      same_set = settles.same_set;
      same_kind = settles.same_kind;
      bytes =
          append-nil (bytes_made r) ∙ settles.same_bytes ∙ bytes_more ∙ ap (λ (t : List ℕ). bytes_made p ++ t) spelled
          ∙ sym (append_assoc (bytes_made p) few (take n piece));
    }

  -- bytes behind those at hand, fewer than a residue has
  pub few_more : (more piece : List ℕ) (n : ℕ) → more ≡ few ++ take n piece → length more < 7 → 1 ≤ n → n ≤ length piece → GrownBy p few piece p more n
  few_more more piece n same short some within = record {
    some = some;
    within = within;
    at_hand = record {
      parts = is.parts;
      within = is.within;
      rows_few = is.rows_few;
      numbers_few = is.numbers_few;
      few_few = short;
      ended = λ e. absurd (omega (arith, e, wanting_of p few is unfinished));
    };
    same_set = refl;
    same_kind = refl;
    bytes = ap (λ (t : List ℕ). bytes_made p ++ t) same ∙ sym (append_assoc (bytes_made p) few (take n piece));
  }

-- one residue, whose bytes end in a piece
module _ (p : Made) (few : List ℕ) (is : IsAtHand p few) (unfinished : length (bytes_made p) < body_len_of (kind_by p.is_setup) p.set) (x : ℕ) (less : x < q)
    (numbers : List ℕ) (same : numbers ≡ p.numbers ++ x ∷ []) where
  one_below : All (λ y. y < q) (x ∷ [])
  one_below = All-push (λ y. y < q) [] x (All-nil (λ y. y < q)) less

  pub part_filled : IsFilling (record p { numbers = numbers; count = p.count + 1 })
  part_filled = filled p few is unfinished (x ∷ []) numbers (p.count + 1) one_below same refl (omega (arith, is.numbers_few))

  pub part_grown : (r : Made) (more piece left : List ℕ) (n : ℕ) → Settles (record p { numbers = numbers; count = p.count + 1 }) r → 1 ≤ n
      → n ≤ length piece → more ≡ few ++ take n piece → number 7 x ≡ more → left ≡ [] → GrownBy p few piece r left n
  part_grown r more piece left n settles some within more_is spelled none =
      subst (λ (l : List ℕ). GrownBy p few piece r l n) (sym none)
      (grown_by p few is unfinished (x ∷ []) numbers (p.count + 1) one_below same refl r piece n settles some within
      (append-nil (number 7 x) ∙ spelled ∙ more_is))

-- residues at the front of a piece
module _ (p : Made) (is : IsAtHand p []) (unfinished : length (bytes_made p) < body_len_of (kind_by p.is_setup) p.set) (piece numbers : List ℕ) (wanted count : ℕ)
    (takes : Takes piece p.numbers numbers wanted count) where
  pub residues_filled : wanted ≤ p.set.degree - length p.numbers → IsFilling (record p { numbers = numbers; count = p.count + count })
  residues_filled room =
      filled p [] is unfinished takes.took.residues numbers (p.count + count) takes.took.below takes.took.appended (omega (arith, takes.took.many))
      (omega (arith, takes.took.many, takes.some, room, is.numbers_few))

  pub residues_grown : (r : Made) (left : List ℕ) → Settles (record p { numbers = numbers; count = p.count + count }) r → 1 ≤ count → left ≡ []
      → GrownBy p [] piece r left (7 * count)
  residues_grown r left settles some none =
      subst (λ (l : List ℕ). GrownBy p [] piece r l (7 * count)) (sym none)
      (grown_by p [] is unfinished takes.took.residues numbers (p.count + count) takes.took.below takes.took.appended (omega (arith, takes.took.many)) r piece
      (7 * count) settles (omega (arith, some)) takes.within takes.took.spelled)

-- ---- whole rows and whole ciphertexts

-- the row at hand isn't whole
pub settled_same : (p : Made) → IsFilling p → length p.numbers < p.set.degree → Settles p p
settled_same p is less = record {
  kept = record {
    parts = is.parts;
    within = omega (arith, is.wanting);
    rows_few = is.rows_few;
    numbers_few = less;
    few_few = omega arith;
    ended = λ e. absurd (omega (arith, e, is.wanting));
  };
  same_set = refl;
  same_kind = refl;
  same_bytes = refl;
}

-- It is, and becomes one of the rows at hand.
module _ (p : Made) (is : IsFilling p) (full : p.set.degree ≤ length p.numbers) (rows_now : List Poly) (rows_are : rows_now ≡ p.rows ++ p.numbers ∷ []) where
  abbrev N : ℕ
  N = p.set.degree

  rows_fit : All (IsRow N) rows_now
  rows_fit =
      let row : IsRow N p.numbers = (omega (arith, full, is.numbers_few), is.parts.numbers_fit) in
      subst (λ (rows : List Poly). All (IsRow N) rows) (sym rows_are) (All-push (IsRow N) p.rows p.numbers is.parts.rows_fit row)

  pub rows_same : All (λ a. length a ≡ length (get_or rows_now 0 [])) rows_now
  rows_same =
      let some : 0 < length rows_now = omega (arith, ap length rows_are, length-append p.rows (p.numbers ∷ [])) in
      λ i d h. (rows_fit i d h).0 ∙ sym (rows_fit 0 [] some).0

  pub rows_many : length rows_now ≡ length p.rows + 1
  rows_many = omega (arith, ap length rows_are, length-append p.rows (p.numbers ∷ []))

  some_degree : 0 < N
  some_degree = omega (arith, degree-some p.set is.parts.known)

  rows_spelled : rows_bytes rows_now ≡ rows_bytes p.rows ++ poly_bytes p.numbers
  rows_spelled =
      ap rows_bytes rows_are ∙ flat_map-append poly_bytes p.rows (p.numbers ∷ [])
      ∙ ap (λ (t : List ℕ). rows_bytes p.rows ++ t) (append-nil (poly_bytes p.numbers))

  -- fewer rows than a ciphertext has
  abbrev one_row_more : Made
  one_row_more = record p { rows = rows_now; numbers = [] }

  same_bytes_one : bytes_made one_row_more ≡ bytes_made p
  same_bytes_one =
      append-nil (cipher_bytes p.ciphers ++ rows_bytes rows_now)
      ∙ ap (λ (t : List ℕ). cipher_bytes p.ciphers ++ t) rows_spelled
      ∙ sym (append_assoc (cipher_bytes p.ciphers) (rows_bytes p.rows) (poly_bytes p.numbers))

  row_settled : length rows_now ≤ below_at_hand p → Settles p one_row_more
  row_settled few = record {
    kept = record {
      parts = record {
        known = is.parts.known;
        each = is.parts.each;
        rows_fit = rows_fit;
        numbers_fit = All-nil (λ x. x < q);
        counted = is.parts.counted ∙ sym (ap length same_bytes_one);
      };
      within = omega (arith, is.wanting);
      rows_few = few;
      numbers_few = some_degree;
      few_few = omega arith;
      ended = λ e. absurd (omega (arith, e, is.wanting));
    };
    same_set = refl;
    same_kind = refl;
    same_bytes = same_bytes_one;
  }

  -- all rows of a ciphertext
  abbrev one_cipher_more : Made
  one_cipher_more = record p { ciphers = p.ciphers ++ rows_now ∷ []; rows = []; numbers = [] }

  same_bytes_all : bytes_made one_cipher_more ≡ bytes_made p
  unfolding cipher_bytes
  same_bytes_all =
      append-nil (cipher_bytes (p.ciphers ++ rows_now ∷ []) ++ [])
      ∙ append-nil (cipher_bytes (p.ciphers ++ rows_now ∷ []))
      ∙ flat_map-append rows_bytes p.ciphers (rows_now ∷ [])
      ∙ ap (λ (t : List ℕ). cipher_bytes p.ciphers ++ t) (append-nil (rows_bytes rows_now) ∙ rows_spelled)
      ∙ sym (append_assoc (cipher_bytes p.ciphers) (rows_bytes p.rows) (poly_bytes p.numbers))

  abbrev ms : List ℕ
  ms = shapes p.is_setup p.set

  cipher_fits : below_at_hand p < length rows_now → FitRows N ms (p.ciphers ++ rows_now ∷ [])
  cipher_fits many x h =
      elim (cases_lt x (length p.ciphers)) [
        | inl front ↦
            subst (λ (c : Cipher). IsCipher N (get_or ms x 0) c) (sym (get_or_append_left p.ciphers (rows_now ∷ []) [] x front)) (is.parts.each x front)
        | inr behind ↦
            let place : length p.ciphers + 0 ≡ x = omega (arith, behind, h, length-append p.ciphers (rows_now ∷ [])) in
            let last : cipher_at (p.ciphers ++ rows_now ∷ []) (length p.ciphers + 0) ≡ rows_now = get_or-append-add p.ciphers (rows_now ∷ []) 0 [] in
            let at : get_or ms (length p.ciphers) 0 ≡ get_or ms x 0 = ap (λ (k : ℕ). get_or ms k 0) (omega (arith, place)) in
            let whole : IsCipher N (get_or ms x 0) rows_now =
            record { rows_count = omega (arith, many, rows_many, is.rows_few, at); residues = rows_fit } in
            subst (λ (c : Cipher). IsCipher N (get_or ms x 0) c) (sym (ap (cipher_at (p.ciphers ++ rows_now ∷ [])) (sym place) ∙ last)) whole
      ]

  cipher_settled : below_at_hand p < length rows_now → Settles p one_cipher_more
  cipher_settled many = record {
    kept = record {
      parts = record {
        known = is.parts.known;
        each = cipher_fits many;
        rows_fit = All-nil (IsRow N);
        numbers_fit = All-nil (λ x. x < q);
        counted = is.parts.counted ∙ sym (ap length same_bytes_all);
      };
      within = omega (arith, is.wanting, length-append p.ciphers (rows_now ∷ []));
      rows_few = omega arith;
      numbers_few = some_degree;
      few_few = omega arith;
      ended = λ _. (refl, refl);
    };
    same_set = refl;
    same_kind = refl;
    same_bytes = same_bytes_all;
  }

  -- either, as the program has it
  pub settled_row : (m : ℕ) (ciphers : List Cipher) (left : List Poly) (numbers : List ℕ) → m ≡ below_at_hand p → numbers ≡ []
      → PutsCipher m rows_now p.ciphers left ciphers → Settles p (record p { ciphers = ciphers; rows = left; numbers = numbers })
  settled_row m ciphers left numbers m_is none (inl (few, left_is, ciphers_are)) =
      subst (λ (ns : List ℕ). Settles p (record p { ciphers = ciphers; rows = left; numbers = ns })) (sym none)
      (subst (λ (cs : List Cipher). Settles p (record p { ciphers = cs; rows = left; numbers = [] })) (sym ciphers_are)
      (subst (λ (rs : List Poly). Settles p (record p { rows = rs; numbers = [] })) (sym left_is) (row_settled (omega (arith, few, m_is)))))
  settled_row m ciphers left numbers m_is none (inr (many, left_is, ciphers_are)) =
      subst (λ (ns : List ℕ). Settles p (record p { ciphers = ciphers; rows = left; numbers = ns })) (sym none)
      (subst (λ (cs : List Cipher). Settles p (record p { ciphers = cs; rows = left; numbers = [] })) (sym ciphers_are)
      (subst (λ (rs : List Poly). Settles p (record p { ciphers = p.ciphers ++ rows_now ∷ []; rows = rs; numbers = [] })) (sym left_is)
      (cipher_settled (omega (arith, many, m_is)))))

-- ---- the rows of each ciphertext

queries_have : (set : ParamSet) → HaveRows (query_rows set) (query_ciphertexts set)
queries_have set =
    elim set.direct as (λ direct. HaveRows (query_rows (record set { direct = direct })) (query_ciphertexts (record set { direct = direct }))) [
      | true ↦ (refl, (refl, tt))
      | false ↦ (refl, tt)
    ]

query_shapes : (set : ParamSet) → shapes false set ≡ replicate (ciphertext_count (query_ciphertexts set)) (query_rows set)
query_shapes set = rows_of_one_shape (query_rows set) (query_ciphertexts set) (queries_have set)

pub query_shape : (set : ParamSet) (k : ℕ) → k < length (shapes false set) → get_or (shapes false set) k 0 ≡ query_rows set
query_shape set k there =
    let count : ℕ = ciphertext_count (query_ciphertexts set) in
    ap (λ (ms : List ℕ). get_or ms k 0) (query_shapes set)
    ∙ get_or-replicate count k (query_rows set) 0 (omega (arith, there, count-rows (query_ciphertexts set)))

module _ (set : ParamSet) (k : ℕ) (there : k < length (shapes true set)) where
  abbrev one : List ℕ
  one = replicate (rounds_count set) 1

  abbrev two : List ℕ
  two = replicate (lifts_count set) set.n

  abbrev three : List ℕ
  three = replicate (conversions_count set) (rows set)

  one_many : length one ≡ rounds_count set
  one_many = length-replicate {A = ℕ} (rounds_count set) 1

  two_many : length two ≡ lifts_count set
  two_many = length-replicate {A = ℕ} (lifts_count set) set.n

  as_runs : get_or (shapes true set) k 0 ≡ get_or ((one ++ two) ++ three) k 0
  as_runs = ap (λ (ms : List ℕ). get_or ms k 0) (setup_rows set)

  pub round_shape : k < rounds_count set → get_or (shapes true set) k 0 ≡ 1
  round_shape less =
      as_runs ∙ get_or_append_left (one ++ two) three 0 k (omega (arith, length-append one two, one_many, less))
      ∙ get_or_append_left one two 0 k (omega (arith, one_many, less)) ∙ get_or-replicate (rounds_count set) k 1 0 less

  pub lift_shape : rounds_count set ≤ k → k - rounds_count set < lifts_count set → get_or (shapes true set) k 0 ≡ set.n
  lift_shape least less =
      let place : k ≡ length one + (k - rounds_count set) = omega (arith, one_many, least) in
      as_runs ∙ get_or_append_left (one ++ two) three 0 k (omega (arith, length-append one two, one_many, two_many, less))
      ∙ ap (λ (i : ℕ). get_or (one ++ two) i 0) place ∙ get_or-append-add one two (k - rounds_count set) 0
      ∙ get_or-replicate (lifts_count set) (k - rounds_count set) set.n 0 less

  pub conversion_shape : rounds_count set ≤ k → lifts_count set ≤ k - rounds_count set → get_or (shapes true set) k 0 ≡ rows set
  conversion_shape least behind =
      let i : ℕ = k - rounds_count set - lifts_count set in
      let place : k ≡ length (one ++ two) + i = omega (arith, length-append one two, one_many, two_many, least, behind) in
      let less : i < conversions_count set = omega (arith, there, count-rows (setup_ciphertexts set), setup_count set, least, behind) in
      as_runs ∙ ap (λ (j : ℕ). get_or ((one ++ two) ++ three) j 0) place ∙ get_or-append-add (one ++ two) three i 0
      ∙ get_or-replicate (conversions_count set) i (rows set) 0 less

-- ---- the whole body

module _ (p : Made) (few : List ℕ) (is : IsAtHand p few) (all : length (bytes_made p ++ few) ≡ body_len_of (kind_by p.is_setup) p.set) where
  bytes_end : bytes_made p ++ few ≡ cipher_bytes p.ciphers
  bytes_end =
      let no_row : p.rows ≡ [] =
      nil_of p.rows (no_rows (shapes p.is_setup p.set) (length p.ciphers) (length p.rows) (omega (arith, ended_of p few is all)) is.rows_few) in
      let no_number : p.numbers ≡ [] = nil_of p.numbers (is.ended (ended_of p few is all)).0 in
      let no_byte : few ≡ [] = nil_of few (is.ended (ended_of p few is all)).1 in
      ap₂ (λ (a b : List ℕ). a ++ b)
      (ap₂ (λ (rows : List Poly) (numbers : List ℕ). cipher_bytes p.ciphers ++ rows_bytes rows ++ poly_bytes numbers) no_row no_number) no_byte
      ∙ append-nil ((cipher_bytes p.ciphers ++ []) ++ [])
      ∙ append-nil (cipher_bytes p.ciphers ++ [])
      ∙ append-nil (cipher_bytes p.ciphers)

  pub setup_whole : p.is_setup ≡ true → IsBodyOf p.set (bytes_made p ++ few) (setup_message (record { set = p.set; ciphers = p.ciphers }))
  setup_whole e =
      let count : length p.ciphers ≡ ciphertext_count (setup_ciphertexts p.set) =
      ended_of p few is all ∙ ap (λ (b : Bool). length (shapes b p.set)) e ∙ count-rows (setup_ciphertexts p.set) in
      record {
        set_is = refl;
        kept = record {
          known = is.parts.known;
          count = count;
          shapes = subst (λ (b : Bool). FitRows p.set.degree (shapes b p.set) p.ciphers) e is.parts.each;
        };
        spelled = bytes_end;
      }

  pub query_whole : p.is_setup ≡ false → IsBodyOf p.set (bytes_made p ++ few) (query_message (record { set = p.set; ciphers = p.ciphers }))
  query_whole e =
      let set : ParamSet = p.set in
      let many : ℕ = ciphertext_count (query_ciphertexts set) in
      let count : length p.ciphers ≡ many = ended_of p few is all ∙ ap (λ (b : Bool). length (shapes b set)) e ∙ count-rows (query_ciphertexts set) in
      let fit : FitRows set.degree (replicate many (query_rows set)) p.ciphers =
      subst (λ (ms : List ℕ). FitRows set.degree ms p.ciphers) (query_shapes set)
      (subst (λ (b : Bool). FitRows set.degree (shapes b set) p.ciphers) e is.parts.each) in
      record {
        set_is = refl;
        kept = record {
          known = is.parts.known;
          count = count;
          shapes = run_of_fit set.degree (query_rows set) many p.ciphers count fit;
        };
        spelled = bytes_end;
      }

-- as it is seen
module _ (p : Made) (few : List ℕ) (seen : BodySeen) (set : ParamSet) (ciphers : List Cipher) (is_setup : Bool) (is : IsAtHand p few)
    (view : body_seen_of p few ≡ seen) (all : length seen.bytes ≡ body_len_of seen.kind seen.set) (kind_is : is_setup ≡ p.is_setup) (set_is : set ≡ p.set)
    (ciphers_are : ciphers ≡ p.ciphers) where
  all_here : length (bytes_made p ++ few) ≡ body_len_of (kind_by p.is_setup) p.set
  all_here = subst (λ (s : BodySeen). length s.bytes ≡ body_len_of s.kind s.set) (sym view) all

  pub setup_finished : is_setup ≡ true → IsBodyOf seen.set seen.bytes (setup_message (record { set = set; ciphers = ciphers })) × (Setup ≡ seen.kind)
  setup_finished e =
      let here : p.is_setup ≡ true = sym kind_is ∙ e in
      let bytes : List ℕ = bytes_made p ++ few in
      let body : IsBodyOf p.set bytes (setup_message (record { set = set; ciphers = ciphers })) =
      subst (λ (s : ParamSet). IsBodyOf p.set bytes (setup_message (record { set = s; ciphers = ciphers }))) (sym set_is)
      (subst (λ (cs : List Cipher). IsBodyOf p.set bytes (setup_message (record { set = p.set; ciphers = cs }))) (sym ciphers_are)
      (setup_whole p few is all_here here)) in
      subst (λ (s : BodySeen). IsBodyOf s.set s.bytes (setup_message (record { set = set; ciphers = ciphers })) × (Setup ≡ s.kind)) view
      (body, ap kind_by (sym here))

  pub query_finished : is_setup ≡ false → IsBodyOf seen.set seen.bytes (query_message (record { set = set; ciphers = ciphers })) × (Query ≡ seen.kind)
  query_finished e =
      let here : p.is_setup ≡ false = sym kind_is ∙ e in
      let bytes : List ℕ = bytes_made p ++ few in
      let body : IsBodyOf p.set bytes (query_message (record { set = set; ciphers = ciphers })) =
      subst (λ (s : ParamSet). IsBodyOf p.set bytes (query_message (record { set = s; ciphers = ciphers }))) (sym set_is)
      (subst (λ (cs : List Cipher). IsBodyOf p.set bytes (query_message (record { set = p.set; ciphers = cs }))) (sym ciphers_are)
      (query_whole p few is all_here here)) in
      subst (λ (s : BodySeen). IsBodyOf s.set s.bytes (query_message (record { set = set; ciphers = ciphers })) × (Query ≡ s.kind)) view
      (body, ap kind_by (sym here))

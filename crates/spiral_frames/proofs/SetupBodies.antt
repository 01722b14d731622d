-- A Setup's body: three runs of ciphertexts, each run of one shape, and the bytes of each.
use Rattle.std.proofs.Common.{◌≡◌, ℕ, ◌+◌, ◌-◌, ◌*◌, ◌<◌, Bool, true, false, if◌then◌else◌, List, [], ◌∷◌, ◌++◌, length, get_or, take, drop, replicate, All, refl, sym, ◌∙◌, ap, ap₂, subst, arith, inl, inr, length-append}
use Rattle.std.specs.Prelude.{EachIndex}
use Rattle.std.specs.List.{AllByRecursion}
use Rattle.std.proofs.lemmas.Bool.{cases_lt}
use Rattle.std.proofs.lemmas.List.{append_assoc, length-replicate, length-drop, length-take-le, get_or-replicate, replicate-append-replicate, get_or_append_left, get_or-append-add, take-append-drop, take_at, take_all, drop_at, drop-drop}
use Rattle.std.proofs.lemmas.List.Concat.{flat_map-append}
use Rattle.std.proofs.lemmas.List.Elements.{All-from_get_or}
use Rattle.std.proofs.lemmas.List.Sums.{sum_by-cons, sum_by-append}
use Rattle.spiral_sets.specs.declared.param_set.ParamSet.{ParamSet}
use Rattle.spiral_sets.specs.Sets.{IsSet, digit_count, rho, rows, has_keys}
use Rattle.spiral_sets.specs.Counts.{Ciphertexts, ciphertext_count, bytes_of, round_ciphertexts, lift_ciphertexts, conversion_ciphertexts, setup_ciphertexts, setup_len}
use Rattle.spiral_model.specs.Words.{Cipher, cipher_at}
use Rattle.spiral_model.specs.Ciphertexts.{IsCipher}
use Rattle.spiral_model.specs.Bodies.{CipherBody, IsSetup, rows_of}
use Rattle.spiral_frames.specs.Frames.{rows_bytes, cipher_bytes}
use Rattle.spiral_frames.proofs.Bodies.{length-cipher_bytes}

-- ---- counts of ciphertexts of one shape

-- all have rows 0 to m
abbrev pub HaveRows : ℕ → List Ciphertexts → Type 0
HaveRows m counts = AllByRecursion (λ (c : Ciphertexts). c.m ≡ m) counts

-- how many bytes so many ciphertexts with rows 0 to m have
abbrev pub run_len : ℕ → ℕ → ℕ → ℕ
run_len N m count = count * ((m + 1) * (7 * N))

-- their rows, one by one
pub rows_of_one_shape : (m : ℕ) (counts : List Ciphertexts) → HaveRows m counts → rows_of counts ≡ replicate (ciphertext_count counts) m
rows_of_one_shape m [] have = refl
rows_of_one_shape m (c ∷ counts) have =
    ap (λ (r : ℕ). replicate c.how_many r ++ rows_of counts) have.0
    ∙ ap (λ (rest : List ℕ). replicate c.how_many m ++ rest) (rows_of_one_shape m counts have.1)
    ∙ replicate-append-replicate c.how_many (ciphertext_count counts) m
    ∙ ap (λ (n : ℕ). replicate n m) (sym (sum_by-cons (λ (k : Ciphertexts). k.how_many) c counts))

-- and their bytes
bytes_of_one_shape : (set : ParamSet) (m : ℕ) (counts : List Ciphertexts) → HaveRows m counts
    → bytes_of set counts ≡ run_len set.degree m (ciphertext_count counts)
bytes_of_one_shape set m [] have = omega arith
bytes_of_one_shape set m (c ∷ counts) have =
    let same : c.how_many * (7 * (set.degree * (c.m + 1))) ≡ c.how_many * (7 * (set.degree * (m + 1))) =
    ap (λ (r : ℕ). c.how_many * (7 * (set.degree * (r + 1)))) have.0 in
    let turned : c.how_many * (7 * (set.degree * (m + 1))) ≡ run_len set.degree m c.how_many = omega arith in
    let both : run_len set.degree m c.how_many + run_len set.degree m (ciphertext_count counts)
    ≡ run_len set.degree m (c.how_many + ciphertext_count counts) = omega arith in
    sum_by-cons (λ (k : Ciphertexts). k.how_many * (7 * (set.degree * (k.m + 1)))) c counts
    ∙ ap₂ (λ (x y : ℕ). x + y) (same ∙ turned) (bytes_of_one_shape set m counts have.1)
    ∙ both
    ∙ ap (λ (n : ℕ). run_len set.degree m n) (sym (sum_by-cons (λ (k : Ciphertexts). k.how_many) c counts))

-- a choice of two such lists
either_has : (b : Bool) (m : ℕ) (xs ys : List Ciphertexts) → HaveRows m xs → HaveRows m ys → HaveRows m (if b then xs else ys)
either_has true m xs ys one other = one
either_has false m xs ys one other = other

-- ---- the three runs of a set: of round keys, of lift keys, of the conversion key

module _ (set : ParamSet) where
  -- each is of one shape
  rounds_have : HaveRows 1 (round_ciphertexts set)
  rounds_have =
      either_has set.direct 1 []
      (record { how_many = digit_count set.w_right; m = 1 } ∷ record { how_many = set.nu1 * digit_count set.w_left; m = 1 }
      ∷ record { how_many = rho set * digit_count set.w_right; m = 1 } ∷ []) tt (refl, (refl, (refl, tt)))

  lifts_have : HaveRows set.n (lift_ciphertexts set)
  lifts_have = either_has (has_keys set) set.n (record { how_many = set.n * digit_count set.w_conv; m = set.n } ∷ []) [] (refl, tt) tt

  conversions_have : HaveRows (rows set) (conversion_ciphertexts set)
  conversions_have = either_has set.direct (rows set) [] (record { how_many = digit_count set.w_conv; m = rows set } ∷ []) tt (refl, tt)

  -- how many ciphertexts each has
  abbrev pub rounds_count : ℕ
  rounds_count = ciphertext_count (round_ciphertexts set)

  abbrev pub lifts_count : ℕ
  lifts_count = ciphertext_count (lift_ciphertexts set)

  abbrev pub conversions_count : ℕ
  conversions_count = ciphertext_count (conversion_ciphertexts set)

  -- and how many bytes
  abbrev pub rounds_len : ℕ
  rounds_len = run_len set.degree 1 rounds_count

  abbrev pub lifts_len : ℕ
  lifts_len = run_len set.degree set.n lifts_count

  abbrev pub conversions_len : ℕ
  conversions_len = run_len set.degree (rows set) conversions_count

  -- the rows below row 0 of all ciphertexts, one by one
  abbrev pub all_rows : List ℕ
  all_rows = replicate rounds_count 1 ++ replicate lifts_count set.n ++ replicate conversions_count (rows set)

  pub setup_rows : rows_of (setup_ciphertexts set) ≡ all_rows
  setup_rows =
      let f : Ciphertexts → List ℕ = λ c. replicate c.how_many c.m in
      let front : rows_of (round_ciphertexts set ++ lift_ciphertexts set) ≡ replicate rounds_count 1 ++ replicate lifts_count set.n =
      flat_map-append f (round_ciphertexts set) (lift_ciphertexts set)
      ∙ ap₂ (λ (x y : List ℕ). x ++ y) (rows_of_one_shape 1 (round_ciphertexts set) rounds_have) (rows_of_one_shape set.n (lift_ciphertexts set) lifts_have) in
      flat_map-append f (round_ciphertexts set ++ lift_ciphertexts set) (conversion_ciphertexts set)
      ∙ ap₂ (λ (x y : List ℕ). x ++ y) front (rows_of_one_shape (rows set) (conversion_ciphertexts set) conversions_have)

  -- how many ciphertexts there are in all
  pub setup_count : ciphertext_count (setup_ciphertexts set) ≡ rounds_count + lifts_count + conversions_count
  setup_count =
      let f : Ciphertexts → ℕ = λ c. c.how_many in
      sum_by-append f (round_ciphertexts set ++ lift_ciphertexts set) (conversion_ciphertexts set)
      ∙ ap (λ (n : ℕ). n + conversions_count) (sum_by-append f (round_ciphertexts set) (lift_ciphertexts set))

  -- where the lift keys and the conversion key start: behind the bytes before them
  pub lifts_start : bytes_of set (round_ciphertexts set) ≡ rounds_len
  lifts_start = bytes_of_one_shape set 1 (round_ciphertexts set) rounds_have

  pub conversions_start : bytes_of set (round_ciphertexts set) + bytes_of set (lift_ciphertexts set) ≡ rounds_len + lifts_len
  conversions_start = ap₂ (λ (x y : ℕ). x + y) lifts_start (bytes_of_one_shape set set.n (lift_ciphertexts set) lifts_have)

  -- how many bytes a Setup's body has
  pub setup_bytes : setup_len set ≡ rounds_len + lifts_len + conversions_len
  setup_bytes =
      let f : Ciphertexts → ℕ = λ c. c.how_many * (7 * (set.degree * (c.m + 1))) in
      sum_by-append f (round_ciphertexts set ++ lift_ciphertexts set) (conversion_ciphertexts set)
      ∙ ap₂ (λ (x y : ℕ). x + y) (sum_by-append f (round_ciphertexts set) (lift_ciphertexts set) ∙ conversions_start)
      (bytes_of_one_shape set (rows set) (conversion_ciphertexts set) conversions_have)

-- ---- ciphertexts that have the rows of a list, one by one

-- Ciphertext x has N coefficients in each row, and as many rows below row 0 as the list says at place x.
abbrev pub FitRows : ℕ → List ℕ → List Cipher → Type 0
FitRows N rows_below ciphers = EachIndex ciphers (λ x. IsCipher N (get_or rows_below x 0) (cipher_at ciphers x))

module _ (N : ℕ) (rs ss : List ℕ) (xs ys : List Cipher) (same : length rs ≡ length xs) where
  left_rows : (x : ℕ) → x < length xs → get_or (rs ++ ss) x 0 ≡ get_or rs x 0
  left_rows x h = get_or_append_left rs ss 0 x (omega (arith, same, h))

  right_rows : (x : ℕ) → get_or (rs ++ ss) (length xs + x) 0 ≡ get_or ss x 0
  right_rows x = ap (λ (n : ℕ). get_or (rs ++ ss) (n + x) 0) (sym same) ∙ get_or-append-add rs ss x 0

  left_cipher : (x : ℕ) → x < length xs → cipher_at (xs ++ ys) x ≡ cipher_at xs x
  left_cipher x h = get_or_append_left xs ys [] x h

  right_cipher : (x : ℕ) → cipher_at (xs ++ ys) (length xs + x) ≡ cipher_at ys x
  right_cipher x = get_or-append-add xs ys x []

  fit_front : FitRows N (rs ++ ss) (xs ++ ys) → FitRows N rs xs
  fit_front fit x h =
      let within : x < length (xs ++ ys) = omega (arith, length-append xs ys) in
      subst (λ (r : ℕ). IsCipher N r (cipher_at xs x)) (left_rows x h)
      (subst (λ (c : Cipher). IsCipher N (get_or (rs ++ ss) x 0) c) (left_cipher x h) (fit x within))

  fit_back : FitRows N (rs ++ ss) (xs ++ ys) → FitRows N ss ys
  fit_back fit x h =
      let within : length xs + x < length (xs ++ ys) = omega (arith, length-append xs ys) in
      subst (λ (r : ℕ). IsCipher N r (cipher_at ys x)) (right_rows x)
      (subst (λ (c : Cipher). IsCipher N (get_or (rs ++ ss) (length xs + x) 0) c) (right_cipher x) (fit (length xs + x) within))

  fit_both : FitRows N rs xs → FitRows N ss ys → FitRows N (rs ++ ss) (xs ++ ys)
  fit_both first second x h =
      elim (cases_lt x (length xs)) [
        | inl front ↦
            subst (λ (r : ℕ). IsCipher N r (cipher_at (xs ++ ys) x)) (sym (left_rows x front))
            (subst (λ (c : Cipher). IsCipher N (get_or rs x 0) c) (sym (left_cipher x front)) (first x front))
        | inr behind ↦
            let place : length xs + (x - length xs) ≡ x = omega arith in
            let within : x - length xs < length ys = omega (arith, length-append xs ys) in
            subst (λ (k : ℕ). IsCipher N (get_or (rs ++ ss) k 0) (cipher_at (xs ++ ys) k)) place
            (subst (λ (r : ℕ). IsCipher N r (cipher_at (xs ++ ys) (length xs + (x - length xs)))) (sym (right_rows (x - length xs)))
            (subst (λ (c : Cipher). IsCipher N (get_or ss (x - length xs) 0) c) (sym (right_cipher (x - length xs))) (second (x - length xs) within)))
      ]

-- where all have the same rows
run_fits : (N m count : ℕ) (xs : List Cipher) → length xs ≡ count → All (IsCipher N m) xs → FitRows N (replicate count m) xs
run_fits N m count xs many all x h = subst (λ (r : ℕ). IsCipher N r (cipher_at xs x)) (sym (get_or-replicate count x m 0 (omega arith))) (all x [] h)

pub run_of_fit : (N m count : ℕ) (xs : List Cipher) → length xs ≡ count → FitRows N (replicate count m) xs → All (IsCipher N m) xs
run_of_fit N m count xs many fit =
    All-from_get_or (IsCipher N m) xs [] (λ x h. subst (λ (r : ℕ). IsCipher N r (cipher_at xs x)) (get_or-replicate count x m 0 (omega arith)) (fit x h))

-- ---- the ciphertexts of a Setup body in three runs

-- So many ciphertexts in each run of this set, of its shape.
pub record AreRuns (set : ParamSet) (rounds lifts conversions : List Cipher) : Type 0 where
  pub rounds_many : length rounds ≡ rounds_count set
  pub lifts_many : length lifts ≡ lifts_count set
  pub conversions_many : length conversions ≡ conversions_count set
  pub rounds_fit : All (IsCipher set.degree 1) rounds
  pub lifts_fit : All (IsCipher set.degree set.n) lifts
  pub conversions_fit : All (IsCipher set.degree (rows set)) conversions

-- Such runs, one behind the other, are a Setup body.
pub setup_of_runs : (set : ParamSet) (rounds lifts conversions : List Cipher) → IsSet set → AreRuns set rounds lifts conversions
    → IsSetup (record { set = set; ciphers = rounds ++ lifts ++ conversions })
setup_of_runs set rounds lifts conversions known are =
    let N : ℕ = set.degree in
    let first : List ℕ = replicate (rounds_count set) 1 in
    let second : List ℕ = replicate (lifts_count set) set.n in
    let third : List ℕ = replicate (conversions_count set) (rows set) in
    let one : length first ≡ length rounds = length-replicate {A = ℕ} (rounds_count set) 1 ∙ sym are.rounds_many in
    let two : length (first ++ second) ≡ length (rounds ++ lifts) =
    omega (arith, one, length-append first second, length-append rounds lifts, length-replicate (lifts_count set) set.n, are.lifts_many) in
    let total : length (rounds ++ lifts ++ conversions) ≡ ciphertext_count (setup_ciphertexts set) =
    omega
    (arith, length-append (rounds ++ lifts) conversions, length-append rounds lifts, setup_count set, are.rounds_many, are.lifts_many, are.conversions_many) in
    let front : FitRows N (first ++ second) (rounds ++ lifts) =
    fit_both N first second rounds lifts one (run_fits N 1 (rounds_count set) rounds are.rounds_many are.rounds_fit)
    (run_fits N set.n (lifts_count set) lifts are.lifts_many are.lifts_fit) in
    let whole : FitRows N (first ++ second ++ third) (rounds ++ lifts ++ conversions) =
    fit_both N (first ++ second) third (rounds ++ lifts) conversions two front
    (run_fits N (rows set) (conversions_count set) conversions are.conversions_many are.conversions_fit) in
    record {
      known = known;
      count = total;
      shapes = subst (λ (rs : List ℕ). FitRows N rs (rounds ++ lifts ++ conversions)) (sym (setup_rows set)) whole;
    }

module _ (keys : CipherBody) where
  -- the three runs of a body
  abbrev pub rounds_of : List Cipher
  rounds_of = take (rounds_count keys.set) keys.ciphers

  abbrev behind_rounds : List Cipher
  behind_rounds = drop (rounds_count keys.set) keys.ciphers

  abbrev pub lifts_of : List Cipher
  lifts_of = take (lifts_count keys.set) behind_rounds

  abbrev pub conversions_of : List Cipher
  conversions_of = drop (lifts_count keys.set) behind_rounds

  -- they are all its ciphertexts,
  pub runs_joined : rounds_of ++ lifts_of ++ conversions_of ≡ keys.ciphers
  runs_joined =
      append_assoc rounds_of lifts_of conversions_of
      ∙ ap (λ (rest : List Cipher). rounds_of ++ rest) (take-append-drop (lifts_count keys.set) behind_rounds)
      ∙ take-append-drop (rounds_count keys.set) keys.ciphers

  -- and each is of its shape.
  pub runs_of_setup : IsSetup keys → AreRuns keys.set rounds_of lifts_of conversions_of
  runs_of_setup is =
      let set : ParamSet = keys.set in
      let N : ℕ = set.degree in
      let first : List ℕ = replicate (rounds_count set) 1 in
      let second : List ℕ = replicate (lifts_count set) set.n in
      let third : List ℕ = replicate (conversions_count set) (rows set) in
      let total : length keys.ciphers ≡ rounds_count set + lifts_count set + conversions_count set = is.count ∙ setup_count set in
      let rest : length behind_rounds ≡ lifts_count set + conversions_count set = omega (arith, length-drop (rounds_count set) keys.ciphers, total) in
      let a_many : length rounds_of ≡ rounds_count set = length-take-le (rounds_count set) keys.ciphers (omega (arith, total)) in
      let b_many : length lifts_of ≡ lifts_count set = length-take-le (lifts_count set) behind_rounds (omega (arith, rest)) in
      let c_many : length conversions_of ≡ conversions_count set = omega (arith, length-drop (lifts_count set) behind_rounds, rest) in
      let one : length first ≡ length rounds_of = length-replicate {A = ℕ} (rounds_count set) 1 ∙ sym a_many in
      let two : length (first ++ second) ≡ length (rounds_of ++ lifts_of) =
      omega (arith, one, length-append first second, length-append rounds_of lifts_of, length-replicate (lifts_count set) set.n, b_many) in
      let whole : FitRows N (first ++ second ++ third) (rounds_of ++ lifts_of ++ conversions_of) =
      subst (λ (xs : List Cipher). FitRows N (first ++ second ++ third) xs) (sym runs_joined)
      (subst (λ (rs : List ℕ). FitRows N rs keys.ciphers) (setup_rows set) is.shapes) in
      let front : FitRows N (first ++ second) (rounds_of ++ lifts_of) = fit_front N (first ++ second) third (rounds_of ++ lifts_of) conversions_of two whole in
      record {
        rounds_many = a_many;
        lifts_many = b_many;
        conversions_many = c_many;
        rounds_fit = run_of_fit N 1 (rounds_count set) rounds_of a_many (fit_front N first second rounds_of lifts_of one front);
        lifts_fit = run_of_fit N set.n (lifts_count set) lifts_of b_many (fit_back N first second rounds_of lifts_of one front);
        conversions_fit =
            run_of_fit N (rows set) (conversions_count set) conversions_of c_many
            (fit_back N (first ++ second) third (rounds_of ++ lifts_of) conversions_of two whole);
      }

  -- All polynomials have the set's degree.
  pub setup_degrees : IsSetup keys → All (λ cipher. All (λ poly. length poly ≡ keys.set.degree) cipher) keys.ciphers
  setup_degrees is =
      All-from_get_or (λ (cipher : Cipher). All (λ poly. length poly ≡ keys.set.degree) cipher) keys.ciphers []
      (λ x h k d g. ((is.shapes x h).residues k d g).0)

-- ---- their bytes

-- the bytes of ciphertexts that are appended to others
pub appended_bytes : (xs ys : List Cipher) → cipher_bytes (xs ++ ys) ≡ cipher_bytes xs ++ cipher_bytes ys
unfolding cipher_bytes
appended_bytes xs ys = flat_map-append rows_bytes xs ys

-- and of three lists, one behind the other
pub joined_bytes : (xs ys zs : List Cipher) → cipher_bytes (xs ++ ys ++ zs) ≡ cipher_bytes xs ++ cipher_bytes ys ++ cipher_bytes zs
joined_bytes xs ys zs = appended_bytes (xs ++ ys) zs ∙ ap (λ (front : List ℕ). front ++ cipher_bytes zs) (appended_bytes xs ys)

module _ (set : ParamSet) (rounds lifts conversions : List Cipher) (are : AreRuns set rounds lifts conversions) where
  -- how many there are in each run
  pub length-rounds : length (cipher_bytes rounds) ≡ rounds_len set
  length-rounds = length-cipher_bytes set.degree 1 rounds are.rounds_fit ∙ ap (λ (k : ℕ). run_len set.degree 1 k) are.rounds_many

  pub length-lifts : length (cipher_bytes lifts) ≡ lifts_len set
  length-lifts = length-cipher_bytes set.degree set.n lifts are.lifts_fit ∙ ap (λ (k : ℕ). run_len set.degree set.n k) are.lifts_many

  pub length-conversions : length (cipher_bytes conversions) ≡ conversions_len set
  length-conversions =
      length-cipher_bytes set.degree (rows set) conversions are.conversions_fit ∙ ap (λ (k : ℕ). run_len set.degree (rows set) k) are.conversions_many

  length-runs : length (cipher_bytes (rounds ++ lifts ++ conversions)) ≡ setup_len set
  length-runs =
      let a : List ℕ = cipher_bytes rounds in
      let b : List ℕ = cipher_bytes lifts in
      let c : List ℕ = cipher_bytes conversions in
      ap length (joined_bytes rounds lifts conversions) ∙ length-append (a ++ b) c
      ∙ ap₂ (λ (x y : ℕ). x + y) (length-append a b ∙ ap₂ (λ (x y : ℕ). x + y) length-rounds length-lifts) length-conversions
      ∙ sym (setup_bytes set)

-- The body of a Setup has the bytes that its set says.
pub length-setup_body : (keys : CipherBody) → IsSetup keys → length (cipher_bytes keys.ciphers) ≡ setup_len keys.set
length-setup_body keys is =
    ap (λ (ciphers : List Cipher). length (cipher_bytes ciphers)) (sym (runs_joined keys))
    ∙ length-runs keys.set (rounds_of keys) (lifts_of keys) (conversions_of keys) (runs_of_setup keys is)

-- ---- a body of three parts, and its parts

module _ (xs ys zs : List ℕ) (x y : ℕ) (first : length xs ≡ x) (second : length ys ≡ y) where
  part_one : take x (xs ++ ys ++ zs) ≡ xs
  part_one = ap (take x) (append_assoc xs ys zs) ∙ take_at xs (ys ++ zs) x first

  part_two : take y (drop x (xs ++ ys ++ zs)) ≡ ys
  part_two = ap (λ (t : List ℕ). take y (drop x t)) (append_assoc xs ys zs) ∙ ap (take y) (drop_at xs (ys ++ zs) x first) ∙ take_at ys zs y second

  part_three : (z : ℕ) → length zs ≡ z → take z (drop (x + y) (xs ++ ys ++ zs)) ≡ zs
  part_three z third =
      let front : length (xs ++ ys) ≡ x + y = omega (arith, length-append xs ys) in
      ap (take z) (drop_at (xs ++ ys) zs (x + y) front) ∙ take_all z zs (omega arith)

-- A Setup's body, and the runs' bytes that it is cut into.
module _ (keys : CipherBody) (is : IsSetup keys) where
  first : length (cipher_bytes (rounds_of keys)) ≡ rounds_len keys.set
  first = length-rounds keys.set (rounds_of keys) (lifts_of keys) (conversions_of keys) (runs_of_setup keys is)

  second : length (cipher_bytes (lifts_of keys)) ≡ lifts_len keys.set
  second = length-lifts keys.set (rounds_of keys) (lifts_of keys) (conversions_of keys) (runs_of_setup keys is)

  third : length (cipher_bytes (conversions_of keys)) ≡ conversions_len keys.set
  third = length-conversions keys.set (rounds_of keys) (lifts_of keys) (conversions_of keys) (runs_of_setup keys is)

  parts : cipher_bytes keys.ciphers ≡ cipher_bytes (rounds_of keys) ++ cipher_bytes (lifts_of keys) ++ cipher_bytes (conversions_of keys)
  parts = ap cipher_bytes (sym (runs_joined keys)) ∙ joined_bytes (rounds_of keys) (lifts_of keys) (conversions_of keys)

  -- the bytes of the round keys, of the lift keys behind them, and of the conversion key behind these
  pub rounds_in_body : cipher_bytes (rounds_of keys) ≡ take (rounds_len keys.set) (cipher_bytes keys.ciphers)
  rounds_in_body =
      sym (ap (take (rounds_len keys.set)) parts
      ∙ part_one (cipher_bytes (rounds_of keys)) (cipher_bytes (lifts_of keys)) (cipher_bytes (conversions_of keys)) (rounds_len keys.set) (lifts_len keys.set)
      first second)

  pub lifts_in_body : cipher_bytes (lifts_of keys) ≡ take (lifts_len keys.set) (drop (rounds_len keys.set) (cipher_bytes keys.ciphers))
  lifts_in_body =
      sym (ap (λ (t : List ℕ). take (lifts_len keys.set) (drop (rounds_len keys.set) t)) parts
      ∙ part_two (cipher_bytes (rounds_of keys)) (cipher_bytes (lifts_of keys)) (cipher_bytes (conversions_of keys)) (rounds_len keys.set) (lifts_len keys.set)
      first second)

  pub conversions_in_body : cipher_bytes (conversions_of keys)
      ≡ take (conversions_len keys.set) (drop (rounds_len keys.set + lifts_len keys.set) (cipher_bytes keys.ciphers))
  conversions_in_body =
      sym (ap (λ (t : List ℕ). take (conversions_len keys.set) (drop (rounds_len keys.set + lifts_len keys.set) t)) parts
      ∙ part_three (cipher_bytes (rounds_of keys)) (cipher_bytes (lifts_of keys)) (cipher_bytes (conversions_of keys)) (rounds_len keys.set)
      (lifts_len keys.set) first second (conversions_len keys.set) third)

-- Bytes of that length whose three parts are the bytes of runs are those of all their ciphertexts.
pub body_of_runs : (set : ParamSet) (body : List ℕ) (rounds lifts conversions : List Cipher) → length body ≡ setup_len set
    → cipher_bytes rounds ≡ take (rounds_len set) body → cipher_bytes lifts ≡ take (lifts_len set) (drop (rounds_len set) body)
    → cipher_bytes conversions ≡ take (conversions_len set) (drop (rounds_len set + lifts_len set) body)
    → body ≡ cipher_bytes (rounds ++ lifts ++ conversions)
body_of_runs set body rounds lifts conversions size first second third =
    let x : ℕ = rounds_len set in
    let y : ℕ = lifts_len set in
    let z : ℕ = conversions_len set in
    let total : length body ≡ x + y + z = size ∙ setup_bytes set in
    let last : take z (drop (x + y) body) ≡ drop (x + y) body = take_all z (drop (x + y) body) (omega (arith, length-drop (x + y) body, total)) in
    let rest : take y (drop x body) ++ drop (x + y) body ≡ drop x body =
    ap (λ (t : List ℕ). take y (drop x body) ++ t) (sym (drop-drop y x body)) ∙ take-append-drop y (drop x body) in
    sym
    (joined_bytes rounds lifts conversions
    ∙ ap₂ (λ (s t : List ℕ). s ++ t) (ap₂ (λ (s t : List ℕ). s ++ t) first second) (third ∙ last)
    ∙ append_assoc (take x body) (take y (drop x body)) (drop (x + y) body)
    ∙ ap (λ (t : List ℕ). take x body ++ t) rest
    ∙ take-append-drop x body)

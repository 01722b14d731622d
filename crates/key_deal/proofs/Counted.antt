-- Counts of ciphertexts that all have as many rows, and lists that stand where a set has them.
use Rattle.std.proofs.Common.{◌≡◌, ℕ, ◌+◌, ◌*◌, Bool, true, false, if◌then◌else◌, List, [], ◌∷◌, ◌++◌, length, replicate, All, refl, sym, ◌∙◌, ap, arith}
use Rattle.std.proofs.lemmas.List.{replicate-append-replicate}
use Rattle.std.proofs.lemmas.List.Concat.{flat_map-append}
use Rattle.std.proofs.lemmas.List.Sums.{sum_by-cons, sum_by-append}
use Rattle.std.proofs.lemmas.List.Elements.{All-nil, All-cons, All-head, All-tail}
use Rattle.spiral_sets.specs.declared.param_set.ParamSet.{ParamSet}
use Rattle.spiral_sets.specs.Sets.{digit_count, rho, rows, has_keys}
use Rattle.spiral_sets.specs.Counts.{Ciphertexts, ciphertext_count, words_of, round_ciphertexts, lift_ciphertexts, conversion_ciphertexts, setup_ciphertexts}
use Rattle.spiral_model.specs.Words.{Poly}
use Rattle.spiral_model.specs.Bodies.{rows_of}
use Rattle.spiral_model.specs.Ciphertexts.{words_taken}
use Rattle.regev_code.proofs.MessageLists.{AreLists}

-- all of them have rows 0 to m
abbrev pub HaveRows : ℕ → List Ciphertexts → Type 0
HaveRows m ciphertexts = All (λ (c : Ciphertexts). c.m ≡ m) ciphertexts

-- ---- those of a set

pub rows-unless : (b : Bool) (m : ℕ) (cs : List Ciphertexts) → HaveRows m cs → HaveRows m (if b then [] else cs)
rows-unless true m cs all = All-nil (λ (c : Ciphertexts). c.m ≡ m)
rows-unless false m cs all = all

pub rows-where : (b : Bool) (m : ℕ) (cs : List Ciphertexts) → HaveRows m cs → HaveRows m (if b then cs else [])
rows-where true m cs all = all
rows-where false m cs all = All-nil (λ (c : Ciphertexts). c.m ≡ m)

one-rows : (m : ℕ) (c : Ciphertexts) → c.m ≡ m → HaveRows m (c ∷ [])
one-rows m c is = All-cons (λ (x : Ciphertexts). x.m ≡ m) c [] is (All-nil (λ (x : Ciphertexts). x.m ≡ m))

pub round-rows : (set : ParamSet) → HaveRows 1 (round_ciphertexts set)
round-rows set =
    let first : Ciphertexts = record { how_many = digit_count set.w_right; m = 1 } in
    let left : Ciphertexts = record { how_many = set.nu1 * digit_count set.w_left; m = 1 } in
    let right : Ciphertexts = record { how_many = rho set * digit_count set.w_right; m = 1 } in
    rows-unless set.direct 1 (first ∷ left ∷ right ∷ [])
    (All-cons (λ (x : Ciphertexts). x.m ≡ 1) first (left ∷ right ∷ []) refl
    (All-cons (λ (x : Ciphertexts). x.m ≡ 1) left (right ∷ []) refl (one-rows 1 right refl)))

pub lift-rows : (set : ParamSet) → HaveRows set.n (lift_ciphertexts set)
lift-rows set =
    rows-where (has_keys set) set.n (record { how_many = set.n * digit_count set.w_conv; m = set.n } ∷ [])
    (one-rows set.n (record { how_many = set.n * digit_count set.w_conv; m = set.n }) refl)

pub conversion-rows : (set : ParamSet) → HaveRows (rows set) (conversion_ciphertexts set)
conversion-rows set =
    rows-unless set.direct (rows set) (record { how_many = digit_count set.w_conv; m = rows set } ∷ [])
    (one-rows (rows set) (record { how_many = digit_count set.w_conv; m = rows set }) refl)

-- ---- words and rows

none_words : (T : ℕ) → 0 ≡ 0 * T
none_words T = omega arith

joined_words : (h x S W T : ℕ) → x ≡ h * T → W ≡ S * T → x + W ≡ (h + S) * T
joined_words h x S W T first rest = rw (first, rest) (omega arith)

-- each takes as many words
pub words-are : (set : ParamSet) (m : ℕ) (cs : List Ciphertexts) → HaveRows m cs → words_of set cs ≡ ciphertext_count cs * words_taken set.degree m
words-are set m [] all = none_words (words_taken set.degree m)
words-are set m (c ∷ cs) all =
    let T = words_taken set.degree m in
    let taking : Ciphertexts → ℕ = λ x. x.how_many * (set.degree * (2 + x.m)) in
    let many : Ciphertexts → ℕ = λ x. x.how_many in
    let same : c.m ≡ m = All-head (λ (x : Ciphertexts). x.m ≡ m) c cs all in
    let rest = words-are set m cs (All-tail (λ (x : Ciphertexts). x.m ≡ m) c cs all) in
    let first : taking c ≡ c.how_many * T = ap (λ (x : ℕ). c.how_many * (set.degree * (2 + x))) same in
    sum_by-cons taking c cs ∙ joined_words c.how_many (taking c) (ciphertext_count cs) (words_of set cs) T first rest
    ∙ ap (λ (n : ℕ). n * T) (sym (sum_by-cons many c cs))

-- and has as many rows
pub rows-are : (m : ℕ) (cs : List Ciphertexts) → HaveRows m cs → rows_of cs ≡ replicate (ciphertext_count cs) m
rows-are m [] all = refl
rows-are m (c ∷ cs) all =
    let many : Ciphertexts → ℕ = λ x. x.how_many in
    let same : c.m ≡ m = All-head (λ (x : Ciphertexts). x.m ≡ m) c cs all in
    let rest = rows-are m cs (All-tail (λ (x : Ciphertexts). x.m ≡ m) c cs all) in
    ap (λ (x : ℕ). replicate c.how_many x ++ rows_of cs) same
    ∙ ap (λ (xs : List ℕ). replicate c.how_many m ++ xs) rest
    ∙ replicate-append-replicate c.how_many (ciphertext_count cs) m
    ∙ ap (λ (n : ℕ). replicate n m) (sym (sum_by-cons many c cs))

-- The words of all keys.
pub setup-words : (set : ParamSet)
    → words_of set (setup_ciphertexts set) ≡ words_of set (round_ciphertexts set) + words_of set (lift_ciphertexts set) + words_of set (conversion_ciphertexts set)
setup-words set =
    let taking : Ciphertexts → ℕ = λ c. c.how_many * (set.degree * (2 + c.m)) in
    sum_by-append taking (round_ciphertexts set ++ lift_ciphertexts set) (conversion_ciphertexts set)
    ∙ ap (λ (n : ℕ). n + words_of set (conversion_ciphertexts set)) (sum_by-append taking (round_ciphertexts set) (lift_ciphertexts set))

-- how many all keys are
pub setup-count : (set : ParamSet)
    → ciphertext_count (setup_ciphertexts set)
    ≡ ciphertext_count (round_ciphertexts set) + ciphertext_count (lift_ciphertexts set) + ciphertext_count (conversion_ciphertexts set)
setup-count set =
    let many : Ciphertexts → ℕ = λ c. c.how_many in
    sum_by-append many (round_ciphertexts set ++ lift_ciphertexts set) (conversion_ciphertexts set)
    ∙ ap (λ (n : ℕ). n + ciphertext_count (conversion_ciphertexts set)) (sum_by-append many (round_ciphertexts set) (lift_ciphertexts set))

-- their rows
pub setup-rows : (set : ParamSet)
    → rows_of (setup_ciphertexts set) ≡ rows_of (round_ciphertexts set) ++ rows_of (lift_ciphertexts set) ++ rows_of (conversion_ciphertexts set)
setup-rows set =
    let each : Ciphertexts → List ℕ = λ c. replicate c.how_many c.m in
    flat_map-append each (round_ciphertexts set ++ lift_ciphertexts set) (conversion_ciphertexts set)
    ∙ ap (λ (xs : List ℕ). xs ++ rows_of (conversion_ciphertexts set)) (flat_map-append each (round_ciphertexts set) (lift_ciphertexts set))

-- ---- messages that are there where the set has the ciphertexts

pub lists-unless : (b : Bool) (m : ℕ) (cs : List Ciphertexts) (xs : List (List Poly)) → AreLists m (ciphertext_count cs) xs
    → AreLists m (ciphertext_count (if b then [] else cs)) (if b then [] else xs)
lists-unless true m cs xs lists = record { many = refl; each = All-nil (λ (x : List Poly). length x ≡ m) }
lists-unless false m cs xs lists = lists

pub lists-where : (b : Bool) (m : ℕ) (cs : List Ciphertexts) (xs : List (List Poly)) → AreLists m (ciphertext_count cs) xs
    → AreLists m (ciphertext_count (if b then cs else [])) (if b then xs else [])
lists-where true m cs xs lists = lists
lists-where false m cs xs lists = record { many = refl; each = All-nil (λ (x : List Poly). length x ≡ m) }

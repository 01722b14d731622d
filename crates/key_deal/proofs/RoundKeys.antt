-- The automorphism keys of rounds, drawn one after the other.
use Rattle.std.proofs.Common.{◌≡◌, ℕ, ◌+◌, ◌*◌, ◌<◌, ◌≤◌, Bool, true, false, if◌then◌else◌, List, [], ◌∷◌, ◌++◌, length, refl, sym, ap, subst, arith}
use Rattle.std.specs.List.{range_with_len, flat_map}
use Rattle.spiral_sets.specs.declared.param_set.ParamSet.{ParamSet}
use Rattle.spiral_sets.specs.Sets.{digit_count, rho}
use Rattle.spiral_sets.specs.Counts.{Ciphertexts, ciphertext_count, words_of, round_ciphertexts}
use Rattle.spiral_model.specs.Words.{Poly, Cipher}
use Rattle.spiral_model.specs.Ciphertexts.{words_taken}
use Rattle.spiral_model.specs.Expansion.{round_power}
use Rattle.spiral_model.specs.Dealing.{auto_messages, rounds_messages, round_messages}
use Rattle.regev_code.specs.Seen.{Secrets, Cursor}
use Rattle.regev_code.specs.Shapes.{under}
use Rattle.regev_code.specs.Drawn.{Drawn}
use Rattle.regev_code.proofs.MessageLists.{AreLists, lists-append}
use Rattle.regev_code.proofs.Draws.{taken-more, drawn-none, drawn-more, room_behind}
use Rattle.auto_switch.proofs.Appended.{lists-for, pieces-none, pieces-more, pieces-room}
use Rattle.auto_switch.proofs.AutoMessages.{auto-lists}
use Rattle.key_deal.specs.DealtKeys.{scalar_of}
use Rattle.key_deal.proofs.Counted.{lists-unless}

-- the messages of round j
abbrev pub round_of : ℕ → ℕ → Poly → ℕ → List (List Poly)
round_of N w s j = auto_messages N (round_power N j) w s

-- ---- the rounds of one side

-- how many ciphertexts they are
pub side-lists : (N first count w : ℕ) (s : Poly) → AreLists 1 (count * digit_count w) (rounds_messages N first count w s)
unfolding rounds_messages
side-lists N first count w s = lists-for 1 (digit_count w) first count (round_of N w s) (λ j. auto-lists N (round_power N j) w s)

-- no round
pub rounds-none : (N first w : ℕ) (s : Poly) (secrets : List Poly) (at : Cursor) (old : List Cipher)
    → Drawn N 1 secrets (flat_map (round_of N w s) (range_with_len first 0)) at at old old
rounds-none N first w s secrets at old = pieces-none N 1 first secrets (round_of N w s) at old

-- one more
pub rounds-more : (N first i w : ℕ) (s : Poly) (secrets : List Poly) (from mid to : Cursor) (old half new : List Cipher)
    → Drawn N 1 secrets (flat_map (round_of N w s) (range_with_len first i)) from mid old half → Drawn N 1 secrets (auto_messages N (round_power N (first + i)) w s) mid to half new
    → Drawn N 1 secrets (flat_map (round_of N w s) (range_with_len first (i + 1))) from to old new
rounds-more N first i w s secrets from mid to old half new so_far one =
    pieces-more N 1 (digit_count w) first i (first + i) secrets (round_of N w s) from mid to old half new refl (λ j. auto-lists N (round_power N j) w s) so_far one

-- the words for one more
pub rounds-room : (N first i count w : ℕ) (s : Poly) (secrets : List Poly) (from mid : Cursor) (old half : List Cipher) → i < count
    → Drawn N 1 secrets (flat_map (round_of N w s) (range_with_len first i)) from mid old half
    → from.used + count * (digit_count w * words_taken N 1) ≤ length from.words → mid.used + digit_count w * words_taken N 1 ≤ length mid.words
rounds-room N first i count w s secrets from mid old half h so_far enough =
    pieces-room N 1 (digit_count w) first i count secrets (round_of N w s) from mid old half h (λ j. auto-lists N (round_power N j) w s) so_far enough

-- all
pub rounds-all : (N first i count w : ℕ) (s : Poly) (secrets : List Poly) (from to : Cursor) (old new : List Cipher) → i ≡ count
    → Drawn N 1 secrets (flat_map (round_of N w s) (range_with_len first i)) from to old new → Drawn N 1 secrets (rounds_messages N first count w s) from to old new
unfolding rounds_messages
rounds-all N first i count w s secrets from to old new all so_far =
    subst (λ (n : ℕ). Drawn N 1 secrets (flat_map (round_of N w s) (range_with_len first n)) from to old new) all so_far

-- ---- all rounds

-- those of round 0, of the left side and of the right side
abbrev pub sides_at : ParamSet → ℕ → Poly → List (List Poly)
sides_at set N s = rounds_messages N 0 1 set.w_right s ++ rounds_messages N 1 set.nu1 set.w_left s ++ rounds_messages N 1 (rho set) set.w_right s

abbrev pub sides_of : ParamSet → Poly → List (List Poly)
sides_of set s = sides_at set set.degree s

sides_are : (set : ParamSet) (s : Poly) → set.direct ≡ false → sides_of set s ≡ round_messages set s
unfolding round_messages
sides_are set s expands = sym (ap (λ (b : Bool). if b then [] else sides_of set s) expands)

none_are : (set : ParamSet) (s : Poly) → set.direct ≡ true → round_messages set s ≡ []
unfolding round_messages
none_are set s direct = ap (λ (b : Bool). if b then [] else sides_of set s) direct

-- the three parts one behind the other
pub sides-drawn : (set : ParamSet) (N rounds : ℕ) (secret : Secrets) (d0 d1 d2 d3 : Cursor) (c0 c1 c2 c3 : List Cipher) → N ≡ set.degree → rounds ≡ rho set
    → set.direct ≡ false
    → Drawn N 1 (under N secret true) (rounds_messages N 0 1 set.w_right (scalar_of N secret)) d0 d1 c0 c1
    → Drawn N 1 (under N secret true) (rounds_messages N 1 set.nu1 set.w_left (scalar_of N secret)) d1 d2 c1 c2
    → Drawn N 1 (under N secret true) (rounds_messages N 1 rounds set.w_right (scalar_of N secret)) d2 d3 c2 c3
    → Drawn set.degree 1 (under set.degree secret true) (round_messages set (scalar_of set.degree secret)) d0 d3 c0 c3
sides-drawn set N rounds secret d0 d1 d2 d3 c0 c1 c2 c3 degree count expands first left right =
    let s = scalar_of N secret in
    let secrets = under N secret true in
    let a = rounds_messages N 0 1 set.w_right s in
    let b = rounds_messages N 1 set.nu1 set.w_left s in
    let e = rounds_messages N 1 (rho set) set.w_right s in
    let a-lists = side-lists N 0 1 set.w_right s in
    let b-lists = side-lists N 1 set.nu1 set.w_left s in
    let last = subst (λ (n : ℕ). Drawn N 1 secrets (rounds_messages N 1 n set.w_right s) d2 d3 c2 c3) count right in
    let two = drawn-more N 1 (1 * digit_count set.w_right) secrets a b (a ++ b) d0 d1 d2 c0 c1 c2 a-lists refl first left in
    let three = drawn-more N 1 (1 * digit_count set.w_right + set.nu1 * digit_count set.w_left) secrets (a ++ b) e (a ++ b ++ e) d0 d2 d3 c0 c2 c3
    (lists-append 1 (1 * digit_count set.w_right) (set.nu1 * digit_count set.w_left) a b a-lists b-lists) refl two last in
    let here : Drawn set.degree 1 (under set.degree secret true) (sides_of set (scalar_of set.degree secret)) d0 d3 c0 c3 =
    subst (λ (n : ℕ). Drawn n 1 (under n secret true) (sides_at set n (scalar_of n secret)) d0 d3 c0 c3) degree three in
    subst (λ (ms : List (List Poly)). Drawn set.degree 1 (under set.degree secret true) ms d0 d3 c0 c3) (sides_are set (scalar_of set.degree secret) expands) here

-- none, in a direct set
pub rounds-absent : (set : ParamSet) (secrets : List Poly) (s : Poly) (at : Cursor) (old : List Cipher) → set.direct ≡ true
    → Drawn set.degree 1 secrets (round_messages set s) at at old old
rounds-absent set secrets s at old direct = drawn-none set.degree 1 secrets (round_messages set s) at old (none_are set s direct)

one_count : (a b c : ℕ) → 1 * a + b + c ≡ 0 + a + b + c
one_count a b c = omega arith

-- how many ciphertexts all rounds are
pub round-lists : (set : ParamSet) (s : Poly) → AreLists 1 (ciphertext_count (round_ciphertexts set)) (round_messages set s)
unfolding round_messages
round-lists set s =
    let N = set.degree in
    let first : Ciphertexts = record { how_many = digit_count set.w_right; m = 1 } in
    let left : Ciphertexts = record { how_many = set.nu1 * digit_count set.w_left; m = 1 } in
    let right : Ciphertexts = record { how_many = rho set * digit_count set.w_right; m = 1 } in
    let a = rounds_messages N 0 1 set.w_right s in
    let b = rounds_messages N 1 set.nu1 set.w_left s in
    let e = rounds_messages N 1 (rho set) set.w_right s in
    let a-lists = side-lists N 0 1 set.w_right s in
    let b-lists = side-lists N 1 set.nu1 set.w_left s in
    let e-lists = side-lists N 1 (rho set) set.w_right s in
    let two = lists-append 1 (1 * digit_count set.w_right) (set.nu1 * digit_count set.w_left) a b a-lists b-lists in
    let three = lists-append 1 (1 * digit_count set.w_right + set.nu1 * digit_count set.w_left) (rho set * digit_count set.w_right) (a ++ b) e two e-lists in
    let count = one_count (digit_count set.w_right) (set.nu1 * digit_count set.w_left) (rho set * digit_count set.w_right) in
    lists-unless set.direct 1 (first ∷ left ∷ right ∷ []) (a ++ b ++ e) (subst (λ (n : ℕ). AreLists 1 n (a ++ b ++ e)) count three)

-- ---- words

three_words : (a b c T : ℕ) → 0 + a * T + b * T + c * T ≡ a * T + b * T + c * T
three_words a b c T = omega arith

-- those of all rounds of a set that expands, with T for a ciphertext
abbrev pub sides_words : ParamSet → ℕ → ℕ
sides_words set T = digit_count set.w_right * T + set.nu1 * digit_count set.w_left * T + rho set * digit_count set.w_right * T

pub round-words : (set : ParamSet) → set.direct ≡ false → words_of set (round_ciphertexts set) ≡ sides_words set (words_taken set.degree 1)
round-words set expands =
    rw expands (three_words (digit_count set.w_right) (set.nu1 * digit_count set.w_left) (rho set * digit_count set.w_right) (words_taken set.degree 1))

-- those of its parts, as the code draws them
first_room : (U A B C W L : ℕ) → W ≡ A + B + C → U + W ≤ L → U + 1 * A ≤ L
first_room U A B C W L is enough = omega (arith, is, enough)

pub room-first : (set : ParamSet) (N : ℕ) (from : Cursor) → N ≡ set.degree → set.direct ≡ false → from.used + words_of set (round_ciphertexts set) ≤ length from.words
    → from.used + 1 * (digit_count set.w_right * words_taken N 1) ≤ length from.words
room-first set N from degree expands enough =
    rw degree
    (first_room from.used (digit_count set.w_right * words_taken set.degree 1) (set.nu1 * digit_count set.w_left * words_taken set.degree 1)
    (rho set * digit_count set.w_right * words_taken set.degree 1) (words_of set (round_ciphertexts set)) (length from.words) (round-words set expands) enough)

left_counts : (L a W n b c T : ℕ) → L ≡ 1 * a → W ≡ a * T + n * b * T + c * T → L * T + n * (b * T) ≤ W
left_counts L a W n b c T is all = rw (is, all) (omega arith)

pub room-left : (set : ParamSet) (N : ℕ) (secrets : List Poly) (s : Poly) (from mid : Cursor) (old half : List Cipher) → N ≡ set.degree → set.direct ≡ false
    → Drawn N 1 secrets (rounds_messages N 0 1 set.w_right s) from mid old half → from.used + words_of set (round_ciphertexts set) ≤ length from.words
    → mid.used + set.nu1 * (digit_count set.w_left * words_taken N 1) ≤ length mid.words
room-left set N secrets s from mid old half degree expands drawn enough =
    let T = words_taken N 1 in
    let words : words_of set (round_ciphertexts set) ≡ sides_words set T = rw degree (round-words set expands) in
    let L = length (rounds_messages N 0 1 set.w_right s) in
    room_behind from mid (L * T) (set.nu1 * (digit_count set.w_left * T)) (words_of set (round_ciphertexts set)) drawn.words
    (left_counts L (digit_count set.w_right) (words_of set (round_ciphertexts set)) set.nu1 (digit_count set.w_left) (rho set * digit_count set.w_right) T
    (side-lists N 0 1 set.w_right s).many words) enough

right_counts : (L M a W n b r c T : ℕ) → L ≡ 1 * a → M ≡ n * b → W ≡ a * T + n * b * T + r * c * T → (L * T + M * T) + r * (c * T) ≤ W
right_counts L M a W n b r c T is second all = rw (is, second, all) (omega arith)

pub room-right : (set : ParamSet) (N : ℕ) (secrets : List Poly) (s : Poly) (from mid at : Cursor) (old half more : List Cipher) → N ≡ set.degree → set.direct ≡ false
    → Drawn N 1 secrets (rounds_messages N 0 1 set.w_right s) from mid old half → Drawn N 1 secrets (rounds_messages N 1 set.nu1 set.w_left s) mid at half more
    → from.used + words_of set (round_ciphertexts set) ≤ length from.words → at.used + rho set * (digit_count set.w_right * words_taken N 1) ≤ length at.words
room-right set N secrets s from mid at old half more degree expands first left enough =
    let T = words_taken N 1 in
    let words : words_of set (round_ciphertexts set) ≡ sides_words set T = rw degree (round-words set expands) in
    let L = length (rounds_messages N 0 1 set.w_right s) in
    let M = length (rounds_messages N 1 set.nu1 set.w_left s) in
    room_behind from at (L * T + M * T) (rho set * (digit_count set.w_right * T)) (words_of set (round_ciphertexts set))
    (taken-more from mid at (L * T) (M * T) (L * T + M * T) refl first.words left.words)
    (right_counts L M (digit_count set.w_right) (words_of set (round_ciphertexts set)) set.nu1 (digit_count set.w_left) (rho set) (digit_count set.w_right) T
    (side-lists N 0 1 set.w_right s).many (side-lists N 1 set.nu1 set.w_left s).many words) enough

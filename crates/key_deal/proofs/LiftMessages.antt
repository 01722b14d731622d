-- The messages of lift keys, and their ciphertexts one after the other.
use Rattle.std.proofs.Common.{◌≡◌, ◌==◌, ℕ, ◌+◌, ◌*◌, ◌^◌, ◌<◌, ◌≤◌, Bool, true, false, if◌then◌else◌, pos, neg_ℤ, List, [], ◌∷◌, length, map, replicate, All, refl, sym, ◌∙◌, ap, subst, arith}
use Rattle.std.specs.List.{range_with_len, flat_map}
use Rattle.std.proofs.lemmas.List.Elements.{All-map}
use Rattle.std.proofs.lemmas.List.FromFn.{length-map-range_with_len}
use Rattle.negacyclic.specs.Ring.{ring_scale, ring_zero}
use Rattle.negacyclic.proofs.Lengths.{length-ring_scale, length-ring_zero, zeros_ring}
use Rattle.ring_poly.proofs.Modulus.{q_some}
use Rattle.spiral_sets.specs.declared.param_set.ParamSet.{ParamSet}
use Rattle.spiral_sets.specs.Sets.{q, digit_count, has_keys}
use Rattle.spiral_sets.specs.Counts.{ciphertext_count, words_of, lift_ciphertexts}
use Rattle.spiral_model.specs.Words.{Poly, Cipher}
use Rattle.spiral_model.specs.Ciphertexts.{words_taken}
use Rattle.spiral_model.specs.Dealing.{lift_message, lift_row_messages, lift_messages}
use Rattle.regev_code.specs.Seen.{Secrets, Cursor}
use Rattle.regev_code.specs.Shapes.{under}
use Rattle.regev_code.specs.Drawn.{Drawn}
use Rattle.regev_code.proofs.MessageLists.{AreLists}
use Rattle.auto_switch.proofs.Appended.{lists-of, lists-for, each-none, each-more, each-room, pieces-none, pieces-more, pieces-room, drawn-again}
use Rattle.key_deal.specs.DealtKeys.{scalar_of}
use Rattle.key_deal.proofs.Counted.{lists-where}

-- ---- the messages of one ciphertext

-- that of row i
abbrev pub part_of : ParamSet → Poly → ℕ → ℕ → ℕ → Poly
part_of set s r k i = if i == r then ring_scale q set.degree (neg_ℤ (pos (2 ^ (set.w_conv * k)))) s else ring_zero q set.degree

length_of : (N : ℕ) (b : Bool) (x : List ℕ) → length x ≡ N → length (if b then x else ring_zero q N) ≡ N
length_of N true x is = is
length_of N false x is = length-ring_zero q N

length-part : (set : ParamSet) (s : Poly) (r k i : ℕ) → length (part_of set s r k i) ≡ set.degree
length-part set s r k i =
    length_of set.degree (i == r) (ring_scale q set.degree (neg_ℤ (pos (2 ^ (set.w_conv * k)))) s) (length-ring_scale q set.degree (neg_ℤ (pos (2 ^ (set.w_conv * k)))) s)

-- 0, as the code works it out
pub part-zero : (set : ParamSet) (N : ℕ) (s out : Poly) (r k i : ℕ) → N ≡ set.degree → (i == r) ≡ false → out ≡ replicate N 0 → out ≡ part_of set s r k i
part-zero set N s out r k i degree other is =
    let multiple = ring_scale q set.degree (neg_ℤ (pos (2 ^ (set.w_conv * k)))) s in
    is ∙ ap (λ (n : ℕ). replicate {A = ℕ} n 0) degree ∙ zeros_ring q set.degree q_some
    ∙ sym (ap (λ (b : Bool). if b then multiple else ring_zero q set.degree) other)

-- those of all rows
pub message-all : (set : ParamSet) (s : Poly) (r k n : ℕ) (parts : List Poly) → n ≡ set.n → parts ≡ map (part_of set s r k) (range_with_len 1 n) → parts ≡ lift_message set s r k
unfolding lift_message
message-all set s r k n parts all is = is ∙ ap (λ (m : ℕ). map (part_of set s r k) (range_with_len 1 m)) all

pub length-lift_message : (set : ParamSet) (s : Poly) (r k : ℕ) → length (lift_message set s r k) ≡ set.n
unfolding lift_message
length-lift_message set s r k = length-map-range_with_len (part_of set s r k) 1 set.n

pub lift_message-degree : (set : ParamSet) (s : Poly) (r k : ℕ) → All (λ a. length a ≡ set.degree) (lift_message set s r k)
unfolding lift_message
lift_message-degree set s r k =
    All-map (λ (a : Poly). length a ≡ set.degree) (part_of set s r k) (range_with_len 1 set.n) (λ j d h. length-part set s r k _)

-- ---- a ciphertext

-- as the code draws it
pub lift-drawn : (set : ParamSet) (N : ℕ) (secret : Secrets) (s : Poly) (parts : List Poly) (r k : ℕ) (from to : Cursor) (old new : List Cipher) → N ≡ set.degree
    → s ≡ scalar_of N secret → parts ≡ lift_message set s r k → Drawn N (length parts) (under N secret false) (parts ∷ []) from to old new
    → Drawn set.degree set.n (under set.degree secret false) (lift_message set (scalar_of set.degree secret) r k ∷ []) from to old new
lift-drawn set N secret s parts r k from to old new degree key worked drawn =
    let message : parts ≡ lift_message set (scalar_of set.degree secret) r k =
    worked ∙ ap (λ (a : Poly). lift_message set a r k) (key ∙ ap (λ (n : ℕ). scalar_of n secret) degree) in
    let size : length parts ≡ set.n = ap length worked ∙ length-lift_message set s r k in
    let there = drawn-again N (length parts) set.n (under N secret false) (parts ∷ []) (lift_message set (scalar_of set.degree secret) r k ∷ []) from to old new size
    (ap (λ (m : List Poly). m ∷ []) message) drawn in
    subst (λ (n : ℕ). Drawn n set.n (under n secret false) (lift_message set (scalar_of set.degree secret) r k ∷ []) from to old new) degree there

-- ---- the ciphertexts of a row

row-lists : (set : ParamSet) (s : Poly) (r : ℕ) → AreLists set.n (digit_count set.w_conv) (lift_row_messages set s r)
unfolding lift_row_messages
row-lists set s r = lists-of set.n 0 (digit_count set.w_conv) (lift_message set s r) (length-lift_message set s r)

-- none
pub digits-none : (set : ParamSet) (secrets : List Poly) (s : Poly) (r : ℕ) (at : Cursor) (old : List Cipher)
    → Drawn set.degree set.n secrets (map (lift_message set s r) (range_with_len 0 0)) at at old old
digits-none set secrets s r at old = each-none set.degree set.n 0 secrets (lift_message set s r) at old

-- one more
pub digits-more : (set : ParamSet) (secrets : List Poly) (s : Poly) (r k : ℕ) (from mid to : Cursor) (old half new : List Cipher)
    → Drawn set.degree set.n secrets (map (lift_message set s r) (range_with_len 0 k)) from mid old half
    → Drawn set.degree set.n secrets (lift_message set s r k ∷ []) mid to half new
    → Drawn set.degree set.n secrets (map (lift_message set s r) (range_with_len 0 (k + 1))) from to old new
digits-more set secrets s r k from mid to old half new so_far one =
    each-more set.degree set.n 0 k k secrets (lift_message set s r) from mid to old half new (omega arith) (length-lift_message set s r) so_far one

-- the words for one more
pub digits-room : (set : ParamSet) (secrets : List Poly) (s : Poly) (r k : ℕ) (from mid : Cursor) (old half : List Cipher) → k < digit_count set.w_conv
    → Drawn set.degree set.n secrets (map (lift_message set s r) (range_with_len 0 k)) from mid old half
    → from.used + digit_count set.w_conv * words_taken set.degree set.n ≤ length from.words → mid.used + words_taken set.degree set.n ≤ length mid.words
digits-room set secrets s r k from mid old half h so_far enough =
    each-room set.degree set.n 0 k (digit_count set.w_conv) secrets (lift_message set s r) from mid old half h (length-lift_message set s r) so_far enough

-- all
pub digits-all : (set : ParamSet) (secrets : List Poly) (s : Poly) (r k : ℕ) (from to : Cursor) (old new : List Cipher) → k ≡ digit_count set.w_conv
    → Drawn set.degree set.n secrets (map (lift_message set s r) (range_with_len 0 k)) from to old new
    → Drawn set.degree set.n secrets (lift_row_messages set s r) from to old new
unfolding lift_row_messages
digits-all set secrets s r k from to old new all so_far =
    subst (λ (n : ℕ). Drawn set.degree set.n secrets (map (lift_message set s r) (range_with_len 0 n)) from to old new) all so_far

-- ---- the ciphertexts of all rows

-- none
pub lifts-none : (set : ParamSet) (secrets : List Poly) (s : Poly) (at : Cursor) (old : List Cipher)
    → Drawn set.degree set.n secrets (flat_map (lift_row_messages set s) (range_with_len 1 0)) at at old old
lifts-none set secrets s at old = pieces-none set.degree set.n 1 secrets (lift_row_messages set s) at old

-- those of one more row
pub lifts-more : (set : ParamSet) (secrets : List Poly) (s : Poly) (i : ℕ) (from mid to : Cursor) (old half new : List Cipher)
    → Drawn set.degree set.n secrets (flat_map (lift_row_messages set s) (range_with_len 1 i)) from mid old half
    → Drawn set.degree set.n secrets (lift_row_messages set s (i + 1)) mid to half new
    → Drawn set.degree set.n secrets (flat_map (lift_row_messages set s) (range_with_len 1 (i + 1))) from to old new
lifts-more set secrets s i from mid to old half new so_far one =
    pieces-more set.degree set.n (digit_count set.w_conv) 1 i (i + 1) secrets (lift_row_messages set s) from mid to old half new (omega arith) (row-lists set s) so_far one

lift_words-where : (set : ParamSet) → has_keys set ≡ true → words_of set (lift_ciphertexts set) ≡ 0 + set.n * digit_count set.w_conv * words_taken set.degree set.n
lift_words-where set keys = rw keys refl

grouped : (n t T : ℕ) → 0 + n * t * T ≡ n * (t * T)
grouped n t T = omega arith

-- the words for those of one more row
pub lifts-room : (set : ParamSet) (secrets : List Poly) (s : Poly) (i : ℕ) (from mid : Cursor) (old half : List Cipher) → has_keys set ≡ true → i < set.n
    → Drawn set.degree set.n secrets (flat_map (lift_row_messages set s) (range_with_len 1 i)) from mid old half
    → from.used + words_of set (lift_ciphertexts set) ≤ length from.words → mid.used + digit_count set.w_conv * words_taken set.degree set.n ≤ length mid.words
lifts-room set secrets s i from mid old half keys h so_far enough =
    let words = lift_words-where set keys ∙ grouped set.n (digit_count set.w_conv) (words_taken set.degree set.n) in
    let here : from.used + set.n * (digit_count set.w_conv * words_taken set.degree set.n) ≤ length from.words =
    subst (λ (W : ℕ). from.used + W ≤ length from.words) words enough in
    pieces-room set.degree set.n (digit_count set.w_conv) 1 i set.n secrets (lift_row_messages set s) from mid old half h (row-lists set s) so_far here

lifts_are : (set : ParamSet) (s : Poly) → has_keys set ≡ true → flat_map (lift_row_messages set s) (range_with_len 1 set.n) ≡ lift_messages set s
unfolding lift_messages
lifts_are set s keys = sym (ap (λ (b : Bool). if b then flat_map (lift_row_messages set s) (range_with_len 1 set.n) else []) keys)

-- all
pub lifts-all : (set : ParamSet) (secrets : List Poly) (s : Poly) (i : ℕ) (from to : Cursor) (old new : List Cipher) → has_keys set ≡ true → i ≡ set.n
    → Drawn set.degree set.n secrets (flat_map (lift_row_messages set s) (range_with_len 1 i)) from to old new
    → Drawn set.degree set.n secrets (lift_messages set s) from to old new
lifts-all set secrets s i from to old new keys all so_far =
    let rows = subst (λ (n : ℕ). Drawn set.degree set.n secrets (flat_map (lift_row_messages set s) (range_with_len 1 n)) from to old new) all so_far in
    subst (λ (ms : List (List Poly)). Drawn set.degree set.n secrets ms from to old new) (lifts_are set s keys) rows

one_count : (x : ℕ) → x ≡ 0 + x
one_count x = omega arith

-- how many all lift keys' ciphertexts are
pub lift-lists : (set : ParamSet) (s : Poly) → AreLists set.n (ciphertext_count (lift_ciphertexts set)) (lift_messages set s)
unfolding lift_messages
lift-lists set s =
    let rows = flat_map (lift_row_messages set s) (range_with_len 1 set.n) in
    lists-where (has_keys set) set.n (record { how_many = set.n * digit_count set.w_conv; m = set.n } ∷ []) rows
    (subst (λ (n : ℕ). AreLists set.n n rows) (one_count (set.n * digit_count set.w_conv)) (lists-for set.n (digit_count set.w_conv) 1 set.n (lift_row_messages set s) (row-lists set s)))

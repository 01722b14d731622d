-- The columns of a GSW ciphertext, drawn one after the other.
use Rattle.std.proofs.Common.{◌≡◌, ℕ, ◌+◌, ◌*◌, ◌^◌, ◌<◌, ◌≤◌, List, [], ◌∷◌, ◌++◌, length, map, refl, ◌∙◌, ap, subst, arith}
use Rattle.std.specs.List.{range_with_len, flat_map}
use Rattle.std.proofs.lemmas.List.FromFn.{map-range_with_len_more}
use Rattle.negacyclic.proofs.Lists.{flat_map-more}
use Rattle.spiral_sets.specs.declared.param_set.ParamSet.{ParamSet}
use Rattle.spiral_sets.specs.Sets.{digit_count, rows}
use Rattle.spiral_sets.specs.Counts.{gsw_count}
use Rattle.spiral_model.specs.Words.{Poly, Cipher}
use Rattle.spiral_model.specs.Ciphertexts.{encrypted, words_taken}
use Rattle.spiral_model.specs.Queries.{column_message, gsw_messages, gsw_row_columns, gsw_columns}
use Rattle.regev_code.specs.Seen.{Secrets, Cursor}
use Rattle.regev_code.specs.Shapes.{taken, under}
use Rattle.regev_code.proofs.MessageLists.{AreLists, lists-range, lists-pieces}
use Rattle.regev_code.proofs.Draws.{drawn-none, drawn-one, drawn-more, room}
use Rattle.gsw_code.specs.Columns.{row_secrets_of, ColumnsDrawn}
use Rattle.gsw_code.proofs.ColumnMessages.{length-gsw_messages, messages_are}

-- ---- one column

-- a column as the code draws it
pub column_drawn : (N : ℕ) (set : ParamSet) (secrets : Secrets) (bit power r k : ℕ) (messages : List Poly) (column : Cipher) (from to : Cursor) (old new : List Cipher)
    → N ≡ set.degree → power ≡ bit * 2 ^ (set.w_gsw * k)
    → messages ≡ map (column_message N (under N secrets set.pack) power r) (range_with_len 1 (rows set))
    → column ≡ encrypted N from.words from.used (under N secrets set.pack) messages → to ≡ taken from (words_taken N (length messages)) → new ≡ old ++ column ∷ []
    → ColumnsDrawn set secrets (λ s. gsw_messages set s bit r k ∷ []) from to old new
column_drawn N set secrets bit power r k messages column from to old new degree counts worked drawn at pushed =
    let s = row_secrets_of set secrets in
    let all : messages ≡ gsw_messages set s bit r k =
    messages_are set s bit power r k messages counts (worked ∙ ap (λ (n : ℕ). map (column_message n (under n secrets set.pack) power r) (range_with_len 1 (rows set))) degree) in
    let size : length messages ≡ rows set = ap length all ∙ length-gsw_messages set s bit r k in
    drawn-one set.degree (rows set) s (gsw_messages set s bit r k) column from to old new
    (at ∙ ap (λ (n : ℕ). taken from (words_taken n (length messages))) degree ∙ ap (λ (n : ℕ). taken from (words_taken set.degree n)) size)
    (drawn ∙ ap (λ (n : ℕ). encrypted n from.words from.used (under n secrets set.pack) messages) degree
    ∙ ap (λ (ms : List Poly). encrypted set.degree from.words from.used s ms) all) pushed

-- ---- the columns of a row

columns-lists : (set : ParamSet) (secrets : List Poly) (bit r n : ℕ) → AreLists (rows set) n (map (gsw_messages set secrets bit r) (range_with_len 0 n))
columns-lists set secrets bit r n = lists-range (rows set) n (gsw_messages set secrets bit r) (λ k h. length-gsw_messages set secrets bit r k)

-- no column
pub columns-none : (set : ParamSet) (secrets : Secrets) (bit r : ℕ) (at : Cursor) (old : List Cipher)
    → ColumnsDrawn set secrets (λ s. map (gsw_messages set s bit r) (range_with_len 0 0)) at at old old
columns-none set secrets bit r at old = drawn-none set.degree (rows set) (row_secrets_of set secrets) _ at old refl

-- one more
pub columns-more : (set : ParamSet) (secrets : Secrets) (bit r k : ℕ) (from mid to : Cursor) (old half new : List Cipher)
    → ColumnsDrawn set secrets (λ s. map (gsw_messages set s bit r) (range_with_len 0 k)) from mid old half
    → ColumnsDrawn set secrets (λ s. gsw_messages set s bit r k ∷ []) mid to half new
    → ColumnsDrawn set secrets (λ s. map (gsw_messages set s bit r) (range_with_len 0 (k + 1))) from to old new
columns-more set secrets bit r k from mid to old half new so_far one =
    let s = row_secrets_of set secrets in
    drawn-more set.degree (rows set) k s (map (gsw_messages set s bit r) (range_with_len 0 k)) (gsw_messages set s bit r k ∷ []) (map (gsw_messages set s bit r) (range_with_len 0 (k + 1)))
    from mid to old half new (columns-lists set s bit r k) (map-range_with_len_more {X = List Poly} (gsw_messages set s bit r) 0 k k (omega arith)) so_far one

-- all
pub columns-all : (set : ParamSet) (secrets : Secrets) (bit r k : ℕ) (from to : Cursor) (old new : List Cipher) → k ≡ digit_count set.w_gsw
    → ColumnsDrawn set secrets (λ s. map (gsw_messages set s bit r) (range_with_len 0 k)) from to old new
    → ColumnsDrawn set secrets (λ s. gsw_row_columns set s bit r) from to old new
unfolding gsw_row_columns
columns-all set secrets bit r k from to old new all so_far =
    subst (λ (n : ℕ). ColumnsDrawn set secrets (λ s. map (gsw_messages set s bit r) (range_with_len 0 n)) from to old new) all so_far

-- how many the columns of a row are
pub row-lists : (set : ParamSet) (secrets : List Poly) (bit r : ℕ) → AreLists (rows set) (digit_count set.w_gsw) (gsw_row_columns set secrets bit r)
unfolding gsw_row_columns
row-lists set secrets bit r = columns-lists set secrets bit r (digit_count set.w_gsw)

-- ---- the columns of all rows

rows-lists : (set : ParamSet) (secrets : List Poly) (bit n : ℕ) → AreLists (rows set) (n * digit_count set.w_gsw) (flat_map (gsw_row_columns set secrets bit) (range_with_len 0 n))
rows-lists set secrets bit n = lists-pieces (rows set) (digit_count set.w_gsw) n (gsw_row_columns set secrets bit) (λ r h. row-lists set secrets bit r)

-- no row
pub rows-none : (set : ParamSet) (secrets : Secrets) (bit : ℕ) (from at : Cursor) (columns : List Cipher) → at ≡ from → columns ≡ []
    → ColumnsDrawn set secrets (λ s. flat_map (gsw_row_columns set s bit) (range_with_len 0 0)) from at [] columns
rows-none set secrets bit from at columns same none =
    rw (same, none) (drawn-none set.degree (rows set) (row_secrets_of set secrets) _ from [] refl)

-- one more
pub rows-more : (set : ParamSet) (secrets : Secrets) (bit r : ℕ) (from mid to : Cursor) (old half new : List Cipher)
    → ColumnsDrawn set secrets (λ s. flat_map (gsw_row_columns set s bit) (range_with_len 0 r)) from mid old half
    → ColumnsDrawn set secrets (λ s. gsw_row_columns set s bit r) mid to half new
    → ColumnsDrawn set secrets (λ s. flat_map (gsw_row_columns set s bit) (range_with_len 0 (r + 1))) from to old new
rows-more set secrets bit r from mid to old half new so_far one =
    let s = row_secrets_of set secrets in
    drawn-more set.degree (rows set) (r * digit_count set.w_gsw) s (flat_map (gsw_row_columns set s bit) (range_with_len 0 r)) (gsw_row_columns set s bit r)
    (flat_map (gsw_row_columns set s bit) (range_with_len 0 (r + 1))) from mid to old half new (rows-lists set s bit r) (flat_map-more (gsw_row_columns set s bit) 0 r r (omega arith)) so_far one

-- all, with a cursor that is where the last one ended
pub rows-all : (set : ParamSet) (secrets : Secrets) (bit r : ℕ) (from ahead to : Cursor) (columns : List Cipher) → r ≡ rows set + 1 → to ≡ ahead
    → ColumnsDrawn set secrets (λ s. flat_map (gsw_row_columns set s bit) (range_with_len 0 r)) from ahead [] columns
    → ColumnsDrawn set secrets (λ s. gsw_columns set s bit) from to [] columns
unfolding gsw_columns
rows-all set secrets bit r from ahead to columns all same so_far =
    rw same (subst (λ (n : ℕ). ColumnsDrawn set secrets (λ s. flat_map (gsw_row_columns set s bit) (range_with_len 0 n)) from ahead [] columns) all so_far)

-- how many all columns are
pub gsw-lists : (set : ParamSet) (secrets : List Poly) (bit : ℕ) → AreLists (rows set) (gsw_count set) (gsw_columns set secrets bit)
unfolding gsw_columns
gsw-lists set secrets bit = rows-lists set secrets bit (rows set + 1)

-- ---- words

-- the words for one more column of a row
pub column-room : (set : ParamSet) (secrets : Secrets) (bit r k n : ℕ) (from mid : Cursor) (old half : List Cipher) → k < n
    → ColumnsDrawn set secrets (λ s. map (gsw_messages set s bit r) (range_with_len 0 k)) from mid old half
    → from.used + n * words_taken set.degree (rows set) ≤ length from.words → mid.used + words_taken set.degree (rows set) ≤ length mid.words
column-room set secrets bit r k n from mid old half h so_far enough =
    let s = row_secrets_of set secrets in
    room from mid _ k n (words_taken set.degree (rows set)) so_far.words (ap (λ (x : ℕ). x * words_taken set.degree (rows set)) (columns-lists set s bit r k).many) h enough

whole_row : (L r t T : ℕ) → L ≡ r * t → L * T ≡ r * (t * T)
whole_row L r t T is = rw is (omega arith)

-- those for one more row
pub row-room : (set : ParamSet) (secrets : Secrets) (bit r : ℕ) (from mid : Cursor) (old half : List Cipher) → r < rows set + 1
    → ColumnsDrawn set secrets (λ s. flat_map (gsw_row_columns set s bit) (range_with_len 0 r)) from mid old half
    → from.used + gsw_count set * words_taken set.degree (rows set) ≤ length from.words
    → mid.used + digit_count set.w_gsw * words_taken set.degree (rows set) ≤ length mid.words
row-room set secrets bit r from mid old half h so_far enough =
    let s = row_secrets_of set secrets in
    let t = digit_count set.w_gsw in
    let T = words_taken set.degree (rows set) in
    let all : gsw_count set * T ≡ (rows set + 1) * (t * T) = whole_row (gsw_count set) (rows set + 1) t T refl in
    room from mid _ r (rows set + 1) (t * T) so_far.words (whole_row _ r t T (rows-lists set s bit r).many) h (omega (arith, all))

-- those of all columns
pub all_taken : (set : ParamSet) (secrets : Secrets) (bit : ℕ) (from to : Cursor) (old new : List Cipher)
    → ColumnsDrawn set secrets (λ s. gsw_columns set s bit) from to old new → to ≡ taken from (gsw_count set * words_taken set.degree (rows set))
all_taken set secrets bit from to old new drawn =
    drawn.words ∙ ap (λ (n : ℕ). taken from (n * words_taken set.degree (rows set))) (gsw-lists set (row_secrets_of set secrets) bit).many

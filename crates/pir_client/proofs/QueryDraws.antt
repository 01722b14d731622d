-- The ciphertexts of a query, drawn one after the other.
use Rattle.std.proofs.Common.{◌≡◌, ℕ, ◌+◌, ◌*◌, ◌<◌, ◌≤◌, List, [], ◌∷◌, ◌++◌, length, map, refl, ◌∙◌, ap, subst, arith}
use Rattle.std.specs.List.{range_with_len, flat_map}
use Rattle.std.proofs.lemmas.List.FromFn.{map-range_with_len_more}
use Rattle.negacyclic.proofs.Lists.{flat_map-more}
use Rattle.spiral_sets.specs.declared.param_set.ParamSet.{ParamSet}
use Rattle.spiral_sets.specs.Sets.{rows}
use Rattle.spiral_model.specs.Words.{Poly, Cipher}
use Rattle.spiral_model.specs.Ciphertexts.{encrypted, words_taken}
use Rattle.spiral_model.specs.Queries.{first_messages, first_columns, selection_bit, selection_columns, gsw_columns}
use Rattle.regev_code.specs.Seen.{Secrets, Cursor}
use Rattle.regev_code.specs.Shapes.{taken, under}
use Rattle.regev_code.specs.Drawn.{Drawn}
use Rattle.regev_code.proofs.Draws.{drawn-none, drawn-one, drawn-more, room, done_is}
use Rattle.regev_code.proofs.MessageLists.{AreLists, lists-pieces}
use Rattle.gsw_code.specs.Columns.{row_secrets_of, ColumnsDrawn}
use Rattle.pir_client.proofs.MessageLists.{lists-from}

-- ---- one ciphertext

-- as the code draws it, of these messages
pub column_drawn : (N : ℕ) (set : ParamSet) (secrets : Secrets) (messages worked : List Poly) (column : Cipher) (from to : Cursor) (old new : List Cipher)
    → N ≡ set.degree
    → length messages ≡ rows set → worked ≡ messages → column ≡ encrypted N from.words from.used (under N secrets set.pack) worked
    → to ≡ taken from (words_taken N (length worked)) → new ≡ old ++ column ∷ [] → ColumnsDrawn set secrets (λ _. messages ∷ []) from to old new
column_drawn N set secrets messages worked column from to old new degree size is drawn at pushed =
    let s = row_secrets_of set secrets in
    drawn-one set.degree (rows set) s messages column from to old new
    (at ∙ ap (λ (n : ℕ). taken from (words_taken n (length worked))) degree ∙ ap (λ (n : ℕ). taken from (words_taken set.degree n)) (ap length is ∙ size))
    (drawn ∙ ap (λ (n : ℕ). encrypted n from.words from.used (under n secrets set.pack) worked) degree
    ∙ ap (λ (ms : List Poly). encrypted set.degree from.words from.used s ms) is) pushed

-- ---- a ciphertext for each place of a range

-- none
pub row_drawn-none : (N m a : ℕ) (secrets : List Poly) (f : ℕ → List Poly) (at : Cursor) (old : List Cipher)
    → Drawn N m secrets (map f (range_with_len a 0)) at at old old
row_drawn-none N m a secrets f at old = drawn-none N m secrets _ at old refl

-- one more, of place j
pub row_drawn-more : (N m a k j : ℕ) (secrets : List Poly) (f : ℕ → List Poly) (from mid to : Cursor) (old half new : List Cipher) → a + k ≡ j
    → ((i : ℕ) → length (f i) ≡ m)
    → Drawn N m secrets (map f (range_with_len a k)) from mid old half → Drawn N m secrets (f j ∷ []) mid to half new
    → Drawn N m secrets (map f (range_with_len a (k + 1))) from to old new
row_drawn-more N m a k j secrets f from mid to old half new place each so_far one =
    drawn-more N m k secrets (map f (range_with_len a k)) (f j ∷ []) (map f (range_with_len a (k + 1))) from mid to old half new (lists-from m a k f each)
    (map-range_with_len_more {X = List Poly} f a k j place) so_far one

-- the words for one more
pub row_drawn-room : (N m a k n : ℕ) (secrets : List Poly) (f : ℕ → List Poly) (from mid : Cursor) (old half : List Cipher) → k < n
    → ((i : ℕ) → length (f i) ≡ m)
    → Drawn N m secrets (map f (range_with_len a k)) from mid old half → from.used + n * words_taken N m ≤ length from.words
    → mid.used + words_taken N m ≤ length mid.words
row_drawn-room N m a k n secrets f from mid old half h each so_far enough =
    room from mid _ k n (words_taken N m) so_far.words (ap (λ (x : ℕ). x * words_taken N m) (lists-from m a k f each).many) h enough

-- ---- so many ciphertexts for each place

-- none
pub pieces_drawn-none : (N m : ℕ) (secrets : List Poly) (f : ℕ → List (List Poly)) (at : Cursor) (old : List Cipher)
    → Drawn N m secrets (flat_map f (range_with_len 0 0)) at at old old
pieces_drawn-none N m secrets f at old = drawn-none N m secrets _ at old refl

-- those of one more place
pub pieces_drawn-more : (N m count k : ℕ) (secrets : List Poly) (f : ℕ → List (List Poly)) (from mid to : Cursor) (old half new : List Cipher)
    → ((i : ℕ) → AreLists m count (f i))
    → Drawn N m secrets (flat_map f (range_with_len 0 k)) from mid old half → Drawn N m secrets (f k) mid to half new
    → Drawn N m secrets (flat_map f (range_with_len 0 (k + 1))) from to old new
pieces_drawn-more N m count k secrets f from mid to old half new each so_far one =
    drawn-more N m (k * count) secrets (flat_map f (range_with_len 0 k)) (f k) (flat_map f (range_with_len 0 (k + 1))) from mid to old half new
    (lists-pieces m count k f (λ i h. each i)) (flat_map-more f 0 k k (omega arith)) so_far one

-- the words for those of one more place
pub pieces_drawn-room : (N m count k n : ℕ) (secrets : List Poly) (f : ℕ → List (List Poly)) (from mid : Cursor) (old half : List Cipher) → k < n
    → ((i : ℕ) → AreLists m count (f i))
    → Drawn N m secrets (flat_map f (range_with_len 0 k)) from mid old half → from.used + n * (count * words_taken N m) ≤ length from.words
    → mid.used + count * words_taken N m ≤ length mid.words
pieces_drawn-room N m count k n secrets f from mid old half h each so_far enough =
    let lists = lists-pieces m count k f (λ i h. each i) in
    room from mid _ k n (count * words_taken N m) so_far.words (done_is _ k count (words_taken N m) lists.many) h enough

-- those that were drawn apart and then appended
pub appended_drawn : (N m : ℕ) (secrets : List Poly) (messages : List (List Poly)) (from to : Cursor) (drawn old new : List Cipher)
    → Drawn N m secrets messages from to [] drawn → new ≡ old ++ drawn → Drawn N m secrets messages from to old new
appended_drawn N m secrets messages from to drawn old new apart appended = record {
  words = apart.words;
  ciphers = appended ∙ ap (λ (cs : List Cipher). old ++ cs) apart.ciphers;
}

-- ---- those of a place, and of a selection

-- all columns of a place
pub place_drawn : (set : ParamSet) (secrets : Secrets) (index u k : ℕ) (from to : Cursor) (old new : List Cipher) → k ≡ rows set
    → ColumnsDrawn set secrets (λ _. map (first_messages set index u) (range_with_len 1 k)) from to old new
    → ColumnsDrawn set secrets (λ _. first_columns set index u) from to old new
unfolding first_columns
place_drawn set secrets index u k from to old new all so_far =
    subst (λ (n : ℕ). ColumnsDrawn set secrets (λ _. map (first_messages set index u) (range_with_len 1 n)) from to old new) all so_far

-- the columns of a selection's bit, appended
pub selection_drawn : (set : ParamSet) (secrets : Secrets) (index l bit : ℕ) (from to : Cursor) (drawn old new : List Cipher) → bit ≡ selection_bit set index l
    → ColumnsDrawn set secrets (λ s. gsw_columns set s bit) from to [] drawn → new ≡ old ++ drawn
    → ColumnsDrawn set secrets (λ s. selection_columns set s index l) from to old new
unfolding selection_columns
selection_drawn set secrets index l bit from to drawn old new is apart appended =
    let s = row_secrets_of set secrets in
    appended_drawn set.degree (rows set) s (gsw_columns set s (selection_bit set index l)) from to drawn old new
    (subst (λ (b : ℕ). Drawn set.degree (rows set) s (gsw_columns set s b) from to [] drawn) is apart) appended

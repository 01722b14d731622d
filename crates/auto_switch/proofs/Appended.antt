-- Ciphertexts that are drawn one after the other: one for each place of a range, or so many for each.
use Rattle.std.proofs.Common.{◌≡◌, ℕ, ◌+◌, ◌*◌, ◌<◌, ◌≤◌, List, [], ◌∷◌, ◌++◌, length, map, refl, sym, ◌∙◌, ap, subst}
use Rattle.std.specs.List.{range_with_len, flat_map}
use Rattle.std.proofs.lemmas.List.Elements.{All-map}
use Rattle.std.proofs.lemmas.List.FromFn.{length-map-range_with_len, map-range_with_len_more}
use Rattle.negacyclic.proofs.Lists.{flat_map-from, flat_map-more}
use Rattle.spiral_model.specs.Words.{Poly, Cipher}
use Rattle.spiral_model.specs.Ciphertexts.{words_taken}
use Rattle.regev_code.specs.Seen.{Cursor}
use Rattle.regev_code.specs.Drawn.{Drawn}
use Rattle.regev_code.proofs.Draws.{drawn-none, drawn-more, room, done_is}
use Rattle.regev_code.proofs.MessageLists.{AreLists, lists-pieces}

-- ---- lists of messages

-- one list for each place of a range
pub lists-of : (m a n : ℕ) (f : ℕ → List Poly) → ((i : ℕ) → length (f i) ≡ m) → AreLists m n (map f (range_with_len a n))
lists-of m a n f each = record {
  many = length-map-range_with_len f a n;
  each = All-map (λ (x : List Poly). length x ≡ m) f (range_with_len a n) (λ k d h. each _);
}

-- so many for each
pub lists-for : (m count a n : ℕ) (f : ℕ → List (List Poly)) → ((i : ℕ) → AreLists m count (f i)) → AreLists m (n * count) (flat_map f (range_with_len a n))
lists-for m count a n f each =
    subst (λ (xs : List (List Poly)). AreLists m (n * count) xs) (sym (flat_map-from f a n)) (lists-pieces m count n (λ k. f (a + k)) (λ k h. each (a + k)))

-- ---- one ciphertext for each place

-- none
pub each-none : (N m a : ℕ) (secrets : List Poly) (f : ℕ → List Poly) (at : Cursor) (old : List Cipher) → Drawn N m secrets (map f (range_with_len a 0)) at at old old
each-none N m a secrets f at old = drawn-none N m secrets _ at old refl

-- one more, of place j
pub each-more : (N m a k j : ℕ) (secrets : List Poly) (f : ℕ → List Poly) (from mid to : Cursor) (old half new : List Cipher) → a + k ≡ j → ((i : ℕ) → length (f i) ≡ m)
    → Drawn N m secrets (map f (range_with_len a k)) from mid old half → Drawn N m secrets (f j ∷ []) mid to half new
    → Drawn N m secrets (map f (range_with_len a (k + 1))) from to old new
each-more N m a k j secrets f from mid to old half new place sizes so_far one =
    drawn-more N m k secrets (map f (range_with_len a k)) (f j ∷ []) (map f (range_with_len a (k + 1))) from mid to old half new (lists-of m a k f sizes)
    (map-range_with_len_more {X = List Poly} f a k j place) so_far one

-- the words for one more
pub each-room : (N m a k n : ℕ) (secrets : List Poly) (f : ℕ → List Poly) (from mid : Cursor) (old half : List Cipher) → k < n → ((i : ℕ) → length (f i) ≡ m)
    → Drawn N m secrets (map f (range_with_len a k)) from mid old half → from.used + n * words_taken N m ≤ length from.words → mid.used + words_taken N m ≤ length mid.words
each-room N m a k n secrets f from mid old half h sizes so_far enough =
    room from mid _ k n (words_taken N m) so_far.words (ap (λ (x : ℕ). x * words_taken N m) (lists-of m a k f sizes).many) h enough

-- ---- so many ciphertexts for each place

-- none
pub pieces-none : (N m a : ℕ) (secrets : List Poly) (f : ℕ → List (List Poly)) (at : Cursor) (old : List Cipher)
    → Drawn N m secrets (flat_map f (range_with_len a 0)) at at old old
pieces-none N m a secrets f at old = drawn-none N m secrets _ at old refl

-- those of one more place
pub pieces-more : (N m count a k j : ℕ) (secrets : List Poly) (f : ℕ → List (List Poly)) (from mid to : Cursor) (old half new : List Cipher) → a + k ≡ j
    → ((i : ℕ) → AreLists m count (f i)) → Drawn N m secrets (flat_map f (range_with_len a k)) from mid old half → Drawn N m secrets (f j) mid to half new
    → Drawn N m secrets (flat_map f (range_with_len a (k + 1))) from to old new
pieces-more N m count a k j secrets f from mid to old half new place each so_far one =
    drawn-more N m (k * count) secrets (flat_map f (range_with_len a k)) (f j) (flat_map f (range_with_len a (k + 1))) from mid to old half new
    (lists-for m count a k f each) (flat_map-more f a k j place) so_far one

-- the words for those of one more place
pub pieces-room : (N m count a k n : ℕ) (secrets : List Poly) (f : ℕ → List (List Poly)) (from mid : Cursor) (old half : List Cipher) → k < n
    → ((i : ℕ) → AreLists m count (f i)) → Drawn N m secrets (flat_map f (range_with_len a k)) from mid old half
    → from.used + n * (count * words_taken N m) ≤ length from.words → mid.used + count * words_taken N m ≤ length mid.words
pieces-room N m count a k n secrets f from mid old half h each so_far enough =
    let lists = lists-for m count a k f each in
    room from mid _ k n (count * words_taken N m) so_far.words (done_is _ k count (words_taken N m) lists.many) h enough

-- those that were drawn apart and then appended
pub appended : (N m : ℕ) (secrets : List Poly) (messages : List (List Poly)) (from to : Cursor) (drawn old new : List Cipher)
    → Drawn N m secrets messages from to [] drawn → new ≡ old ++ drawn → Drawn N m secrets messages from to old new
appended N m secrets messages from to drawn old new apart joined = record {
  words = apart.words;
  ciphers = joined ∙ ap (λ (cs : List Cipher). old ++ cs) apart.ciphers;
}

-- the same ciphertexts, by equal counts and equal messages
pub drawn-again : (N m n : ℕ) (secrets : List Poly) (xs ys : List (List Poly)) (from to : Cursor) (old new : List Cipher) → m ≡ n → xs ≡ ys
    → Drawn N m secrets xs from to old new → Drawn N n secrets ys from to old new
drawn-again N m n secrets xs ys from to old new count messages drawn =
    subst (λ (k : ℕ). Drawn N k secrets ys from to old new) count (subst (λ (zs : List (List Poly)). Drawn N m secrets zs from to old new) messages drawn)

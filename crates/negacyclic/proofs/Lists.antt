-- Lists of the values of a function over a range of places, and lists of pieces one after the other. That lists with equal
-- elements are equal is `ext_get_or` of the standard library, and for the values of a function `fill_by_all`.
use Rattle.std.proofs.Common.{◌≡◌, ℕ, zero, suc, ◌+◌, ◌-◌, ◌*◌, ◌/◌, ◌%◌, ◌<◌, ◌≤◌, List, [], ◌∷◌, ◌++◌, length, get_or, take, drop, All, map, refl, sym, ◌∙◌, ap, ap₂, arith, append_assoc, append-nil, length-append, le_refl, subst}
use Rattle.std.specs.List.{range_with_len, flat_map}
use Rattle.std.proofs.lemmas.Nat.{div-add-mod', mod_below, div_below, row_fits}
use Rattle.std.proofs.lemmas.List.{map-id, ext_get_or, nil_from_length, length-drop, length-take-le, take_all, take_at, take-take, drop_at, drop-take, take-append-drop, get_or_append_left, get_or-append_right}
use Rattle.std.proofs.lemmas.List.Concat.{flat_map-append}
use Rattle.std.proofs.lemmas.List.Elements.{All-nil, All-append, All-head, All-tail, All-map, All-same}
use Rattle.std.proofs.lemmas.List.FromFn.{length-range_with_len, get_or-range_with_len, length-map-range_with_len, get_or-map-range_with_len, map-range_with_len_more}

-- ---- the values of a function

-- the value at a place
pub at_range : {A : Type 0} (f : ℕ → A) (n k : ℕ) (d : A) → k < n → get_or (map f (range_with_len 0 n)) k d ≡ f k
at_range f n k d h = get_or-map-range_with_len f 0 n k k d h (omega arith)

-- equal values over two ranges of one length
pub same_range_from : {A : Type 0} (f g : ℕ → A) (a b n : ℕ) → ((k : ℕ) → k < n → f (a + k) ≡ g (b + k)) → map f (range_with_len a n) ≡ map g (range_with_len b n)
same_range_from f g a b zero same = refl
same_range_from {A} f g a b (suc n) same =
    let left : a ≡ a + 0 = omega arith in
    let right : b + 0 ≡ b = omega arith in
    ap₂ (λ (x : A) (xs : List A). x ∷ xs) (ap f left ∙ same 0 (omega arith) ∙ ap g right)
    (same_range_from f g (a + 1) (b + 1) n
    (λ k h.
    let here : a + 1 + k ≡ a + suc k = omega arith in
    let there : b + suc k ≡ b + 1 + k = omega arith in
    ap f here ∙ same (suc k) (omega arith) ∙ ap g there))

-- and over one
pub same_range : {A : Type 0} (f g : ℕ → A) (n : ℕ) → ((k : ℕ) → k < n → f k ≡ g k) → map f (range_with_len 0 n) ≡ map g (range_with_len 0 n)
same_range f g n same =
    same_range_from f g 0 0 n
    (λ k h.
    let here : 0 + k ≡ k = omega arith in ap f here ∙ same k h ∙ ap g (sym here))

-- the values from place a on
pub map-from : {A : Type 0} (f : ℕ → A) (a n : ℕ) → map f (range_with_len a n) ≡ map (λ k. f (a + k)) (range_with_len 0 n)
map-from f a n =
    same_range_from f (λ k. f (a + k)) a 0 n (λ k h. let here : a + k ≡ a + (0 + k) = omega arith in ap f here)

-- what holds of each place holds of the list of places,
pub all_places : (P : ℕ → Type 0) (n : ℕ) → ((k : ℕ) → k < n → P k) → All P (range_with_len 0 n)
all_places P n each k d h =
    let within : k < n = omega (arith, length-range_with_len 0 n) in
    let place : 0 + k ≡ k = omega arith in
    subst P (sym (get_or-range_with_len 0 n k d within ∙ place)) (each k within)

-- and what holds of each value of all of them
pub all_range : {A : Type 0} (P : A → Type 0) (f : ℕ → A) (n : ℕ) → ((k : ℕ) → k < n → P (f k)) → All P (map f (range_with_len 0 n))
all_range P f n each = All-map P f (range_with_len 0 n) (all_places (λ k. P (f k)) n each)

-- one more place
pub range-more : (a n j : ℕ) → a + n ≡ j → range_with_len a (n + 1) ≡ range_with_len a n ++ j ∷ []
range-more a n j place =
    sym (map-id (range_with_len a (n + 1))) ∙ map-range_with_len_more (λ (k : ℕ). k) a n j place ∙ ap (λ (xs : List ℕ). xs ++ j ∷ []) (map-id (range_with_len a n))

-- one more value at the end of a list, as a push gives it
pub pushed_more : {A : Type 0} (f : ℕ → A) (a n j : ℕ) (old new : List A) (x : A) → a + n ≡ j → old ≡ map f (range_with_len a n) → new ≡ old ++ x ∷ [] → x ≡ f j
    → new ≡ map f (range_with_len a (n + 1))
pushed_more {A} f a n j old new x place so_far pushed is =
    pushed ∙ ap₂ (λ (xs : List A) (y : A). xs ++ y ∷ []) so_far is ∙ sym (map-range_with_len_more f a n j place)

-- a list in which each value was changed, by a function of its place and of what stood there
pub changed_each : {A : Type 0} (f g : ℕ → A) (change : ℕ → A → A) (n : ℕ) (d : A) (old new : List A) → old ≡ map f (range_with_len 0 n)
    → new ≡ map (λ k. change k (get_or old k d)) (range_with_len 0 (length old)) → ((k : ℕ) → k < n → change k (f k) ≡ g k) → new ≡ map g (range_with_len 0 n)
changed_each {A} f g change n d old new before is changes =
    let count : length old ≡ n = ap length before ∙ length-map-range_with_len f 0 n in
    is
    ∙ ap (λ (m : ℕ). map (λ k. change k (get_or old k d)) (range_with_len 0 m)) count
    ∙ same_range (λ k. change k (get_or old k d)) g n
    (λ k h. ap (λ (xs : List A). change k (get_or xs k d)) before ∙ ap (change k) (at_range f n k d h) ∙ changes k h)

-- ---- pieces one after the other

-- equal pieces
pub same_pieces_from : {A : Type 0} (f g : ℕ → List A) (a b n : ℕ) → ((k : ℕ) → k < n → f (a + k) ≡ g (b + k)) → flat_map f (range_with_len a n) ≡ flat_map g (range_with_len b n)
same_pieces_from f g a b zero same = refl
same_pieces_from {A} f g a b (suc n) same =
    let left : a ≡ a + 0 = omega arith in
    let right : b + 0 ≡ b = omega arith in
    ap₂ (λ (x xs : List A). x ++ xs) (ap f left ∙ same 0 (omega arith) ∙ ap g right)
    (same_pieces_from f g (a + 1) (b + 1) n
    (λ k h.
    let here : a + 1 + k ≡ a + suc k = omega arith in
    let there : b + suc k ≡ b + 1 + k = omega arith in
    ap f here ∙ same (suc k) (omega arith) ∙ ap g there))

pub same_pieces : {A : Type 0} (f g : ℕ → List A) (n : ℕ) → ((k : ℕ) → k < n → f k ≡ g k) → flat_map f (range_with_len 0 n) ≡ flat_map g (range_with_len 0 n)
same_pieces f g n same =
    same_pieces_from f g 0 0 n
    (λ k h.
    let here : 0 + k ≡ k = omega arith in ap f here ∙ same k h ∙ ap g (sym here))

-- the pieces from number a on
pub flat_map-from : {A : Type 0} (f : ℕ → List A) (a n : ℕ) → flat_map f (range_with_len a n) ≡ flat_map (λ k. f (a + k)) (range_with_len 0 n)
flat_map-from f a n =
    same_pieces_from f (λ k. f (a + k)) a 0 n (λ k h. let here : a + k ≡ a + (0 + k) = omega arith in ap f here)

-- one more piece at the end
pub flat_map-more : {A : Type 0} (f : ℕ → List A) (a n j : ℕ) → a + n ≡ j → flat_map f (range_with_len a (n + 1)) ≡ flat_map f (range_with_len a n) ++ f j
flat_map-more {A} f a n j place =
    ap (flat_map f) (range-more a n j place)
    ∙ flat_map-append f (range_with_len a n) (j ∷ [])
    ∙ ap (λ (xs : List A). flat_map f (range_with_len a n) ++ xs) (append-nil (f j))

-- the same, as a loop appends it
pub appended_more : {A : Type 0} (f : ℕ → List A) (a n j : ℕ) (old new piece : List A) → a + n ≡ j → old ≡ flat_map f (range_with_len a n) → new ≡ old ++ piece → piece ≡ f j
    → new ≡ flat_map f (range_with_len a (n + 1))
appended_more {A} f a n j old new piece place so_far appended is =
    appended ∙ ap₂ (λ (xs ys : List A). xs ++ ys) so_far is ∙ sym (flat_map-more f a n j place)

-- what holds of the elements of each piece holds of all
pub all_flat_map : {X A : Type 0} (P : A → Type 0) (f : X → List A) (xs : List X) → All (λ x. All P (f x)) xs → All P (flat_map f xs)
all_flat_map P f [] each = All-nil P
all_flat_map P f (x ∷ xs) each =
    All-append P (f x) (flat_map f xs) (All-head (λ y. All P (f y)) x xs each) (all_flat_map P f xs (All-tail (λ y. All P (f y)) x xs each))

pub all_pieces : {A : Type 0} (P : A → Type 0) (f : ℕ → List A) (n : ℕ) → ((k : ℕ) → k < n → All P (f k)) → All P (flat_map f (range_with_len 0 n))
all_pieces P f n each = all_flat_map P f (range_with_len 0 n) (all_places (λ k. All P (f k)) n each)

last_piece : {A : Type 0} (f : ℕ → List A) (n : ℕ) → flat_map f (range_with_len 0 (suc n)) ≡ flat_map f (range_with_len 0 n) ++ f n
last_piece f n =
    let next : suc n ≡ n + 1 = omega arith in
    ap (λ (m : ℕ). flat_map f (range_with_len 0 m)) next ∙ flat_map-more f 0 n n (omega arith)

-- the first pieces and the others
pub flat_map-split : {A : Type 0} (f : ℕ → List A) (m n : ℕ)
    → flat_map f (range_with_len 0 (m + n)) ≡ flat_map f (range_with_len 0 m) ++ flat_map (λ k. f (m + k)) (range_with_len 0 n)
flat_map-split f m zero =
    let all : m + 0 ≡ m = omega arith in
    ap (λ (k : ℕ). flat_map f (range_with_len 0 k)) all ∙ sym (append-nil (flat_map f (range_with_len 0 m)))
flat_map-split {A} f m (suc n) =
    let next : m + suc n ≡ suc (m + n) = omega arith in
    ap (λ (k : ℕ). flat_map f (range_with_len 0 k)) next
    ∙ last_piece f (m + n)
    ∙ ap (λ (xs : List A). xs ++ f (m + n)) (flat_map-split f m n)
    ∙ append_assoc (flat_map f (range_with_len 0 m)) (flat_map (λ k. f (m + k)) (range_with_len 0 n)) (f (m + n))
    ∙ ap (λ (xs : List A). flat_map f (range_with_len 0 m) ++ xs) (sym (last_piece (λ k. f (m + k)) n))

-- the first pieces, piece j and the others
pub flat_map-around : {A : Type 0} (f : ℕ → List A) (n j : ℕ) → j < n
    → flat_map f (range_with_len 0 n) ≡ flat_map f (range_with_len 0 j) ++ (f j ++ flat_map (λ k. f (j + 1 + k)) (range_with_len 0 (n - j - 1)))
flat_map-around {A} f n j h =
    let all : n ≡ j + 1 + (n - j - 1) = omega arith in
    ap (λ (k : ℕ). flat_map f (range_with_len 0 k)) all
    ∙ flat_map-split f (j + 1) (n - j - 1)
    ∙ ap (λ (xs : List A). xs ++ flat_map (λ k. f (j + 1 + k)) (range_with_len 0 (n - j - 1))) (flat_map-more f 0 j j (omega arith))
    ∙ append_assoc (flat_map f (range_with_len 0 j)) (f j) (flat_map (λ k. f (j + 1 + k)) (range_with_len 0 (n - j - 1)))

-- ---- pieces of one length

-- how many elements they have
pub length-pieces : {A : Type 0} (f : ℕ → List A) (w n : ℕ) → ((k : ℕ) → k < n → length (f k) ≡ w) → length (flat_map f (range_with_len 0 n)) ≡ n * w
length-pieces f w zero sizes = omega arith
length-pieces f w (suc n) sizes =
    let front : length (flat_map f (range_with_len 0 n)) ≡ n * w = length-pieces f w n (λ k h. sizes k (omega arith)) in
    let last : length (f n) ≡ w = sizes n (omega arith) in
    ap length (last_piece f n) ∙ length-append (flat_map f (range_with_len 0 n)) (f n) ∙ omega arith

-- element c of piece j
pub pieces-at : {A : Type 0} (f : ℕ → List A) (w n j c : ℕ) (d : A) → ((k : ℕ) → k < n → length (f k) ≡ w) → j < n → c < w
    → get_or (flat_map f (range_with_len 0 n)) (j * w + c) d ≡ get_or (f j) c d
pieces-at {A} f w n j c d sizes h g =
    let front = flat_map f (range_with_len 0 j) in
    let rest = flat_map (λ k. f (j + 1 + k)) (range_with_len 0 (n - j - 1)) in
    let size : length front ≡ j * w = length-pieces f w j (λ k lt. sizes k (omega arith)) in
    let here : length (f j) ≡ w = sizes j h in
    let left : j * w + c - j * w ≡ c = omega arith in
    ap (λ (xs : List A). get_or xs (j * w + c) d) (flat_map-around f n j h)
    ∙ get_or-append_right front (f j ++ rest) (j * w) (j * w + c) d size (omega arith)
    ∙ ap (λ (i : ℕ). get_or (f j ++ rest) i d) left
    ∙ get_or_append_left (f j) rest d c (omega arith)

some_width : (k n w : ℕ) → k < n * w → 0 < w
some_width k n zero h = absurd (omega arith)
some_width k n (suc v) h = omega arith

-- the element at a place
pub pieces-place : {A : Type 0} (f : ℕ → List A) (w n k : ℕ) (d : A) → ((j : ℕ) → j < n → length (f j) ≡ w) → k < n * w
    → get_or (flat_map f (range_with_len 0 n)) k d ≡ get_or (f (k / w)) (k % w) d
pieces-place {A} f w n k d sizes h =
    let some : 0 < w = some_width k n w h in
    let place : k / w * w + k % w ≡ k = div-add-mod' k w in
    ap (λ (i : ℕ). get_or (flat_map f (range_with_len 0 n)) i d) (sym place)
    ∙ pieces-at f w n (k / w) (k % w) d sizes (div_below k w n some h) (mod_below k w some)

-- piece j, cut out again
pub piece_of : {A : Type 0} (f : ℕ → List A) (w n j : ℕ) → ((k : ℕ) → k < n → length (f k) ≡ w) → j < n
    → take w (drop (j * w) (flat_map f (range_with_len 0 n))) ≡ f j
piece_of {A} f w n j sizes h =
    let front = flat_map f (range_with_len 0 j) in
    let rest = flat_map (λ k. f (j + 1 + k)) (range_with_len 0 (n - j - 1)) in
    ap (λ (xs : List A). take w (drop (j * w) xs)) (flat_map-around f n j h)
    ∙ ap (take w) (drop_at front (f j ++ rest) (j * w) (length-pieces f w j (λ k lt. sizes k (omega arith))))
    ∙ take_at (f j) rest w (sizes j h)

-- the first m pieces, cut off, and what is left
pub pieces_front : {A : Type 0} (f : ℕ → List A) (w m n : ℕ) → ((k : ℕ) → k < m → length (f k) ≡ w)
    → take (m * w) (flat_map f (range_with_len 0 (m + n))) ≡ flat_map f (range_with_len 0 m)
pieces_front {A} f w m n sizes =
    ap (λ (xs : List A). take (m * w) xs) (flat_map-split f m n)
    ∙ take_at (flat_map f (range_with_len 0 m)) (flat_map (λ k. f (m + k)) (range_with_len 0 n)) (m * w) (length-pieces f w m sizes)

pub pieces_rest : {A : Type 0} (f : ℕ → List A) (w m n : ℕ) → ((k : ℕ) → k < m → length (f k) ≡ w)
    → drop (m * w) (flat_map f (range_with_len 0 (m + n))) ≡ flat_map (λ k. f (m + k)) (range_with_len 0 n)
pieces_rest {A} f w m n sizes =
    ap (λ (xs : List A). drop (m * w) xs) (flat_map-split f m n)
    ∙ drop_at (flat_map f (range_with_len 0 m)) (flat_map (λ k. f (m + k)) (range_with_len 0 n)) (m * w) (length-pieces f w m sizes)

-- a list whose place k holds element k % w of row k / w
pub rows_from_places : {A : Type 0} (f : ℕ → ℕ → A) (w n : ℕ) (xs : List A) (d : A) → length xs ≡ n * w
    → ((k : ℕ) → k < length xs → get_or xs k d ≡ f (k / w) (k % w))
    → xs ≡ flat_map (λ j. map (λ c. f j c) (range_with_len 0 w)) (range_with_len 0 n)
rows_from_places {A} f w n xs d size places =
    let row : ℕ → List A = λ j. map (λ c. f j c) (range_with_len 0 w) in
    let sizes : (k : ℕ) → k < n → length (row k) ≡ w = λ k h. length-map-range_with_len (f k) 0 w in
    ext_get_or d xs (flat_map row (range_with_len 0 n)) (size ∙ sym (length-pieces row w n sizes))
    (λ k h.
    let within : k < n * w = omega arith in
    places k h ∙ sym (at_range (f (k / w)) w (k % w) d (mod_below k w (some_width k n w within))) ∙ sym (pieces-place row w n k d sizes within))

piece_in_front : {A : Type 0} (w n j : ℕ) (xs : List A) → j < n → take w (drop (j * w) xs) ≡ take w (drop (j * w) (take (n * w) xs))
piece_in_front {A} w n j xs h =
    let fits : j * w + w ≤ n * w = row_fits j w n w h (le_refl w) in
    let split : n * w ≡ j * w + (n * w - j * w) = omega arith in
    sym (take-take w (n * w - j * w) (drop (j * w) xs) (omega arith))
    ∙ ap (take w) (sym (drop-take (j * w) (n * w - j * w) xs))
    ∙ ap (λ (m : ℕ). take w (drop (j * w) (take m xs))) (sym split)

-- the list of the pieces that another is cut into
pub pieces_joined : {A : Type 0} (w n : ℕ) (xs : List A) → length xs ≡ n * w → flat_map (λ j. take w (drop (j * w) xs)) (range_with_len 0 n) ≡ xs
pieces_joined w zero xs size = sym (nil_from_length xs (omega arith))
pieces_joined {A} w (suc n) xs size =
    let whole : length xs ≡ n * w + w = omega arith in
    let front : List A = take (n * w) xs in
    let front_size : length front ≡ n * w = length-take-le (n * w) xs (omega arith) in
    last_piece (λ j. take w (drop (j * w) xs)) n
    ∙ ap₂ (λ (ys zs : List A). ys ++ zs)
    (same_pieces (λ j. take w (drop (j * w) xs)) (λ j. take w (drop (j * w) front)) n (λ j h. piece_in_front w n j xs h) ∙ pieces_joined w n front front_size)
    (take_all w (drop (n * w) xs) (omega (arith, length-drop (n * w) xs)))
    ∙ take-append-drop (n * w) xs

-- ---- lists written through a slice of all their elements

-- the elements of a vector after a write to all of them
pub refilled : {A : Type 0} (n : ℕ) (new rest : List A) → n ≡ length new → take n (new ++ rest) ≡ new
refilled n new rest e = take_at new rest n (sym e)

-- how many they are
pub length-refilled : {A : Type 0} (n m : ℕ) (new rest : List A) → n ≡ length new → length new ≡ m → length (take n (new ++ rest)) ≡ m
length-refilled n m new rest e size = ap length (refilled n new rest e) ∙ size

-- and what holds of them
pub all_refilled : {A : Type 0} (P : A → Type 0) (n : ℕ) (new rest : List A) → n ≡ length new → All P new → All P (take n (new ++ rest))
all_refilled P n new rest e each = All-same P (take n (new ++ rest)) new (refilled n new rest e) each

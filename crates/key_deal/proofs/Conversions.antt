-- The messages of the conversion key, and its ciphertexts one after the other.
use Rattle.std.proofs.Common.{◌≡◌, ℕ, ◌+◌, ◌*◌, ◌^◌, ◌<◌, ◌≤◌, Bool, true, false, if◌then◌else◌, pos, List, [], ◌∷◌, ◌++◌, length, get_or, take, map, All, refl, sym, ◌∙◌, ap, subst, arith, take_all}
use Rattle.std.specs.List.{range_with_len}
use Rattle.std.proofs.lemmas.List.{length-map, map-append, take_more}
use Rattle.std.proofs.lemmas.List.Elements.{All-map}
use Rattle.negacyclic.specs.Ring.{ring_mul, ring_scale}
use Rattle.negacyclic.proofs.Lengths.{length-ring_mul, length-ring_scale}
use Rattle.negacyclic.proofs.Lists.{same_range}
use Rattle.spiral_sets.specs.declared.param_set.ParamSet.{ParamSet}
use Rattle.spiral_sets.specs.Sets.{q, digit_count, rows}
use Rattle.spiral_sets.specs.Counts.{ciphertext_count, words_of, conversion_ciphertexts}
use Rattle.spiral_model.specs.Words.{Poly, Cipher}
use Rattle.spiral_model.specs.Ciphertexts.{words_taken}
use Rattle.spiral_model.specs.Dealing.{conversion_message, conversion_messages}
use Rattle.regev_code.specs.Seen.{Secrets, Cursor}
use Rattle.regev_code.specs.Shapes.{under}
use Rattle.regev_code.specs.Drawn.{Drawn}
use Rattle.regev_code.proofs.MessageLists.{AreLists}
use Rattle.regev_code.proofs.Draws.{drawn-none}
use Rattle.auto_switch.proofs.Appended.{lists-of, each-none, each-more, each-room, drawn-again}
use Rattle.key_deal.specs.DealtKeys.{scalar_of}
use Rattle.key_deal.proofs.Counted.{lists-unless}

-- ---- lists worked out element by element

-- one more element
pub mapped-more : {A B : Type 0} (f : A → B) (xs : List A) (i : ℕ) (d : A) (old new : List B) (y : B) → i < length xs → old ≡ map f (take i xs) → new ≡ old ++ y ∷ []
    → y ≡ f (get_or xs i d) → new ≡ map f (take (i + 1) xs)
mapped-more {A} {B} f xs i d old new y h so_far pushed is =
    pushed
    ∙ ap (λ (ys : List B). ys ++ y ∷ []) so_far
    ∙ ap (λ (z : B). map f (take i xs) ++ z ∷ []) is
    ∙ sym (map-append f (take i xs) (get_or xs i d ∷ []))
    ∙ ap (λ (ys : List A). map f ys) (sym (take_more xs i d h))

-- all
pub mapped-all : {A B : Type 0} (f : A → B) (xs : List A) (i : ℕ) (new : List B) → length xs ≤ i → new ≡ map f (take i xs) → new ≡ map f xs
mapped-all f xs i new all is = is ∙ ap (map f) (take_all i xs all)

mapped-twice : {A B C : Type 0} (f : A → B) (g : B → C) (xs : List A) → map g (map f xs) ≡ map (λ x. g (f x)) xs
mapped-twice f g [] = refl
mapped-twice {A} {B} {C} f g (x ∷ xs) = ap (λ (ys : List C). g (f x) ∷ ys) (mapped-twice f g xs)

-- ---- the messages of one ciphertext

-- s_i s
abbrev pub product_of : ℕ → Poly → Poly → Poly
product_of N s a = ring_mul q N a s

-- those of all secrets under which ciphertexts stand
abbrev pub products_of : ℕ → Secrets → Bool → List Poly
products_of N secret scalar = map (product_of N (scalar_of N secret)) (under N secret scalar)

pub length-products_of : (N : ℕ) (secret : Secrets) (scalar : Bool) → length (products_of N secret scalar) ≡ length (under N secret scalar)
length-products_of N secret scalar = length-map (under N secret scalar) (product_of N (scalar_of N secret))

-- each polynomial times 2^(w k)
abbrev pub scaled_by : ℕ → ℕ → List Poly → ℕ → List Poly
scaled_by N w polys k = map (ring_scale q N (pos (2 ^ (w * k)))) polys

pub length-scaled_by : (N w : ℕ) (polys : List Poly) (k : ℕ) → length (scaled_by N w polys k) ≡ length polys
length-scaled_by N w polys k = length-map polys (ring_scale q N (pos (2 ^ (w * k))))

pub scaled_by-degree : (N w : ℕ) (polys : List Poly) (k : ℕ) → All (λ a. length a ≡ N) (scaled_by N w polys k)
scaled_by-degree N w polys k =
    All-map (λ (a : Poly). length a ≡ N) (ring_scale q N (pos (2 ^ (w * k)))) polys (λ j d h. length-ring_scale q N (pos (2 ^ (w * k))) _)

pub products_of-degree : (N : ℕ) (secret : Secrets) (scalar : Bool) → All (λ a. length a ≡ N) (products_of N secret scalar)
products_of-degree N secret scalar =
    All-map (λ (a : Poly). length a ≡ N) (product_of N (scalar_of N secret)) (under N secret scalar) (λ j d h. length-ring_mul q N _ (scalar_of N secret))

-- a multiple, as the code works it out
pub multiple-is : (N w k power : ℕ) (a b out : Poly) → power ≡ 2 ^ (w * k) → b ≡ a → out ≡ ring_scale q N (pos power) b → out ≡ ring_scale q N (pos (2 ^ (w * k))) a
multiple-is N w k power a b out counts read is =
    is ∙ ap (λ (x : ℕ). ring_scale q N (pos x) b) counts ∙ ap (λ (x : Poly). ring_scale q N (pos (2 ^ (w * k))) x) read

-- ---- the ciphertexts of all digits

-- one ciphertext, as the code draws it
pub digit-drawn : (N w k : ℕ) (polys messages secrets : List Poly) (from to : Cursor) (old new : List Cipher) → messages ≡ scaled_by N w polys k
    → Drawn N (length messages) secrets (messages ∷ []) from to old new → Drawn N (length polys) secrets (scaled_by N w polys k ∷ []) from to old new
digit-drawn N w k polys messages secrets from to old new is drawn =
    drawn-again N (length messages) (length polys) secrets (messages ∷ []) (scaled_by N w polys k ∷ []) from to old new (ap length is ∙ length-scaled_by N w polys k)
    (ap (λ (m : List Poly). m ∷ []) is) drawn

-- none
pub scaled-none : (N w : ℕ) (polys secrets : List Poly) (at : Cursor) (old : List Cipher)
    → Drawn N (length polys) secrets (map (scaled_by N w polys) (range_with_len 0 0)) at at old old
scaled-none N w polys secrets at old = each-none N (length polys) 0 secrets (scaled_by N w polys) at old

-- one more
pub scaled-more : (N w k : ℕ) (polys secrets : List Poly) (from mid to : Cursor) (old half new : List Cipher)
    → Drawn N (length polys) secrets (map (scaled_by N w polys) (range_with_len 0 k)) from mid old half
    → Drawn N (length polys) secrets (scaled_by N w polys k ∷ []) mid to half new
    → Drawn N (length polys) secrets (map (scaled_by N w polys) (range_with_len 0 (k + 1))) from to old new
scaled-more N w k polys secrets from mid to old half new so_far one =
    each-more N (length polys) 0 k k secrets (scaled_by N w polys) from mid to old half new (omega arith) (length-scaled_by N w polys) so_far one

-- the words for one more
pub scaled-room : (N w k : ℕ) (polys secrets : List Poly) (from mid : Cursor) (old half : List Cipher) → k < digit_count w
    → Drawn N (length polys) secrets (map (scaled_by N w polys) (range_with_len 0 k)) from mid old half
    → from.used + digit_count w * words_taken N (length polys) ≤ length from.words → mid.used + words_taken N (length polys) ≤ length mid.words
scaled-room N w k polys secrets from mid old half h so_far enough =
    each-room N (length polys) 0 k (digit_count w) secrets (scaled_by N w polys) from mid old half h (length-scaled_by N w polys) so_far enough

-- all
pub scaled-all : (N w k : ℕ) (polys secrets : List Poly) (from to : Cursor) (old new : List Cipher) → k ≡ digit_count w
    → Drawn N (length polys) secrets (map (scaled_by N w polys) (range_with_len 0 k)) from to old new
    → Drawn N (length polys) secrets (map (scaled_by N w polys) (range_with_len 0 (digit_count w))) from to old new
scaled-all N w k polys secrets from to old new all so_far =
    subst (λ (n : ℕ). Drawn N (length polys) secrets (map (scaled_by N w polys) (range_with_len 0 n)) from to old new) all so_far

-- ---- the conversion key

conversion_is : (set : ParamSet) (s : Poly) (secrets : List Poly) (k : ℕ)
    → scaled_by set.degree set.w_conv (map (product_of set.degree s) secrets) k ≡ conversion_message set s secrets k
unfolding conversion_message
conversion_is set s secrets k = mapped-twice (product_of set.degree s) (ring_scale q set.degree (pos (2 ^ (set.w_conv * k)))) secrets

-- the ciphertexts of all digits
abbrev pub digits_of : ParamSet → Poly → List Poly → List (List Poly)
digits_of set s secrets = map (conversion_message set s secrets) (range_with_len 0 (digit_count set.w_conv))

digits_are : (set : ParamSet) (s : Poly) (secrets : List Poly) → set.direct ≡ false → digits_of set s secrets ≡ conversion_messages set s secrets
unfolding conversion_messages
digits_are set s secrets expands = sym (ap (λ (b : Bool). if b then [] else digits_of set s secrets) expands)

none_are : (set : ParamSet) (s : Poly) (secrets : List Poly) → set.direct ≡ true → conversion_messages set s secrets ≡ []
unfolding conversion_messages
none_are set s secrets direct = ap (λ (b : Bool). if b then [] else digits_of set s secrets) direct

scaled_are : (set : ParamSet) (s : Poly) (secrets : List Poly) → set.direct ≡ false
    → map (scaled_by set.degree set.w_conv (map (product_of set.degree s) secrets)) (range_with_len 0 (digit_count set.w_conv)) ≡ conversion_messages set s secrets
scaled_are set s secrets expands =
    same_range (scaled_by set.degree set.w_conv (map (product_of set.degree s) secrets)) (conversion_message set s secrets) (digit_count set.w_conv)
    (λ k h. conversion_is set s secrets k)
    ∙ digits_are set s secrets expands

-- as the code draws it
pub conversion-drawn : (set : ParamSet) (N : ℕ) (secret : Secrets) (polys : List Poly) (from to : Cursor) (old new : List Cipher) → N ≡ set.degree
    → set.direct ≡ false → length (under N secret set.pack) ≡ rows set → polys ≡ products_of N secret set.pack
    → Drawn N (length polys) (under N secret set.pack) (map (scaled_by N set.w_conv polys) (range_with_len 0 (digit_count set.w_conv))) from to old new
    → Drawn set.degree (rows set) (under set.degree secret set.pack)
    (conversion_messages set (scalar_of set.degree secret) (under set.degree secret set.pack)) from to old new
conversion-drawn set N secret polys from to old new degree expands count worked drawn =
    let Scaled : ℕ → List Poly → List (List Poly) = λ n ps. map (scaled_by n set.w_conv ps) (range_with_len 0 (digit_count set.w_conv)) in
    let size : length polys ≡ rows set = ap length worked ∙ length-products_of N secret set.pack ∙ count in
    let there = drawn-again N (length polys) (rows set) (under N secret set.pack) (Scaled N polys) (Scaled N (products_of N secret set.pack)) from to old new size
    (ap (Scaled N) worked) drawn in
    let here = subst (λ (n : ℕ). Drawn n (rows set) (under n secret set.pack) (Scaled n (products_of n secret set.pack)) from to old new) degree there in
    subst (λ (ms : List (List Poly)). Drawn set.degree (rows set) (under set.degree secret set.pack) ms from to old new)
    (scaled_are set (scalar_of set.degree secret) (under set.degree secret set.pack) expands) here

-- none, in a direct set
pub conversion-absent : (set : ParamSet) (s : Poly) (secrets : List Poly) (at : Cursor) (old : List Cipher) → set.direct ≡ true
    → Drawn set.degree (rows set) secrets (conversion_messages set s secrets) at at old old
conversion-absent set s secrets at old direct = drawn-none set.degree (rows set) secrets (conversion_messages set s secrets) at old (none_are set s secrets direct)

length-conversion_message : (set : ParamSet) (s : Poly) (secrets : List Poly) (k : ℕ) → length (conversion_message set s secrets k) ≡ length secrets
unfolding conversion_message
length-conversion_message set s secrets k =
    length-map secrets (λ (a : Poly). ring_scale q set.degree (pos (2 ^ (set.w_conv * k))) (ring_mul q set.degree a s))

one_count : (x : ℕ) → x ≡ 0 + x
one_count x = omega arith

-- how many ciphertexts it has
pub conversion-lists : (set : ParamSet) (s : Poly) (secrets : List Poly) → length secrets ≡ rows set
    → AreLists (rows set) (ciphertext_count (conversion_ciphertexts set)) (conversion_messages set s secrets)
unfolding conversion_messages
conversion-lists set s secrets many =
    let lists = lists-of (rows set) 0 (digit_count set.w_conv) (conversion_message set s secrets) (λ k. length-conversion_message set s secrets k ∙ many) in
    lists-unless set.direct (rows set) (record { how_many = digit_count set.w_conv; m = rows set } ∷ []) (digits_of set s secrets)
    (subst (λ (n : ℕ). AreLists (rows set) n (digits_of set s secrets)) (one_count (digit_count set.w_conv)) lists)

-- its words
words_where : (set : ParamSet) → set.direct ≡ false → words_of set (conversion_ciphertexts set) ≡ 0 + digit_count set.w_conv * words_taken set.degree (rows set)
words_where set expands = rw expands refl

pub conversion-room : (set : ParamSet) (N m : ℕ) (from : Cursor) → N ≡ set.degree → m ≡ rows set → set.direct ≡ false
    → from.used + words_of set (conversion_ciphertexts set) ≤ length from.words → from.used + digit_count set.w_conv * words_taken N m ≤ length from.words
conversion-room set N m from degree count expands enough =
    let words = words_where set expands in
    let here : digit_count set.w_conv * words_taken N m ≡ digit_count set.w_conv * words_taken set.degree (rows set) =
    ap (λ (n : ℕ). digit_count set.w_conv * words_taken n m) degree ∙ ap (λ (k : ℕ). digit_count set.w_conv * words_taken set.degree k) count in
    omega (arith, words, here, enough)

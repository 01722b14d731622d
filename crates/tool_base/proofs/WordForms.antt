-- The words of a command line: a number in plain decimal, the words one by one, and the table of the commands' names.
use Rattle.std.proofs.Common.{ℕ, zero, suc, List, [], ◌∷◌, ◌+◌, ◌-◌, ◌^◌, ◌<◌, ◌≤◌, ◌≡◌, ◌≢◌, Option, Some, None, Result, Ok, Err, MatchOption, length, take, drop, get_or, map, arith, refl, ap, sym, subst, ◌∙◌, decimal, drop-cons, cond}
use Rattle.std.proofs.lemmas.List.{drop_all, get_or-map, length-map, take_rest}
use Rattle.std.proofs.lemmas.Bool.{ne_eqb}
use Rattle.std.proofs.lemmas.Fmt.{decimal_digit, decimal_injective, first_decimal, decimal-digits_value, parse-decimal}
use Rattle.std.proofs.lemmas.Str.Parse.{numerals_by_value, tells_digits}
use Rattle.std.specs.Result.{result_ok}
use Rattle.std.specs.Str.{bytes_eq}
use Rattle.std.specs.Str.Parse.{AllDigits, ParsesUnsigned, IsNumeral, digits_value, without_leading_plus}
use Rattle.tool_base.specs.Words.{IsNumber, IsCountTo, CommandName, the_prepare, the_ask, the_answer, the_open, the_noise, the_local, the_serve, the_fetch, spelled_name, Said, args_of, InForm, FitNone}

first_digit : (n : ℕ) → n < 2 ^ 32 → 48 ≤ get_or (decimal n) 0 0
first_digit zero small = omega (arith, ap (λ b. get_or b 0 0) (decimal_digit 0 (omega arith)))
first_digit (suc n) small = omega (arith, first_decimal (suc n) (omega arith) (omega arith))

-- no number begins with a plus
pub plus_is_none : (bs : List ℕ) → get_or bs 0 0 ≡ 43 → (n : ℕ) → IsNumber bs n → ⊥
plus_is_none bs starts n is = omega (arith, starts, ap (λ b. get_or b 0 0) is.1, first_digit n is.0)

-- no number of more than one digit begins with a zero
pub zeros_are_none : (bs : List ℕ) → get_or bs 0 0 ≡ 48 → 1 < length bs → (n : ℕ) → IsNumber bs n → ⊥
zeros_are_none bs starts long zero is = omega (arith, long, ap length is.1, ap length (decimal_digit 0 (omega arith)))
zeros_are_none bs starts long (suc n) is = omega (arith, starts, ap (λ b. get_or b 0 0) is.1, first_decimal (suc n) (omega arith) (omega (arith, is.0)))

without_plus : (bs : List ℕ) → get_or bs 0 0 ≢ 43 → without_leading_plus bs ≡ bs
without_plus bs plus = ap (λ b. drop (cond b 1 0) bs) (ne_eqb (get_or bs 0 0) 43 plus)

not_parsed : {E : Type 0} (bs : List ℕ) (e : E) → ParsesUnsigned 32 10 bs (Err e) → (n : ℕ) → IsNumber bs n → ⊥
not_parsed bs e parses n is = let ok = parse-decimal 32 n bs (Err e) is.0 (omega (arith, is.0)) is.1 parses in cc

-- what `parse` reads without a plus and without leading zeros is a number in plain decimal
pub parsed_is : {E : Type 0} (bs : List ℕ) (r : Result ℕ E) → ParsesUnsigned 32 10 bs r → get_or bs 0 0 ≢ 43 → (get_or bs 0 0 ≡ 48 → length bs ≤ 1)
    → MatchOption (result_ok r) ((n : ℕ) → IsNumber bs n → ⊥) (λ n. IsNumber bs n)
parsed_is bs (Ok n) parses plus zeros =
    let same = without_plus bs plus in
    let read : (IsNumeral 10 bs × (digits_value 10 bs < 2 ^ 32)) × (n ≡ digits_value 10 bs) = subst (λ ds. (IsNumeral 10 ds × (digits_value 10 ds < 2 ^ 32)) × (n ≡ digits_value 10 ds)) same parses in
    let some = read.0.0.0 in
    (omega (arith, read.0.1, read.1), sym (decimal-digits_value (numerals_by_value (AllDigits 10) tells_digits) bs read.0.0.1 some (λ z. omega (arith, some, zeros z)) (omega (arith, read.0.1))) ∙ ap decimal (sym read.1))
parsed_is bs (Err e) parses plus zeros = not_parsed bs e parses

-- a word of a number that isn't from 1 to this one is none of those
pub not_counted : (most : ℕ) (word : List ℕ) (n : ℕ) → most < 2 ^ 32 → IsNumber word n → (1 ≤ n → n ≤ most → ⊥) → (k : ℕ) → IsCountTo most word k → ⊥
not_counted most word n small is out k counted =
    let same : k ≡ n = decimal_injective k n (omega (arith, small, counted.1)) (omega (arith, is.0)) (sym counted.2 ∙ is.1) in
    out (omega (arith, same, counted.0)) (omega (arith, same, counted.1))

-- ---- the words one by one

-- this word stands at a place, as an item that is it
pub word_at : {A : Type 0} (f : A → List ℕ) (xs : List A) (k : ℕ) {x : A} {word : List ℕ} → x ≡ get_or xs k x → word ≡ f x → k < length xs → word ≡ get_or (map f xs) k []
word_at f xs k {x = x} is value inside = value ∙ ap f is ∙ sym (get_or-map f xs k x [] inside)

-- the same, where the words are those that something asks for
pub asked_at : {A : Type 0} (f : A → List ℕ) (xs : List A) (k : ℕ) {x : A} {word : List ℕ} {words : List (List ℕ)} → x ≡ get_or xs k x → word ≡ f x → k < length xs → map f xs ≡ words
    → word ≡ get_or words k []
asked_at f xs k is value inside same = word_at f xs k is value inside ∙ ap (λ words. get_or words k []) same

-- the words from a place on are these
abbrev pub Stand : List (List ℕ) → ℕ → List (List ℕ) → Type 0
Stand words k [] = Unit {0}
Stand words k (word ∷ rest) = (word ≡ get_or words k []) × Stand words (suc k) rest

-- one word, and those behind it
infixr 10 ◌next◌
pub ◌next◌ : {A B : Type 0} → A → B → A × B
here next rest = (here, rest)

words_from : (words : List (List ℕ)) (k : ℕ) (these : List (List ℕ)) → length words ≡ k + length these → Stand words k these → drop k words ≡ these
words_from words k [] long stand = drop_all k words (omega (arith, long))
words_from words k (word ∷ rest) long stand =
    drop-cons words k [] (omega (arith, long)) ∙ (λ i. sym stand.0 i ∷ words_from words (suc k) rest (omega (arith, long)) stand.1 i)

-- as many words as these, and these stand there one by one
pub all_words : {A : Type 0} (f : A → List ℕ) (xs : List A) (these : List (List ℕ)) → length xs ≡ length these → Stand (map f xs) 0 these → map f xs ≡ these
all_words f xs these long stand = words_from (map f xs) 0 these (omega (arith, length-map xs f, long)) stand

-- the first word and those behind it
pub first_and_rest : {A : Type 0} (f : A → List ℕ) (xs : List A) {x : A} {word : List ℕ} → 1 ≤ length xs → x ≡ get_or xs 0 x → word ≡ f x
    → map f xs ≡ word ∷ map f (take (length xs - 1) (drop 1 xs))
first_and_rest f xs {x = x} some is value =
    ap (map f) (drop-cons xs 0 x (omega (arith, some))) ∙ (λ i. sym (value ∙ ap f is) i ∷ map f (sym (take_rest xs 1) i))

-- ---- the commands' names

-- the command of this name, if there is one among these
named_in : List CommandName → List ℕ → Option CommandName
named_in [] word = None
named_in (name ∷ names) word = cond (bytes_eq (spelled_name name) word) (Some name) (named_in names word)

-- the table, a row a command; it is checked by computing
named : List ℕ → Option CommandName
named = named_in (the_prepare ∷ the_ask ∷ the_answer ∷ the_open ∷ the_noise ∷ the_local ∷ the_serve ∷ the_fetch ∷ [])

named_again : (name : CommandName) → named (spelled_name name) ≡ Some name
unfolding named named_in
named_again the_prepare = refl
named_again the_ask = refl
named_again the_answer = refl
named_again the_open = refl
named_again the_noise = refl
named_again the_local = refl
named_again the_serve = refl
named_again the_fetch = refl

same_name : (a b : CommandName) → spelled_name a ≡ spelled_name b → a ≡ b
same_name a b same = let e : Some a ≡ Some b = sym (named_again a) ∙ ap named same ∙ named_again b in cc

-- words that begin with a command's name, where those behind it are those of nothing in form
pub none_in_form : (name : CommandName) {words : List (List ℕ)} {word : List ℕ} {args : List (List ℕ)} → words ≡ word ∷ args → word ≡ spelled_name name
    → ((said : Said name) → InForm name said → args ≡ args_of name said → ⊥) → FitNone words
none_in_form name {words = words} {args = args} begins is none asked form same =
    let name_same : asked.name ≡ name = same_name asked.name name (ap (λ ws. get_or ws 0 []) (sym same ∙ begins) ∙ is) in
    let rest : args ≡ args_of asked.name asked.said = ap (drop 1) (sym begins ∙ same) in
    subst (λ n. (said : Said n) → InForm n said → args ≡ args_of n said → ⊥) (sym name_same) none asked.said form rest

-- words that begin with no command's name
pub no_name : {words : List (List ℕ)} {word : List ℕ} {args : List (List ℕ)} → words ≡ word ∷ args → ((name : CommandName) → word ≡ spelled_name name → ⊥) → FitNone words
no_name begins other asked form same = other asked.name (ap (λ ws. get_or ws 0 []) (sym begins ∙ same))

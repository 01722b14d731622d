-- The rounds of expansion, worked out in place: each on the front of a list that has room for all.
use Rattle.std.proofs.Common.{◌≡◌, ℕ, ◌+◌, ◌*◌, ◌^◌, ◌<◌, ◌≤◌, List, [], ◌∷◌, ◌++◌, length, get_or, take, drop, replicate, All, map, refl, sym, ◌∙◌, ap, ap₂, subst, arith, append_assoc, length-append, length-take-le}
use Rattle.std.specs.List.{range_with_len}
use Rattle.std.proofs.lemmas.List.{same_lists, get_or-take, length-map, length_push, take_at, take_all, take-append-drop, take-append-le, drop_more, drop_all}
use Rattle.std.proofs.lemmas.List.Elements.{All-push, All-cons, All-nil}
use Rattle.std.proofs.lemmas.List.FromFn.{length-map-range_with_len}
use Rattle.negacyclic.proofs.Lists.{at_range}
use Rattle.negacyclic.proofs.Filled.{Filled, filled_all}
use Rattle.spiral_model.specs.Words.{Cipher, cipher_at}
use Rattle.spiral_model.specs.KeySwitching.{DigitKey}
use Rattle.spiral_model.specs.Expansion.{even_half, odd_half, expand_round, expanded}
use Rattle.regev_code.specs.Products.{HasShape}
use Rattle.regev_code.proofs.Products.{zeros_shape}
use Rattle.query_expand.proofs.RoundPowers.{twice}
use Rattle.query_expand.proofs.HalfRows.{each_place}

-- ---- one round

-- A list whose first n places were written one by one has these values in front.
filled_front : {A : Type 0} (f : ℕ → A) (old : List A) (n i : ℕ) (xs : List A) → n ≤ i → n ≤ length old → Filled f old i xs
    → take n xs ≡ map f (range_with_len 0 n)
filled_front f old n i xs past within so_far =
    let size : length (take n xs) ≡ n = length-take-le n xs (omega (arith, so_far.count)) in
    same_lists (take n xs) (map f (range_with_len 0 n)) (size ∙ sym (length-map-range_with_len f 0 n))
    (λ k d h.
    let below : k < n = omega arith in
    get_or-take n xs k d below ∙ so_far.done k d (omega arith) ∙ sym (at_range f n k d below))

-- all odd halves are written
pub odd_halves : (N j : ℕ) (key : DigitKey) (low old : List Cipher) (i : ℕ) (high : List Cipher) → length low ≤ i → length low ≤ length old
    → Filled (λ k. odd_half N j key (cipher_at low k)) old i high → take (length low) high ≡ map (odd_half N j key) low
odd_halves N j key low old i high past room so_far =
    filled_front (λ k. odd_half N j key (cipher_at low k)) old (length low) i high past room so_far ∙ each_place (odd_half N j key) [] low

-- all ciphertexts are their even halves
pub even_halves : (N j : ℕ) (key : DigitKey) (old : List Cipher) (i : ℕ) (ciphers : List Cipher) → length old ≤ i
    → Filled (λ k. even_half N j key (cipher_at old k)) old i ciphers → ciphers ≡ map (even_half N j key) old
even_halves N j key old i ciphers past so_far =
    filled_all (λ k. even_half N j key (cipher_at old k)) old i ciphers past so_far ∙ each_place (even_half N j key) [] old

-- The even halves, and behind them the odd ones, are the round.
pub round_is : (N j size : ℕ) (key : DigitKey) (ciphers low high even odd : List Cipher) → 2 * size ≤ length ciphers → low ≡ take size ciphers
    → take (length low) odd ≡ map (odd_half N j key) low → even ≡ map (even_half N j key) low
    → take (2 * size) (even ++ odd) ≡ expand_round N j key (take size ciphers)
unfolding expand_round
round_is N j size key ciphers low high even odd within front written kept =
    let count : length low ≡ size = ap length front ∙ length-take-le size ciphers (omega arith) in
    let evens : length even ≡ size = ap length kept ∙ length-map low (even_half N j key) ∙ count in
    let first : List Cipher = take (length low) odd in
    let odds : length first ≡ size = ap length written ∙ length-map low (odd_half N j key) ∙ count in
    let both : length (even ++ first) ≡ 2 * size = length-append even first ∙ omega arith in
    let parts : even ++ odd ≡ (even ++ first) ++ drop (length low) odd =
    ap (λ (xs : List Cipher). even ++ xs) (sym (take-append-drop (length low) odd)) ∙ sym (append_assoc even first (drop (length low) odd)) in
    ap (take (2 * size)) parts
    ∙ take_at (even ++ first) (drop (length low) odd) (2 * size) both
    ∙ ap₂ (λ (xs ys : List Cipher). xs ++ ys) kept written
    ∙ ap (λ (xs : List Cipher). map (even_half N j key) xs ++ map (odd_half N j key) xs) front

-- ---- all rounds

-- After i of the rounds `size` ciphertexts stand in front, and the further rounds on them give the expansion of the first.
pub record Expands (N first : ℕ) (keys : List DigitKey) (old : List Cipher) (i size round : ℕ) (ciphers : List Cipher) : Type 0 where
  pub within : i ≤ length keys
  pub doubled : size ≡ 2 ^ i
  pub counted : round ≡ first + i
  pub so_far : expanded N round (drop i keys) (take size ciphers) ≡ expanded N first keys (take 1 old)

expanded-more : (N j : ℕ) (key : DigitKey) (keys : List DigitKey) (ciphers : List Cipher)
    → expanded N (j + 1) keys (expand_round N j key ciphers) ≡ expanded N j (key ∷ keys) ciphers
unfolding expanded
expanded-more N j key keys ciphers = refl

expanded-none : (N j : ℕ) (ciphers : List Cipher) → expanded N j [] ciphers ≡ ciphers
unfolding expanded
expanded-none N j ciphers = refl

-- before the first
pub expands-none : (N first : ℕ) (keys : List DigitKey) (old : List Cipher) → Expands N first keys old 0 1 first old
expands-none N first keys old = record { within = omega arith; doubled = refl; counted = omega arith; so_far = refl }

-- one more
pub expands-more : (N first : ℕ) (keys : List DigitKey) (old : List Cipher) (i size round next : ℕ) (ciphers new : List Cipher) (key : DigitKey)
    → i < length keys → key ≡ get_or keys i key → next ≡ 2 * size → take (2 * size) new ≡ expand_round N round key (take size ciphers)
    → Expands N first keys old i size round ciphers → Expands N first keys old (i + 1) next (round + 1) new
expands-more N first keys old i size round next ciphers new key h item double stepped before =
    let rest : List DigitKey = drop (i + 1) keys in
    let counted : round ≡ first + i = before.counted in
    record {
      within = omega arith;
      doubled = double ∙ ap (λ (n : ℕ). 2 * n) before.doubled ∙ sym (twice i);
      counted = omega arith;
      so_far =
          ap (λ (n : ℕ). expanded N (round + 1) rest (take n new)) double
          ∙ ap (expanded N (round + 1) rest) stepped
          ∙ expanded-more N round key rest (take size ciphers)
          ∙ ap (λ (k : DigitKey). expanded N round (k ∷ rest) (take size ciphers)) item
          ∙ ap (λ (ks : List DigitKey). expanded N round ks (take size ciphers)) (sym (drop_more keys i key h))
          ∙ before.so_far;
    }

-- all of them
pub expands-all : (N first : ℕ) (keys : List DigitKey) (old : List Cipher) (i size round : ℕ) (ciphers : List Cipher) → length keys ≤ i
    → length ciphers ≡ 2 ^ length keys → Expands N first keys old i size round ciphers → ciphers ≡ expanded N first keys (take 1 old)
expands-all N first keys old i size round ciphers past count all =
    let within : i ≤ length keys = all.within in
    let end : i ≡ length keys = omega arith in
    let whole : size ≡ length ciphers = all.doubled ∙ ap (λ (k : ℕ). 2 ^ k) end ∙ sym count in
    sym (take_all size ciphers (omega arith))
    ∙ sym (expanded-none N round (take size ciphers))
    ∙ ap (λ (ks : List DigitKey). expanded N round ks (take size ciphers)) (sym (drop_all i keys past))
    ∙ all.so_far

-- ---- the list before the first round

-- so many ciphertexts of rows 0 and 1, of which c is the first
pub record StartsWith (N : ℕ) (c : Cipher) (count : ℕ) (ciphers : List Cipher) : Type 0 where
  pub first : take 1 ciphers ≡ c ∷ []
  pub many : length ciphers ≡ count + 1
  pub shapes : All (HasShape N 2) ciphers

-- c alone
pub starts-none : (N : ℕ) (c copy : Cipher) (none ciphers : List Cipher) → HasShape N 2 c → copy ≡ c → none ≡ [] → ciphers ≡ none ++ copy ∷ []
    → StartsWith N c 0 ciphers
starts-none N c copy none ciphers shape same empty is =
    let alone : ciphers ≡ c ∷ [] = is ∙ ap₂ (λ (xs : List Cipher) (x : Cipher). xs ++ x ∷ []) empty same in
    subst (StartsWith N c 0) (sym alone) (record { first = refl; many = refl; shapes = All-cons (HasShape N 2) c [] shape (All-nil (HasShape N 2)) })

-- zeros behind the others
pub starts-more : (N : ℕ) (c : Cipher) (count : ℕ) (ciphers new : List Cipher) (zeros : Cipher) → zeros ≡ replicate 2 (replicate {A = ℕ} N 0)
    → new ≡ ciphers ++ zeros ∷ [] → StartsWith N c count ciphers → StartsWith N c (count + 1) new
starts-more N c count ciphers new zeros are pushed before =
    let many : length ciphers ≡ count + 1 = before.many in
    subst (StartsWith N c (count + 1)) (sym pushed)
    (record {
      first = take-append-le 1 ciphers (zeros ∷ []) (omega arith) ∙ before.first;
      many = length_push ciphers zeros ∙ ap (λ (n : ℕ). n + 1) many;
      shapes = All-push (HasShape N 2) ciphers zeros before.shapes (zeros_shape N 2 zeros are);
    })

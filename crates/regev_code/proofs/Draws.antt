-- Runs of draws: each from where the one before ended.
use Rattle.std.proofs.Common.{◌≡◌, ℕ, suc, ◌+◌, ◌*◌, ◌<◌, ◌≤◌, List, [], ◌∷◌, ◌++◌, length, sym, ◌∙◌, ap, arith, append_assoc, append-nil, length-append, mul-le-mul_right}
use Rattle.spiral_model.specs.Words.{Poly, Cipher}
use Rattle.spiral_model.specs.Ciphertexts.{encrypted, encrypted_all, words_taken}
use Rattle.regev_code.specs.Seen.{Cursor}
use Rattle.regev_code.specs.Shapes.{taken}
use Rattle.regev_code.specs.Drawn.{Drawn}
use Rattle.regev_code.proofs.Runs.{encrypted_all-none, encrypted_all-one, encrypted_all-append}
use Rattle.regev_code.proofs.MessageLists.{AreLists}

-- ---- the place of a cursor

abbrev used_at : Cursor → ℕ → Cursor
used_at cursor n = record cursor { used = n }

-- nothing was taken
pub taken-none : (d : Cursor) (n : ℕ) → n ≡ 0 → d ≡ taken d n
taken-none d n none =
    let same : d.used ≡ d.used + n = omega arith in ap (used_at d) same

-- some words, and then further ones
pub taken-more : (d mid new : Cursor) (a b n : ℕ) → n ≡ a + b → mid ≡ taken d a → new ≡ taken mid b → new ≡ taken d n
taken-more d mid new a b n sum first second =
    let place : d.used + a + b ≡ d.used + n = omega arith in
    second ∙ ap (λ (x : Cursor). taken x b) first ∙ ap (used_at d) place

-- ---- what was drawn

-- no draw
pub drawn-none : (N m : ℕ) (secrets : List Poly) (messages : List (List Poly)) (at : Cursor) (ciphers : List Cipher) → messages ≡ []
    → Drawn N m secrets messages at at ciphers ciphers
drawn-none N m secrets messages at ciphers none = record {
  words = taken-none at (length messages * words_taken N m) (let e : length messages ≡ 0 = ap length none in rw e (omega arith));
  ciphers = sym (ap (λ (xs : List (List Poly)). ciphers ++ encrypted_all N at.words at.used secrets xs) none
      ∙ ap (λ (cs : List Cipher). ciphers ++ cs) (encrypted_all-none N at.words at.used secrets) ∙ append-nil ciphers);
}

-- one draw
pub drawn-one : (N m : ℕ) (secrets messages : List Poly) (cipher : Cipher) (from to : Cursor) (old new : List Cipher) → to ≡ taken from (words_taken N m)
    → cipher ≡ encrypted N from.words from.used secrets messages → new ≡ old ++ cipher ∷ [] → Drawn N m secrets (messages ∷ []) from to old new
drawn-one N m secrets messages cipher from to old new at is pushed = record {
  words = at ∙ ap (λ (n : ℕ). taken from n) (let e : words_taken N m ≡ 1 * words_taken N m = omega arith in e);
  ciphers = pushed ∙ ap (λ (cs : List Cipher). old ++ cs) (ap (λ (c : Cipher). c ∷ []) is ∙ sym (encrypted_all-one N from.words from.used secrets messages));
}

-- one run after another
pub drawn-more : (N m n : ℕ) (secrets : List Poly) (xs ys zs : List (List Poly)) (from mid to : Cursor) (old half new : List Cipher)
    → AreLists m n xs → zs ≡ xs ++ ys → Drawn N m secrets xs from mid old half → Drawn N m secrets ys mid to half new → Drawn N m secrets zs from to old new
drawn-more N m n secrets xs ys zs from mid to old half new are joined first second =
    let T = words_taken N m in
    let E = encrypted_all N from.words from.used secrets in
    let count : length zs ≡ length xs + length ys = ap length joined ∙ length-append xs ys in
    let sum : length zs * T ≡ length xs * T + length ys * T = rw count (omega arith) in
    let place = ap (λ (d : Cursor). encrypted_all N d.words d.used secrets ys) first.words in
    let whole = ap (λ (ms : List (List Poly)). E ms) joined ∙ encrypted_all-append N from.words from.used secrets m xs ys are.each in
    record {
      words = taken-more from mid to (length xs * T) (length ys * T) (length zs * T) sum first.words second.words;
      ciphers = second.ciphers ∙ ap (λ (cs : List Cipher). cs ++ encrypted_all N mid.words mid.used secrets ys) first.ciphers
          ∙ append_assoc old (E xs) (encrypted_all N mid.words mid.used secrets ys)
          ∙ ap (λ (cs : List Cipher). old ++ cs) (ap (λ (cs : List Cipher). E xs ++ cs) place ∙ sym whole);
    }

-- Where `each` words are taken n times, they are there for draw k.
pub room : (from mid : Cursor) (done k n each : ℕ) → mid ≡ taken from done → done ≡ k * each → k < n → from.used + n * each ≤ length from.words
    → mid.used + each ≤ length mid.words
room from mid done k n each at is h enough =
    let used = ap (λ (d : Cursor). d.used) at in
    let words = ap (λ (d : Cursor). length d.words) at in
    let most : suc k * each ≤ n * each = mul-le-mul_right each h in
    omega (arith, used, words, most, is, enough)

-- the same for what is left
pub room_behind : (from mid : Cursor) (done rest all : ℕ) → mid ≡ taken from done → done + rest ≤ all → from.used + all ≤ length from.words
    → mid.used + rest ≤ length mid.words
room_behind from mid done rest all at within enough =
    let used = ap (λ (d : Cursor). d.used) at in
    let words = ap (λ (d : Cursor). length d.words) at in
    omega (arith, used, words, within, enough)

-- how many words k draws took, of `count` ciphertexts each
pub done_is : (L k count T : ℕ) → L ≡ k * count → L * T ≡ k * (count * T)
done_is L k count T is = rw is (omega arith)

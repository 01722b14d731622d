-- Encryptions one after the other.
use Rattle.std.proofs.Common.{◌≡◌, ℕ, suc, ◌+◌, ◌*◌, List, [], ◌∷◌, ◌++◌, length, All, refl, ◌∙◌, ap, arith}
use Rattle.std.proofs.lemmas.List.Elements.{All-head, All-tail}
use Rattle.spiral_model.specs.Ciphertexts.{encrypted, encrypted_all, words_taken}

pub encrypted_all-none : (N : ℕ) (words : List ℕ) (start : ℕ) (secrets : List (List ℕ)) → encrypted_all N words start secrets [] ≡ []
unfolding encrypted_all
encrypted_all-none N words start secrets = refl

pub encrypted_all-one : (N : ℕ) (words : List ℕ) (start : ℕ) (secrets messages : List (List ℕ))
    → encrypted_all N words start secrets (messages ∷ []) ≡ encrypted N words start secrets messages ∷ []
unfolding encrypted_all
encrypted_all-one N words start secrets messages = refl

behind : (start first T count : ℕ) → first ≡ T → start + first + count * T ≡ start + suc count * T
behind start first T count same = omega arith

-- Encryptions of m messages each, and further ones behind them.
pub encrypted_all-append : (N : ℕ) (words : List ℕ) (start : ℕ) (secrets : List (List ℕ)) (m : ℕ) (xs ys : List (List (List ℕ))) → All (λ x. length x ≡ m) xs
    → encrypted_all N words start secrets (xs ++ ys)
    ≡ encrypted_all N words start secrets xs ++ encrypted_all N words (start + length xs * words_taken N m) secrets ys
unfolding encrypted_all
encrypted_all-append N words start secrets m [] ys all =
    let place : start ≡ start + 0 * words_taken N m = omega arith in
    ap (λ (p : ℕ). encrypted_all N words p secrets ys) place
encrypted_all-append N words start secrets m (x ∷ xs) ys all =
    let T = words_taken N m in
    let count : length x ≡ m = All-head (λ (x : List (List ℕ)). length x ≡ m) x xs all in
    let rest = All-tail (λ (x : List (List ℕ)). length x ≡ m) x xs all in
    let next : words_taken N (length x) ≡ T = ap (λ (n : ℕ). words_taken N n) count in
    let step = encrypted_all-append N words (start + words_taken N (length x)) secrets m xs ys rest in
    let place : start + words_taken N (length x) + length xs * T ≡ start + length (x ∷ xs) * T = behind start (words_taken N (length x)) T (length xs) next in
    ap (λ (cs : List (List (List ℕ))). encrypted N words start secrets x ∷ cs)
    (step ∙ ap (λ (p : ℕ). encrypted_all N words (start + words_taken N (length x)) secrets xs ++ encrypted_all N words p secrets ys) place)

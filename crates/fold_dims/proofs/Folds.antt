-- Lists of ciphertexts that are halved step by step.
use Rattle.std.proofs.Common.{◌≡◌, ℕ, suc, ◌+◌, ◌-◌, ◌*◌, ◌/◌, ◌^◌, ◌<◌, ◌≤◌, List, [], ◌∷◌, ◌++◌, length, take, drop, map, refl, sym, ◌∙◌, ap, ap₂, arith, length-take-le}
use Rattle.std.specs.List.{range_with_len}
use Rattle.std.proofs.Math.Nat.{pow-succ'}
use Rattle.std.proofs.Math.Seq.{take-append_seam}
use Rattle.std.proofs.lemmas.List.{get_or-take, get_or-drop, drop_more, drop_all}
use Rattle.std.proofs.lemmas.List.FromFn.{length-map-range_with_len}
use Rattle.negacyclic.proofs.Lists.{same_range}
use Rattle.spiral_model.specs.Words.{Cipher, Gsw, cipher_at, gsw_at}
use Rattle.spiral_model.specs.Gadgets.{selected}
use Rattle.spiral_model.specs.Answering.{fold_pair, fold_step, folded}

-- ---- one step

-- a ciphertext selected against its partner
abbrev pub selected_at : ℕ → ℕ → Gsw → List Cipher → List Cipher → ℕ → Cipher
selected_at N w gsw low high x = selected N w gsw (cipher_at low x) (cipher_at high x)

half_of : (half n : ℕ) → n ≡ 2 * half → n / 2 ≡ half
half_of half n e = omega arith

-- The lower half after the selections against the upper half is the step on both.
pub step_is : (N w half : ℕ) (gsw : Gsw) (ciphers low high lowered : List Cipher) → 2 * half ≤ length ciphers → low ≡ take half ciphers → high ≡ drop half ciphers
    → lowered ≡ map (selected_at N w gsw low high) (range_with_len 0 (length low))
    → take half (lowered ++ high) ≡ fold_step N w gsw (take (2 * half) ciphers)
unfolding fold_step fold_pair
step_is N w half gsw ciphers low high lowered within front back chosen =
    let whole : List Cipher = take (2 * half) ciphers in
    let count : length low ≡ half = ap length front ∙ length-take-le half ciphers (omega arith) in
    let long : length lowered ≡ half = ap length chosen ∙ length-map-range_with_len (selected_at N w gsw low high) 0 (length low) ∙ count in
    let both : length whole ≡ 2 * half = length-take-le (2 * half) ciphers within in
    let middle : length whole / 2 ≡ half = half_of half (length whole) both in
    ap (λ (n : ℕ). take n (lowered ++ high)) (sym long)
    ∙ take-append_seam lowered high
    ∙ chosen
    ∙ ap (λ (n : ℕ). map (selected_at N w gsw low high) (range_with_len 0 n)) count
    ∙ same_range (selected_at N w gsw low high) (λ x. selected N w gsw (cipher_at whole x) (cipher_at whole (x + half))) half
    (λ x h.
    let swap : half + x ≡ x + half = omega arith in
    let here : cipher_at low x ≡ cipher_at whole x =
    ap (λ (cs : List Cipher). cipher_at cs x) front ∙ get_or-take half ciphers x [] h ∙ sym (get_or-take (2 * half) ciphers x [] (omega arith)) in
    let there : cipher_at high x ≡ cipher_at whole (x + half) =
    ap (λ (cs : List Cipher). cipher_at cs x) back
    ∙ get_or-drop half ciphers x []
    ∙ ap (λ (k : ℕ). cipher_at ciphers k) swap
    ∙ sym (get_or-take (2 * half) ciphers (x + half) [] (omega arith)) in
    ap₂ (λ (c d : Cipher). selected N w gsw c d) here there)
    ∙ ap (λ (n : ℕ). map (λ x. selected N w gsw (cipher_at whole x) (cipher_at whole (x + n))) (range_with_len 0 n)) (sym middle)

-- ---- all steps

-- After i of the steps, `size` ciphertexts are left, and the further steps on them give the fold of all.
pub record Folds (N w count : ℕ) (gsws : List Gsw) (old : List Cipher) (i size : ℕ) (ciphers : List Cipher) : Type 0 where
  pub halved : size ≡ 2 ^ (length gsws - i) * count
  pub so_far : folded N w (drop i gsws) (take size ciphers) ≡ folded N w gsws old

folded-more : (N w : ℕ) (gsw : Gsw) (gsws : List Gsw) (ciphers : List Cipher) → folded N w gsws (fold_step N w gsw ciphers) ≡ folded N w (gsw ∷ gsws) ciphers
unfolding folded
folded-more N w gsw gsws ciphers = refl

folded-none : (N w : ℕ) (ciphers : List Cipher) → folded N w [] ciphers ≡ ciphers
unfolding folded
folded-none N w ciphers = refl

-- one more
pub folds-more : (N w count : ℕ) (gsws : List Gsw) (old : List Cipher) (i size half : ℕ) (ciphers new : List Cipher) (gsw : Gsw) → i < length gsws
    → gsw ≡ gsw_at gsws i → half ≡ size / 2 → take half new ≡ fold_step N w gsw (take (2 * half) ciphers) → Folds N w count gsws old i size ciphers
    → Folds N w count gsws old (i + 1) half new
folds-more N w count gsws old i size half ciphers new gsw h item split stepped so_far =
    let rest : ℕ = 2 ^ (length gsws - (i + 1)) * count in
    let left : length gsws - i ≡ suc (length gsws - (i + 1)) = omega arith in
    let power : 2 ^ (length gsws - i) ≡ 2 * 2 ^ (length gsws - (i + 1)) = ap (λ (k : ℕ). 2 ^ k) left ∙ pow-succ' 2 (length gsws - (i + 1)) in
    let doubled : 2 * 2 ^ (length gsws - (i + 1)) * count ≡ 2 * rest = omega arith in
    let even : size ≡ 2 * rest = so_far.halved ∙ ap (λ (p : ℕ). p * count) power ∙ doubled in
    let halved : half ≡ rest = split ∙ half_of rest size even in
    let both : 2 * half ≡ size = ap (λ (n : ℕ). 2 * n) halved ∙ sym even in
    record {
      halved = halved;
      so_far =
          ap (folded N w (drop (i + 1) gsws)) stepped
          ∙ folded-more N w gsw (drop (i + 1) gsws) (take (2 * half) ciphers)
          ∙ ap (λ (g : Gsw). folded N w (g ∷ drop (i + 1) gsws) (take (2 * half) ciphers)) item
          ∙ ap (λ (gs : List Gsw). folded N w gs (take (2 * half) ciphers)) (sym (drop_more gsws i [] h))
          ∙ ap (λ (n : ℕ). folded N w (drop i gsws) (take n ciphers)) both
          ∙ so_far.so_far;
    }

-- all of them
pub folds-all : (N w count : ℕ) (gsws : List Gsw) (old : List Cipher) (i size : ℕ) (ciphers : List Cipher) → length gsws ≤ i
    → Folds N w count gsws old i size ciphers → take count ciphers ≡ folded N w gsws old
folds-all N w count gsws old i size ciphers past so_far =
    let none : length gsws - i ≡ 0 = omega arith in
    let one : 2 ^ 0 * count ≡ count = omega arith in
    let left : size ≡ count = so_far.halved ∙ ap (λ (k : ℕ). 2 ^ k * count) none ∙ one in
    ap (λ (n : ℕ). take n ciphers) (sym left)
    ∙ sym (folded-none N w (take size ciphers))
    ∙ ap (λ (gs : List Gsw). folded N w gs (take size ciphers)) (sym (drop_all i gsws past))
    ∙ so_far.so_far

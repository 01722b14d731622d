-- The messages of an automorphism key, and its ciphertexts one after the other.
use Rattle.std.proofs.Common.{◌≡◌, ℕ, ◌+◌, ◌*◌, ◌^◌, pos, neg_ℤ, List, [], ◌∷◌, length, map, refl, ap, subst, arith}
use Rattle.std.specs.List.{range_with_len}
use Rattle.negacyclic.specs.Ring.{ring_scale, tau}
use Rattle.spiral_sets.specs.Sets.{q, digit_count}
use Rattle.spiral_model.specs.Words.{Poly, Cipher}
use Rattle.spiral_model.specs.Dealing.{auto_message, auto_messages}
use Rattle.regev_code.specs.Seen.{Cursor}
use Rattle.regev_code.specs.Drawn.{Drawn}
use Rattle.regev_code.proofs.Draws.{drawn-none}
use Rattle.regev_code.proofs.MessageLists.{AreLists}
use Rattle.auto_switch.proofs.Appended.{lists-of, each-more}

-- a message is one polynomial
pub length-auto_message : (N g w : ℕ) (s : Poly) (k : ℕ) → length (auto_message N g w s k) ≡ 1
unfolding auto_message
length-auto_message N g w s k = refl

-- there is one for each digit
pub auto-lists : (N g w : ℕ) (s : Poly) → AreLists 1 (digit_count w) (auto_messages N g w s)
unfolding auto_messages
auto-lists N g w s = lists-of 1 0 (digit_count w) (auto_message N g w s) (length-auto_message N g w s)

-- a message from the image of s
message_is : (N g w k : ℕ) (s image : Poly) → image ≡ tau q N g s → ring_scale q N (neg_ℤ (pos (2 ^ (w * k)))) image ∷ [] ≡ auto_message N g w s k
unfolding auto_message
message_is N g w k s image is = ap (λ (a : Poly). ring_scale q N (neg_ℤ (pos (2 ^ (w * k)))) a ∷ []) is

-- no digit, with a cursor that is where the first one begins
pub begun : (N g w : ℕ) (s : Poly) (secrets : List Poly) (from ahead : Cursor) (ciphers : List Cipher) → ahead ≡ from → ciphers ≡ []
    → Drawn N 1 secrets (map (auto_message N g w s) (range_with_len 0 0)) from ahead [] ciphers
begun N g w s secrets from ahead ciphers same none = rw (same, none) (drawn-none N 1 secrets _ from [] refl)

-- one more digit
pub digits-more : (N g w k : ℕ) (s image : Poly) (secrets : List Poly) (from mid to : Cursor) (old half new : List Cipher) → image ≡ tau q N g s
    → Drawn N 1 secrets (map (auto_message N g w s) (range_with_len 0 k)) from mid old half
    → Drawn N 1 secrets ((ring_scale q N (neg_ℤ (pos (2 ^ (w * k)))) image ∷ []) ∷ []) mid to half new
    → Drawn N 1 secrets (map (auto_message N g w s) (range_with_len 0 (k + 1))) from to old new
digits-more N g w k s image secrets from mid to old half new is so_far one =
    let here : (ring_scale q N (neg_ℤ (pos (2 ^ (w * k)))) image ∷ []) ∷ [] ≡ auto_message N g w s k ∷ [] =
    ap (λ (m : List Poly). m ∷ []) (message_is N g w k s image is) in
    each-more N 1 0 k k secrets (auto_message N g w s) from mid to old half new (omega arith) (length-auto_message N g w s) so_far
    (subst (λ (ms : List (List Poly)). Drawn N 1 secrets ms mid to half new) here one)

-- all digits, with a cursor that is where the last one ended
pub digits-all : (N g w k : ℕ) (s : Poly) (secrets : List Poly) (from ahead to : Cursor) (new : List Cipher) → k ≡ digit_count w → to ≡ ahead
    → Drawn N 1 secrets (map (auto_message N g w s) (range_with_len 0 k)) from ahead [] new → Drawn N 1 secrets (auto_messages N g w s) from to [] new
unfolding auto_messages
digits-all N g w k s secrets from ahead to new all same so_far =
    rw same (subst (λ (n : ℕ). Drawn N 1 secrets (map (auto_message N g w s) (range_with_len 0 n)) from ahead [] new) all so_far)

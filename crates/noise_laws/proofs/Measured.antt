-- What measured noise gives: the phases of rows of ciphertexts as functions of the place, what they carry, and the messages of lists that
-- are read at one row.
use Rattle.std.proofs.Common.{◌≡◌, ◌≢◌, ℕ, ◌+◌, ◌<◌, ◌≤◌, Bool, true, false, ◌==◌, if◌then◌else◌, ℤ, pos, ◌*ℤ◌, List, [], length, get_or, map, All, sym, ◌∙◌, ap, subst, subst₂, arith, lit<, zero-le, inl, inr}
use Rattle.std.specs.List.{range_with_len}
use Rattle.std.proofs.lemmas.Bool.{cases_lt}
use Rattle.std.proofs.lemmas.List.{get_or_past}
use Rattle.std.proofs.lemmas.List.Elements.{All-get_or}
use Rattle.std.proofs.lemmas.List.FromFn.{get_or-map-range_with_len}
use Rattle.negacyclic.specs.Sums.{total}
use Rattle.negacyclic.specs.Ring.{product_at}
use Rattle.negacyclic.proofs.Integers.{mul-zero_ℤ, mul-one_ℤ, zero-mul_ℤ}
use Rattle.negacyclic.proofs.Sums.{total_one}
use Rattle.negacyclic.proofs.Product.{product_at-scale, product_at-comm, product_at-one}
use Rattle.negacyclic.proofs.Stands.{Follows, stands_reduced, stands_equal}
use Rattle.negacyclic.proofs.Phases.{phase_at, stands_phase, Carries, Noisy, carries_phase, carries_most, carries_near, noisy_measured, small_from_carries}
use Rattle.spiral_sets.specs.declared.param_set.ParamSet.{ParamSet}
use Rattle.spiral_sets.specs.Sets.{q}
use Rattle.spiral_model.specs.Words.{Poly, Cipher, poly_of, row_of}
use Rattle.spiral_model.specs.Ciphertexts.{phase, constant}
use Rattle.spiral_model.specs.Noise.{noise}
use Rattle.noise_laws.specs.Laws.{Near}

-- the modulus is above 0
pub q_some : 0 < q
unfolding q
q_some = lit< tt

-- ---- phases of ciphertexts

-- The phase of row i of a ciphertext as a function of the place.
abbrev pub row_phase : ℕ → Poly → Cipher → ℕ → ℕ → ℤ
row_phase N s cipher i = phase_at N s (row_of cipher 0) (row_of cipher i)

-- What row i of a ciphertext carries.
abbrev pub RowCarries : ℕ → Poly → Cipher → ℕ → (ℕ → ℤ) → ℕ → Type 0
RowCarries N s cipher i f m = Carries q N s (row_of cipher 0) (row_of cipher i) f m

-- The phase of row i of one ciphertext is that of another, within m.
abbrev pub Keeps : ℕ → Poly → ℕ → ℕ → Cipher → Cipher → Type 0
Keeps N s i m c d = RowCarries N s c i (row_phase N s d i) m

-- the polynomial follows the function
pub phase_row : (N : ℕ) (s : Poly) (cipher : Cipher) (i : ℕ) → Follows q N (phase N s cipher i) (row_phase N s cipher i)
unfolding phase
phase_row N s cipher i = (stands_phase N q_some s (row_of cipher 0) (row_of cipher i)).follows

-- each ciphertext and itself
pub keeps_itself : (N : ℕ) (s : Poly) (i m : ℕ) (c : Cipher) → Keeps N s i m c c
keeps_itself N s i m c = carries_most zero-le (carries_phase (row_of c 0) (row_of c i))

-- one after the other
pub keeps_then : {N m n : ℕ} {s : Poly} (i : ℕ) (c d e : Cipher) → Keeps N s i m c d → Keeps N s i n d e → Keeps N s i (m + n) c e
keeps_then i c d e h l = carries_near h l.place

-- What a row carries of equal polynomials.
pub carries_rows : {N m : ℕ} {s a b c d : Poly} {f : ℕ → ℤ} → a ≡ c → b ≡ d → Carries q N s c d f m → Carries q N s a b f m
carries_rows {N} {m} {s} {a} {b} {c} {d} {f} e g h = subst₂ (λ (x y : Poly). Carries q N s x y f m) (sym e) (sym g) h

-- A phase that carries the message of a polynomial within m is near the polynomial.
pub near_carried : (set : ParamSet) (s : Poly) (cipher : Cipher) (i m : ℕ) (message : Poly) (f : ℕ → ℤ) → RowCarries set.degree s cipher i f m
    → Follows q set.degree message f → Near set m (phase set.degree s cipher i) message
unfolding phase
near_carried set s cipher i m message f carries follows = small_from_carries q_some carries follows

-- Ciphertexts of which one keeps the phase of the other have near phases.
pub near_kept : (set : ParamSet) (s : Poly) (i m : ℕ) (c d : Cipher) → Keeps set.degree s i m c d → Near set m (phase set.degree s c i) (phase set.degree s d i)
near_kept set s i m c d keeps = near_carried set s c i m (phase set.degree s d i) (row_phase set.degree s d i) keeps (phase_row set.degree s d i)

-- ---- messages

-- 1 at place 0, else 0
abbrev pub one_at : ℕ → ℤ
one_at k = if k == 0 then pos 1 else pos 0

constant_place : (b : Bool) (z : ℤ) → (if b then z else pos 0) ≡ z *ℤ (if b then pos 1 else pos 0)
constant_place true z = sym (mul-one_ℤ z)
constant_place false z = sym (mul-zero_ℤ z)

-- what a number as a polynomial follows
pub constant_follows : (N : ℕ) (z : ℤ) → Follows q N (constant N z) (λ k. z *ℤ one_at k)
unfolding constant
constant_follows N z =
    (stands_equal (stands_reduced N (λ k. if k == 0 then z else pos 0) q_some) (λ k h. constant_place (k == 0) z)).follows

-- and the product with it
pub product_at-number : (N : ℕ) (a : ℕ → ℤ) (z : ℤ) (k : ℕ) → k < N → product_at N a (λ j. z *ℤ one_at j) k ≡ z *ℤ a k
product_at-number N a z k h =
    product_at-scale N a one_at z k ∙ ap (λ (y : ℤ). z *ℤ y) (product_at-comm N a one_at k ∙ product_at-one N a k h)

-- the message of row `row` + 1 in a list of those of rows 1 to m
pub message_at : (f : ℕ → Poly) (m row : ℕ) → row < m → poly_of (map f (range_with_len 1 m)) row ≡ f (row + 1)
message_at f m row h = get_or-map-range_with_len f 1 m row (row + 1) [] h (omega arith)

-- The noise that is measured of a ciphertext is that of its row.
pub noisy_row : (N : ℕ) (secrets : List Poly) (cipher : Cipher) (messages : List Poly) (row : ℕ) (f : ℕ → ℤ) → Follows q N (poly_of messages row) f
    → Noisy q N (poly_of secrets row) (row_of cipher 0) (row_of cipher (row + 1)) (noise N secrets cipher messages row) f
unfolding noise phase
noisy_row N secrets cipher messages row f follows = noisy_measured q_some follows

-- A sum in which each term but that of place j is chosen away.
pub total_chosen : (n j : ℕ) (z : ℤ) (test : ℕ → Bool) (w : ℕ → ℤ) → j < n → test j ≡ true → ((i : ℕ) → i < n → i ≢ j → test i ≡ false)
    → total n (λ i. (if test i then z else pos 0) *ℤ w i) ≡ z *ℤ w j
total_chosen n j z test w h this others =
    total_one n (λ i. (if test i then z else pos 0) *ℤ w i) j h
    (λ i below ne. ap (λ (b : Bool). (if b then z else pos 0) *ℤ w i) (others i below ne) ∙ zero-mul_ℤ (w i))
    ∙ ap (λ (b : Bool). (if b then z else pos 0) *ℤ w j) this

-- ---- lists

-- What holds of all elements and of what stands in for those that aren't there holds of what is read at any place.
pub all_read : {A : Type 0} (P : A → Type 0) (xs : List A) (i : ℕ) (d : A) → All P xs → P d → P (get_or xs i d)
all_read P xs i d all none =
    elim (cases_lt i (length xs)) [
      | inl h ↦ All-get_or P xs i d h all
      | inr past ↦ subst P (sym (get_or_past xs i d past)) none
    ]

-- residues below a larger number
pub all_below : (m n : ℕ) (xs : List ℕ) → m ≤ n → All (λ x. x < m) xs → All (λ x. x < n) xs
all_below m n xs most all k d h = let small : get_or xs k d < m = all k d h in omega arith

-- The numbers of the polynomial that an expanded query encrypts, as the code works them out, and its one ciphertext.
use Rattle.std.proofs.Common.{◌≡◌, ◌≢◌, ℕ, suc, ◌+◌, ◌*◌, ◌/◌, ◌%◌, ◌^◌, ◌<◌, ◌≤◌, ◌==◌, nat_lt, if◌then◌else◌, Bool, true, false, pos, List, [], ◌∷◌, ◌++◌, length, All, refl, sym, ◌∙◌, ap, subst, arith, eq-eqb, ne_eqb, lt-ltb, le-ltb}
use Rattle.std.proofs.Math.Nat.{mul_assoc, mul_comm, zero-mul, zero-mod, pow-zero, pow-suc, mod-eq_of_lt}
use Rattle.std.proofs.lemmas.Nat.{mul-mod_first}
use Rattle.std.proofs.lemmas.List.Elements.{All-nil, All-cons, All-same}
use Rattle.negacyclic.specs.Residues.{residue}
use Rattle.negacyclic.specs.Ring.{reduced}
use Rattle.negacyclic.proofs.Residues.{residue_of_residue}
use Rattle.negacyclic.proofs.Stands.{length-reduced}
use Rattle.spiral_sets.specs.declared.param_set.ParamSet.{ParamSet}
use Rattle.spiral_sets.specs.Sets.{IsSet, q, delta, digit_count, rho}
use Rattle.spiral_sets.specs.Counts.{ciphertext_count, query_ciphertexts, words_of}
use Rattle.spiral_model.specs.Words.{Poly, Cipher}
use Rattle.spiral_model.specs.Ciphertexts.{encrypted, encrypted_all, words_taken, IsCipher}
use Rattle.spiral_model.specs.Queries.{first_place, selection_bit, halved, selection_number, query_number, query_poly}
use Rattle.spiral_model.specs.Bodies.{IsQuery, query_rows}
use Rattle.pir_client.proofs.QueryShapes.{length-encrypted_all, all-ciphers}

-- ---- halving modulo q

no_power : (x h : ℕ) → x * h ^ 0 ≡ x
no_power x h =
    let once : x * 1 ≡ x = omega arith in ap (λ (n : ℕ). x * n) (pow-zero h) ∙ once

one_power : (x h e : ℕ) → x * h ^ e * h ≡ x * h ^ (e + 1)
one_power x h e =
    let next : suc e ≡ e + 1 = omega arith in
    mul_assoc x (h ^ e) h ∙ ap (λ (n : ℕ). x * n) (sym (pow-suc h e) ∙ ap (λ (n : ℕ). h ^ n) next)

-- not yet
pub halved-none : (x : ℕ) → x < q → x ≡ halved 0 x
halved-none x below = sym (ap (λ (n : ℕ). n % q) (no_power x ((q + 1) / 2)) ∙ mod-eq_of_lt below)

-- once more
pub halved-more : (e x y z : ℕ) → y ≡ halved e x → z ≡ y * ((q + 1) / 2) % q → z ≡ halved (e + 1) x
halved-more e x y z so_far once =
    let h : ℕ = (q + 1) / 2 in
    once ∙ ap (λ (n : ℕ). n * h % q) so_far ∙ mul-mod_first (x * h ^ e) h q ∙ ap (λ (n : ℕ). n % q) (one_power x h e)

-- 0 stays 0,
halved-zero : (e : ℕ) → halved e 0 ≡ 0
halved-zero e = ap (λ (n : ℕ). n % q) (zero-mul (((q + 1) / 2) ^ e)) ∙ zero-mod q

-- so that a number may be halved where it isn't there
halved-chosen : (e : ℕ) (b : Bool) (x : ℕ) → halved e (if b then x else 0) ≡ (if b then halved e x else 0)
halved-chosen e true x = refl
halved-chosen e false x = halved-zero e

-- ---- the numbers

-- the selection side's, with the digits of the selections,
pub selection_there : (set : ParamSet) (index x t bit power : ℕ) → t ≡ digit_count set.w_gsw → x / t < set.nu2 → bit ≡ selection_bit set index (x / t)
    → power ≡ bit * 2 ^ (set.w_gsw * (x % t)) → power ≡ selection_number set index x
selection_there set index x t bit power digits within asked worked =
    let there : ℕ → ℕ = λ d. 2 ^ (set.w_gsw * (x % d)) * selection_bit set index (x / d) in
    let all : ℕ → ℕ = λ d. if nat_lt (x / d) set.nu2 then there d else 0 in
    worked ∙ ap (λ (b : ℕ). b * 2 ^ (set.w_gsw * (x % t))) asked ∙ mul_comm (selection_bit set index (x / t)) (2 ^ (set.w_gsw * (x % t)))
    ∙ ap (λ (b : Bool). if b then there t else 0) (sym (lt-ltb (x / t) set.nu2 within)) ∙ ap all digits

-- and behind them
pub selection_behind : (set : ParamSet) (index x t : ℕ) → t ≡ digit_count set.w_gsw → set.nu2 ≤ x / t → 0 ≡ selection_number set index x
selection_behind set index x t digits past =
    let there : ℕ → ℕ = λ d. 2 ^ (set.w_gsw * (x % d)) * selection_bit set index (x / d) in
    let all : ℕ → ℕ = λ d. if nat_lt (x / d) set.nu2 then there d else 0 in
    ap (λ (b : Bool). if b then there t else 0) (sym (le-ltb (x / t) set.nu2 past)) ∙ ap all digits

-- the two sides of a place
abbrev side : ParamSet → ℕ → ℕ → Bool → ℕ
side set index x even =
    if even then (if x == first_place set index then halved (1 + set.nu1) (delta set) else 0) else halved (1 + rho set) (selection_number set index x)

-- The number of an even place,
pub first_side : (set : ParamSet) (index k value number : ℕ) → k % 2 ≡ 0 → value ≡ (if k / 2 == first_place set index then delta set else 0)
    → number ≡ halved (1 + set.nu1) value → number ≡ query_number set index k
unfolding query_number
first_side set index k value number even asked worked =
    worked ∙ ap (λ (x : ℕ). halved (1 + set.nu1) x) asked ∙ halved-chosen (1 + set.nu1) (k / 2 == first_place set index) (delta set)
    ∙ ap (side set index (k / 2)) (sym (eq-eqb (k % 2) 0 even))

-- and of an odd one.
pub selection_side : (set : ParamSet) (index k value number : ℕ) → k % 2 ≢ 0 → value ≡ selection_number set index (k / 2)
    → number ≡ halved (1 + rho set) value → number ≡ query_number set index k
unfolding query_number
selection_side set index k value number odd given worked =
    worked ∙ ap (λ (x : ℕ). halved (1 + rho set) x) given ∙ ap (side set index (k / 2)) (sym (ne_eqb (k % 2) 0 odd))

-- ---- the polynomial

-- a number below q is its own residue
pub own_residue : (value number : ℕ) → value < q → value ≡ number → value ≡ residue q (pos number)
own_residue value number below is = is ∙ sym (residue_of_residue (subst (λ (n : ℕ). n < q) is below))

-- all places
pub query_poly-is : (set : ParamSet) (index : ℕ) (a : Poly) → a ≡ reduced q set.degree (λ k. pos (query_number set index k)) → a ≡ query_poly set index
unfolding query_poly
query_poly-is set index a is = is

pub length-query_poly : (set : ParamSet) (index : ℕ) → length (query_poly set index) ≡ set.degree
unfolding query_poly
length-query_poly set index = length-reduced q set.degree (λ k. pos (query_number set index k))

-- ---- the ciphertext

-- how many words it takes
pub one_words : (set : ParamSet) → set.direct ≡ false → words_of set (query_ciphertexts set) ≡ words_taken set.degree 1
one_words set expands = rw expands (omega arith)

one_cipher : (set : ParamSet) → set.direct ≡ false → ciphertext_count (query_ciphertexts set) ≡ 1
one_cipher set expands = rw expands (omega arith)

one_row : (set : ParamSet) → set.direct ≡ false → query_rows set ≡ 1
one_row set expands = rw expands refl

-- its one message, as the code lists it
pub one_message : (set : ParamSet) (index : ℕ) (read messages empty : List Poly) (a : Poly) → read ≡ messages → messages ≡ empty ++ a ∷ [] → empty ≡ []
    → a ≡ query_poly set index
    → read ≡ query_poly set index ∷ []
one_message set index read messages empty a same pushed none is =
    same ∙ pushed ∙ ap (λ (ms : List Poly). ms ++ a ∷ []) none ∙ ap (λ (b : Poly). b ∷ []) is

-- as the code draws it
pub one_drawn : (N degree : ℕ) (words : List ℕ) (start : ℕ) (secrets : ℕ → List Poly) (worked messages : List Poly) (cipher : Cipher) (ciphers : List Cipher)
    → N ≡ degree
    → worked ≡ messages → cipher ≡ encrypted N words start (secrets N) worked → ciphers ≡ cipher ∷ []
    → ciphers ≡ encrypted_all degree words start (secrets N) (messages ∷ [])
unfolding encrypted_all
one_drawn N degree words start secrets worked messages cipher ciphers same is drawn pushed =
    pushed ∙ ap (λ (c : Cipher). c ∷ []) (drawn ∙ ap (encrypted N words start (secrets N)) is
    ∙ ap (λ (n : ℕ). encrypted n words start (secrets N) messages) same)

-- One encryption of one message is the query of a set that expands.
pub one-shape : (set : ParamSet) (words : List ℕ) (start : ℕ) (secrets messages : List Poly) (ciphers : List Cipher) → IsSet set → set.direct ≡ false
    → length secrets ≡ 1
    → length messages ≡ 1 → ciphers ≡ encrypted_all set.degree words start secrets (messages ∷ []) → IsQuery (record { set = set; ciphers = ciphers })
one-shape set words start secrets messages ciphers known expands many count drawn =
    let each : All (λ x. length x ≡ 1) (messages ∷ []) =
    All-cons (λ (x : List Poly). length x ≡ 1) messages [] count (All-nil (λ (x : List Poly). length x ≡ 1)) in
    let shapes = all-ciphers set.degree 1 words start secrets (messages ∷ []) many each in
    record {
      known = known;
      count = ap length drawn ∙ length-encrypted_all set.degree words start secrets (messages ∷ []) ∙ sym (one_cipher set expands);
      shapes = subst (λ (m : ℕ). All (IsCipher set.degree m) ciphers) (sym (one_row set expands))
          (All-same (IsCipher set.degree 1) ciphers (encrypted_all set.degree words start secrets (messages ∷ [])) drawn shapes);
    }

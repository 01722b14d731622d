-- The polynomials that a column encrypts, from how the code works them out.
use Rattle.std.proofs.Common.{◌≡◌, ℕ, zero, suc, ◌-◌, ◌*◌, ◌^◌, ◌<◌, ◌≢◌, ne_eqb, ◌==◌, if◌then◌else◌, Bool, true, false, ℤ, pos, neg_ℤ, List, length, map, All, set, refl, ◌∙◌, ap, arith}
use Rattle.std.specs.List.{range_with_len}
use Rattle.std.proofs.lemmas.List.Elements.{All-map}
use Rattle.std.proofs.lemmas.List.FromFn.{length-map-range_with_len}
use Rattle.negacyclic.specs.Ring.{reduced, ring_scale}
use Rattle.negacyclic.proofs.Lengths.{length-ring_scale}
use Rattle.negacyclic.proofs.Stands.{length-reduced}
use Rattle.spiral_sets.specs.declared.param_set.ParamSet.{ParamSet}
use Rattle.spiral_sets.specs.Sets.{q, rows}
use Rattle.spiral_model.specs.Words.{Poly, poly_of}
use Rattle.spiral_model.specs.Ciphertexts.{constant}
use Rattle.spiral_model.specs.Queries.{column_message, gsw_messages}

-- ---- constants

pub length-constant : (N : ℕ) (z : ℤ) → length (constant N z) ≡ N
unfolding constant
length-constant N z = length-reduced q N (λ k. if k == 0 then z else pos 0)

-- ---- what a row encrypts

-- in a column of row 0
pub message_negative : (N : ℕ) (secrets : List Poly) (power r i : ℕ) (a b : Poly) → r ≡ 0 → a ≡ poly_of secrets (i - 1)
    → b ≡ ring_scale q N (neg_ℤ (pos power)) a → b ≡ column_message N secrets power r i
unfolding column_message
message_negative N secrets power r i a b none key worked = rw none (worked ∙ ap (λ (s : Poly). ring_scale q N (neg_ℤ (pos power)) s) key)

chosen_pos : (N power : ℕ) (b : Bool) → constant N (pos (if b then power else 0)) ≡ constant N (if b then pos power else pos 0)
chosen_pos N power true = refl
chosen_pos N power false = refl

-- in the others
pub message_row : (N n : ℕ) (secrets : List Poly) (power r i z : ℕ) (b : Poly) → 0 < r → n ≡ N → z ≡ (if i == r then power else 0)
    → b ≡ reduced q n (λ k. if k == 0 then pos z else pos 0) → b ≡ column_message N secrets power r i
unfolding column_message constant
message_row N n secrets power r i z b some degree chosen worked =
    let other : r ≢ 0 = omega arith in
    rw (ne_eqb r 0 other) (worked ∙ ap (λ (m : ℕ). constant m (pos z)) degree ∙ ap (λ (x : ℕ). constant N (pos x)) chosen ∙ chosen_pos N power (i == r))

-- N coefficients in each case
length-column_message : (N : ℕ) (secrets : List Poly) (power r i : ℕ) → length (column_message N secrets power r i) ≡ N
unfolding column_message
length-column_message N secrets power zero i = length-ring_scale q N (neg_ℤ (pos power)) (poly_of secrets (i - 1))
length-column_message N secrets power (suc r) i =
    let other : suc r ≢ 0 = omega arith in
    rw (ne_eqb (suc r) 0 other) (length-constant N (if i == suc r then pos power else pos 0))

-- ---- what rows 1 to m encrypt

pub column-degree : (N : ℕ) (secrets : List Poly) (power r m : ℕ) → All (λ a. length a ≡ N) (map (column_message N secrets power r) (range_with_len 1 m))
column-degree N secrets power r m =
    All-map (λ (a : Poly). length a ≡ N) (column_message N secrets power r) (range_with_len 1 m) (λ k d h. length-column_message N secrets power r _)

pub length-gsw_messages : (set : ParamSet) (secrets : List Poly) (bit r k : ℕ) → length (gsw_messages set secrets bit r k) ≡ rows set
unfolding gsw_messages
length-gsw_messages set secrets bit r k =
    length-map-range_with_len (column_message set.degree secrets (bit * 2 ^ (set.w_gsw * k)) r) 1 (rows set)

pub messages_are : (set : ParamSet) (secrets : List Poly) (bit power r k : ℕ) (worked : List Poly) → power ≡ bit * 2 ^ (set.w_gsw * k)
    → worked ≡ map (column_message set.degree secrets power r) (range_with_len 1 (rows set)) → worked ≡ gsw_messages set secrets bit r k
unfolding gsw_messages
messages_are set secrets bit power r k worked counts is =
    is ∙ ap (λ (x : ℕ). map (column_message set.degree secrets x r) (range_with_len 1 (rows set))) counts

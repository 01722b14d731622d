-- One polynomial of a reply put: an entry of the body, or one of row 0.
use Rattle.std.proofs.Common.{◌≡◌, ℕ, ◌+◌, ◌-◌, ◌*◌, ◌/◌, ◌%◌, ◌<◌, ◌≢◌, ◌==◌, if◌then◌else◌, Bool, false, List, [], length, get_or, set, map}
use Rattle.std.proofs.Common.{◌∙◌, ap, arith, ne_eqb}
use Rattle.std.proofs.lemmas.List.{get_or_read}
use Rattle.spiral_sets.specs.declared.param_set.ParamSet.{ParamSet}
use Rattle.spiral_model.specs.Sets.{q1, q2}
use Rattle.spiral_model.specs.Words.{Poly, Cipher, row_of, cipher_at}
use Rattle.spiral_model.specs.Replies.{SwitchedReply, switched, switched_entry, switched_zeroth}
use Rattle.modulus_switch.specs.Places.{place_in_body, put_poly, row_modulus}

-- row e / n + 1 and column e % n + 1 stand at place e of the body
place_is : (n e row column : ℕ) → 0 < n → row ≡ e / n + 1 → column ≡ e % n + 1 → (row - 1) * n + (column - 1) ≡ e
place_is n e row column some row_is column_is =
    let above : row - 1 ≡ e / n = omega (arith, row_is) in
    let times : (row - 1) * n ≡ e / n * n = ap (λ (k : ℕ). k * n) above in
    omega (arith, times, column_is)

pub entry_put : (s : ParamSet) (columns : List Cipher) (old new : SwitchedReply) (e row column : ℕ) (cipher : Cipher) (a : Poly) → old.set ≡ s → 0 < s.n
    → row ≡ e / s.n + 1 → column ≡ e % s.n + 1 → e % s.n < length columns → cipher ≡ get_or columns (e % s.n) cipher → a ≡ row_of cipher row
    → new ≡ put_poly old row column (map (switched (row_modulus old.set row)) a)
    → new ≡ record old { body = set old.body e (switched_entry s columns e) }
unfolding switched_entry
entry_put s columns old new e row column cipher a same some row_is column_is within is from put =
    let other : row ≢ 0 = λ z. absurd (omega (arith, row_is, z)) in
    let tested : (row == 0) ≡ false = ne_eqb row 0 other in
    let modulus : row_modulus old.set row ≡ q1 s = ap (λ (t : Bool). if t then q2 old.set else q1 old.set) tested ∙ ap q1 same in
    let place : place_in_body old.set row column ≡ e =
    ap (λ (t : ParamSet). (row - 1) * t.n + (column - 1)) same ∙ place_is s.n e row column some row_is column_is in
    let read : cipher ≡ cipher_at columns (e % s.n) = get_or_read columns (e % s.n) cipher within is [] in
    let value : a ≡ row_of (cipher_at columns (e % s.n)) (e / s.n + 1) =
    from ∙ ap (λ (r : ℕ). row_of cipher r) row_is ∙ ap (λ (c : Cipher). row_of c (e / s.n + 1)) read in
    let entry : Poly = map (switched (q1 s)) (row_of (cipher_at columns (e % s.n)) (e / s.n + 1)) in
    put
    ∙ ap (λ (m : ℕ). put_poly old row column (map (switched m) a)) modulus
    ∙ ap (λ (x : Poly). put_poly old row column (map (switched (q1 s)) x)) value
    ∙ ap (λ (t : Bool). if t then record old { mask = set old.mask (column - 1) entry }
    else record old { body = set old.body (place_in_body old.set row column) entry }) tested
    ∙ ap (λ (k : ℕ). record old { body = set old.body k entry }) place

pub zeroth_put : (s : ParamSet) (columns : List Cipher) (old new : SwitchedReply) (c : ℕ) (cipher : Cipher) (a : Poly) → old.set ≡ s
    → c < length columns → cipher ≡ get_or columns c cipher → a ≡ row_of cipher 0
    → new ≡ put_poly old 0 (c + 1) (map (switched (row_modulus old.set 0)) a)
    → new ≡ record old { mask = set old.mask c (switched_zeroth s columns c) }
unfolding switched_zeroth
zeroth_put s columns old new c cipher a same within is from put =
    let place : c + 1 - 1 ≡ c = omega arith in
    let read : cipher ≡ cipher_at columns c = get_or_read columns c cipher within is [] in
    let value : a ≡ row_of (cipher_at columns c) 0 = from ∙ ap (λ (d : Cipher). row_of d 0) read in
    put
    ∙ ap (λ (t : ParamSet). record old { mask = set old.mask (c + 1 - 1) (map (switched (q2 t)) a) }) same
    ∙ ap (λ (x : Poly). record old { mask = set old.mask (c + 1 - 1) (map (switched (q2 s)) x) }) value
    ∙ ap (λ (k : ℕ). record old { mask = set old.mask k (map (switched (q2 s)) (row_of (cipher_at columns c) 0)) }) place

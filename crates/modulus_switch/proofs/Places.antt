-- Where a reply's polynomials stand: what the words by row and column are for the mask, and for an entry of the body.
use Rattle.std.proofs.Common.{◌≡◌, ◌≢◌, ℕ, zero, suc, ◌+◌, ◌-◌, ◌/◌, ◌%◌, ◌^◌, ◌≤◌, ◌==◌, if◌then◌else◌, Bool, ◌∙◌, ap, arith, ne_eqb}
use Rattle.std.proofs.lemmas.Nat.{div-add-mod'}
use Rattle.spiral_sets.specs.declared.param_set.ParamSet.{ParamSet}
use Rattle.spiral_sets.specs.Sets.{IsSet, q1}
use Rattle.spiral_sets.proofs.SetBounds.{q1-most, q2-most}
use Rattle.spiral_model.specs.Words.{poly_of}
use Rattle.spiral_model.specs.Replies.{SwitchedReply}
use Rattle.modulus_switch.specs.Places.{place_in_body, poly_in, row_modulus}

-- a column from 0
column_is : (c : ℕ) → c + 1 - 1 ≡ c
column_is c = omega arith

-- row r + 1 isn't row 0
row_of_body : {A : Type 0} (r : ℕ) (a b : A) → (if r + 1 == 0 then a else b) ≡ b
row_of_body r a b =
    let ne : r + 1 ≢ 0 = omega arith in
    ap (λ (t : Bool). if t then a else b) (ne_eqb (r + 1) 0 ne)

-- entry e of the body stands in row e / n + 1 and column e % n + 1
entry_place : (set : ParamSet) (e : ℕ) → place_in_body set (e / set.n + 1) (e % set.n + 1) ≡ e
entry_place set e =
    let row : e / set.n + 1 - 1 ≡ e / set.n = omega arith in
    rw row (omega (arith, div-add-mod' e set.n))

-- the polynomials that stand there
pub poly_in-mask : (reply : SwitchedReply) (c : ℕ) → poly_in reply 0 (c + 1) ≡ poly_of reply.mask c
poly_in-mask reply c = ap (poly_of reply.mask) (column_is c)

pub poly_in-body : (reply : SwitchedReply) (e : ℕ) → poly_in reply (e / reply.set.n + 1) (e % reply.set.n + 1) ≡ poly_of reply.body e
poly_in-body reply e =
    row_of_body (e / reply.set.n) (poly_of reply.mask (e % reply.set.n + 1 - 1)) (poly_of reply.body (place_in_body reply.set (e / reply.set.n + 1) (e % reply.set.n + 1)))
    ∙ ap (poly_of reply.body) (entry_place reply.set e)

pub row_modulus-most : (set : ParamSet) (row : ℕ) → IsSet set → row_modulus set row ≤ 2 ^ 30
row_modulus-most set zero is = q2-most set is
row_modulus-most set (suc r) is =
    let some : suc r ≢ 0 = omega arith in
    let small : q1 set ≤ 2 ^ 17 = q1-most set is in
    rw (ne_eqb (suc r) 0 some) (omega arith)

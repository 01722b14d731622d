-- The values of an entry, from the numbers of its two polynomials and the row of the secret.
use Rattle.std.proofs.Common.{◌≡◌, ℕ, ◌+◌, ◌*◌, ◌/◌, ◌%◌, ◌<◌, ℤ, pos, List, All, map, length, get_or, slice_range, refl, ◌∙◌, ap, pow_pos, arith, SFits, w64, to_z, of_z}
use Rattle.std.proofs.lemmas.Int.{to_z-of_z}
use Rattle.std.specs.List.{range_with_len}
use Rattle.std.proofs.lemmas.List.Edits.{get_or-between}
use Rattle.std.proofs.lemmas.List.FromFn.{length-map-range_with_len}
use Rattle.negacyclic.specs.Ring.{at, product_at}
use Rattle.negacyclic.proofs.Lists.{same_range, all_range, all_pieces}
use Rattle.negacyclic.proofs.Residues.{residue-below}
use Rattle.negacyclic.proofs.Turn.{product_at-same}
use Rattle.spiral_sets.specs.declared.param_set.ParamSet.{ParamSet}
use Rattle.spiral_sets.specs.Sets.{p, entries}
use Rattle.spiral_model.specs.Words.{Poly, poly_of}
use Rattle.spiral_model.specs.Replies.{QueryState, SwitchedReply, secret_at, opened, opened_at, opened_entry, opened_values}
use Rattle.modulus_switch.specs.Numbers.{secret_number, opened_number}
use Rattle.modulus_switch.specs.Places.{poly_in}
use Rattle.modulus_switch.proofs.Places.{poly_in-mask, poly_in-body}

-- number i of the secret's row r
row_number : (state : QueryState) (r i : ℕ) → i < state.set.degree
    → secret_number (slice_range state.secret (r * state.set.degree) (r * state.set.degree + state.set.degree)) i ≡ secret_at state r i
row_number state r i h =
    get_or-between state.secret (r * state.set.degree) (r * state.set.degree + state.set.degree) i (pos 0) (omega arith)

-- coefficient k of entry e
opened_place : (state : QueryState) (reply : SwitchedReply) (e : ℕ) (a b : Poly) (k : ℕ) → state.set ≡ reply.set
    → a ≡ poly_of reply.mask (e % reply.set.n) → b ≡ poly_of reply.body e
    → opened_number state.set (slice_range state.secret (e / state.set.n * state.set.degree) (e / state.set.n * state.set.degree + state.set.degree)) a b k
    ≡ opened_at state reply e k
unfolding opened_at
opened_place state reply e a b k same mask body =
    let from = e / state.set.n * state.set.degree in
    let row = slice_range state.secret from (from + state.set.degree) in
    let other = poly_of reply.mask (e % reply.set.n) in
    let sa : product_at state.set.degree (secret_number row) (at a) k ≡ product_at state.set.degree (secret_at state (e / state.set.n)) (at other) k =
    product_at-same state.set.degree (secret_number row) (secret_at state (e / state.set.n)) (at a) (at other) k
    (λ i h. row_number state (e / state.set.n) i h) (λ j h. ap (λ (xs : Poly). at xs j) mask) in
    rw (sa, body, same) refl

pub entry_is : (state : QueryState) (reply : SwitchedReply) (e : ℕ) (a b : Poly) → state.set ≡ reply.set
    → a ≡ poly_in reply 0 (e % state.set.n + 1)
    → b ≡ poly_in reply (e / state.set.n + 1) (e % state.set.n + 1)
    → map (opened_number state.set (slice_range state.secret (e / state.set.n * state.set.degree) (e / state.set.n * state.set.degree + state.set.degree)) a b) (range_with_len 0 state.set.degree)
    ≡ opened_entry state reply e
unfolding opened_entry
entry_is state reply e a b same a_is b_is =
    let mask : a ≡ poly_of reply.mask (e % reply.set.n) = (rw same at a_is) ∙ poly_in-mask reply (e % reply.set.n) in
    let body : b ≡ poly_of reply.body e = (rw same at b_is) ∙ poly_in-body reply e in
    let from = e / state.set.n * state.set.degree in
    let row = slice_range state.secret from (from + state.set.degree) in
    same_range (opened_number state.set row a b) (opened_at state reply e) state.set.degree
    (λ k h. opened_place state reply e a b k same mask body)
    ∙ ap (λ (set : ParamSet). map (opened_at state reply e) (range_with_len 0 set.degree)) same

-- a number as the code opens it
pub number_opened : (set : ParamSet) (secret : List ℤ) (a b : Poly) (k : ℕ) (sa : ℤ) → length a ≡ set.degree → SFits w64 sa
    → sa ≡ product_at (length a) (secret_number secret) (at a) k
    → opened set (pos (get_or b k 0)) (to_z w64 (of_z w64 sa)) ≡ opened_number set secret a b k
unfolding at
number_opened set secret a b k sa degree fits sa_is =
    let e = to_z-of_z w64 sa fits in rw (e, sa_is, degree) refl

pub length-opened_entry : (state : QueryState) (reply : SwitchedReply) (e : ℕ) → length (opened_entry state reply e) ≡ reply.set.degree
unfolding opened_entry
length-opened_entry state reply e = length-map-range_with_len (opened_at state reply e) 0 reply.set.degree

-- the values of all entries are below p
pub opened_values-below : (state : QueryState) (reply : SwitchedReply) → All (λ x. x < p reply.set) (opened_values state reply)
unfolding opened_values opened_entry opened_at opened
opened_values-below state reply =
    all_pieces (λ x. x < p reply.set) (opened_entry state reply) (entries reply.set)
    (λ e h.
    all_range (λ x. x < p reply.set) (opened_at state reply e) reply.set.degree
    (λ k below. residue-below (p reply.set) _ (pow_pos reply.set.p_bits)))

-- The noise of lift keys' ciphertexts in the row that is measured, and the sums of its norms.
use Rattle.std.proofs.Common.{◌≡◌, ◌==◌, ℕ, suc, ◌+◌, ◌-◌, ◌*◌, ◌^◌, ◌<◌, ◌≤◌, ◌≢◌, ◌||◌, not, ne_eqb, eq-eqb, if◌then◌else◌, Bool, true, false, pos, neg_ℤ, List, [], replicate, Option, Some, refl, sym, ◌∙◌, ap, subst, arith, mul-le-mul_right}
use Rattle.std.proofs.Math.Nat.{div-mul-le_self}
use Rattle.std.proofs.Math.Pow.{pow_mono}
use Rattle.std.proofs.lemmas.List.FromFn.{get_or-map-range_with_len}
use Rattle.negacyclic.specs.Ring.{ring_zero, ring_scale}
use Rattle.negacyclic.proofs.Lengths.{zeros_ring}
use Rattle.ring_poly.proofs.Modulus.{q_some}
use Rattle.spiral_sets.specs.declared.param_set.ParamSet.{ParamSet}
use Rattle.spiral_sets.specs.Sets.{IsSet, q, digit_count, has_keys}
use Rattle.spiral_sets.proofs.SetBounds.{at_least}
use Rattle.spiral_model.specs.Words.{Poly, Cipher, poly_of, cipher_at}
use Rattle.spiral_model.specs.Queries.{column_message}
use Rattle.spiral_model.specs.KeySwitching.{DigitKey}
use Rattle.spiral_model.specs.Keys.{SetKeys, key_at}
use Rattle.spiral_model.specs.Dealing.{lift_message}
use Rattle.spiral_model.specs.Noise.{noise_norm, polys_of, lift_key_noise}
use Rattle.regev_code.specs.Seen.{Secrets}
use Rattle.regev_code.specs.Shapes.{under, scalar_of}
use Rattle.regev_code.specs.KeyShapes.{AreKeys, AreSetKeys, AreKeysFor}
use Rattle.noise_check.specs.Rooms.{MeasuredRow, opposite, IsLiftRow}

-- ---- what digits count

-- the width of a lift key's digits, where the set packs
abbrev packed_width : ParamSet → ℕ
packed_width set = if set.pack then set.w_conv else 1

packed_width-some : (set : ParamSet) → IsSet set → 1 ≤ packed_width set
packed_width-some = at_least (λ set. packed_width set) 1 (refl, (refl, (refl, (refl, (refl, (refl, (refl, (refl, (refl, (refl, tt))))))))))

w_conv-some : (set : ParamSet) → IsSet set → set.pack ≡ true → 1 ≤ set.w_conv
w_conv-some set is packs =
    let same : packed_width set ≡ set.w_conv = ap (λ (b : Bool). if b then set.w_conv else 1) packs in
    omega (arith, packed_width-some set is)

digit_low : (w t k : ℕ) → 1 ≤ w → t * w ≤ 55 + w → k < t → w * k ≤ 55
digit_low w t k some most h =
    let step : suc k * w ≤ t * w = mul-le-mul_right w h in
    omega arith

-- where a digit begins
pub lift_place : (set : ParamSet) (k : ℕ) → IsSet set → set.pack ≡ true → k < digit_count set.w_conv → set.w_conv * k ≤ 55
lift_place set k is packs h =
    let some : 1 ≤ set.w_conv = w_conv-some set is packs in
    digit_low set.w_conv (digit_count set.w_conv) k some (omega (arith, div-mul-le_self (56 + set.w_conv - 1) set.w_conv)) h

-- what it counts is below the modulus
pub lift_power-below : (set : ParamSet) (k : ℕ) → IsSet set → set.pack ≡ true → k < digit_count set.w_conv → 2 ^ (set.w_conv * k) < q
unfolding q
lift_power-below set k is packs h =
    let place = lift_place set k is packs h in
    let most : 2 ^ (set.w_conv * k) ≤ 2 ^ 55 = pow_mono place in
    omega arith

-- ---- messages

-- what a row of the lift key of row r encrypts in ciphertext k
abbrev part_of : ParamSet → Poly → ℕ → ℕ → ℕ → Poly
part_of set s r k i = if i == r then ring_scale q set.degree (neg_ℤ (pos (2 ^ (set.w_conv * k)))) s else ring_zero q set.degree

-- -s 2^(w k) in row r, as the code works it out,
pub own_part : (set : ParamSet) (ring power r k i : ℕ) (secrets : Secrets) (message : Poly) → ring ≡ set.degree → i ≡ r → power ≡ 2 ^ (set.w_conv * k)
    → message ≡ column_message ring (under ring secrets true) power 0 1 → message ≡ part_of set (scalar_of set.degree secrets) r k i
unfolding column_message
own_part set ring power r k i secrets message degree same counts worked =
    let s : Poly = scalar_of set.degree secrets in
    worked
    ∙ ap (λ (n : ℕ). ring_scale q n (neg_ℤ (pos power)) (scalar_of n secrets)) degree
    ∙ ap (λ (x : ℕ). ring_scale q set.degree (neg_ℤ (pos x)) s) counts
    ∙ sym (ap (λ (b : Bool). if b then ring_scale q set.degree (neg_ℤ (pos (2 ^ (set.w_conv * k)))) s else ring_zero q set.degree) (eq-eqb i r same))

-- and 0 in the others
pub other_part : (set : ParamSet) (L r k i : ℕ) (s message : Poly) → L ≡ set.degree → i ≢ r → message ≡ replicate {A = ℕ} L 0 → message ≡ part_of set s r k i
other_part set L r k i s message degree other cleared =
    cleared ∙ ap (λ (n : ℕ). replicate {A = ℕ} n 0) degree ∙ zeros_ring q set.degree q_some
    ∙ sym (ap (λ (b : Bool). if b then ring_scale q set.degree (neg_ℤ (pos (2 ^ (set.w_conv * k)))) s else ring_zero q set.degree) (ne_eqb i r other))

-- the message of the row that is measured
pub lift_message_is : (set : ParamSet) (ring : ℕ) (measured : MeasuredRow) (r k : ℕ) (message : Poly) → IsLiftRow set ring measured
    → message ≡ part_of set (scalar_of set.degree measured.secrets) r k (measured.row + 1)
    → message ≡ poly_of (lift_message set (scalar_of set.degree measured.secrets) r k) measured.row
unfolding lift_message
lift_message_is set ring measured r k message is worked =
    worked ∙ sym (get_or-map-range_with_len (part_of set (scalar_of set.degree measured.secrets) r k) 1 set.n measured.row (measured.row + 1) [] is.within (omega arith))

-- its secret is the row's among s_1 to s_n
pub lift_opposite : (set : ParamSet) (ring : ℕ) (measured : MeasuredRow) (opposed : Poly) → IsLiftRow set ring measured
    → opposed ≡ opposite measured.degree (poly_of (under measured.degree measured.secrets measured.scalar) measured.row)
    → opposed ≡ opposite set.degree (poly_of (polys_of set measured.secrets.rows) measured.row)
lift_opposite set ring measured opposed is key =
    key
    ∙ ap (λ (n : ℕ). opposite n (poly_of (under n measured.secrets measured.scalar) measured.row)) is.degree
    ∙ ap (λ (b : Bool). opposite set.degree (poly_of (under set.degree measured.secrets b) measured.row)) is.plain

-- ---- the keys as they are lent to a call

or_true : (b : Bool) → (b || true) ≡ true
or_true true = refl
or_true false = refl

-- a set that packs has lift keys
pub lift_lent : (set : ParamSet) (keys : Option SetKeys) (given inside : SetKeys) (lent : List DigitKey) → set.pack ≡ true → AreKeysFor set keys → keys ≡ Some given
    → inside ≡ given → AreSetKeys inside → lent ≡ inside.lift → AreKeys set.degree set.n set.w_conv set.n lent
lift_lent set keys given inside lent packs for is view are shown =
    let keyed : has_keys set ≡ true = ap (λ (b : Bool). not set.direct || b) packs ∙ or_true (not set.direct) in
    let fitting : AreKeysFor set (Some given) = subst (AreKeysFor set) is for in
    let same : inside.set ≡ set = ap (λ (k : SetKeys). k.set) view ∙ fitting keyed in
    subst (λ (xs : List DigitKey). AreKeys set.degree set.n set.w_conv set.n xs) (sym shown)
    (subst (λ (x : ParamSet). AreKeys x.degree x.n x.w_conv x.n inside.lift) same are.lift)

-- ---- the terms of the sums

-- of the lift key of row r: the norm of ciphertext k
abbrev pub digit_term : ParamSet → MeasuredRow → DigitKey → ℕ → ℕ → ℕ
digit_term set measured key r k =
    noise_norm set.degree (polys_of set measured.secrets.rows) (cipher_at key.ciphers k) (lift_message set (scalar_of set.degree measured.secrets) r k) measured.row

-- as the code reads the ciphertext
pub digit_read : (set : ParamSet) (now before : MeasuredRow) (key : DigitKey) (r k x : ℕ) (cipher : Cipher) → now ≡ before → cipher ≡ cipher_at key.ciphers k
    → x ≡ noise_norm set.degree (polys_of set now.secrets.rows) cipher (lift_message set (scalar_of set.degree now.secrets) r k) now.row → x ≡ digit_term set before key r k
digit_read set now before key r k x cipher same read worked =
    worked
    ∙ ap (λ (d : Cipher). noise_norm set.degree (polys_of set now.secrets.rows) d (lift_message set (scalar_of set.degree now.secrets) r k) now.row) read
    ∙ ap (λ (m : MeasuredRow). digit_term set m key r k) same

-- of all lift keys: the norms of key r
abbrev pub key_term : ParamSet → MeasuredRow → List DigitKey → ℕ → ℕ
key_term set measured lift r = lift_key_noise set (scalar_of set.degree measured.secrets) (polys_of set measured.secrets.rows) (key_at lift r) measured.row (r + 1)

-- as the code reads the key
pub key_read : (set : ParamSet) (now before : MeasuredRow) (lift : List DigitKey) (r x : ℕ) (key : DigitKey) → now ≡ before → key ≡ key_at lift r
    → x ≡ lift_key_noise set (scalar_of set.degree now.secrets) (polys_of set now.secrets.rows) key now.row (r + 1) → x ≡ key_term set before lift r
key_read set now before lift r x key same read worked =
    worked
    ∙ ap (λ (d : DigitKey). lift_key_noise set (scalar_of set.degree now.secrets) (polys_of set now.secrets.rows) d now.row (r + 1)) read
    ∙ ap (λ (m : MeasuredRow). key_term set m lift r) same

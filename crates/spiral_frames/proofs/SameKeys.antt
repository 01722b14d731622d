-- The bytes of a Setup are those of one set's keys only.
use Rattle.std.proofs.Common.{◌≡◌, ℕ, ◌+◌, ◌*◌, ◌^◌, ◌<◌, List, [], ◌∷◌, ◌++◌, length, All, sym, ◌∙◌, ap, ap₂, subst, arith, refl, lit<, length-append}
use Rattle.std.specs.List.{flat_map}
use Rattle.std.proofs.lemmas.List.Elements.{All-head, All-tail}
use Rattle.negacyclic.specs.Digits.{number_of}
use Rattle.negacyclic.proofs.Digits.{length-digits}
use Rattle.spiral_sets.specs.declared.param_set.ParamSet.{ParamSet}
use Rattle.spiral_sets.specs.Sets.{q, rows}
use Rattle.spiral_sets.specs.Counts.{setup_len}
use Rattle.frame_headers.specs.declared.kind.FrameKind.TheVariants.{Setup}
use Rattle.frame_headers.specs.Headers.{number}
use Rattle.frame_headers.proofs.HeaderLaws.{number_back, same_front}
use Rattle.spiral_model.specs.Words.{Poly, Cipher}
use Rattle.spiral_model.specs.Ciphertexts.{IsCipher}
use Rattle.spiral_model.specs.Bodies.{CipherBody, IsSetup}
use Rattle.spiral_frames.specs.Frames.{poly_bytes, rows_bytes, cipher_bytes, setup_message, IsOne}
use Rattle.spiral_frames.proofs.Bodies.{length-poly_bytes, rows_of_cipher}
use Rattle.spiral_frames.proofs.FrameLaws.{setup_frame_is}
use Rattle.spiral_frames.proofs.SameMessages.{same_parts}
use Rattle.spiral_frames.proofs.SetupBodies.{AreRuns, rounds_len, lifts_len, rounds_of, lifts_of, conversions_of, runs_joined, runs_of_setup, joined_bytes, length-rounds, length-lifts}

-- values whose pieces have one length, each of which is that of one value
same_by_pieces : {A : Type 0} (P : A → Type 0) (f : A → List ℕ) (n : ℕ) → ((a : A) → P a → length (f a) ≡ n) → ((a b : A) → P a → P b → f a ≡ f b → a ≡ b)
    → (xs ys : List A) → All P xs → All P ys → length xs ≡ length ys → flat_map f xs ≡ flat_map f ys → xs ≡ ys
same_by_pieces P f n size one [] [] hx hy count e = refl
same_by_pieces P f n size one [] (y ∷ ys) hx hy count e = absurd (omega (arith, count))
same_by_pieces P f n size one (x ∷ xs) [] hx hy count e = absurd (omega (arith, count))
same_by_pieces {A} P f n size one (x ∷ xs) (y ∷ ys) hx hy count e =
    let first : P x = All-head P x xs hx in
    let other : P y = All-head P y ys hy in
    let parts = same_parts n (f x) (flat_map f xs) (f y) (flat_map f ys) (size x first) (size y other) e in
    ap₂ (λ (a : A) (rest : List A). a ∷ rest) (one x y first other parts.0)
    (same_by_pieces P f n size one xs ys (All-tail P x xs hx) (All-tail P y ys hy) (omega (arith, count)) parts.1)

-- ---- residues, polynomials, ciphertexts

pub residue_fits : q < 256 ^ 7
unfolding q
residue_fits = lit< tt

same_residue : (x y : ℕ) → x < q → y < q → number 7 x ≡ number 7 y → x ≡ y
same_residue x y hx hy e =
    let below : x < 256 ^ 7 = omega (arith, residue_fits) in
    let low : y < 256 ^ 7 = omega (arith, residue_fits) in
    sym (number_back 7 x below) ∙ ap (number_of 256) e ∙ number_back 7 y low

-- N residues
abbrev IsPoly : ℕ → Poly → Type 0
IsPoly N poly = (length poly ≡ N) × All (λ x. x < q) poly

same_poly : (N : ℕ) (a b : Poly) → IsPoly N a → IsPoly N b → poly_bytes a ≡ poly_bytes b → a ≡ b
same_poly N a b ha hb e = same_by_pieces (λ (x : ℕ). x < q) (number 7) 7 (λ x below. length-digits 256 7 x) same_residue a b ha.1 hb.1 (ha.0 ∙ sym hb.0) e

same_cipher : (N m : ℕ) (a b : Cipher) → IsCipher N m a → IsCipher N m b → rows_bytes a ≡ rows_bytes b → a ≡ b
same_cipher N m a b ha hb e =
    same_by_pieces (IsPoly N) poly_bytes (7 * N) (λ poly is. length-poly_bytes poly ∙ ap (λ (n : ℕ). 7 * n) is.0) (same_poly N) a b ha.residues hb.residues
    (ha.rows_count ∙ sym hb.rows_count) e

-- Ciphertexts of one shape, as many, with the same bytes are the same.
pub same_ciphers : (N m : ℕ) (xs ys : List Cipher) → All (IsCipher N m) xs → All (IsCipher N m) ys
    → length xs ≡ length ys → cipher_bytes xs ≡ cipher_bytes ys → xs ≡ ys
unfolding cipher_bytes
same_ciphers N m xs ys hx hy count e =
    same_by_pieces (IsCipher N m) rows_bytes ((m + 1) * (7 * N)) (rows_of_cipher N m) (same_cipher N m) xs ys hx hy count e

-- ---- the ciphertexts of a Setup body

same_runs : (set : ParamSet) (us vs ws xs ys zs : List Cipher) → AreRuns set us vs ws → AreRuns set xs ys zs
    → cipher_bytes us ++ cipher_bytes vs ++ cipher_bytes ws ≡ cipher_bytes xs ++ cipher_bytes ys ++ cipher_bytes zs → us ++ vs ++ ws ≡ xs ++ ys ++ zs
same_runs set us vs ws xs ys zs one other e =
    let x : ℕ = rounds_len set in
    let y : ℕ = lifts_len set in
    let la : length (cipher_bytes us) ≡ x = length-rounds set us vs ws one in
    let lx : length (cipher_bytes xs) ≡ x = length-rounds set xs ys zs other in
    let lab : length (cipher_bytes us ++ cipher_bytes vs) ≡ x + y =
    length-append (cipher_bytes us) (cipher_bytes vs) ∙ ap₂ (λ (s t : ℕ). s + t) la (length-lifts set us vs ws one) in
    let lxy : length (cipher_bytes xs ++ cipher_bytes ys) ≡ x + y =
    length-append (cipher_bytes xs) (cipher_bytes ys) ∙ ap₂ (λ (s t : ℕ). s + t) lx (length-lifts set xs ys zs other) in
    let outer = same_parts (x + y) (cipher_bytes us ++ cipher_bytes vs) (cipher_bytes ws) (cipher_bytes xs ++ cipher_bytes ys) (cipher_bytes zs) lab lxy e in
    let inner = same_parts x (cipher_bytes us) (cipher_bytes vs) (cipher_bytes xs) (cipher_bytes ys) la lx outer.0 in
    let first : us ≡ xs = same_ciphers set.degree 1 us xs one.rounds_fit other.rounds_fit (one.rounds_many ∙ sym other.rounds_many) inner.0 in
    let second : vs ≡ ys = same_ciphers set.degree set.n vs ys one.lifts_fit other.lifts_fit (one.lifts_many ∙ sym other.lifts_many) inner.1 in
    let third : ws ≡ zs =
    same_ciphers set.degree (rows set) ws zs one.conversions_fit other.conversions_fit (one.conversions_many ∙ sym other.conversions_many) outer.1 in
    ap₂ (λ (s t : List Cipher). s ++ t) (ap₂ (λ (s t : List Cipher). s ++ t) first second) third

keys_by : (k l : CipherBody) → k.set ≡ l.set → k.ciphers ≡ l.ciphers → k ≡ l
keys_by k l set ciphers = λ i. record { set = set i; ciphers = ciphers i }

same_of_set : (k l : CipherBody) → IsSetup k → IsSetup l → k.set ≡ l.set → cipher_bytes k.ciphers ≡ cipher_bytes l.ciphers → k.ciphers ≡ l.ciphers
same_of_set k l hk hl same e =
    let moved : CipherBody = record { set = k.set; ciphers = l.ciphers } in
    let is : IsSetup moved = subst (λ (s : ParamSet). IsSetup (record { set = s; ciphers = l.ciphers })) (sym same) hl in
    let bytes : cipher_bytes (rounds_of k) ++ cipher_bytes (lifts_of k) ++ cipher_bytes (conversions_of k)
    ≡ cipher_bytes (rounds_of moved) ++ cipher_bytes (lifts_of moved) ++ cipher_bytes (conversions_of moved) =
    sym (joined_bytes (rounds_of k) (lifts_of k) (conversions_of k)) ∙ ap cipher_bytes (runs_joined k) ∙ e ∙ ap cipher_bytes (sym (runs_joined moved))
    ∙ joined_bytes (rounds_of moved) (lifts_of moved) (conversions_of moved) in
    sym (runs_joined k)
    ∙ same_runs k.set (rounds_of k) (lifts_of k) (conversions_of k) (rounds_of moved) (lifts_of moved) (conversions_of moved)
    (runs_of_setup k hk) (runs_of_setup moved is) bytes
    ∙ runs_joined moved

-- Key bodies of one set with the same bytes are the same.
pub same_setup_body : (k l : CipherBody) → IsSetup k → IsSetup l → k.set ≡ l.set → cipher_bytes k.ciphers ≡ cipher_bytes l.ciphers → k ≡ l
same_setup_body k l hk hl same e = keys_by k l same (same_of_set k l hk hl same e)

-- Keys whose frames are the same bytes are one.
pub same_keys : (x : List ℕ) (k l : CipherBody) → IsOne Setup x (setup_message k) → IsOne Setup x (setup_message l) → k ≡ l
same_keys x k l hk hl =
    let fk = hk.spells.is in
    let fl = hl.spells.is in
    let fronts =
    same_front 1 setup_len k.set l.set (cipher_bytes k.ciphers) (cipher_bytes l.ciphers) fk.known fl.known
    (sym (hk.spells.spelled ∙ setup_frame_is k fk) ∙ hl.spells.spelled ∙ setup_frame_is l fl) in
    same_setup_body k l fk fl fronts.0 fronts.1

-- The bytes of a frame are those of one message only: of one state, and of one reply.
use Rattle.std.proofs.Common.{◌≡◌, ℕ, ℤ, pos, ◌-ℤ◌, ◌*◌, ◌^◌, ◌≤◌, List, [], ◌∷◌, ◌++◌, length, take, drop, map, All, refl, sym, ◌∙◌, ap, ap₂, arith, subst}
use Rattle.std.specs.List.{flat_map}
use Rattle.std.proofs.lemmas.Int.{ints}
use Rattle.std.proofs.lemmas.List.{take_at, drop_at}
use Rattle.std.proofs.lemmas.List.Elements.{All-head, All-tail}
use Rattle.negacyclic.specs.Digits.{number_of, repacked}
use Rattle.negacyclic.proofs.Digits.{repacked-back}
use Rattle.spiral_sets.specs.declared.param_set.ParamSet.{ParamSet}
use Rattle.spiral_sets.specs.Sets.{IsSet, entries, q1_bits, q1, q2}
use Rattle.spiral_sets.specs.Counts.{packed_len, state_len, reply_len}
use Rattle.spiral_sets.proofs.SetBounds.{packed_len-q1, packed_len-q2}
use Rattle.frame_headers.specs.declared.kind.FrameKind.TheVariants.{Reply, State}
use Rattle.frame_headers.proofs.HeaderLaws.{same_front}
use Rattle.spiral_model.specs.Words.{Poly}
use Rattle.spiral_model.specs.Replies.{QueryState, IsTernary, SwitchedReply, IsReply, IsSwitched}
use Rattle.spiral_frames.specs.Frames.{secret_byte, state_body, packed, reply_body, state_message, reply_message, IsOne}
use Rattle.spiral_frames.proofs.Bodies.{length-packed, length-packed_all, secret_in_body, record_length_in_body, polys_in_body}
use Rattle.spiral_frames.proofs.FrameLaws.{frame_of_state, frame_of_reply, state_index_is, reply_count_is}

-- ---- a state

-- the number of a secret that a byte writes
abbrev pub number_of_byte : ℕ → ℤ
number_of_byte b = pos b -ℤ pos 1

byte_back : (z : ℤ) → IsTernary z → number_of_byte (secret_byte z) ≡ z
byte_back z h = omega (arith, ints)

pub secret_back : (secret : List ℤ) → All IsTernary secret → map number_of_byte (map secret_byte secret) ≡ secret
secret_back [] h = refl
secret_back (z ∷ secret) h =
    ap₂ (λ (y : ℤ) (ys : List ℤ). y ∷ ys) (byte_back z (All-head IsTernary z secret h)) (secret_back secret (All-tail IsTernary z secret h))

state_by : (s t : QueryState) → s.set ≡ t.set → s.index ≡ t.index → s.secret ≡ t.secret → s ≡ t
state_by s t set index secret = λ i. record { set = set i; index = index i; secret = secret i }

-- States whose frames are the same bytes are one.
pub same_state : (x : List ℕ) (s t : QueryState) → IsOne State x (state_message s) → IsOne State x (state_message t) → s ≡ t
same_state x s t hs ht =
    let fs = hs.spells.is in
    let ft = ht.spells.is in
    let fronts =
    same_front 5 state_len s.set t.set (state_body s) (state_body t) fs.known ft.known (sym (frame_of_state x s hs) ∙ frame_of_state x t ht) in
    let bytes : map secret_byte s.secret ≡ map secret_byte t.secret =
    sym (secret_in_body s) ∙ ap (λ (body : List ℕ). drop 8 body) fronts.1 ∙ secret_in_body t in
    state_by s t fronts.0 (state_index_is x s t hs ht)
    (sym (secret_back s.secret fs.ternary) ∙ ap (λ (bs : List ℕ). map number_of_byte bs) bytes ∙ secret_back t.secret ft.ternary)

-- ---- a reply

-- the two parts of a list, where the first has one length
pub same_parts : {A : Type 0} (n : ℕ) (xs ys us vs : List A) → length xs ≡ n → length us ≡ n → xs ++ ys ≡ us ++ vs → (xs ≡ us) × (ys ≡ vs)
same_parts n xs ys us vs first other e =
    (sym (take_at xs ys n first) ∙ ap (take n) e ∙ take_at us vs n other, sym (drop_at xs ys n first) ∙ ap (drop n) e ∙ drop_at us vs n other)

-- pieces of one length, each of which is that of one value
same_values : {A : Type 0} (P : A → Type 0) (f : A → List ℕ) (n : ℕ) → ((a : A) → length (f a) ≡ n) → ((a b : A) → P a → P b → f a ≡ f b → a ≡ b)
    → (xs ys : List A) → All P xs → All P ys → length xs ≡ length ys → flat_map f xs ≡ flat_map f ys → xs ≡ ys
same_values P f n size one [] [] hx hy count e = refl
same_values P f n size one [] (y ∷ ys) hx hy count e = absurd (omega (arith, count))
same_values P f n size one (x ∷ xs) [] hx hy count e = absurd (omega (arith, count))
same_values {A} P f n size one (x ∷ xs) (y ∷ ys) hx hy count e =
    let parts = same_parts n (f x) (flat_map f xs) (f y) (flat_map f ys) (size x) (size y) e in
    ap₂ (λ (a : A) (rest : List A). a ∷ rest) (one x y (All-head P x xs hx) (All-head P y ys hy) parts.0)
    (same_values P f n size one xs ys (All-tail P x xs hx) (All-tail P y ys hy) (omega (arith, count)) parts.1)

-- a polynomial, from its bytes
pub unpacked : (set : ParamSet) (width : ℕ) (a : Poly) → 8 * packed_len set width ≡ set.degree * width → IsSwitched set.degree (2 ^ width) a
    → repacked 8 width set.degree (packed set width a) ≡ a
unpacked set width a whole is =
    let bits : width * length a ≡ width * set.degree = ap (λ (k : ℕ). width * k) is.degree in
    let fits : width * length a ≤ 8 * packed_len set width = omega (arith, bits, whole) in
    ap (λ (k : ℕ). repacked 8 width k (packed set width a)) (sym is.degree) ∙ repacked-back width 8 (packed_len set width) a is.below fits

same_poly : (set : ParamSet) (width : ℕ) → 8 * packed_len set width ≡ set.degree * width → (a b : Poly) → IsSwitched set.degree (2 ^ width) a
    → IsSwitched set.degree (2 ^ width) b → packed set width a ≡ packed set width b → a ≡ b
same_poly set width whole a b ha hb e =
    sym (unpacked set width a whole ha) ∙ ap (λ (bytes : List ℕ). repacked 8 width set.degree bytes) e ∙ unpacked set width b whole hb

same_polys : (set : ParamSet) (width : ℕ) → 8 * packed_len set width ≡ set.degree * width → (xs ys : List Poly)
    → All (IsSwitched set.degree (2 ^ width)) xs → All (IsSwitched set.degree (2 ^ width)) ys → length xs ≡ length ys
    → flat_map (packed set width) xs ≡ flat_map (packed set width) ys → xs ≡ ys
same_polys set width whole =
    same_values (IsSwitched set.degree (2 ^ width)) (packed set width) (packed_len set width) (length-packed set width) (same_poly set width whole)

-- the polynomials of a reply of a set, in their numbers and shapes
record ArePolys (set : ParamSet) (body mask : List Poly) : Type 0 where
  body_count : length body ≡ entries set
  mask_count : length mask ≡ set.n
  body_fits : All (IsSwitched set.degree (q1 set)) body
  mask_fits : All (IsSwitched set.degree (q2 set)) mask

polys_of : (reply : SwitchedReply) → IsReply reply → ArePolys reply.set reply.body reply.mask
polys_of reply is = record { body_count = is.body_count; mask_count = is.mask_count; body_fits = is.body; mask_fits = is.mask }

-- their bytes
abbrev polys_bytes : ParamSet → List Poly → List Poly → List ℕ
polys_bytes set body mask = flat_map (packed set (q1_bits set)) body ++ flat_map (packed set set.q2_bits) mask

same_body_and_mask : (set : ParamSet) (body mask others rest : List Poly) → IsSet set → ArePolys set body mask → ArePolys set others rest
    → polys_bytes set body mask ≡ polys_bytes set others rest → (body ≡ others) × (mask ≡ rest)
same_body_and_mask set body mask others rest known is are e =
    let size : ℕ = packed_len set (q1_bits set) in
    let first : length (flat_map (packed set (q1_bits set)) body) ≡ entries set * size =
    length-packed_all set (q1_bits set) body ∙ ap (λ (k : ℕ). k * size) is.body_count in
    let other : length (flat_map (packed set (q1_bits set)) others) ≡ entries set * size =
    length-packed_all set (q1_bits set) others ∙ ap (λ (k : ℕ). k * size) are.body_count in
    let parts =
    same_parts (entries set * size) (flat_map (packed set (q1_bits set)) body) (flat_map (packed set set.q2_bits) mask)
    (flat_map (packed set (q1_bits set)) others) (flat_map (packed set set.q2_bits) rest) first other e in (
      same_polys set (q1_bits set) (packed_len-q1 set known) body others is.body_fits are.body_fits (is.body_count ∙ sym are.body_count) parts.0,
      same_polys set set.q2_bits (packed_len-q2 set known) mask rest is.mask_fits are.mask_fits (is.mask_count ∙ sym are.mask_count) parts.1,
    )

reply_by : (r u : SwitchedReply) → r.set ≡ u.set → r.count ≡ u.count → r.record_length ≡ u.record_length → r.body ≡ u.body → r.mask ≡ u.mask → r ≡ u
reply_by r u set count record_length body mask =
    λ i. record { set = set i; count = count i; record_length = record_length i; body = body i; mask = mask i }

-- Replies whose frames are the same bytes are one.
pub same_reply : (x : List ℕ) (r u : SwitchedReply) → IsOne Reply x (reply_message r) → IsOne Reply x (reply_message u) → r ≡ u
same_reply x r u hr hu =
    let fr = hr.spells.is in
    let fu = hu.spells.is in
    let fronts =
    same_front 3 reply_len r.set u.set (reply_body r) (reply_body u) fr.known fu.known (sym (frame_of_reply x r hr) ∙ frame_of_reply x u hu) in
    let bytes : polys_bytes r.set r.body r.mask ≡ polys_bytes r.set u.body u.mask =
    sym (polys_in_body r) ∙ ap (λ (body : List ℕ). drop 16 body) fronts.1 ∙ polys_in_body u
    ∙ ap (λ (s : ParamSet). polys_bytes s u.body u.mask) (sym fronts.0) in
    let others : ArePolys r.set u.body u.mask = subst (λ (s : ParamSet). ArePolys s u.body u.mask) (sym fronts.0) (polys_of u fu) in
    let polys = same_body_and_mask r.set r.body r.mask u.body u.mask fr.known (polys_of r fr) others bytes in
    let lengths = sym (record_length_in_body r fr) ∙ ap (λ (body : List ℕ). number_of 256 (take 8 (drop 8 body))) fronts.1 ∙ record_length_in_body u fu in
    reply_by r u fronts.0 (reply_count_is x r u hr hu) lengths polys.0 polys.1

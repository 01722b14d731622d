-- Frames from the pieces that they are written in.
use Rattle.std.proofs.Common.{◌≡◌, ◌<◌, ◌+◌, ℕ, List, [], ◌∷◌, ◌++◌, length, map, take, refl, sym, ap, ◌∙◌, append-nil, arith}
use Rattle.std.specs.Int.{to_le_bytes, w64}
use Rattle.std.specs.List.{flat_map}
use Rattle.std.proofs.lemmas.List.{append_assoc, take_more}
use Rattle.std.proofs.lemmas.Grind.{flat_map-append}
use Rattle.negacyclic.proofs.Digits.{to_le_bytes-digits, length-digits}
use Rattle.spiral_sets.specs.Sets.{q1_bits}
use Rattle.spiral_sets.specs.Counts.{state_len, reply_len}
use Rattle.frame_headers.specs.Headers.{header, number}
use Rattle.spiral_model.specs.Words.{Poly, poly_of}
use Rattle.spiral_model.specs.Replies.{QueryState, SwitchedReply}
use Rattle.spiral_frames.specs.Frames.{PeerRefusal, secret_byte, packed, state_body, reply_body, refuse_body, frame_of, state_message, reply_message, refuse_message, IsMessage}
use Rattle.spiral_frames.proofs.FrameLaws.{frame_is, state_frame_is, reply_frame_is}

-- 8 bytes of a number
eight_bytes : (x y : ℕ) (bytes : List ℕ) → bytes ≡ to_le_bytes w64 x → x ≡ y → bytes ≡ number 8 y
eight_bytes x y bytes e same = e ∙ ap (to_le_bytes w64) same ∙ to_le_bytes-digits w64 y

-- the frame of a state
pub state_spelled : (state : QueryState) (index : ℕ) (o1 o2 o3 tail : List ℕ) → IsMessage (state_message state)
    → o1 ≡ header 5 state.set (state_len state.set) → tail ≡ to_le_bytes w64 index → index ≡ state.index → o2 ≡ o1 ++ tail
    → o3 ≡ o2 ++ map secret_byte state.secret
    → o3 ≡ frame_of (state_message state)
unfolding state_body
state_spelled state index o1 o2 o3 tail is e1 et ei e2 e3 =
    let eight : tail ≡ number 8 state.index = eight_bytes index state.index tail et ei in
    rw (e3, e2, e1, eight) (append_assoc (header 5 state.set (state_len state.set)) (number 8 state.index) (map secret_byte state.secret))
    ∙ sym (state_frame_is state is)

-- the body of a refusal has a byte and 8
pub length-refuse_body : (refusal : PeerRefusal) → length (refuse_body refusal) ≡ 9
unfolding refuse_body
length-refuse_body refusal = omega (arith, length-digits 256 8 refusal.place)

-- the frame of a refusal
pub refuse_spelled : (refusal : PeerRefusal) (o1 o2 o3 tail : List ℕ) → o1 ≡ header 4 refusal.set 9 → o2 ≡ o1 ++ refusal.code ∷ [] → tail ≡ to_le_bytes w64 refusal.place
    → o3 ≡ o2 ++ tail → o3 ≡ frame_of (refuse_message refusal)
unfolding refuse_body
refuse_spelled refusal o1 o2 o3 tail e1 e2 et e3 =
    let eight : tail ≡ number 8 refusal.place = eight_bytes refusal.place refusal.place tail et refl in
    rw (e3, e2, e1, eight) (append_assoc (header 4 refusal.set 9) (refusal.code ∷ []) (number 8 refusal.place))
    ∙ sym (frame_is (refuse_message refusal) 9 (length-refuse_body refusal))

-- the frame of a reply
pub reply_spelled : (reply : SwitchedReply) (count record_length : ℕ) (o1 o2 o3 o4 o5 b1 b2 : List ℕ) → IsMessage (reply_message reply)
    → o1 ≡ header 3 reply.set (reply_len reply.set) → b1 ≡ to_le_bytes w64 count → count ≡ reply.count → o2 ≡ o1 ++ b1
    → b2 ≡ to_le_bytes w64 record_length → record_length ≡ reply.record_length → o3 ≡ o2 ++ b2
    → o4 ≡ o3 ++ flat_map (packed reply.set (q1_bits reply.set)) reply.body → o5 ≡ o4 ++ flat_map (packed reply.set reply.set.q2_bits) reply.mask
    → o5 ≡ frame_of (reply_message reply)
unfolding reply_body
reply_spelled reply count record_length o1 o2 o3 o4 o5 b1 b2 is e1 eb1 ec e2 eb2 el e3 e4 e5 =
    let first = eight_bytes count reply.count b1 eb1 ec in
    let second = eight_bytes record_length reply.record_length b2 eb2 el in
    rw (e5, e4, e3, e2, e1, first, second) (simp append_assoc) ∙ sym (reply_frame_is reply is)

-- one more polynomial behind the first k
pub polys_more : (f : Poly → List ℕ) (polys : List Poly) (k : ℕ) (start before after : List ℕ) (numbers : Poly) → k < length polys → numbers ≡ poly_of polys k
    → before ≡ start ++ flat_map f (take k polys) → after ≡ before ++ f numbers → after ≡ start ++ flat_map f (take (k + 1) polys)
polys_more f polys k start before after numbers h is so_far e =
    let next : flat_map f (take (k + 1) polys) ≡ flat_map f (take k polys) ++ f numbers =
    ap (flat_map f) (take_more polys k [] h)
    ∙ flat_map-append f (take k polys) (poly_of polys k ∷ [])
    ∙ ap (λ (t : List ℕ). flat_map f (take k polys) ++ t) (append-nil (f (poly_of polys k)) ∙ ap f (sym is)) in
    e ∙ ap (λ (t : List ℕ). t ++ f numbers) so_far ∙ append_assoc start (flat_map f (take k polys)) (f numbers) ∙ ap (λ (t : List ℕ). start ++ t) (sym next)

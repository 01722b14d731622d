-- The body of a Reply: its numbers and its packed polynomials, read again, and bytes that are those of the reply read from them.
use Rattle.std.proofs.Common.{◌≡◌, ℕ, ◌+◌, ◌*◌, ◌^◌, ◌<◌, ◌≤◌, List, [], ◌++◌, length, take, drop, All, refl, sym, ◌∙◌, ap, ap₂, arith, length-take, append-nil}
use Rattle.std.specs.List.{flat_map}
use Rattle.std.proofs.lemmas.List.{take_all, drop_at, drop-drop, length-drop, length-map, take-append-drop}
use Rattle.std.proofs.lemmas.List.Elements.{All-take, All-drop}
use Rattle.negacyclic.specs.Digits.{number_of, repacked}
use Rattle.negacyclic.proofs.Digits.{length-repacked, repacked_below, repacked-back}
use Rattle.spiral_sets.specs.declared.param_set.ParamSet.{ParamSet}
use Rattle.spiral_sets.specs.Sets.{IsSet, entries, q1_bits, max_records, capacity}
use Rattle.spiral_sets.specs.Counts.{packed_len, reply_len}
use Rattle.spiral_sets.proofs.SetBounds.{packed_len-q1, packed_len-q2}
use Rattle.frame_headers.proofs.HeaderLaws.{number_is}
use Rattle.spiral_model.specs.Words.{Poly}
use Rattle.spiral_model.specs.Replies.{SwitchedReply, IsReply, IsSwitched}
use Rattle.spiral_frames.specs.Frames.{packed, reply_body}
use Rattle.spiral_frames.proofs.Bodies.{length-packed, length-packed_all, packed_polys, count_in_body, record_length_in_body, polys_in_body, reply_body_is}
use Rattle.spiral_frames.proofs.SameMessages.{unpacked}
use Rattle.frame_streams.specs.Parsing.{pieces, switched_in, reply_in}
use Rattle.frame_streams.proofs.CutPieces.{length-pieces, pieces_back, pieces_spelled, each_piece}

-- ---- polynomials

module _ (set : ParamSet) (width count : ℕ) (whole : 8 * packed_len set width ≡ set.degree * width) where
  -- polynomials are read again, whatever bytes follow
  polys_back : (polys : List Poly) (rest : List ℕ) → length polys ≡ count → All (IsSwitched set.degree (2 ^ width)) polys
      → switched_in set width count (flat_map (packed set width) polys ++ rest) ≡ polys
  polys_back polys rest many fit =
      pieces_back (packed set width) (repacked 8 width set.degree) (packed_len set width) (IsSwitched set.degree (2 ^ width))
      (λ poly is. length-packed set width poly) (λ poly is. unpacked set width poly whole is) count polys rest many fit

  poly_packed : (bytes : List ℕ) → length bytes ≡ packed_len set width → All (λ b. b < 256) bytes
      → packed set width (repacked 8 width set.degree bytes) ≡ bytes
  poly_packed bytes size below =
      let room : 8 * length bytes ≤ width * set.degree = omega (arith, whole, ap (λ (n : ℕ). 8 * n) size) in
      ap (λ (n : ℕ). repacked width 8 n (repacked 8 width set.degree bytes)) (sym size) ∙ repacked-back 8 width set.degree bytes below room

  -- polynomials that are read make the front of the bytes again
  polys_spelled : (bytes : List ℕ) → count * packed_len set width ≤ length bytes → All (λ b. b < 256) bytes
      → flat_map (packed set width) (switched_in set width count bytes) ≡ take (count * packed_len set width) bytes
  polys_spelled bytes room below =
      pieces_spelled (packed set width) (repacked 8 width set.degree) (packed_len set width) poly_packed count bytes room below

-- each has N numbers of that width, and so many there are
polys_fit : (set : ParamSet) (width count : ℕ) (bytes : List ℕ) → All (IsSwitched set.degree (2 ^ width)) (switched_in set width count bytes)
polys_fit set width count bytes =
    each_piece (IsSwitched set.degree (2 ^ width)) (repacked 8 width set.degree) (packed_len set width) count bytes
    (λ i h.
    let here : List ℕ = take (packed_len set width) (drop (packed_len set width * i) bytes) in
    record { degree = length-repacked 8 width set.degree here; below = repacked_below 8 width set.degree here })

length-polys : (set : ParamSet) (width count : ℕ) (bytes : List ℕ) → length (switched_in set width count bytes) ≡ count
length-polys set width count bytes =
    length-map (pieces (packed_len set width) count bytes) (repacked 8 width set.degree) ∙ length-pieces (packed_len set width) count bytes

-- ---- a reply is read again

reply_by : (r u : SwitchedReply) → r.set ≡ u.set → r.count ≡ u.count → r.record_length ≡ u.record_length → r.body ≡ u.body → r.mask ≡ u.mask → r ≡ u
reply_by r u set count record_length body mask =
    λ i. record { set = set i; count = count i; record_length = record_length i; body = body i; mask = mask i }

-- A reply is read again from its body.
pub reply_back : (reply : SwitchedReply) → IsReply reply → reply_in reply.set (reply_body reply) ≡ reply
unfolding reply_in
reply_back reply is =
    let set : ParamSet = reply.set in
    let size : ℕ = entries set * packed_len set (q1_bits set) in
    let first : List ℕ = flat_map (packed set (q1_bits set)) reply.body in
    let second : List ℕ = flat_map (packed set set.q2_bits) reply.mask in
    let first_len : length first ≡ size =
    length-packed_all set (q1_bits set) reply.body ∙ ap (λ (k : ℕ). k * packed_len set (q1_bits set)) is.body_count in
    let behind : drop (16 + size) (reply_body reply) ≡ second ++ [] =
    sym (drop-drop size 16 (reply_body reply)) ∙ ap (drop size) (polys_in_body reply) ∙ drop_at first second size first_len ∙ sym (append-nil second) in
    reply_by (reply_in set (reply_body reply)) reply refl (count_in_body reply is) (record_length_in_body reply is)
    (ap (switched_in set (q1_bits set) (entries set)) (polys_in_body reply)
    ∙ polys_back set (q1_bits set) (entries set) (packed_len-q1 set is.known) reply.body second is.body_count is.body)
    (ap (switched_in set set.q2_bits set.n) behind
    ∙ polys_back set set.q2_bits set.n (packed_len-q2 set is.known) reply.mask [] is.mask_count is.mask)

-- ---- a body that passes the checks is that of the reply read from it

module _ (set : ParamSet) (body : List ℕ) (known : IsSet set) (below : All (λ b. b < 256) body) (whole : length body ≡ reply_len set) where
  abbrev size : ℕ
  size = entries set * packed_len set (q1_bits set)

  abbrev behind : List ℕ
  behind = drop 16 body

  behind_len : length behind ≡ size + set.n * packed_len set set.q2_bits
  behind_len = omega (arith, length-drop 16 body, whole)

  mask_len : length (drop (16 + size) body) ≡ set.n * packed_len set set.q2_bits
  mask_len = omega (arith, length-drop (16 + size) body, whole)

  polys_are : packed_polys (reply_in set body) ≡ behind
  unfolding reply_in
  polys_are =
      let first : flat_map (packed set (q1_bits set)) (switched_in set (q1_bits set) (entries set) behind) ≡ take size behind =
      polys_spelled set (q1_bits set) (entries set) (packed_len-q1 set known) behind (omega (arith, behind_len)) (All-drop (λ b. b < 256) 16 body below) in
      let second : flat_map (packed set set.q2_bits) (switched_in set set.q2_bits set.n (drop (16 + size) body)) ≡ drop (16 + size) body =
      polys_spelled set set.q2_bits set.n (packed_len-q2 set known) (drop (16 + size) body) (omega (arith, mask_len))
      (All-drop (λ b. b < 256) (16 + size) body below)
      ∙ take_all (set.n * packed_len set set.q2_bits) (drop (16 + size) body) (omega (arith, mask_len)) in
      ap₂ (λ (x y : List ℕ). x ++ y) first (second ∙ sym (drop-drop size 16 body)) ∙ take-append-drop size behind

  -- those of the reply that is read, where its numbers pass
  pub reply_spelled : number_of 256 (take 8 body) ≤ max_records set → 0 < number_of 256 (take 8 (drop 8 body))
      → number_of 256 (take 8 (drop 8 body)) ≤ capacity set → IsReply (reply_in set body) × (reply_body (reply_in set body) ≡ body)
  unfolding reply_in
  reply_spelled few some most =
      let is : IsReply (reply_in set body) = record {
        known = known;
        count = few;
        some_length = some;
        record_length = most;
        body_count = length-polys set (q1_bits set) (entries set) behind;
        mask_count = length-polys set set.q2_bits set.n (drop (16 + size) body);
        body = polys_fit set (q1_bits set) (entries set) behind;
        mask = polys_fit set set.q2_bits set.n (drop (16 + size) body);
      } in
      let one =
      number_is 8 (number_of 256 (take 8 body)) (take 8 body) (omega (arith, length-take 8 body, whole)) (All-take (λ b. b < 256) 8 body below) refl in
      let two =
      number_is 8 (number_of 256 (take 8 (drop 8 body))) (take 8 (drop 8 body)) (omega (arith, length-take 8 (drop 8 body), length-drop 8 body, whole))
      (All-take (λ b. b < 256) 8 (drop 8 body) (All-drop (λ b. b < 256) 8 body below)) refl in
      (is, sym (reply_body_is (reply_in set body) body one two (sym polys_are)))

-- A Reply's body: its two numbers, and the polynomials packed behind them.
use Rattle.std.proofs.Common.{◌≡◌, ℕ, ◌+◌, ◌-◌, ◌*◌, ◌/◌, ◌^◌, ◌<◌, ◌≤◌, List, ◌++◌, length, take, drop, All, refl, sym, ◌∙◌, ap, ap₂, subst, arith, length-take}
use Rattle.std.specs.List.{flat_map}
use Rattle.std.proofs.lemmas.List.{length-drop, drop-drop, take_at, drop_at, take-append-drop, take_rest}
use Rattle.std.proofs.lemmas.List.Elements.{All-take, All-drop}
use Rattle.negacyclic.specs.Digits.{number_of, repacked}
use Rattle.negacyclic.proofs.Digits.{length-repacked, repacked_below, repacked-back}
use Rattle.spiral_sets.specs.declared.param_set.ParamSet.{ParamSet}
use Rattle.spiral_sets.specs.Sets.{IsSet, entries, q1_bits, q1, q2, max_records, capacity}
use Rattle.spiral_sets.specs.Counts.{packed_len, reply_len}
use Rattle.frame_headers.proofs.HeaderLaws.{number_is}
use Rattle.spiral_model.specs.Words.{Poly}
use Rattle.spiral_model.specs.Replies.{SwitchedReply, IsSwitched}
use Rattle.spiral_frames.specs.Frames.{packed, reply_message}
use Rattle.spiral_frames.proofs.Bodies.{length-packed_all, packed_polys, count_in_body, record_length_in_body, polys_in_body, reply_body_is}
use Rattle.pir_wire.specs.Bodies.{IsBodyOf}
use Rattle.pir_wire.specs.Pieces.{AreSpelled}

-- numbers cut from the bytes of a polynomial, packed again, are those bytes
pub poly_packed : (N w : ℕ) (bytes numbers : List ℕ) → length bytes ≡ N * w / 8 → All (λ b. b < 2 ^ 8) bytes → numbers ≡ repacked 8 w N bytes
    → IsSwitched N (2 ^ w) numbers × (repacked w 8 (N * w / 8) numbers ≡ bytes)
poly_packed N w bytes numbers size below is =
    let room : 8 * length bytes ≤ w * N = omega arith in
    (rw is (record { degree = length-repacked 8 w N bytes; below = repacked_below 8 w N bytes }), rw (is, ← size) (repacked-back 8 w N bytes below room))

-- ---- the numbers in front

module _ (set : ParamSet) (body : List ℕ) (reply : SwitchedReply) (is : IsBodyOf set body (reply_message reply)) where
  pub count_within : number_of 256 (take 8 body) ≤ max_records set
  count_within =
      rw (ap (λ (b : List ℕ). number_of 256 (take 8 b)) is.spelled ∙ count_in_body reply is.kept)
      (subst (λ (s : ParamSet). reply.count ≤ max_records s) is.set_is is.kept.count)

  record_length_of : number_of 256 (take 8 (drop 8 body)) ≡ reply.record_length
  record_length_of = ap (λ (b : List ℕ). number_of 256 (take 8 (drop 8 b))) is.spelled ∙ record_length_in_body reply is.kept

  pub record_length_some : 0 < number_of 256 (take 8 (drop 8 body))
  record_length_some = rw record_length_of is.kept.some_length

  pub record_length_within : number_of 256 (take 8 (drop 8 body)) ≤ capacity set
  record_length_within = rw record_length_of (subst (λ (s : ParamSet). reply.record_length ≤ capacity s) is.set_is is.kept.record_length)

-- ---- the polynomials behind them

-- the bytes are those of a reply's entries, and of its row 0
abbrev AreEntries : ParamSet → List ℕ → List Poly → Type 0
AreEntries set bytes polys = AreSpelled (IsSwitched set.degree (q1 set)) (packed set (q1_bits set)) (entries set) bytes polys

abbrev AreMask : ParamSet → List ℕ → List Poly → Type 0
AreMask set bytes polys = AreSpelled (IsSwitched set.degree (q2 set)) (packed set set.q2_bits) set.n bytes polys

module _ (set : ParamSet) (body : List ℕ) (w count middle : ℕ) (w_is : w ≡ q1_bits set) (count_is : count ≡ entries set)
    (middle_is : middle ≡ 16 + count * (set.degree * w / 8)) where
  abbrev front : List ℕ
  front = take (middle - 16) (drop 16 body)

  abbrev back : List ℕ
  back = take (length body - middle) (drop middle body)

  front_len : middle - 16 ≡ entries set * packed_len set (q1_bits set)
  front_len = rw (middle_is, w_is, count_is) (omega arith)

  rest_is : drop (middle - 16) (drop 16 body) ≡ back
  rest_is =
      let further : 16 + (middle - 16) ≡ middle = omega arith in
      drop-drop (middle - 16) 16 body ∙ ap (λ (n : ℕ). drop n body) further ∙ sym (take_rest body middle)

  -- those of a reply whose body it is
  module _ (reply : SwitchedReply) (is : IsBodyOf set body (reply_message reply)) where
    abbrev first : List ℕ
    first = flat_map (packed reply.set (q1_bits reply.set)) reply.body

    abbrev second : List ℕ
    second = flat_map (packed reply.set reply.set.q2_bits) reply.mask

    behind : drop 16 body ≡ first ++ second
    behind = ap (drop 16) is.spelled ∙ polys_in_body reply

    first_len : length first ≡ middle - 16
    first_len =
        length-packed_all reply.set (q1_bits reply.set) reply.body ∙ ap (λ (k : ℕ). k * packed_len reply.set (q1_bits reply.set)) is.kept.body_count
        ∙ ap (λ (s : ParamSet). entries s * packed_len s (q1_bits s)) is.set_is ∙ sym front_len

    pub entries_of_reply : AreSpelled (IsSwitched set.degree (2 ^ w)) (repacked w 8 (set.degree * w / 8)) count front reply.body
    entries_of_reply =
        let spelled : first ≡ front = sym (ap (take (middle - 16)) behind ∙ take_at first second (middle - 16) first_len) in
        rw (w_is, count_is)
        (subst (λ (s : ParamSet). AreEntries s front reply.body) is.set_is (record { many = is.kept.body_count; fit = is.kept.body; spelled = spelled }))

    pub mask_of_reply : AreMask set back reply.mask
    mask_of_reply =
        let spelled : second ≡ back = sym (ap (drop (middle - 16)) behind ∙ drop_at first second (middle - 16) first_len) ∙ rest_is in
        subst (λ (s : ParamSet). AreMask s back reply.mask) is.set_is (record { many = is.kept.mask_count; fit = is.kept.mask; spelled = spelled })

  -- the reply of these, and of the numbers in front
  pub reply_of_polys : (records len : ℕ) (rows mask : List Poly) → IsSet set → All (λ b. b < 2 ^ 8) body → length body ≡ reply_len set
      → records ≡ number_of 256 (take 8 body) → records ≤ max_records set → len ≡ number_of 256 (take 8 (drop 8 body)) → 0 < len → len ≤ capacity set
      → AreSpelled (IsSwitched set.degree (2 ^ w)) (repacked w 8 (set.degree * w / 8)) count front rows → AreMask set back mask
      → IsBodyOf set body (reply_message (record { set = set; count = records; record_length = len; body = rows; mask = mask }))
  reply_of_polys records len rows mask known below size records_is few len_is some most is_rows is_mask =
      let here : AreEntries set front rows = rw (w_is, count_is) at is_rows in
      let read : SwitchedReply = record { set = set; count = records; record_length = len; body = rows; mask = mask } in
      let one = number_is 8 records (take 8 body) (omega (arith, length-take 8 body, size)) (All-take (λ b. b < 2 ^ 8) 8 body below) records_is in
      let two =
      number_is 8 len (take 8 (drop 8 body)) (omega (arith, length-take 8 (drop 8 body), length-drop 8 body, size))
      (All-take (λ b. b < 2 ^ 8) 8 (drop 8 body) (All-drop (λ b. b < 2 ^ 8) 8 body below)) len_is in
      let behind : drop 16 body ≡ packed_polys read =
      sym (take-append-drop (middle - 16) (drop 16 body)) ∙ ap₂ (λ (a b : List ℕ). a ++ b) (sym here.spelled) (rest_is ∙ sym is_mask.spelled) in
      record {
        set_is = refl;
        kept = record {
          known = known;
          count = few;
          some_length = some;
          record_length = most;
          body_count = here.many;
          mask_count = is_mask.many;
          body = here.fit;
          mask = is_mask.fit;
        };
        spelled = reply_body_is read body one two behind;
      }

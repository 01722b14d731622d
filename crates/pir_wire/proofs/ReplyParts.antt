-- A Reply's body in the making: what is known of it, and what becomes of it as bytes are taken.
use Rattle.std.proofs.Common.{◌≡◌, ℕ, ◌+◌, ◌*◌, ◌/◌, ◌^◌, ◌<◌, ◌≤◌, ◌≢◌, ◌⊎◌, inl, inr, List, [], ◌∷◌, ◌++◌, length, take, drop, All, Ok, Err, Result, refl, sym, ◌∙◌, ap, ap₂, subst, arith, length-append, length-take, append_assoc, append-nil, eq-eqb, ne_eqb}
use Rattle.std.specs.Prelude.{nat_eq}
use Rattle.std.specs.List.{flat_map}
use Rattle.std.proofs.lemmas.Bool.{cases_lt}
use Rattle.std.proofs.lemmas.List.{take-append-le, drop-append-le, drop_at, length-drop, length_push}
use Rattle.std.proofs.lemmas.List.Elements.{All-push, All-take, All-drop}
use Rattle.std.proofs.lemmas.Grind.{flat_map-append}
use Rattle.std.proofs.Math.Nat.{mul-le-mul}
use Rattle.negacyclic.specs.Digits.{number_of, repacked}
use Rattle.spiral_sets.specs.declared.param_set.ParamSet.{ParamSet}
use Rattle.spiral_sets.specs.Sets.{IsSet, name_of, entries, q1_bits, q1, q2, max_records, capacity}
use Rattle.spiral_sets.specs.Counts.{packed_len, reply_len}
use Rattle.spiral_sets.proofs.SetBounds.{at_least, n-some}
use Rattle.frame_headers.specs.declared.frame_error.FrameError.TheVariants.{TooMany, RecordLength}
use Rattle.frame_headers.specs.declared.kind.FrameKind.{FrameKind}
use Rattle.frame_headers.specs.declared.kind.FrameKind.TheVariants.{Reply}
use Rattle.frame_headers.specs.Headers.{number}
use Rattle.frame_headers.specs.Checks.{refuses, number_at}
use Rattle.frame_headers.proofs.HeaderLaws.{number_is}
use Rattle.spiral_model.specs.Words.{Poly}
use Rattle.spiral_model.specs.Replies.{SwitchedReply, IsSwitched}
use Rattle.spiral_frames.specs.Frames.{packed, reply_message}
use Rattle.spiral_frames.proofs.Bodies.{length-packed_all, packed_polys, reply_body_is}
use Rattle.frame_streams.specs.Heads.{header_of, found}
use Rattle.frame_streams.proofs.BehindHeaders.{length-header_of}
use Rattle.frame_streams.proofs.ReplyChecks.{count_refused, no_record_length_refused, record_length_refused, reply_clean}
use Rattle.pir_wire.specs.Bodies.{IsBodyOf}
use Rattle.pir_wire.specs.Growing.{IsGrowing, Grows}
use Rattle.pir_wire.specs.BodyParts.{Takes, IsReplyFront, IsReplyPart, PartTaken, reply_bytes}
use Rattle.pir_wire.specs.declared.decoder.body.GrowError.{GrowError}
use Rattle.pir_wire.specs.declared.decoder.body.GrowError.TheVariants.{Refused, NoMemory}
use Rattle.pir_wire.proofs.BodyParts.{seen, grown}

-- ---- the numbers in front

module _ (set : ParamSet) (front : List ℕ) (place value : ℕ) where
  -- a count over the number of records is refused
  pub count_found : 8 ≤ length front → place ≡ 15 + length (name_of set) + 0 → value ≡ number_at front 0 → max_records set < value
      → found Reply set front ≡ refuses (TooMany place value)
  count_found some is_place is_value large =
      let start : length (header_of Reply set) ≡ place = omega (arith, length-header_of Reply set) in
      let over : max_records set < number_of 256 (take 8 front) = omega arith in
      count_refused set front some over
      ∙ ap (λ (p : ℕ). refuses (TooMany p (number_of 256 (take 8 front)))) start
      ∙ ap (λ (v : ℕ). refuses (TooMany place v)) (sym is_value)

  module _ (count : ℕ) (all : 16 ≤ length front) (is_count : count ≡ number_at front 0) (few : count ≤ max_records set)
      (is_place : place ≡ 15 + length (name_of set) + 8) (is_value : value ≡ number_at front 8) where
    some : 8 ≤ length front
    some = omega arith

    counted : number_of 256 (take 8 front) ≤ max_records set
    counted = omega arith

    moved : refuses (RecordLength (length (header_of Reply set) + 8) (number_of 256 (take 8 (drop 8 front)))) ≡ refuses (RecordLength place value)
    moved =
        let start : length (header_of Reply set) + 8 ≡ place = omega (arith, length-header_of Reply set) in
        ap (λ (p : ℕ). refuses (RecordLength p (number_of 256 (take 8 (drop 8 front))))) start
        ∙ ap (λ (v : ℕ). refuses (RecordLength place v)) (sym is_value)

    -- a record length of 0 is refused
    pub no_length_found : value ≡ 0 → found Reply set front ≡ refuses (RecordLength place value)
    no_length_found none =
        let zero_there : number_of 256 (take 8 (drop 8 front)) ≡ 0 = omega arith in
        no_record_length_refused set front some counted all zero_there ∙ moved

    -- one over the capacity
    pub length_found : 0 < value → capacity set < value → found Reply set front ≡ refuses (RecordLength place value)
    length_found some_length large =
        let there : 0 < number_of 256 (take 8 (drop 8 front)) = omega arith in
        let over : capacity set < number_of 256 (take 8 (drop 8 front)) = omega arith in
        record_length_refused set front some counted all there over ∙ moved

-- ---- one polynomial

-- bytes that make a polynomial whole
pub part_whole : (N k w : ℕ) (polys polys_now : List Poly) (part part_now taken longer numbers : List ℕ) → k ≡ N → longer ≡ part ++ taken
    → IsSwitched k (2 ^ w) numbers → repacked w 8 (k * w / 8) numbers ≡ longer → polys_now ≡ polys ++ numbers ∷ [] → part_now ≡ []
    → PartTaken N w polys part polys_now part_now taken
part_whole N k w polys polys_now part part_now taken longer numbers same e switched spelled joined empty =
    inr (numbers, subst (λ (n : ℕ). IsSwitched n (2 ^ w) numbers) same switched, ap (λ (n : ℕ). repacked w 8 (n * w / 8) numbers) (sym same) ∙ spelled ∙ e, joined, empty)

first_len-some : (set : ParamSet) → IsSet set → 1 ≤ packed_len set (q1_bits set)
first_len-some = at_least (λ set. packed_len set (q1_bits set)) 1 (refl, (refl, (refl, (refl, (refl, (refl, (refl, (refl, (refl, (refl, tt))))))))))

second_len-some : (set : ParamSet) → IsSet set → 1 ≤ packed_len set set.q2_bits
second_len-some = at_least (λ set. packed_len set set.q2_bits) 1 (refl, (refl, (refl, (refl, (refl, (refl, (refl, (refl, (refl, (refl, tt))))))))))

-- ---- how many bytes have come: f in front, a polynomials of A bytes of E, m of B bytes of M, and p of the next one

short_of : (a b len part : ℕ) → a < b → part < len → a * len + part < b * len
short_of a b len part less few =
    let next : a + 1 ≤ b = omega arith in
    let same : len ≤ len = omega arith in
    let room : (a + 1) * len ≤ b * len = mul-le-mul next same in
    omega arith

module _ (f a m p A B E M size : ℕ) (is : size ≡ f + (a * A + (m * B + p))) where
  only_front : a ≡ 0 → m ≡ 0 → p ≡ 0 → size ≡ f
  only_front ea em ep =
      let e : size ≡ f + (0 * A + (0 * B + 0)) =
      is ∙ ap (λ (x : ℕ). f + (x * A + (m * B + p))) ea ∙ ap (λ (x : ℕ). f + (0 * A + (x * B + p))) em ∙ ap (λ (x : ℕ). f + (0 * A + (0 * B + x))) ep in
      omega arith

  in_body : f ≡ 16 → a < E → m ≡ 0 → p < A → size < 16 + E * A + M * B
  in_body ef less em few =
      let e : size ≡ f + (a * A + (0 * B + p)) = is ∙ ap (λ (x : ℕ). f + (a * A + (x * B + p))) em in
      let room : a * A + p < E * A = short_of a E A p less few in
      omega arith

  in_mask : f ≡ 16 → a ≡ E → m < M → p < B → size < 16 + E * A + M * B
  in_mask ef ea less few =
      let e : size ≡ f + (E * A + (m * B + p)) = is ∙ ap (λ (x : ℕ). f + (x * A + (m * B + p))) ea in
      let room : m * B + p < M * B = short_of m M B p less few in
      omega arith

  all_there : f ≡ 16 → a ≡ E → m ≡ M → p ≡ 0 → size ≡ 16 + E * A + M * B
  all_there ef ea em ep =
      let e : size ≡ f + (E * A + (M * B + p)) = is ∙ ap (λ (x : ℕ). f + (x * A + (m * B + p))) ea ∙ ap (λ (x : ℕ). f + (E * A + (x * B + p))) em in
      omega arith

-- ---- a Reply in the making

-- nothing is wanting
pub record IsWholeReply (set : ParamSet) (front : List ℕ) (body mask : List Poly) (part : List ℕ) : Type 0 where
  pub numbers : length front ≡ 16
  pub polys : length body ≡ entries set
  pub mask_polys : length mask ≡ set.n
  pub none : part ≡ []
  pub size : length (reply_bytes set front body mask part) ≡ reply_len set

-- bytes are wanting, of row 0 too
pub record IsWantingReply (set : ParamSet) (front : List ℕ) (body mask : List Poly) (part : List ℕ) : Type 0 where
  pub fewer : length mask < set.n
  pub size : length (reply_bytes set front body mask part) < reply_len set

module _ (set : ParamSet) (front : List ℕ) (body mask : List Poly) (part : List ℕ) where
  abbrev first : List ℕ
  first = flat_map (packed set (q1_bits set)) body

  abbrev second : List ℕ
  second = flat_map (packed set set.q2_bits) mask

  -- what has come behind the numbers in front
  abbrev rest : List ℕ
  rest = first ++ (second ++ part)

  length-reply_bytes : length (reply_bytes set front body mask part)
      ≡ length front + (length body * packed_len set (q1_bits set) + (length mask * packed_len set set.q2_bits + length part))
  length-reply_bytes =
      length-append front rest
      ∙ ap (λ (k : ℕ). length front + k)
      (length-append first (second ++ part)
      ∙ ap₂ (λ (j k : ℕ). j + k) (length-packed_all set (q1_bits set) body)
      (length-append second part ∙ ap (λ (k : ℕ). k + length part) (length-packed_all set set.q2_bits mask)))

  module _ (is : IsReplyPart set front body mask part) where
    nothing_behind : length front < 16 → rest ≡ []
    nothing_behind few = let none = is.body_begins few in rw (none.0, none.1, none.2) refl

    -- until the numbers in front are whole there is nothing else
    pub front_alone : length front < 16 → reply_bytes set front body mask part ≡ front
    front_alone few = ap (λ (t : List ℕ). front ++ t) (nothing_behind few) ∙ append-nil front

    pub whole_or_wanting : IsWholeReply set front body mask part ⊎ IsWantingReply set front body mask part
    whole_or_wanting =
        let A : ℕ = packed_len set (q1_bits set) in
        let B : ℕ = packed_len set set.q2_bits in
        let n_some : 2 ≤ set.n = n-some set is.known in
        elim (cases_lt (length front) 16) [
          | inl few ↦
              let none = is.body_begins few in
              let same : length (reply_bytes set front body mask part) ≡ length front = ap length (front_alone few) in
              inr (record { fewer = omega (arith, ap length none.1); size = omega (arith, same) })
          | inr enough ↦
              let f : length front ≡ 16 = omega (arith, is.numbers.most) in
              elim (cases_lt (length body) (entries set)) [
                | inl less ↦
                    let none : length mask ≡ 0 = ap length (is.mask_begins less) in
                    inr (record {
                      fewer = omega arith;
                      size = in_body (length front) (length body) (length mask) (length part) A B (entries set) set.n
                          (length (reply_bytes set front body mask part)) length-reply_bytes f less none (is.body_part less);
                    })
                | inr all ↦
                    let a : length body ≡ entries set = omega (arith, is.body_most) in
                    elim (cases_lt (length mask) set.n) [
                      | inl less ↦
                          inr (record {
                            fewer = less;
                            size = in_mask (length front) (length body) (length mask) (length part) A B (entries set) set.n
                                (length (reply_bytes set front body mask part)) length-reply_bytes f a less (is.mask_part all);
                          })
                      | inr last ↦
                          let m : length mask ≡ set.n = omega (arith, is.mask_most) in
                          inl (record {
                            numbers = f;
                            polys = a;
                            mask_polys = m;
                            none = is.all last;
                            size = all_there (length front) (length body) (length mask) (length part) A B (entries set) set.n
                                (length (reply_bytes set front body mask part)) length-reply_bytes f a m (ap length (is.all last));
                          })
                    ]
              ]
        ]

    within : length (reply_bytes set front body mask part) ≤ reply_len set
    within = elim whole_or_wanting [ inl whole ↦ omega (arith, whole.size) | inr wanting ↦ omega (arith, wanting.size) ]

    -- whole bytes are those of a whole reply
    pub whole_reply : length (reply_bytes set front body mask part) ≡ reply_len set → IsWholeReply set front body mask part
    whole_reply size = elim whole_or_wanting [ inl whole ↦ whole | inr wanting ↦ absurd (omega (arith, wanting.size, size)) ]

    -- where bytes are wanting, polynomials of row 0 are
    pub wanting_reply : length (reply_bytes set front body mask part) < reply_len set → length mask < set.n
    wanting_reply size = elim whole_or_wanting [ inl whole ↦ absurd (omega (arith, whole.size, size)) | inr wanting ↦ wanting.fewer ]

    pub whole_test : nat_eq (length mask) set.n ≡ nat_eq (length (reply_bytes set front body mask part)) (reply_len set)
    whole_test =
        elim whole_or_wanting [
          | inl whole ↦
              eq-eqb (length mask) set.n whole.mask_polys ∙ sym (eq-eqb (length (reply_bytes set front body mask part)) (reply_len set) whole.size)
          | inr wanting ↦
              let other : length mask ≢ set.n = omega (arith, wanting.fewer) in
              let short : length (reply_bytes set front body mask part) ≢ reply_len set = omega (arith, wanting.size) in
              ne_eqb (length mask) set.n other ∙ sym (ne_eqb (length (reply_bytes set front body mask part)) (reply_len set) short)
        ]

    -- so many bytes, of those in front, have come
    in_front : (k : ℕ) → k ≤ 16 → k ≤ length (reply_bytes set front body mask part) → k ≤ length front
    in_front k most come =
        elim (cases_lt (length front) 16) [
          | inl few ↦ omega (arith, ap length (front_alone few))
          | inr enough ↦ omega arith
        ]

    pub reply_growing : IsGrowing (seen Reply set (reply_bytes set front body mask part))
    reply_growing = record {
      known = is.known;
      clean =
          reply_clean set (reply_bytes set front body mask part)
          (λ come.
          let some : 8 ≤ length front = in_front 8 (omega arith) come in
          rw (take-append-le 8 front rest some) (is.numbers.few some))
          (λ come.
          let all : 16 ≤ length front = in_front 16 (omega arith) come in
          let some : 8 ≤ length front = omega arith in
          let behind : 8 ≤ length (drop 8 front) = omega (arith, length-drop 8 front) in
          rw (drop-append-le 8 front rest some, take-append-le 8 (drop 8 front) rest behind) (is.numbers.some_length all, is.numbers.right_length all));
      within = within;
    }

    -- ---- what becomes of it

    -- other numbers in front
    pub front_step : (now : List ℕ) → length front < 16 → IsReplyFront set now → IsReplyPart set now body mask part
    front_step now few fits = record {
      known = is.known;
      numbers = fits;
      body_polys = is.body_polys;
      mask_polys = is.mask_polys;
      body_most = is.body_most;
      mask_most = is.mask_most;
      body_begins = λ short. is.body_begins few;
      mask_begins = is.mask_begins;
      body_part = is.body_part;
      mask_part = is.mask_part;
      all = is.all;
    }

    -- another part of a polynomial of rows 1 to n
    pub body_kept : (now : List ℕ) → 16 ≤ length front → length body < entries set → length now < packed_len set (q1_bits set) → IsReplyPart set front body mask now
    body_kept now enough less short = record {
      known = is.known;
      numbers = is.numbers;
      body_polys = is.body_polys;
      mask_polys = is.mask_polys;
      body_most = is.body_most;
      mask_most = is.mask_most;
      body_begins = λ few. absurd (omega arith);
      mask_begins = is.mask_begins;
      body_part = λ begun. short;
      mask_part = λ ended. absurd (omega arith);
      all = λ full. absurd (omega (arith, ap length (is.mask_begins less), n-some set is.known));
    }

    -- one more of these polynomials
    body_joined : (poly : Poly) → 16 ≤ length front → length body < entries set → IsSwitched set.degree (q1 set) poly → IsReplyPart set front (body ++ poly ∷ []) mask []
    body_joined poly enough less switched = record {
      known = is.known;
      numbers = is.numbers;
      body_polys = All-push (IsSwitched set.degree (q1 set)) body poly is.body_polys switched;
      mask_polys = is.mask_polys;
      body_most = omega (arith, length_push body poly);
      mask_most = is.mask_most;
      body_begins = λ few. absurd (omega arith);
      mask_begins = λ begun. is.mask_begins less;
      body_part = λ begun. omega (arith, first_len-some set is.known);
      mask_part = λ ended. omega (arith, second_len-some set is.known);
      all = λ full. refl;
    }

    -- another part of a polynomial of row 0
    pub mask_kept : (now : List ℕ) → 16 ≤ length front → entries set ≤ length body → length mask < set.n → length now < packed_len set set.q2_bits
        → IsReplyPart set front body mask now
    mask_kept now enough ended less short = record {
      known = is.known;
      numbers = is.numbers;
      body_polys = is.body_polys;
      mask_polys = is.mask_polys;
      body_most = is.body_most;
      mask_most = is.mask_most;
      body_begins = λ few. absurd (omega arith);
      mask_begins = λ begun. absurd (omega arith);
      body_part = λ begun. absurd (omega arith);
      mask_part = λ all. short;
      all = λ full. absurd (omega arith);
    }

    -- one more of these polynomials
    mask_joined : (poly : Poly) → 16 ≤ length front → entries set ≤ length body → length mask < set.n → IsSwitched set.degree (q2 set) poly
        → IsReplyPart set front body (mask ++ poly ∷ []) []
    mask_joined poly enough ended less switched = record {
      known = is.known;
      numbers = is.numbers;
      body_polys = is.body_polys;
      mask_polys = All-push (IsSwitched set.degree (q2 set)) mask poly is.mask_polys switched;
      body_most = is.body_most;
      mask_most = omega (arith, length_push mask poly);
      body_begins = λ few. absurd (omega arith);
      mask_begins = λ begun. absurd (omega arith);
      body_part = λ begun. absurd (omega arith);
      mask_part = λ all. omega (arith, second_len-some set is.known);
      all = λ full. refl;
    }

-- ---- the steps of a decoder

-- The body goes on: its bytes are those before and what was taken, and it is as it has to be.
pub record GoesOn (set : ParamSet) (front : List ℕ) (body mask : List Poly) (part before taken : List ℕ) : Type 0 where
  pub kept : IsReplyPart set front body mask part
  pub spelled : reply_bytes set front body mask part ≡ before ++ taken

-- bytes behind everything, and behind a polynomial that they make whole
behind_all : (front first second part taken : List ℕ) → front ++ (first ++ (second ++ (part ++ taken))) ≡ (front ++ (first ++ (second ++ part))) ++ taken
behind_all front first second part taken = simp append_assoc

whole_first : (front first poly part taken : List ℕ) → poly ≡ part ++ taken → front ++ ((first ++ (poly ++ [])) ++ []) ≡ (front ++ (first ++ part)) ++ taken
whole_first front first poly part taken e = rw e (simp (append_assoc, append-nil))

whole_second : (front first second poly part taken : List ℕ) → poly ≡ part ++ taken
    → front ++ (first ++ ((second ++ (poly ++ [])) ++ [])) ≡ (front ++ (first ++ (second ++ part))) ++ taken
whole_second front first second poly part taken e = rw e (simp (append_assoc, append-nil))

module _ (set : ParamSet) (front : List ℕ) (body mask : List Poly) (part : List ℕ) (is : IsReplyPart set front body mask part) (enough : 16 ≤ length front) where
  abbrev f : Poly → List ℕ
  f = packed set (q1_bits set)

  abbrev g : Poly → List ℕ
  g = packed set set.q2_bits

  -- bytes of rows 1 to n
  pub body_step : (body_now : List Poly) (part_now taken : List ℕ) → length body < entries set → PartTaken set.degree (q1_bits set) body part body_now part_now taken
      → GoesOn set front body_now mask part_now (reply_bytes set front body mask part) taken
  body_step body_now part_now taken less (inl w) = record {
    kept = subst (λ (b : List Poly). IsReplyPart set front b mask part_now) (sym w.0) (body_kept set front body mask part is part_now enough less w.2);
    spelled = rw (w.0, w.1) (behind_all front (flat_map f body) (flat_map g mask) part taken);
  }
  body_step body_now part_now taken less (inr w) = record {
    kept = rw (w.3, w.4) (body_joined set front body mask part is w.0 enough less w.1);
    spelled =
        rw (w.3, w.4, is.mask_begins less, flat_map-append f body (w.0 ∷ [])) (whole_first front (flat_map f body) (f w.0) part taken w.2);
  }

  -- bytes of row 0
  pub mask_step : (mask_now : List Poly) (part_now taken : List ℕ) → entries set ≤ length body → length mask < set.n
      → PartTaken set.degree set.q2_bits mask part mask_now part_now taken → GoesOn set front body mask_now part_now (reply_bytes set front body mask part) taken
  mask_step mask_now part_now taken ended less (inl w) = record {
    kept = subst (λ (m : List Poly). IsReplyPart set front body m part_now) (sym w.0) (mask_kept set front body mask part is part_now enough ended less w.2);
    spelled = rw (w.0, w.1) (behind_all front (flat_map f body) (flat_map g mask) part taken);
  }
  mask_step mask_now part_now taken ended less (inr w) = record {
    kept = rw (w.3, w.4) (mask_joined set front body mask part is w.0 enough ended less w.1);
    spelled = rw (w.3, w.4, flat_map-append g mask (w.0 ∷ [])) (whole_second front (flat_map f body) (flat_map g mask) (g w.0) part taken w.2);
  }

-- what a call says that took bytes
pub goes_on_grown : (set : ParamSet) (front : List ℕ) (body mask : List Poly) (part before piece : List ℕ) (n : ℕ) → 1 ≤ n → n ≤ length piece
    → GoesOn set front body mask part before (take n piece)
    → Grows (seen Reply set before) (seen Reply set (reply_bytes set front body mask part)) piece (Ok n)
goes_on_grown set front body mask part before piece n some within on =
    (some, within, ap (seen Reply set) on.spelled, reply_growing set front body mask part on.kept)

-- the numbers in front were taken, at least some of them
takes_weaker : (kind : FrameKind) (P Q : List ℕ → Type 0) (set : ParamSet) (old new piece : List ℕ) (r : Result ℕ GrowError) → ((x : List ℕ) → P x → Q x)
    → Takes kind P set old new piece r → Takes kind Q set old new piece r
takes_weaker kind P Q set old new piece (Ok n) onto h = (h.0, h.1, h.2, onto new h.3)
takes_weaker kind P Q set old new piece (Err (Refused error)) onto h = h
takes_weaker kind P Q set old new piece (Err NoMemory) onto h = h

pub front_grown : (set : ParamSet) (front now : List ℕ) (body mask : List Poly) (part piece : List ℕ) (r : Result ℕ GrowError)
    → IsReplyPart set front body mask part → length front < 16 → Takes Reply (IsReplyFront set) set front now piece r
    → Grows (seen Reply set (reply_bytes set front body mask part)) (seen Reply set (reply_bytes set now body mask part)) piece r
front_grown set front now body mask part piece r is few taken =
    let none = is.body_begins few in
    let alone : (x : List ℕ) → reply_bytes set x body mask part ≡ x =
    λ x. rw (none.0, none.1, none.2) (append-nil x) in
    subst (λ (b : List ℕ). Grows (seen Reply set b) (seen Reply set (reply_bytes set now body mask part)) piece r) (sym (alone front))
    (subst (λ (b : List ℕ). Grows (seen Reply set front) (seen Reply set b) piece r) (sym (alone now))
    (grown Reply set (λ x. IsReplyPart set x body mask part)
    (λ x fits. subst (λ (b : List ℕ). IsGrowing (seen Reply set b)) (alone x) (reply_growing set x body mask part fits))
    front now piece r
    (takes_weaker Reply (IsReplyFront set) (λ x. IsReplyPart set x body mask part) set front now piece r (λ x fits. front_step set front body mask part is x few fits) taken)))

-- ---- the reply of whole bytes

pub reply_read : (set : ParamSet) (front : List ℕ) (body mask : List Poly) (count len : ℕ) → IsReplyPart set front body mask [] → length front ≡ 16
    → length body ≡ entries set → length mask ≡ set.n → All (λ b. b < 2 ^ 8) front → count ≡ number_at front 0 → len ≡ number_at front 8
    → IsBodyOf set (reply_bytes set front body mask []) (reply_message (record { set = set; count = count; record_length = len; body = body; mask = mask }))
reply_read set front body mask count len is whole all_body all_mask below is_count is_len =
    let read : SwitchedReply = record { set = set; count = count; record_length = len; body = body; mask = mask } in
    let some : 8 ≤ length front = omega arith in
    let all : 16 ≤ length front = omega arith in
    let first : List ℕ = flat_map (packed set (q1_bits set)) body in
    let second : List ℕ = flat_map (packed set set.q2_bits) mask in
    let rest : List ℕ = first ++ (second ++ []) in
    let behind : 8 ≤ length (drop 8 front) = omega (arith, length-drop 8 front) in
    let one : take 8 (front ++ rest) ≡ number 8 count =
    take-append-le 8 front rest some
    ∙ number_is 8 count (take 8 front) (omega (arith, length-take 8 front)) (All-take (λ b. b < 2 ^ 8) 8 front below) is_count in
    let two : take 8 (drop 8 (front ++ rest)) ≡ number 8 len =
    ap (take 8) (drop-append-le 8 front rest some) ∙ take-append-le 8 (drop 8 front) rest behind
    ∙ number_is 8 len (take 8 (drop 8 front)) (omega (arith, length-take 8 (drop 8 front), length-drop 8 front))
    (All-take (λ b. b < 2 ^ 8) 8 (drop 8 front) (All-drop (λ b. b < 2 ^ 8) 8 front below)) is_len in
    let last : drop 16 (front ++ rest) ≡ packed_polys read = drop_at front rest 16 whole ∙ ap (λ (t : List ℕ). first ++ t) (append-nil second) in
    record {
      set_is = refl;
      kept = record {
        known = is.known;
        count = rw is_count (is.numbers.few some);
        some_length = rw is_len (is.numbers.some_length all);
        record_length = rw is_len (is.numbers.right_length all);
        body_count = all_body;
        mask_count = all_mask;
        body = is.body_polys;
        mask = is.mask_polys;
      };
      spelled = reply_body_is read (front ++ rest) one two last;
    }

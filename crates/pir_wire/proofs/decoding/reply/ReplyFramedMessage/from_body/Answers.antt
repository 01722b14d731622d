use Rattle.std.proofs.Common.{◌≡◌, ℕ, ◌+◌, ◌*◌, ◌/◌, List, sym, ap, subst, arith}
use Rattle.std.proofs.lemmas.Option.{MatchOption-at_none, MatchOption-at_some}
use Rattle.bit_packing.proofs.Windows.{bytes_below}
use Rattle.spiral_sets.specs.declared.param_set.ParamSet.{ParamSet}
use Rattle.spiral_sets.proofs.SetBounds.{degree_cases, max_records-most, capacity-most, q2_bits-some, q2_bits-most}
use Rattle.frame_headers.specs.declared.kind.FrameKind.TheVariants.{Reply}
use Rattle.spiral_model.specs.Replies.{SwitchedReply}
use Rattle.spiral_frames.specs.Frames.{reply_message}
use Rattle.pir_wire.specs.Bodies.{IsBodyOf}
use Rattle.pir_wire.proofs.Replies.{count_within, record_length_some, record_length_within, entries_of_reply, mask_of_reply, reply_of_polys}
use Rattle.pir_wire.proofs.WholeFrames.{length_of_body, of_kind}
use Rattle.pir_wire.proofs.decoding.reply.ReplyFramedMessage.from_body.Goals as goal
use Rattle.pir_wire.proofs.decoding.reply.ReplyFramedMessage.from_body.Goals.{After-len, then-length-eq0-via-then-length-eq0, then-length-eq0-via-else-length-eq0+then-length-capacity}

pub returns-then-body-reply_len-clause-none : goal.returns-then-body-reply_len-clause-none
returns-then-body-reply_len-clause-none c =
    λ m kind_is is. omega (arith, c.if-body-reply_len.true, length_of_body Reply tt m kind_is c.args.set.now c.args.body.now is, c.reply_len.ensures)

pub returns-then-count-max_records-clause-none : goal.returns-then-count-max_records-clause-none
returns-then-count-max_records-clause-none c =
    of_kind (λ m. IsBodyOf c.args.set.now c.args.body.now m → ⊥) Reply
    (λ reply is. omega (arith, count_within c.args.set.now c.args.body.now reply is, c.number_at-count.ensures, c.max_records.ensures))

pub returns-then-length-eq0-clause-none : goal.returns-then-length-eq0-clause-none
returns-then-length-eq0-clause-none c =
    of_kind (λ m. IsBodyOf c.args.set.now c.args.body.now m → ⊥) Reply
    (λ reply is.
    elim c.then-length-eq0.branch [
      | then-length-eq0-via-then-length-eq0 w ↦ omega (arith, record_length_some c.args.set.now c.args.body.now reply is, c.number_at-length.ensures)
      | then-length-eq0-via-else-length-eq0+then-length-capacity w ↦
          omega (arith, record_length_within c.args.set.now c.args.body.now reply is, c.number_at-length.ensures)
    ])

-- where row 0 begins
middle : (c : After-len) → 16 + c.entries.result * c.len.result ≡ 16 + c.entries.result * (c.args.set.now.degree * c.q1_bits.result / 8)
middle c = ap (λ (n : ℕ). 16 + c.entries.result * n) c.len.ensures

pub returns-in_default-clause-none : goal.returns-in_default-clause-none
returns-in_default-clause-none c =
    of_kind (λ m. IsBodyOf c.args.set.now c.args.body.now m → ⊥) Reply
    (λ reply is.
    MatchOption-at_none _ _ c.in_default.is c.in_ok-rows.ensures.none reply.body
    (entries_of_reply c.args.set.now c.args.body.now c.q1_bits.result c.entries.result (16 + c.entries.result * c.len.result) c.q1_bits.ensures.value
    c.entries.ensures.value (middle (goal.at.returns-in_default-clause-none c).After-len) reply is))

pub pieces-requires-2-clause-sizes : goal.pieces-requires-2-clause-sizes
pieces-requires-2-clause-sizes c =
    (degree_cases c.args.set.now c.requires, omega (arith, q2_bits-some c.args.set.now c.requires), omega (arith, q2_bits-most c.args.set.now c.requires))

pub returns-in_default-2-clause-none : goal.returns-in_default-2-clause-none
returns-in_default-2-clause-none c =
    of_kind (λ m. IsBodyOf c.args.set.now c.args.body.now m → ⊥) Reply
    (λ reply is.
    MatchOption-at_none _ _ c.in_default-2.is c.in_ok-mask.ensures.none reply.mask
    (mask_of_reply c.args.set.now c.args.body.now c.q1_bits.result c.entries.result (16 + c.entries.result * c.len.result) c.q1_bits.ensures.value
    c.entries.ensures.value (middle (goal.at.returns-in_default-2-clause-none c).After-len) reply is))

pub overflow_cast-count : goal.overflow_cast-count
overflow_cast-count c = omega (arith, max_records-most c.args.set.now c.requires, c.max_records.ensures)

pub overflow_cast-length : goal.overflow_cast-length
overflow_cast-length c = omega (arith, capacity-most c.args.set.now c.requires, c.capacity.ensures)

pub returns-clause-found : goal.returns-clause-found
returns-clause-found c =
    let set : ParamSet = c.args.set.now in
    let body : List ℕ = c.args.body.now in
    subst (λ (r : SwitchedReply). IsBodyOf set body (reply_message r)) (sym c.from_polys.ensures)
    (reply_of_polys set body c.q1_bits.result c.entries.result (16 + c.entries.result * c.len.result) c.q1_bits.ensures.value c.entries.ensures.value
    (middle (goal.at.returns-clause-found c).After-len) c.number_at-count.result c.number_at-length.result c.in-Some.rows.items c.in-Some-2.mask.items
    c.requires
    (bytes_below body c.type_inv.body) (omega (arith, c.if-body-reply_len.false, c.reply_len.ensures))
    c.number_at-count.ensures (omega (arith, c.if-count-max_records.false, c.max_records.ensures))
    c.number_at-length.ensures (omega (arith, c.if-length-eq0.false)) (omega (arith, c.if-length-capacity.false, c.capacity.ensures))
    (MatchOption-at_some _ _ c.in-Some.rows c.in-Some.is c.in_ok-rows.ensures.found)
    (MatchOption-at_some _ _ c.in-Some-2.mask c.in-Some-2.is c.in_ok-mask.ensures.found))

use Rattle.std.proofs.Common.{ℕ, ◌+◌, ◌∙◌, sym, ap, arith, [], get_or}
use Rattle.frame_headers.specs.declared.header.HeaderRead.TheVariants.{Whole}
use Rattle.frame_headers.specs.Checks.{body_check}
use Rattle.frame_headers.proofs.HeaderReading.{read-ends, read-wrong_length, read-whole}
use Rattle.frame_headers.proofs.header.read_body_len.Goals as goal

pub returns-then-bytes-place : goal.returns-then-bytes-place
returns-then-bytes-place c = read-ends (body_check c.args.bytes.now) [] c.args.bytes.now (omega arith)

pub returns-then-is_wrong_length : goal.returns-then-is_wrong_length
returns-then-is_wrong_length c =
    read-wrong_length c.args.bytes.now c.args.set c.number_at-body.result c.needed_len-needed.result (omega arith) c.requires.named c.number_at-body.ensures c.needed_len-needed.ensures
    (sym c.is_wrong_length.ensures ∙ c.if-is_wrong_length.true)

pub returns : goal.returns
returns c =
    ap (λ (used : ℕ). Whole (get_or c.args.bytes.now 5 0) c.args.set c.number_at-body.result (15 + used)) c.from.ensures
    ∙ read-whole c.args.bytes.now c.args.set c.number_at-body.result c.needed_len-needed.result (omega arith) c.requires.named c.number_at-body.ensures c.needed_len-needed.ensures
    (sym c.is_wrong_length.ensures ∙ c.if-is_wrong_length.false)

use Rattle.std.proofs.Common.{◌∙◌, ap, sym, subst, length, Some}
use Rattle.spiral_frames.specs.Checks.{Outcome, header_checks, checked}
use Rattle.frame_headers.proofs.HeaderReading.{header_read_is}
use Rattle.frame_headers.proofs.Outcomes.{more_ends, refused_refuses, whole_passes, set_in-named}
use Rattle.record_store.specs.Decoding.{ReadsNumbers}
use Rattle.record_store.proofs.Numbers.{header_ends, header_refuses, header_passes, passes_named}
use Rattle.record_store.proofs.decoding.read_numbers.Goals as goal

pub returns-in-More-clause-reads : goal.returns-in-More-clause-reads
returns-in-More-clause-reads c =
    let bytes = c.args.bytes.now in
    header_ends bytes (more_ends (checked (header_checks 64 bytes) (length bytes)) bytes (sym (header_read_is 64 bytes) ∙ sym c.in-More.ensures))
    ∙ ap Some (sym c.short.ensures)

pub returns-in-Refused-clause-reads : goal.returns-in-Refused-clause-reads
returns-in-Refused-clause-reads c =
    let bytes = c.args.bytes.now in
    header_refuses bytes c.in-Refused.error
    (refused_refuses (checked (header_checks 64 bytes) (length bytes)) bytes c.in-Refused.error (passes_named bytes)
    (sym (header_read_is 64 bytes) ∙ sym c.in-Refused.ensures))

pub numbers_behind-requires-clause-named : goal.numbers_behind-requires-clause-named
numbers_behind-requires-clause-named c =
    let bytes = c.args.bytes.now in
    (whole_passes (checked (header_checks 64 bytes) (length bytes)) bytes c.in-Whole.kind c.in-Whole.set c.in-Whole.body c.in-Whole.used
    (sym (header_read_is 64 bytes) ∙ sym c.in-Whole.ensures)).named

pub numbers_behind-requires-clause-known : goal.numbers_behind-requires-clause-known
numbers_behind-requires-clause-known c =
    let bytes = c.args.bytes.now in
    let whole = whole_passes (checked (header_checks 64 bytes) (length bytes)) bytes c.in-Whole.kind c.in-Whole.set c.in-Whole.body c.in-Whole.used
    (sym (header_read_is 64 bytes) ∙ sym c.in-Whole.ensures) in
    (set_in-named bytes c.in-Whole.set whole.named).known

pub numbers_behind-requires-clause-start : goal.numbers_behind-requires-clause-start
numbers_behind-requires-clause-start c =
    let bytes = c.args.bytes.now in
    (whole_passes (checked (header_checks 64 bytes) (length bytes)) bytes c.in-Whole.kind c.in-Whole.set c.in-Whole.body c.in-Whole.used
    (sym (header_read_is 64 bytes) ∙ sym c.in-Whole.ensures)).used_is

pub numbers_behind-requires-clause-body : goal.numbers_behind-requires-clause-body
numbers_behind-requires-clause-body c =
    let bytes = c.args.bytes.now in
    (whole_passes (checked (header_checks 64 bytes) (length bytes)) bytes c.in-Whole.kind c.in-Whole.set c.in-Whole.body c.in-Whole.used
    (sym (header_read_is 64 bytes) ∙ sym c.in-Whole.ensures)).body_is

pub returns-in-Whole-clause-reads : goal.returns-in-Whole-clause-reads
returns-in-Whole-clause-reads c =
    let bytes = c.args.bytes.now in
    let whole = whole_passes (checked (header_checks 64 bytes) (length bytes)) bytes c.in-Whole.kind c.in-Whole.set c.in-Whole.body c.in-Whole.used
    (sym (header_read_is 64 bytes) ∙ sym c.in-Whole.ensures) in
    subst (λ (o : Outcome). ReadsNumbers bytes o c.numbers_behind.result) (sym (header_passes bytes c.in-Whole.set whole.passed whole.named))
    c.numbers_behind.ensures

use Rattle.std.proofs.Common.{◌≡◌, ◌≢◌, ◌∙◌, ap, sym, arith, ℕ, List, drop, length, get_or, [], ◌∷◌}
use Rattle.frame_headers.specs.Checks.{Check, header_checks, checked, read_by}
use Rattle.frame_headers.proofs.HeaderReading.{header_read_is, magic-ends, magic-fails, magic-passes, behind_magic}
use Rattle.frame_headers.proofs.header.read_header.Goals as goal

pub loop-place-init : goal.loop-place-init
loop-place-init c = header_read_is c.args.kinds c.args.bytes.now

pub returns-then-bytes-place : goal.returns-then-bytes-place
returns-then-bytes-place c =
    magic-ends c.args.kinds c.args.bytes.now c.loop-place.place (omega arith) c.if-bytes-place.true ∙ sym c.loop-place.invariant

pub returns-then-bytes-place-2 : goal.returns-then-bytes-place-2
returns-then-bytes-place-2 c =
    let other : get_or c.args.bytes.now c.loop-place.place 0 ≢ get_or (83 ∷ 80 ∷ 73 ∷ 82 ∷ []) c.loop-place.place 0 = omega (arith, c.if-bytes-place-2.true) in
    magic-fails c.args.kinds c.args.bytes.now c.loop-place.place (omega arith) c.if-bytes-place.false other ∙ sym c.loop-place.invariant

pub loop-place-preserved : goal.loop-place-preserved
loop-place-preserved c =
    c.loop-place.invariant ∙ magic-passes c.args.kinds c.args.bytes.now c.loop-place.place (omega arith) c.if-bytes-place.false c.if-bytes-place-2.false

pub returns : goal.returns
returns c =
    let all : c.loop-place.place ≡ 4 = omega arith in
    c.read_version.ensures
    ∙ ap (λ (checks : List Check). read_by (checked checks (length c.args.bytes.now)) c.args.bytes.now) (sym (behind_magic c.args.kinds c.args.bytes.now))
    ∙ ap (λ (k : ℕ). read_by (checked (drop k (header_checks c.args.kinds c.args.bytes.now)) (length c.args.bytes.now)) c.args.bytes.now) (sym all)
    ∙ sym c.loop-place.invariant

use Rattle.std.proofs.Common.{◌∙◌, ap, sym, arith, ◌≢◌, get_or, not, ne_eqb}
use Rattle.frame_headers.specs.Checks.{version_check, kind_check}
use Rattle.frame_headers.proofs.HeaderReading.{read-ends, read-fails, read-version, read-kind}
use Rattle.frame_headers.proofs.header.read_version.Goals as goal

pub returns-then-bytes-le4 : goal.returns-then-bytes-le4
returns-then-bytes-le4 c = read-ends (version_check c.args.bytes.now) _ c.args.bytes.now c.if-bytes-le4.true

pub returns-then-version-ne-VERSION : goal.returns-then-version-ne-VERSION
returns-then-version-ne-VERSION c =
    let other : get_or c.args.bytes.now 4 0 ≢ 1 = omega (arith, c.if-version-ne-VERSION.true) in
    read-fails (version_check c.args.bytes.now) _ c.args.bytes.now c.if-bytes-le4.false (ap not (ne_eqb (get_or c.args.bytes.now 4 0) 1 other))

pub returns-then-bytes-le5 : goal.returns-then-bytes-le5
returns-then-bytes-le5 c =
    read-version c.args.kinds c.args.bytes.now c.if-bytes-le4.false c.if-version-ne-VERSION.false _
    (read-ends (kind_check c.args.kinds c.args.bytes.now) _ c.args.bytes.now c.if-bytes-le5.true)

pub returns-then-not-is_accepted : goal.returns-then-not-is_accepted
returns-then-not-is_accepted c =
    read-version c.args.kinds c.args.bytes.now c.if-bytes-le4.false c.if-version-ne-VERSION.false _
    (read-fails (kind_check c.args.kinds c.args.bytes.now) _ c.args.bytes.now c.if-bytes-le5.false (ap not (sym c.is_accepted.ensures ∙ c.if-not-is_accepted.true)))

pub returns : goal.returns
returns c =
    read-version c.args.kinds c.args.bytes.now c.if-bytes-le4.false c.if-version-ne-VERSION.false _
    (read-kind c.args.kinds c.args.bytes.now c.if-bytes-le5.false (sym c.is_accepted.ensures ∙ c.if-not-is_accepted.false) _ c.read_name.ensures)

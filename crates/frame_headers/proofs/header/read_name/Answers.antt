use Rattle.std.proofs.Common.{◌∙◌, sym, [], ◌∷◌, arith}
use Rattle.frame_headers.specs.Checks.{name_check, body_check}
use Rattle.frame_headers.proofs.HeaderReading.{read-ends, read-unknown, read-known, set_in_is}
use Rattle.frame_headers.proofs.header.read_name.Goals as goal

pub returns-then-bytes-lt-NAME_PLACE : goal.returns-then-bytes-lt-NAME_PLACE
returns-then-bytes-lt-NAME_PLACE c = read-ends (name_check c.args.bytes.now) (body_check c.args.bytes.now ∷ []) c.args.bytes.now (omega arith)

pub returns-then-bytes-place : goal.returns-then-bytes-place
returns-then-bytes-place c = read-ends (name_check c.args.bytes.now) (body_check c.args.bytes.now ∷ []) c.args.bytes.now (omega arith)

pub read_body_len-requires-clause-named : goal.read_body_len-requires-clause-named
read_body_len-requires-clause-named c = set_in_is c.args.bytes.now ∙ sym c.in-Some.ensures.value

pub returns-in-None : goal.returns-in-None
returns-in-None c = read-unknown c.args.bytes.now (omega arith) (set_in_is c.args.bytes.now ∙ sym c.in-None.ensures.value)

pub returns-in-Some : goal.returns-in-Some
returns-in-Some c =
    read-known c.args.bytes.now c.in-Some.set (omega arith) (set_in_is c.args.bytes.now ∙ sym c.in-Some.ensures.value) c.read_body_len.result c.read_body_len.ensures

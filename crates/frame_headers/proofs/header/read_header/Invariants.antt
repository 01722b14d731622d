use Rattle.std.proofs.Common.{◌≡◌, length, drop}
use Rattle.frame_headers.specs.Checks.{header_read, header_checks, checked, read_by}
use Rattle.frame_headers.proofs.header.read_header.Given as goal

abbrev pub invariant-loop-place : goal.invariant-loop-place
invariant-loop-place l = header_read l.bytes l.kinds ≡ read_by (checked (drop l.place (header_checks l.kinds l.bytes)) (length l.bytes)) l.bytes

use Rattle.std.proofs.Common.{◌≤◌, length}
use Rattle.pir_io.proofs.host_files.fill.Given as goal

abbrev pub invariant-turns : goal.invariant-turns
invariant-turns g l = l.filled ≤ length l.into

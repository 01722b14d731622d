use Rattle.frame_headers.proofs.HeaderReading.{Unnamed}
use Rattle.frame_headers.proofs.header.set_of_name.Given as goal

abbrev pub invariant-loop-i : goal.invariant-loop-i
invariant-loop-i l = Unnamed l.name l.i

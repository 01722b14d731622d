use Rattle.gsw_code.proofs.Products.{Multiplies}
use Rattle.gsw_code.proofs.gsw.Gsw.multiply.Given as goal

abbrev pub invariant-loop-r : goal.invariant-loop-r
invariant-loop-r l = Multiplies l.ring l.set l.r l.self l.c l.product l.room

use Rattle.std.proofs.Common.{◌≡◌, map, All}
use Rattle.std.specs.List.{range_with_len}
use Rattle.spiral_model.specs.Answering.{gsw_of}
use Rattle.gsw_code.specs.Products.{IsGsw}
use Rattle.query_expand.proofs.made_ready.sent_gsws.Given as goal

abbrev pub invariant-loop-l : goal.invariant-loop-l
invariant-loop-l l = (l.gsws.items ≡ map (gsw_of l.set l.ciphers) (range_with_len 0 l.l)) × All (IsGsw l.set) l.gsws.items

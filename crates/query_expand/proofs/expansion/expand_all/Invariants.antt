use Rattle.std.proofs.Common.{◌≡◌, All}
use Rattle.regev_code.specs.Products.{HasShape}
use Rattle.query_expand.proofs.Rounds.{Expands}
use Rattle.query_expand.proofs.expansion.expand_all.Given as goal

abbrev pub invariant-loop-key : goal.invariant-loop-key
invariant-loop-key l = record {
  expands : Expands l.ring l.first_round l.rounds l.fn.ciphers l.key-index l.size l.round l.ciphers;
  shapes : All (HasShape l.ring 2) l.ciphers;
  image : HasShape l.ring 2 l.image;
  kept : l.scratch ≡ l.fn.scratch;
}

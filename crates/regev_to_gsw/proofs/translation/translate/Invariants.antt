use Rattle.regev_to_gsw.proofs.Translations.{Translates}
use Rattle.regev_to_gsw.proofs.translation.translate.Given as goal

abbrev pub invariant-loop-place : goal.invariant-loop-place
invariant-loop-place l = Translates l.ring l.set l.keys l.bits l.place l.columns.items l.scratch

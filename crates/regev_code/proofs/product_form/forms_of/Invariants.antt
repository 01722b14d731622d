use Rattle.std.proofs.Common.{◌≡◌, take}
use Rattle.regev_code.proofs.product_form.forms_of.Given as goal

abbrev pub invariant-loop-cipher : goal.invariant-loop-cipher
invariant-loop-cipher l = l.forms.items ≡ take l.cipher-index l.ciphers

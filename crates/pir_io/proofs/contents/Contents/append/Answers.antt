use Rattle.std.proofs.Common.{arith}
use Rattle.std.proofs.lemmas.Map.Text.{text_keys}
use Rattle.pir_io.proofs.contents.Contents.append.Goals as goal

pub returns-in_ok-extend_from_slice-in-Some-clause-others : goal.returns-in_ok-extend_from_slice-in-Some-clause-others
returns-in_ok-extend_from_slice-in-Some-clause-others c = grind (arith, text_keys)

pub returns-in_err-extend_from_slice-in-Some-clause-others : goal.returns-in_err-extend_from_slice-in-Some-clause-others
returns-in_err-extend_from_slice-in-Some-clause-others c = grind (arith, text_keys)

pub returns-in_err-extend_from_slice-in-Some-clause-err : goal.returns-in_err-extend_from_slice-in-Some-clause-err
returns-in_err-extend_from_slice-in-Some-clause-err c = grind (arith, text_keys)

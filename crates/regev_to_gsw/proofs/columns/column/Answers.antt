use Rattle.regev_to_gsw.proofs.Translations.{column-converted, column-same, column-lifted}
use Rattle.regev_to_gsw.proofs.columns.column.Goals as goal

pub returns-in_ok-converted-clause-value : goal.returns-in_ok-converted-clause-value
returns-in_ok-converted-clause-value c =
    column-converted c.args.set.now c.args.keys.now c.args.c.now c.in_ok-converted.field-0 c.args.r c.if-r-eq0.true c.in_ok-converted.ensures.value

pub returns-in_ok-form_of-clause-value : goal.returns-in_ok-form_of-clause-value
returns-in_ok-form_of-clause-value c =
    column-same c.args.set.now c.args.keys.now c.args.c.now c.in_ok-form_of.field-0 c.args.r c.if-r-eq0.false c.if-set.true c.in_ok-form_of.ensures

pub returns-in_ok-lifted_into_row-clause-value : goal.returns-in_ok-lifted_into_row-clause-value
returns-in_ok-lifted_into_row-clause-value c =
    column-lifted c.args.set.now c.args.keys.now c.args.c.now c.in_ok-lifted_into_row.field-0 c.args.r c.if-r-eq0.false c.if-set.false c.in_ok-lifted_into_row.ensures.value

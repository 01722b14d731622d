use Rattle.std.proofs.Common.{refl}
use Rattle.gsw_code.proofs.Products.{shapes_degrees}
use Rattle.query_expand.proofs.Expansions.{firsts-kept, firsts-lifted, kept-many, lifted-many, kept-shapes, lifted-shapes}
use Rattle.query_expand.proofs.expanded_parts.firsts_from.Goals as goal

pub forms_of-requires : goal.forms_of-requires
forms_of-requires c = record { degrees = shapes_degrees c.args.ring.now c.args.ring.now 2 _ refl c.requires.shapes }

pub returns-in_ok-forms_of-clause-value : goal.returns-in_ok-forms_of-clause-value
returns-in_ok-forms_of-clause-value c =
    firsts-kept c.args.set.now c.args.keys.now.lift c.args.ciphers.now c.in_ok-forms_of.field-0.items c.if-set.true c.in_ok-forms_of.ensures

pub returns-in_ok-forms_of-clause-many : goal.returns-in_ok-forms_of-clause-many
returns-in_ok-forms_of-clause-many c =
    kept-many c.args.set.now c.args.ciphers.now c.in_ok-forms_of.field-0.items c.if-set.true c.in_ok-forms_of.ensures

pub returns-in_ok-forms_of-clause-shapes : goal.returns-in_ok-forms_of-clause-shapes
returns-in_ok-forms_of-clause-shapes c =
    kept-shapes c.args.ring.now c.args.set.now c.args.ciphers.now c.in_ok-forms_of.field-0.items c.if-set.true c.in_ok-forms_of.ensures c.requires.shapes

pub returns-in_ok-lift_each-clause-value : goal.returns-in_ok-lift_each-clause-value
returns-in_ok-lift_each-clause-value c =
    firsts-lifted c.args.set.now c.args.scratch.now c.args.keys.now.lift c.args.ciphers.now c.in_ok-lift_each.field-0.items c.if-set.false c.requires.scratch
    c.in_ok-lift_each.ensures.value

pub returns-in_ok-lift_each-clause-many : goal.returns-in_ok-lift_each-clause-many
returns-in_ok-lift_each-clause-many c =
    lifted-many c.args.set.now c.args.scratch.now c.args.keys.now.lift c.args.ciphers.now c.in_ok-lift_each.field-0.items c.if-set.false c.requires.scratch
    c.in_ok-lift_each.ensures.value

pub returns-in_ok-lift_each-clause-shapes : goal.returns-in_ok-lift_each-clause-shapes
returns-in_ok-lift_each-clause-shapes c =
    lifted-shapes c.args.ring.now c.args.set.now c.args.scratch.now c.in_ok-lift_each.field-0.items c.if-set.false c.requires.scratch
    c.in_ok-lift_each.ensures.shapes

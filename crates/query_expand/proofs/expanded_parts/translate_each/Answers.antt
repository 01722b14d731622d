use Rattle.std.proofs.Common.{◌+◌, ◌-◌, ◌*◌, refl, ◌∙◌, arith}
use Rattle.query_expand.proofs.Expansions.{part_is, is_gsw, translates_each-none, translates_each-more, translates_each-all}
use Rattle.query_expand.proofs.expanded_parts.translate_each.Goals as goal

pub loop-l-init : goal.loop-l-init
loop-l-init c =
    translates_each-none c.args.set.now c.args.keys.now c.args.ciphers.now c.new-gsws.result.items c.args.scratch.now c.new-gsws.ensures.items
    c.requires.scratch

pub returns-clause-value : goal.returns-clause-value
returns-clause-value c =
    translates_each-all c.args.set.now c.args.keys.now c.args.ciphers.now c.loop-l.l c.loop-l.gsws.items c.loop-l.scratch (omega arith) c.loop-l.invariant

pub loop-l-preserved : goal.loop-l-preserved
loop-l-preserved c =
    let l = c.loop-l.l in
    let digits = c.digit_count-digits.result in
    translates_each-more c.args.set.now c.args.keys.now c.args.ciphers.now c.loop-l.l c.loop-l.gsws.items c.push.new.self.items c.from_forms.result
    c.loop-l.scratch
    c.translate.new.scratch c.loop-l.invariant
    (part_is c.args.set.now c.args.keys.now c.args.ciphers.now _ l (l * digits) (l * digits + digits - l * digits) digits c.in_ok-columns.columns.items
    c.from_forms.result
    c.digit_count-digits.ensures.value refl (omega arith) refl c.in_ok-columns.ensures.value c.from_forms.ensures)
    (is_gsw c.args.ring.now c.args.set.now c.in_ok-columns.columns.items c.from_forms.result c.requires.ring c.from_forms.ensures c.in_ok-columns.ensures.many c.in_ok-columns.ensures.shapes) c.translate.ensures.scratch c.in_ok-push.ensures.items

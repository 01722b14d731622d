use Rattle.std.proofs.Common.{◌<◌, ◌%◌, [], length, arith}
use Rattle.std.proofs.lemmas.List.{get_or_read}
use Rattle.regev_to_gsw.proofs.Translations.{row_within, digit_within, translates-none, translates-more, translates-all, translates-count}
use Rattle.regev_to_gsw.proofs.translation.translate.Goals as goal

pub loop-place-init : goal.loop-place-init
loop-place-init c =
    translates-none c.args.ring.now c.args.set.now c.args.keys.now c.args.bits.now c.new-columns.result.items c.args.scratch.now c.new-columns.ensures.items c.requires.scratch

pub column-requires-clause-row : goal.column-requires-clause-row
column-requires-clause-row c =
    let within = row_within c.args.set.now c.loop-place.place c.gsw_count-place-end.result c.digit_count-digits.result c.digit_count-digits.ensures.value c.gsw_count-place-end.ensures.value
    c.digit_count-digits.ensures.some c.loop-place-test.true in
    omega (arith, within)

pub returns-clause-value : goal.returns-clause-value
returns-clause-value c =
    translates-all c.args.ring.now c.args.set.now c.args.keys.now c.args.bits.now c.loop-place.columns.items c.loop-place.place c.loop-place.scratch (omega arith) c.loop-place.invariant

pub returns-clause-many : goal.returns-clause-many
returns-clause-many c =
    translates-count c.args.ring.now c.args.set.now c.args.keys.now c.args.bits.now c.loop-place.columns.items c.loop-place.place c.loop-place.scratch (omega arith) c.loop-place.invariant

pub loop-place-preserved : goal.loop-place-preserved
loop-place-preserved c =
    let within : c.loop-place.place % c.digit_count-digits.result < length c.args.bits.now =
    digit_within c.args.set.now c.loop-place.place c.digit_count-digits.result c.args.bits.now c.digit_count-digits.ensures.value c.requires.count c.digit_count-digits.ensures.some in
    translates-more c.args.ring.now c.digit_count-digits.result c.args.set.now c.args.keys.now c.args.bits.now c.loop-place.place c.loop-place.columns.items c.push.new.self.items
    c.index-bits-k.result c.in_ok-column.field-0 c.loop-place.scratch c.column.new.scratch c.digit_count-digits.ensures.value c.loop-place.invariant
    (get_or_read c.args.bits.now (c.loop-place.place % c.digit_count-digits.result) c.index-bits-k.result within c.index-bits-k.is [])
    c.in_ok-column.ensures.value c.in_ok-column.ensures.shape c.column.ensures.scratch c.in_ok-push.ensures.items

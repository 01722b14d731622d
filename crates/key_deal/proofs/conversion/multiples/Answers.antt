use Rattle.std.proofs.Common.{◌*◌, ◌^◌, pos, [], length, get_or, ◌∙◌, ap, arith}
use Rattle.std.proofs.lemmas.List.{get_or_read}
use Rattle.negacyclic.specs.Ring.{ring_scale}
use Rattle.spiral_sets.specs.Sets.{q}
use Rattle.key_deal.proofs.Conversions.{mapped-more, mapped-all, multiple-is}
use Rattle.key_deal.proofs.conversion.multiples.Goals as goal

pub scale-requires-clause-degree : goal.scale-requires-clause-degree
scale-requires-clause-degree c =
    let read = get_or_read c.args.polys.now c.loop-i.i c.index-polys-i.result (omega arith) c.index-polys-i.is [] in
    ap length read ∙ c.requires.degree c.loop-i.i [] (omega arith)

pub loop-i-preserved : goal.loop-i-preserved
loop-i-preserved c =
    let N = c.args.ring.now in
    let read = get_or_read c.args.polys.now c.loop-i.i c.index-polys-i.result (omega arith) c.index-polys-i.is [] in
    mapped-more (ring_scale q N (pos (2 ^ (c.args.w * c.args.k)))) c.args.polys.now c.loop-i.i [] c.loop-i.multiples.items c.push.new.self.items c.scale.new.out
    (omega arith) c.loop-i.invariant c.in_ok-push.ensures.items
    (multiple-is N c.args.w c.args.k c.gadget_power-power.result (get_or c.args.polys.now c.loop-i.i []) c.index-polys-i.result c.scale.new.out c.gadget_power-power.ensures.value
    read c.scale.ensures.value)

pub returns : goal.returns
returns c =
    mapped-all (ring_scale q c.args.ring.now (pos (2 ^ (c.args.w * c.args.k)))) c.args.polys.now c.loop-i.i c.loop-i.multiples.items (omega arith) c.loop-i.invariant

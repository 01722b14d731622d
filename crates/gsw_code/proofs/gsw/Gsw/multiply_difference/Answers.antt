use Rattle.std.proofs.Common.{◌≡◌, ◌∙◌, ◌<◌, ◌+◌, [], length, sym, ap, arith}
use Rattle.spiral_sets.specs.Sets.{rows}
use Rattle.spiral_model.specs.Words.{row_of}
use Rattle.spiral_model.specs.Gadgets.{cipher_sub}
use Rattle.gsw_code.proofs.Products.{multiplies-none, multiplies-more, multiplies-all, difference-shape, difference_row, length-cipher_sub}
use Rattle.gsw_code.proofs.gsw.Gsw.multiply_difference.Goals as goal

pub loop-r-init : goal.loop-r-init
loop-r-init c = (
  multiplies-none c.args.ring.now c.args.set.now c.args.self.now (cipher_sub c.args.ring.now c.args.high.now c.args.low.now) c.args.sum.now c.clear.new.self c.args.room.now
      (difference-shape c.args.ring.now (rows c.args.set.now + 1) c.args.high.now c.args.low.now c.requires.high) c.requires.sum c.clear.ensures c.requires.room,
  c.requires.row,
)

pub loop-r-preserved : goal.loop-r-preserved
loop-r-preserved c =
    let within : c.loop-r.r < length c.args.high.now = omega arith in
    let size : length c.row.result.now ≡ c.args.ring.now = ap length c.row.ensures ∙ c.requires.high.degree c.loop-r.r [] within in
    let difference : c.write_difference.new.out ≡ row_of (cipher_sub c.args.ring.now c.args.high.now c.args.low.now) c.loop-r.r =
    difference_row c.args.ring.now c.loop-r.r c.args.high.now c.args.low.now c.row.result.now c.row-in-loop-r.result.now c.write_difference.new.out within size c.row.ensures
    c.row-in-loop-r.ensures c.write_difference.ensures.value in (
      multiplies-more c.args.ring.now c.args.set.now c.loop-r.r c.args.self.now (cipher_sub c.args.ring.now c.args.high.now c.args.low.now) c.loop-r.sum c.add_row.new.sum
          c.write_difference.new.out c.loop-r.room c.add_row.new.room c.loop-r.invariant.0 difference c.add_row.ensures.value c.add_row.ensures.shape c.add_row.ensures.room,
      c.write_difference.ensures.degree ∙ size,
    )

pub returns-clause-value : goal.returns-clause-value
returns-clause-value c =
    multiplies-all c.args.ring.now c.args.set.now c.loop-r.r c.rows-r-end.result c.args.self.now (cipher_sub c.args.ring.now c.args.high.now c.args.low.now) c.loop-r.sum c.loop-r.room
    c.loop-r.invariant.0 (c.rows-r-end.ensures.value ∙ sym (length-cipher_sub c.args.ring.now c.args.high.now c.args.low.now)) c.loop-r.auto.r-end c.loop-r-test.false

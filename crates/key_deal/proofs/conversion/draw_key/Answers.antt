use Rattle.std.proofs.Common.{◌≡◌, length, ◌∙◌, ap, arith}
use Rattle.std.proofs.lemmas.List.Elements.{All-same}
use Rattle.spiral_model.specs.Words.{Poly}
use Rattle.regev_code.specs.Shapes.{under}
use Rattle.key_deal.proofs.SetNumbers.{w_conv-some, w_conv-most, expands-keys}
use Rattle.key_deal.proofs.Conversions.{products_of, length-products_of, products_of-degree, conversion-drawn, conversion-room}
use Rattle.key_deal.proofs.conversion.draw_key.Goals as goal

worked : (c : goal.After-draw_digits-arg-2-1) → c.deref.result.now ≡ products_of c.args.ring.now c.args.secret.now c.args.set.now.pack
worked c = c.deref.ensures.value ∙ c.in_ok-polys.ensures

size : (c : goal.After-draw_digits-arg-2-1) → length c.deref.result.now ≡ length (under c.args.ring.now c.args.secret.now c.args.set.now.pack)
size c = ap length (worked c) ∙ length-products_of c.args.ring.now c.args.secret.now c.args.set.now.pack

pub draw_digits-requires-clause-w_some : goal.draw_digits-requires-clause-w_some
draw_digits-requires-clause-w_some c = w_conv-some c.args.set.now c.requires.known (expands-keys c.args.set.now c.requires.expands)

pub draw_digits-requires-clause-w_most : goal.draw_digits-requires-clause-w_most
draw_digits-requires-clause-w_most c = w_conv-most c.args.set.now c.requires.known

pub draw_digits-requires-clause-polys : goal.draw_digits-requires-clause-polys
draw_digits-requires-clause-polys c =
    All-same (λ (a : Poly). length a ≡ c.args.ring.now) _ _ (worked c) (products_of-degree c.args.ring.now c.args.secret.now c.args.set.now.pack)

pub draw_digits-requires-clause-some : goal.draw_digits-requires-clause-some
draw_digits-requires-clause-some c = omega (arith, size c, c.requires.rows, c.rows.ensures.some, c.rows.ensures.value)

pub draw_digits-requires-clause-rows : goal.draw_digits-requires-clause-rows
draw_digits-requires-clause-rows c = size c

pub draw_digits-requires-clause-enough : goal.draw_digits-requires-clause-enough
draw_digits-requires-clause-enough c =
    conversion-room c.args.set.now c.args.ring.now (length c.deref.result.now) c.args.draw.now c.requires.ring (size c ∙ c.requires.rows) c.requires.expands c.requires.enough

pub returns : goal.returns
returns c =
    conversion-drawn c.args.set.now c.args.ring.now c.args.secret.now c.deref.result.now c.args.draw.now c.draw_digits.new.draw c.args.ciphers.now.items
    c.draw_digits.new.ciphers.items c.requires.ring c.requires.expands c.requires.rows (c.deref.ensures.value ∙ c.in_ok-polys.ensures) c.in_ok-draw_digits.ensures

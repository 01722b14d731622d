use Rattle.std.proofs.Common.{◌≡◌, ℕ, length, ◌∙◌, ap, arith}
use Rattle.std.proofs.lemmas.List.Elements.{All-same}
use Rattle.spiral_model.specs.Words.{Poly}
use Rattle.spiral_model.specs.Ciphertexts.{words_taken}
use Rattle.regev_code.specs.Shapes.{under}
use Rattle.key_deal.proofs.Conversions.{scaled_by, length-scaled_by, scaled_by-degree, digit-drawn}
use Rattle.key_deal.proofs.conversion.draw_digit.Goals as goal

worked : (c : goal.After-draw_next-arg-2-1) → c.deref.result.now ≡ scaled_by c.args.ring.now c.args.w c.args.polys.now c.args.k
worked c = c.deref.ensures.value ∙ c.in_ok-messages.ensures

size : (c : goal.After-draw_next-arg-2-1) → length c.deref.result.now ≡ length c.args.polys.now
size c = ap length (worked c) ∙ length-scaled_by c.args.ring.now c.args.w c.args.polys.now c.args.k

pub draw_next-requires-clause-some : goal.draw_next-requires-clause-some
draw_next-requires-clause-some c = omega (arith, size c, c.requires.some)

pub draw_next-requires-clause-secrets : goal.draw_next-requires-clause-secrets
draw_next-requires-clause-secrets c = size c ∙ c.requires.rows

pub draw_next-requires-clause-messages : goal.draw_next-requires-clause-messages
draw_next-requires-clause-messages c =
    All-same (λ (a : Poly). length a ≡ c.args.ring.now) _ _ (worked c) (scaled_by-degree c.args.ring.now c.args.w c.args.polys.now c.args.k)

pub draw_next-requires-clause-enough : goal.draw_next-requires-clause-enough
draw_next-requires-clause-enough c =
    let same : words_taken c.args.ring.now (length c.deref.result.now) ≡ words_taken c.args.ring.now (length c.args.polys.now) =
    ap (λ (n : ℕ). words_taken c.args.ring.now n) (size c) in
    omega (arith, same)

pub returns : goal.returns
returns c =
    digit-drawn c.args.ring.now c.args.w c.args.k c.args.polys.now c.deref.result.now (under c.args.ring.now c.args.secret.now c.args.scalar) c.args.draw.now
    c.draw_next.new.draw c.args.ciphers.now.items c.draw_next.new.ciphers.items (c.deref.ensures.value ∙ c.in_ok-messages.ensures) c.in_ok-draw_next.ensures

use Rattle.std.proofs.Common.{◌≡◌, ℕ, ◌<◌, true, length, All, ◌∙◌, ap, sym, subst, arith}
use Rattle.std.proofs.lemmas.List.Elements.{All-same}
use Rattle.spiral_sets.proofs.SetBounds.{n-some}
use Rattle.spiral_model.specs.Words.{Poly}
use Rattle.spiral_model.specs.Ciphertexts.{words_taken}
use Rattle.spiral_model.specs.Dealing.{lift_message}
use Rattle.regev_code.specs.Shapes.{numbers_under}
use Rattle.regev_code.proofs.Rows.{under_at, under-length, under-count}
use Rattle.key_deal.proofs.LiftMessages.{length-lift_message, lift_message-degree, lift-drawn}
use Rattle.key_deal.proofs.lifts.draw_digit.Goals as goal

pub poly-requires : goal.poly-requires
poly-requires c = omega (arith, under-count c.args.ring.now c.args.secret.now true, c.requires.scalar)

pub messages-requires-clause-s : goal.messages-requires-clause-s
messages-requires-clause-s c =
    let within : 0 < length (numbers_under c.args.secret.now true) = omega (arith, under-count c.args.ring.now c.args.secret.now true, c.requires.scalar) in
    under-length c.args.ring.now c.args.secret.now true 0 c.poly.result.now c.requires.degree within c.poly.ensures

worked : (c : goal.After-draw_next-arg-2-1) → c.deref.result.now ≡ lift_message c.args.set.now c.poly.result.now c.args.r c.args.k
worked c = c.deref.ensures.value ∙ c.in_ok-parts.ensures

size : (c : goal.After-draw_next-arg-2-1) → length c.deref.result.now ≡ c.args.set.now.n
size c = ap length (worked c) ∙ length-lift_message c.args.set.now c.poly.result.now c.args.r c.args.k

pub draw_next-requires-clause-some : goal.draw_next-requires-clause-some
draw_next-requires-clause-some c = omega (arith, size c, n-some c.args.set.now c.requires.known)

pub draw_next-requires-clause-secrets : goal.draw_next-requires-clause-secrets
draw_next-requires-clause-secrets c = size c ∙ sym c.requires.rows

pub draw_next-requires-clause-messages : goal.draw_next-requires-clause-messages
draw_next-requires-clause-messages c =
    All-same (λ (a : Poly). length a ≡ c.args.ring.now) _ _ (worked c)
    (subst (λ (N : ℕ). All (λ a. length a ≡ N) (lift_message c.args.set.now c.poly.result.now c.args.r c.args.k)) (sym c.requires.ring)
    (lift_message-degree c.args.set.now c.poly.result.now c.args.r c.args.k))

pub draw_next-requires-clause-enough : goal.draw_next-requires-clause-enough
draw_next-requires-clause-enough c =
    let same : words_taken c.args.ring.now (length c.deref.result.now) ≡ words_taken c.args.set.now.degree c.args.set.now.n =
    ap (λ (n : ℕ). words_taken n (length c.deref.result.now)) c.requires.ring ∙ ap (λ (n : ℕ). words_taken c.args.set.now.degree n) (size c) in
    omega (arith, same)

pub returns : goal.returns
returns c =
    let within : 0 < length (numbers_under c.args.secret.now true) = omega (arith, under-count c.args.ring.now c.args.secret.now true, c.requires.scalar) in
    lift-drawn c.args.set.now c.args.ring.now c.args.secret.now c.poly.result.now c.deref.result.now c.args.r c.args.k c.args.draw.now c.draw_next.new.draw
    c.args.ciphers.now.items c.draw_next.new.ciphers.items c.requires.ring
    (under_at c.args.ring.now c.args.secret.now true 0 c.poly.result.now c.requires.degree within c.poly.ensures) (c.deref.ensures.value ∙ c.in_ok-parts.ensures)
    c.in_ok-draw_next.ensures

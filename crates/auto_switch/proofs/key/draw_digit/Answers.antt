use Rattle.std.proofs.Common.{◌≡◌, ℕ, ◌*◌, ◌^◌, true, pos, neg_ℤ, [], ◌∷◌, length, ◌∙◌, ap, sym, arith}
use Rattle.std.proofs.lemmas.List.Elements.{All-nil, All-cons, All-same}
use Rattle.negacyclic.specs.Ring.{ring_scale}
use Rattle.negacyclic.proofs.Lengths.{length-ring_scale}
use Rattle.spiral_sets.specs.Sets.{q}
use Rattle.spiral_model.specs.Words.{Poly}
use Rattle.spiral_model.specs.Ciphertexts.{words_taken}
use Rattle.regev_code.specs.Shapes.{under}
use Rattle.auto_switch.proofs.Appended.{drawn-again}
use Rattle.auto_switch.proofs.key.draw_digit.Goals as goal

worked : (c : goal.After-draw_next-arg-2-1) → c.deref.result.now ≡ ring_scale q c.args.ring.now (neg_ℤ (pos (2 ^ (c.args.w * c.args.k)))) c.args.a.now ∷ []
worked c = c.deref.ensures.value ∙ c.in_ok-messages.ensures

size : (c : goal.After-draw_next-arg-2-1) → length c.deref.result.now ≡ 1
size c = ap length (worked c)

pub draw_next-requires-clause-some : goal.draw_next-requires-clause-some
draw_next-requires-clause-some c = omega (arith, size c)

pub draw_next-requires-clause-secrets : goal.draw_next-requires-clause-secrets
draw_next-requires-clause-secrets c = size c ∙ sym c.requires.scalar

pub draw_next-requires-clause-messages : goal.draw_next-requires-clause-messages
draw_next-requires-clause-messages c =
    let N = c.args.ring.now in
    let multiple = ring_scale q N (neg_ℤ (pos (2 ^ (c.args.w * c.args.k)))) c.args.a.now in
    All-same (λ (a : Poly). length a ≡ N) _ _ (worked c)
    (All-cons (λ (a : Poly). length a ≡ N) multiple [] (length-ring_scale q N (neg_ℤ (pos (2 ^ (c.args.w * c.args.k)))) c.args.a.now) (All-nil (λ (a : Poly). length a ≡ N)))

pub draw_next-requires-clause-enough : goal.draw_next-requires-clause-enough
draw_next-requires-clause-enough c =
    let same : words_taken c.args.ring.now (length c.deref.result.now) ≡ words_taken c.args.ring.now 1 =
    ap (λ (n : ℕ). words_taken c.args.ring.now n) (size c) in
    omega (arith, same)

pub returns : goal.returns
returns c =
    let N = c.args.ring.now in
    let here : c.deref.result.now ≡ ring_scale q N (neg_ℤ (pos (2 ^ (c.args.w * c.args.k)))) c.args.a.now ∷ [] = c.deref.ensures.value ∙ c.in_ok-messages.ensures in
    drawn-again N (length c.deref.result.now) 1 (under N c.args.secret.now true) (c.deref.result.now ∷ [])
    ((ring_scale q N (neg_ℤ (pos (2 ^ (c.args.w * c.args.k)))) c.args.a.now ∷ []) ∷ []) c.args.draw.now c.draw_next.new.draw c.args.ciphers.now.items
    c.draw_next.new.ciphers.items (ap length here) (ap (λ ms. ms ∷ []) here) c.in_ok-draw_next.ensures

use Rattle.std.proofs.Common.{◌≡◌, ℕ, ◌++◌, true, List, [], ◌∷◌, length, refl, ◌∙◌, ap, sym, arith}
use Rattle.std.proofs.lemmas.List.Elements.{All-nil, All-cons, All-same}
use Rattle.spiral_model.specs.Words.{Poly, Cipher}
use Rattle.spiral_model.specs.Ciphertexts.{encrypted_all, words_taken}
use Rattle.spiral_model.specs.Queries.{query_poly}
use Rattle.regev_code.specs.Shapes.{under}
use Rattle.pir_client.proofs.QueryNumbers.{length-query_poly, one_words, one_message, one_drawn, one-shape}
use Rattle.pir_client.proofs.query_message.draw_one.Goals as goal

worked : (c : goal.After-draw_cipher-arg-1) → c.deref.result.now ≡ query_poly c.args.set.now c.args.index ∷ []
worked c =
    one_message c.args.set.now c.args.index c.deref.result.now c.push.new.self.items c.new-messages.result.items c.in_ok-query_poly.field-0
    c.deref.ensures.value
    c.in_ok-push.ensures.items c.new-messages.ensures.items c.in_ok-query_poly.ensures.value

pub draw_cipher-requires-clause-some : goal.draw_cipher-requires-clause-some
draw_cipher-requires-clause-some c =
    let count : length c.deref.result.now ≡ 1 = ap length (worked c) in omega arith

pub draw_cipher-requires-clause-secrets : goal.draw_cipher-requires-clause-secrets
draw_cipher-requires-clause-secrets c = ap length (worked c) ∙ sym c.requires.scalar

pub draw_cipher-requires-clause-messages : goal.draw_cipher-requires-clause-messages
draw_cipher-requires-clause-messages c =
    All-same (λ (a : Poly). length a ≡ c.args.ring.now) _ _ (worked c)
    (All-cons (λ (a : Poly). length a ≡ c.args.ring.now) (query_poly c.args.set.now c.args.index) []
    (length-query_poly c.args.set.now c.args.index ∙ sym c.requires.ring) (All-nil (λ (a : Poly). length a ≡ c.args.ring.now)))

pub draw_cipher-requires-clause-enough : goal.draw_cipher-requires-clause-enough
draw_cipher-requires-clause-enough c =
    let same : words_taken c.args.ring.now (length c.deref.result.now) ≡ words_taken c.args.set.now.degree 1 =
    ap (λ (n : ℕ). words_taken n (length c.deref.result.now)) c.requires.ring ∙ ap (λ (n : ℕ). words_taken c.args.set.now.degree n) (ap length (worked c)) in
    omega (arith, same, one_words c.args.set.now c.requires.direct)

drawn : (c : goal.After-drop-messages-2)
    → c.push-2.new.self.items
    ≡ encrypted_all c.args.set.now.degree c.args.draw.now.words c.args.draw.now.used (under c.args.ring.now c.args.secret.now true)
    ((query_poly c.args.set.now c.args.index ∷ []) ∷ [])
drawn c =
    let read =
    one_message c.args.set.now c.args.index c.deref.result.now c.push.new.self.items c.new-messages.result.items c.in_ok-query_poly.field-0
    c.deref.ensures.value
    c.in_ok-push.ensures.items c.new-messages.ensures.items c.in_ok-query_poly.ensures.value in
    one_drawn c.args.ring.now c.args.set.now.degree c.args.draw.now.words c.args.draw.now.used (λ n. under n c.args.secret.now true) c.deref.result.now
    (query_poly c.args.set.now c.args.index ∷ []) c.in_ok-draw_cipher.field-0 c.push-2.new.self.items c.requires.ring read c.in_ok-draw_cipher.ensures.ok
    (c.in_ok-push-2.ensures.items ∙ ap (λ (cs : List Cipher). cs ++ c.in_ok-draw_cipher.field-0 ∷ []) c.new-ciphers.ensures.items)

pub returns-clause-query : goal.returns-clause-query
returns-clause-query c =
    one-shape c.args.set.now c.args.draw.now.words c.args.draw.now.used (under c.args.ring.now c.args.secret.now true)
    (query_poly c.args.set.now c.args.index ∷ []) _ c.requires.known
    c.requires.direct c.requires.scalar refl (drawn c)

pub returns-clause-ciphers : goal.returns-clause-ciphers
returns-clause-ciphers c = drawn c

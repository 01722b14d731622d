use Rattle.std.proofs.Common.{◌≡◌, ℕ, length, All, ◌∙◌, ap, sym, subst, arith}
use Rattle.std.proofs.lemmas.List.Elements.{All-same}
use Rattle.spiral_sets.specs.Sets.{rows}
use Rattle.spiral_model.specs.Words.{Poly}
use Rattle.spiral_model.specs.Ciphertexts.{words_taken}
use Rattle.spiral_model.specs.Queries.{first_messages}
use Rattle.regev_code.specs.Shapes.{under}
use Rattle.gsw_code.proofs.Widths.{rows-some}
use Rattle.pir_client.proofs.MessageLists.{length-first_messages, first_messages-degree}
use Rattle.pir_client.proofs.QueryDraws.{column_drawn}
use Rattle.pir_client.proofs.query.draw_column.Goals as goal

worked : (c : goal.After-draw_cipher-arg-1) → c.deref.result.now ≡ first_messages c.args.set.now c.args.index c.args.u c.args.r
worked c = c.deref.ensures.value ∙ c.in_ok-messages.ensures

size : (c : goal.After-draw_cipher-arg-1) → length c.deref.result.now ≡ rows c.args.set.now
size c = ap length (worked c) ∙ length-first_messages c.args.set.now c.args.index c.args.u c.args.r

pub draw_cipher-requires-clause-some : goal.draw_cipher-requires-clause-some
draw_cipher-requires-clause-some c = omega (arith, size c, rows-some c.args.set.now c.requires.known)

pub draw_cipher-requires-clause-secrets : goal.draw_cipher-requires-clause-secrets
draw_cipher-requires-clause-secrets c =
    size c ∙ sym (ap (λ (n : ℕ). length (under n c.args.secret.now c.args.set.now.pack)) c.requires.ring ∙ c.requires.secrets)

pub draw_cipher-requires-clause-messages : goal.draw_cipher-requires-clause-messages
draw_cipher-requires-clause-messages c =
    All-same (λ (a : Poly). length a ≡ c.args.ring.now) _ _ (worked c)
    (subst (λ (N : ℕ). All (λ a. length a ≡ N) (first_messages c.args.set.now c.args.index c.args.u c.args.r)) (sym c.requires.ring)
    (first_messages-degree c.args.set.now c.args.index c.args.u c.args.r))

pub draw_cipher-requires-clause-enough : goal.draw_cipher-requires-clause-enough
draw_cipher-requires-clause-enough c =
    let same : words_taken c.args.ring.now (length c.deref.result.now) ≡ words_taken c.args.set.now.degree (rows c.args.set.now) =
    ap (λ (n : ℕ). words_taken n (length c.deref.result.now)) c.requires.ring ∙ ap (λ (n : ℕ). words_taken c.args.set.now.degree n) (size c) in
    omega (arith, same)

pub returns : goal.returns
returns c =
    column_drawn c.args.ring.now c.args.set.now c.args.secret.now (first_messages c.args.set.now c.args.index c.args.u c.args.r) c.deref.result.now
    c.in_ok-draw_cipher.field-0
    c.args.draw.now c.draw_cipher.new.draw c.args.ciphers.now.items c.push.new.self.items c.requires.ring
    (length-first_messages c.args.set.now c.args.index c.args.u c.args.r)
    (c.deref.ensures.value ∙ c.in_ok-messages.ensures) c.in_ok-draw_cipher.ensures.ok c.in_ok-draw_cipher.ensures.taken c.in_ok-push.ensures.items

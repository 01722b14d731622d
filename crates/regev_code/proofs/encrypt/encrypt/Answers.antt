use Rattle.std.proofs.Common.{◌≡◌, ◌<◌, ◌+◌, ◌*◌, ◌^◌, length, get_or, List, [], ◌∷◌, ℕ, ◌∙◌, ap, sym, subst, arith}
use Rattle.std.proofs.lemmas.List.{get_or_read, length-replicate}
use Rattle.std.proofs.lemmas.List.Elements.{All-same}
use Rattle.spiral_model.specs.Sampling.{uniform_poly}
use Rattle.regev_code.specs.Shapes.{IsCipher, under, numbers_under}
use Rattle.regev_code.proofs.Rows.{row_read, rows_more, under_at, under-length, under-count}
use Rattle.regev_code.proofs.Encryptions.{encrypted_first, encrypted_all_rows, length-encrypted, encrypted-degree, encrypted-cipher}
use Rattle.regev_code.proofs.encrypt.encrypt.Goals as goal

pub loop-i-init : goal.loop-i-init
loop-i-init c =
    let N = c.args.ring.now in
    let size : length c.as_mut_slice-scratch.result.now ≡ N =
    ap length (c.as_mut_slice-scratch.ensures.value ∙ c.in_ok-numbers.ensures) ∙ length-replicate c.degree-degree.result 0 ∙ c.degree-degree.ensures.value in
    let first = encrypted_first N (length c.as_mut_slice-scratch.result.now) c.args.words.now c.args.start c.uniform_part.new.out c.in_ok-uniform.uniform
    c.new-rows.result.items c.push.new.self.items size c.uniform_part.ensures.value c.in_ok-uniform.ensures c.new-rows.ensures.items c.in_ok-push.ensures.items in
    (c.in_ok-mask.ensures ∙ first.0, first.1)

pub row-requires-clause-secret : goal.row-requires-clause-secret
row-requires-clause-secret c =
    let within : c.loop-i.i < length (numbers_under c.args.secret.now c.args.scalar) = omega (arith, under-count c.args.ring.now c.args.secret.now c.args.scalar) in
    under-length c.args.ring.now c.args.secret.now c.args.scalar c.loop-i.i c.poly-key.result.now c.requires.degree within c.poly-key.ensures

pub loop-i-preserved : goal.loop-i-preserved
loop-i-preserved c =
    let N = c.args.ring.now in
    let a = uniform_poly N c.args.words.now c.args.start in
    let secrets = under N c.args.secret.now c.args.scalar in
    let messages = c.args.message.now in
    let i = c.loop-i.i in
    let size : length c.as_mut_slice-scratch.result.now ≡ N =
    ap length (c.as_mut_slice-scratch.ensures.value ∙ c.in_ok-numbers.ensures) ∙ length-replicate c.degree-degree.result 0 ∙ c.degree-degree.ensures.value in
    let room : length c.loop-i.scratch ≡ N = omega arith in
    let count = under-count N c.args.secret.now c.args.scalar in
    let within : i < length (numbers_under c.args.secret.now c.args.scalar) = omega arith in
    let key : c.poly-key.result.now ≡ get_or secrets i [] = under_at N c.args.secret.now c.args.scalar i c.poly-key.result.now c.requires.degree within c.poly-key.ensures in
    let message : c.index-message-i.result ≡ get_or messages i [] = get_or_read messages i c.index-message-i.result c.loop-i-test.true c.index-message-i.is [] in
    let row = row_read N c.degree-degree.result (length c.loop-i.scratch) c.args.words.now c.args.start a c.loop-i.mask c.error_part.new.out secrets messages i
    c.poly-key.result.now c.index-message-i.result c.in_ok-row.field-0 c.degree-degree.ensures.value room c.loop-i.invariant.0 c.error_part.ensures.value key message c.in_ok-row.ensures.value in (
      c.in_ok-row.ensures.mask ∙ c.loop-i.invariant.0,
      rows_more N c.args.words.now (c.args.start + 2 * N) a secrets messages i c.in_ok-row.field-0 (a ∷ []) c.loop-i.rows.items c.push-in-loop-i.new.self.items
          (omega arith) c.loop-i-test.true row c.loop-i.invariant.1 c.in_ok-push-2.ensures.items,
    )

shape : (c : goal.After-count) → IsCipher c.loop-i.rows.items
shape c =
    let N = c.args.ring.now in
    let secrets = under N c.args.secret.now c.args.scalar in
    let count = under-count N c.args.secret.now c.args.scalar in
    let few : length c.args.message.now < 2 ^ 31 = omega arith in
    subst (λ (rows : List (List ℕ)). IsCipher rows)
    (sym (encrypted_all_rows N c.args.words.now c.args.start secrets c.args.message.now c.loop-i.rows.items c.loop-i.i (omega arith) c.loop-i-test.false c.loop-i.invariant.1))
    (encrypted-cipher N c.args.words.now c.args.start secrets c.args.message.now c.requires.secrets c.requires.some few)

pub from_rows-requires-clause-some : goal.from_rows-requires-clause-some
from_rows-requires-clause-some c = (shape c).some

pub from_rows-requires-clause-few : goal.from_rows-requires-clause-few
from_rows-requires-clause-few c = (shape c).few

pub from_rows-requires-clause-same : goal.from_rows-requires-clause-same
from_rows-requires-clause-same c = (shape c).same

returned : goal.returns-clause-value
returned c =
    let N = c.args.ring.now in
    let count = under-count N c.args.secret.now c.args.scalar in
    c.from_rows.ensures
    ∙ encrypted_all_rows N c.args.words.now c.args.start (under N c.args.secret.now c.args.scalar) c.args.message.now c.loop-i.rows.items c.loop-i.i (omega arith) c.loop-i-test.false c.loop-i.invariant.1

pub returns-clause-value : goal.returns-clause-value
returns-clause-value c = returned c

pub returns-clause-rows : goal.returns-clause-rows
returns-clause-rows c =
    ap length (returned c) ∙ length-encrypted c.args.ring.now c.args.words.now c.args.start (under c.args.ring.now c.args.secret.now c.args.scalar) c.args.message.now c.requires.secrets

pub returns-clause-degree : goal.returns-clause-degree
returns-clause-degree c =
    All-same (λ (a : List ℕ). length a ≡ c.args.ring.now) _ _ (returned c)
    (encrypted-degree c.args.ring.now c.args.words.now c.args.start (under c.args.ring.now c.args.secret.now c.args.scalar) c.args.message.now)

use Rattle.std.proofs.Common.{rules, ◌≡◌, length, arith, ap}
use Rattle.spiral_sets.specs.declared.param_set.ParamSet.{ParamSet}
use Rattle.spiral_sets.specs.Counts.{words_of, setup_ciphertexts}
use Rattle.spiral_tests.proofs.keys.setup.Goals as goal

pub draw_keys-requires-clause-enough : goal.draw_keys-requires-clause-enough
draw_keys-requires-clause-enough g c =
    let count : words_of c.pack_set.result (setup_ciphertexts c.pack_set.result) ≡ 336896 =
    ap (λ (s : ParamSet). words_of s (setup_ciphertexts s)) c.pack_set.ensures.value in
    let used : c.secret_of.new.draw.used ≡ 768 = search rules in
    let size : length c.secret_of.new.draw.words ≡ 337664 = search rules in
    omega (arith, count, used, size)

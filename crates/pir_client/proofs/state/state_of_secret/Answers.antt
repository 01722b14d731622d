use Rattle.std.proofs.Common.{ℕ, ℤ, List, length, ◌*◌, ◌∙◌, ap}
use Rattle.pir_client.proofs.KeptSecrets.{length-rows}
use Rattle.pir_client.proofs.state.state_of_secret.Goals as goal

pub invariant_of-result : goal.invariant_of-result
invariant_of-result c =
    let N = c.args.set.now.degree in
    record {
      known = c.requires.known;
      index = c.requires.index;
      secret_length = ap (λ (xs : List ℤ). length xs) c.in_ok-secret_numbers.ensures.value ∙ length-rows N c.args.secret.now.rows c.requires.degree.rows
          ∙ ap (λ (n : ℕ). n * N) c.requires.count;
      ternary = c.in_ok-secret_numbers.ensures.ternary;
    }

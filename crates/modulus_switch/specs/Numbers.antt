-- What the numbers of an entry open to, by a row of the secret.
use Rattle.std.specs.Prelude.{ℕ, ℤ, List, slice_index_or, pos}
use Rattle.negacyclic.specs.Ring.{product_at, at}
use Rattle.spiral_sets.specs.declared.param_set.ParamSet.{ParamSet}
use Rattle.spiral_model.specs.Words.{Poly}
use Rattle.spiral_model.specs.Replies.{opened}

-- number i of a row of the secret: 0 past its end
abbrev pub secret_number : List ℤ → ℕ → ℤ
secret_number secret i = slice_index_or secret i (pos 0)

-- number k of an entry b, opened by a row of the secret and the mask of its column
abbrev pub opened_number : ParamSet → List ℤ → Poly → Poly → ℕ → ℕ
opened_number set secret mask b k = opened set (at b k) (product_at set.degree (secret_number secret) (at mask) k)

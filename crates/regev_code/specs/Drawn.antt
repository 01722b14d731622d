-- What a run of draws leaves.
use Rattle.std.specs.Prelude.{ℕ, List, ◌≡◌, ◌*◌, ◌++◌, length}
use Rattle.spiral_model.specs.Words.{Poly, Cipher}
use Rattle.spiral_model.specs.Ciphertexts.{encrypted_all, words_taken}
use Rattle.regev_code.specs.Seen.{Cursor}
use Rattle.regev_code.specs.Shapes.{taken}

-- While a cursor went from `from` to `to`, encryptions of m messages each were appended, each by the next words.
pub record Drawn (N m : ℕ) (secrets : List Poly) (messages : List (List Poly)) (from to : Cursor) (old new : List Cipher) : Type 0 where
  pub words : to ≡ taken from (length messages * words_taken N m)
  pub ciphers : new ≡ old ++ encrypted_all N from.words from.used secrets messages

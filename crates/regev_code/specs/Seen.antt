-- How contracts see secrets and cursors over words.
use Rattle.std.specs.Prelude.{ℕ, ℤ, List, Option}

-- A client's secrets as their numbers: the scalar secret, where the set has one, and s_1 to s_n; each has N numbers.
pub record Secrets : Type 0 where
  pub scalar : Option (List ℤ)
  pub rows : List (List ℤ)

-- A cursor over words: all of them, and how many were taken.
pub record Cursor : Type 0 where
  pub words : List ℕ
  pub used : ℕ

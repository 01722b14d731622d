-- Things that bytes spell one after the other.
use Rattle.std.specs.Prelude.{ℕ, List, ◌≡◌, ◌+◌, ◌*◌, length, take, drop, All}
use Rattle.std.specs.List.{flat_map}
use Rattle.spiral_model.specs.Words.{Cipher}
use Rattle.spiral_model.specs.Ciphertexts.{IsCipher}
use Rattle.spiral_frames.specs.Frames.{rows_bytes}

-- The bytes are those of `count` things, one after the other, and each of these is as it has to be.
pub record AreSpelled {A : Type 0} (Fits : A → Type 0) (spell : A → List ℕ) (count : ℕ) (bytes : List ℕ) (things : List A) : Type 0 where
  pub many : length things ≡ count
  pub fit : All Fits things
  pub spelled : flat_map spell things ≡ bytes

-- The bytes from `start` on begin with those of `count` ciphertexts with rows 0 to m, each row of N residues.
abbrev pub AreCiphersAt : ℕ → ℕ → ℕ → List ℕ → ℕ → List Cipher → Type 0
AreCiphersAt N m count bytes start ciphers =
    AreSpelled (IsCipher N m) rows_bytes count (take (count * ((m + 1) * (7 * N))) (drop start bytes)) ciphers

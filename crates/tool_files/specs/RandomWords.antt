-- The random words that a command reads from a source.
use Rattle.std.specs.Prelude.{ℕ, List, [], ◌*◌, ◌/◌, ◌≡◌, take, drop, length, map, nat_le, if◌then◌else◌, IsTrue, Result, Err, IfOk}
use Rattle.std.specs.List.{range_with_len}
use Rattle.negacyclic.specs.Digits.{number_of}
use Rattle.pir_io.specs.declared.fault.IoFault.{IoFault}
use Rattle.pir_io.specs.declared.fault.IoFault.TheVariants.{Failed}
use Rattle.pir_io.specs.Files.{FilesSeen, content_of}
use Rattle.pir_io.specs.Reading.{OnlyRead, FailedReading}
use Rattle.spiral_model.specs.Sampling.{seeded_words}
use Rattle.tool_base.specs.Sources.{WordSource, words_in, seed_in, source_name}

-- The words that bytes write: eight bytes each, the least first. Fewer than eight at the end are no word.
unfoldable pub words_written : List ℕ → List ℕ
words_written bytes = map (λ k. number_of 256 (take 8 (drop (8 * k) bytes))) (range_with_len 0 (length bytes / 8))

-- The words that a source gives of the bytes in its file, `needed` at most: the first ones that these write; or those
-- that the first 32 bytes give as a seed, and none where there are fewer bytes.
abbrev pub words_given : WordSource → List ℕ → ℕ → List ℕ
words_given (words_in _) bytes needed = words_written (take (8 * needed) bytes)
words_given (seed_in _) bytes needed = if nat_le 32 (length bytes) then seeded_words (take 32 bytes) needed else []

-- the bytes of its file give these words
abbrev pub GivesWords : WordSource → ℕ → List ℕ → List ℕ → Type 0
GivesWords source needed bytes words = words ≡ words_given source bytes needed

-- the words of a source were read
pub record ReadsWords {T : Type 0} (old new : FilesSeen) (source : WordSource) (needed : ℕ) (numbers : T → List ℕ) (result : Result T IoFault) : Type 0 where
  pub only : OnlyRead old new
  pub failed : result ≡ Err Failed → FailedReading old new (source_name source)
  pub given : IsTrue old.tells → IfOk result (λ x. numbers x ≡ words_given source (content_of old (source_name source)) needed)

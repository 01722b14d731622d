-- Where a command takes its random words from.
use Rattle.std.specs.Prelude.{ℕ, List, ◌++◌, ◌≡◌, ◌<◌, length, codes}
use Rattle.tool_base.specs.declared.source.Source.{Source}
use Rattle.tool_base.specs.declared.source.Source.TheVariants.{Words, Seed}

-- `words:FILE` or `seed:FILE`
pub data WordSource : Type 0 where
  words_in : (name : List ℕ) → WordSource
  seed_in : (name : List ℕ) → WordSource

-- the file that it names
abbrev pub source_name : WordSource → List ℕ
source_name (words_in name) = name
source_name (seed_in name) = name

-- the word of the command line that names it
abbrev pub source_word : WordSource → List ℕ
source_word (words_in name) = codes "words:" ++ name
source_word (seed_in name) = codes "seed:" ++ name

-- the word names this source, and its file by at least one byte
abbrev pub NamesSource : List ℕ → WordSource → Type 0
NamesSource word source = (0 < length (source_name source)) × (word ≡ source_word source)

-- how the program sees it
abbrev pub source_seen : Source → WordSource
source_seen (Words name) = words_in name.now
source_seen (Seed name) = seed_in name.now

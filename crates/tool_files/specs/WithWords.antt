-- What the commands that deal from random words share: the set, the index and the words that they go on with.
use Rattle.std.specs.Prelude.{ℕ, List, ◌<◌, ◌≤◌, length, IsTrue}
use Rattle.pir_io.specs.Files.{FilesSeen, content_of}
use Rattle.pir_io.specs.Reading.{OnlyRead}
use Rattle.spiral_sets.specs.declared.param_set.ParamSet.{ParamSet}
use Rattle.spiral_model.specs.Sets.{IsSet, max_records}
use Rattle.spiral_model.specs.Counts.{words_needed}
use Rattle.tool_base.specs.declared.status.Status.TheVariants.{IndexRange, WordsShort}
use Rattle.tool_base.specs.Texts.{index_range_line, words_short_line}
use Rattle.tool_base.specs.Names.{Names}
use Rattle.tool_base.specs.Sources.{WordSource, source_name}
use Rattle.tool_base.specs.Steps.{Steps, with_set, needs, read, never}
use Rattle.tool_files.specs.RandomWords.{GivesWords}

-- Goes on with the words that the source gives for a query of an index of that set.
abbrev pub with_words_for : ParamSet → ℕ → WordSource → (List ℕ → Steps) → Steps
with_words_for set index source rest =
    needs (index < max_records set) IndexRange (index_range_line index (max_records set)) (
    read (source_name source) (GivesWords source (words_needed set)) never (λ words.
    needs (words_needed set ≤ length words) WordsShort (words_short_line (words_needed set) (length words)) (
    rest words)))

-- The same, with the set of this name.
abbrev pub with_words : List ℕ → ℕ → WordSource → (ParamSet → List ℕ → Steps) → Steps
with_words set_name index source rest = with_set set_name (λ set. with_words_for set index source (rest set))

-- The words that such a command has then for a set, when its files went from `old` to `now`.
pub record HasWordsFor (set : ParamSet) (index : ℕ) (source : WordSource) (old now : FilesSeen) (words : List ℕ) : Type 0 where
  pub below : index < max_records set
  pub only : OnlyRead old now
  pub given : IsTrue old.tells → GivesWords source (words_needed set) (content_of old (source_name source)) words
  pub enough : words_needed set ≤ length words

-- The same, with the set of a name.
pub record HasWords (set_name : List ℕ) (index : ℕ) (source : WordSource) (old now : FilesSeen) (set : ParamSet) (words : List ℕ) : Type 0 where
  pub known : IsSet set
  pub names : Names set_name set
  pub has : HasWordsFor set index source old now words

-- The words that a source gives, from the front of its file.
use Rattle.std.proofs.lemmas.Bool.{cases_lt, le-leb, lt-leb}
use Rattle.std.proofs.Common.{ℕ, List, [], ◌-◌, ◌*◌, ◌/◌, ◌^◌, ◌<◌, ◌≤◌, ◌≡◌, nat_le, if◌then◌else◌, Ok, min, length, take, drop, map, arith, ap, sym, ◌∙◌, length-take, ⊎_elim}
use Rattle.std.specs.List.{range_with_len}
use Rattle.std.proofs.lemmas.List.{take_all, take-take}
use Rattle.negacyclic.specs.Digits.{number_of}
use Rattle.pir_io.specs.Files.{FilesSeen, content_of}
use Rattle.spiral_model.specs.Sampling.{seeded_words}
use Rattle.pir_io.specs.Reading.{ReadsFront}
use Rattle.tool_base.specs.Sources.{WordSource, words_in, seed_in, source_name}
use Rattle.tool_files.specs.RandomWords.{words_written, words_given, ReadsWords}

-- the word of the bytes from 8k on
abbrev pub word_from : List ℕ → ℕ → ℕ
word_from bytes k = number_of 256 (take 8 (drop (8 * k) bytes))

-- all words
pub words_all : (bytes items : List ℕ) (k : ℕ) → k ≡ length bytes / 8 → items ≡ map (word_from bytes) (range_with_len 0 k) → items ≡ words_written bytes
unfolding words_written
words_all bytes items k is all = all ∙ ap (λ n. map (word_from bytes) (range_with_len 0 n)) is

-- the front that a number of bytes in memory reaches
same_front : (content bytes : List ℕ) (needed limit : ℕ) → limit ≡ min (needed * 8) (2 ^ 64 - 1) → length bytes < 2 ^ 63 → bytes ≡ take limit content → bytes ≡ take (8 * needed) content
same_front content bytes needed limit is small front =
    let len = ap length front ∙ length-take limit content in
    ⊎_elim
    (λ fits. let same : limit ≡ 8 * needed = omega arith in front ∙ ap (λ n. take n content) same)
    (λ more. let least : length content ≤ limit = omega (arith, len) in let reach : length content ≤ 8 * needed = omega (arith, len) in front ∙ take_all limit content least ∙ sym (take_all (8 * needed) content reach))
    (cases_lt (needed * 8) (2 ^ 64))

-- the words in the front of a file of words
pub written_front : (name content bytes : List ℕ) (needed limit : ℕ) → limit ≡ min (needed * 8) (2 ^ 64 - 1) → length bytes < 2 ^ 63 → bytes ≡ take limit content
    → words_written bytes ≡ words_given (words_in name) content needed
written_front name content bytes needed limit is small front = ap words_written (same_front content bytes needed limit is small front)

same_test : (bytes content : List ℕ) → bytes ≡ take 32 content → nat_le 32 (length bytes) ≡ nat_le 32 (length content)
same_test bytes content front =
    let len = ap length front ∙ length-take 32 content in
    ⊎_elim
    (λ less. lt-leb 32 (length bytes) (omega (arith, len)) ∙ sym (lt-leb 32 (length content) less))
    (λ least. le-leb 32 (length bytes) (omega (arith, len)) ∙ sym (le-leb 32 (length content) least))
    (cases_lt (length content) 32)

-- the words of the seed in the front of a file
pub seed_front : (name content bytes : List ℕ) (needed : ℕ) → bytes ≡ take 32 content
    → (if nat_le 32 (length bytes) then seeded_words (take 32 bytes) needed else []) ≡ words_given (seed_in name) content needed
seed_front name content bytes needed front =
    let same : take 32 bytes ≡ take 32 content = ap (take 32) front ∙ take-take 32 32 content (omega arith) in
    let test = same_test bytes content front in
    λ i. if test i then seeded_words (same i) needed else []

from_front : {T U : Type 0} (old new : FilesSeen) (source : WordSource) (needed limit : ℕ) (bytes : T → List ℕ) (numbers : U → List ℕ) (x : T) (y : U)
    → ReadsFront old new (source_name source) limit bytes (Ok x)
    → ((content : List ℕ) → bytes x ≡ take limit content → numbers y ≡ words_given source content needed)
    → ReadsWords old new source needed numbers (Ok y)
from_front old new source needed limit bytes numbers x y reads gives = record {
  only = reads.only;
  failed = λ e. cc;
  given = λ t. gives (content_of old (source_name source)) (reads.front t);
}

-- the words that the front of a file gives were read
pub words_read : {T U : Type 0} (old mid new : FilesSeen) (seen source : WordSource) (needed limit : ℕ) (bytes : T → List ℕ) (numbers : U → List ℕ) (x : T) (y : U)
    → new ≡ mid → seen ≡ source → ReadsFront old mid (source_name source) limit bytes (Ok x)
    → ((content : List ℕ) → bytes x ≡ take limit content → numbers y ≡ words_given source content needed)
    → ReadsWords old new seen needed numbers (Ok y)
words_read old mid new seen source needed limit bytes numbers x y files is reads gives =
    rw (files, is) (from_front old mid source needed limit bytes numbers x y reads gives)

use Rattle.std.proofs.Common.{◌≡◌, map}
use Rattle.std.specs.List.{range_with_len}
use Rattle.tool_files.proofs.SourceWords.{word_from}
use Rattle.tool_files.proofs.random_words.written_words.Given as goal

abbrev pub invariant-loop-k : goal.invariant-loop-k
invariant-loop-k l = l.words.items ≡ map (word_from l.bytes) (range_with_len 0 l.k)

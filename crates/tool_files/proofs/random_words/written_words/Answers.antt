use Rattle.std.proofs.Common.{arith}
use Rattle.negacyclic.proofs.Lists.{pushed_more}
use Rattle.tool_files.proofs.SourceWords.{word_from, words_all}
use Rattle.tool_files.proofs.random_words.written_words.Goals as goal

pub loop-k-preserved : goal.loop-k-preserved
loop-k-preserved c =
    pushed_more (word_from c.args.bytes.now) 0 c.loop-k.k c.loop-k.k c.loop-k.words.items _ c.number_at.result (omega arith) c.loop-k.invariant c.in_ok-push.ensures.items c.number_at.ensures

pub returns : goal.returns
returns c = words_all c.args.bytes.now c.loop-k.words.items c.loop-k.k (omega arith) c.loop-k.invariant

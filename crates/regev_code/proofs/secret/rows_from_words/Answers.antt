use Rattle.std.proofs.Common.{length}
use Rattle.regev_code.proofs.Secrets.{rows_more}
use Rattle.regev_code.proofs.secret.rows_from_words.Goals as goal

pub loop-r-preserved : goal.loop-r-preserved
loop-r-preserved c =
    rows_more (length c.args.scratch.now) (length c.loop-r.scratch) c.args.words.now c.args.start c.loop-r.r c.loop-r.rows.items c.push.new.self.items
    c.in_ok-from_words.field-0 c.loop-r.auto.scratch c.loop-r.invariant c.in_ok-from_words.ensures c.in_ok-push.ensures.items

use Rattle.std.proofs.Common.{rules}
use Rattle.query_expand.proofs.Rounds.{starts-none, starts-more}
use Rattle.query_expand.proofs.expansion.with_zeros.Goals as goal

pub loop-init : goal.loop-init
loop-init c =
    starts-none c.args.set.now.degree c.args.c.now c.in_ok-copy_of.field-0 c.new-ciphers.result.items c.push.new.self.items c.requires.c
    c.in_ok-copy_of.ensures (search rules)
    c.in_ok-push.ensures.items

pub loop-preserved : goal.loop-preserved
loop-preserved c =
    starts-more c.args.set.now.degree c.args.c.now c.loop.counter c.loop.ciphers.items c.push-in-loop.new.self.items c.in_ok-zero.field-0 c.in_ok-zero.ensures
    c.in_ok-push-2.ensures.items c.loop.invariant

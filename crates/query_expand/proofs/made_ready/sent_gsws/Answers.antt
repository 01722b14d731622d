use Rattle.std.proofs.Common.{[], refl, arith}
use Rattle.std.proofs.lemmas.List.Elements.{All-nil, All-push, All-same}
use Rattle.negacyclic.proofs.Lists.{pushed_more}
use Rattle.spiral_model.specs.Answering.{gsw_of}
use Rattle.gsw_code.specs.Products.{IsGsw}
use Rattle.query_expand.proofs.Cuts.{gsw_cut, gsws-all}
use Rattle.query_expand.proofs.made_ready.sent_gsws.Goals as goal

pub loop-l-init : goal.loop-l-init
loop-l-init c = (
  c.new-gsws.ensures.items,
  All-same (IsGsw c.args.set.now) c.new-gsws.result.items [] c.new-gsws.ensures.items (All-nil (IsGsw c.args.set.now)),
)

pub loop-l-preserved : goal.loop-l-preserved
loop-l-preserved c = (
  pushed_more (gsw_of c.args.set.now c.args.ciphers.now) 0 c.loop-l.l c.loop-l.l c.loop-l.gsws.items c.push.new.self.items c.in_ok-from_columns.field-0
      (omega arith) c.loop-l.invariant.0 c.in_ok-push.ensures.items
      (gsw_cut c.args.set.now c.args.ciphers.now c.loop-l.l _ _ c.firsts_count-firsts.result c.gsw_count-count.result c.in_ok-from_columns.field-0
      c.firsts_count-firsts.ensures.value c.gsw_count-count.ensures.value
      refl (omega arith) c.in_ok-from_columns.ensures.value),
  All-same (IsGsw c.args.set.now) c.push.new.self.items _ c.in_ok-push.ensures.items
      (All-push (IsGsw c.args.set.now) c.loop-l.gsws.items c.in_ok-from_columns.field-0 c.loop-l.invariant.1 c.in_ok-from_columns.ensures.shape),
)

pub returns-clause-value : goal.returns-clause-value
returns-clause-value c = gsws-all c.args.set.now c.args.ciphers.now c.loop-l.l c.loop-l.gsws.items (omega arith) c.loop-l.invariant.0

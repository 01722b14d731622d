use Rattle.std.proofs.Common.{List, ℕ, Err, arith, subst}
use Rattle.std.proofs.lemmas.List.{take_rest}
use Rattle.std.proofs.lemmas.Result.{err_from_is_err_and}
use Rattle.pir_wire.specs.Steps.{TakesSome}
use Rattle.pir_wire.proofs.Feeds.{fed_more, fed_all, fed_ends, fed_stopped}
use Rattle.pir_wire.proofs.decoder.Decoder.feed.Goals as goal

pub returns-in_err-may_go_on : goal.returns-in_err-may_go_on
returns-in_err-may_go_on c =
    let p = err_from_is_err_and c.from_residual.result c.from_residual.ensures.1 in
    rw (p.1, p.2) (fed_stopped c.args.self.now c.args.piece.now c.in_err-may_go_on.field-0.0 c.in_err-may_go_on.ensures)

pub returns-in_err-place : goal.returns-in_err-place
returns-in_err-place c =
    let p = err_from_is_err_and c.from_residual-in_err-place.result c.from_residual-in_err-place.ensures.1 in
    let takes = subst (λ (left : List ℕ). TakesSome c.loop-place.self c.take_some.new.self left (Err c.in_err-place.field-0.0))
    (take_rest c.args.piece.now c.loop-place.place) c.in_err-place.ensures in
    rw (p.1, p.2)
    (fed_ends c.args.self.now c.loop-place.self c.args.piece.now c.loop-place.place c.loop-place.invariant c.take_some.new.self c.in_err-place.field-0.0 takes)

pub loop-place-preserved : goal.loop-place-preserved
loop-place-preserved c =
    let takes = rw (take_rest c.args.piece.now c.loop-place.place) at c.in_ok-place.ensures in
    fed_more c.args.self.now c.loop-place.self c.args.piece.now c.loop-place.place c.loop-place.invariant c.take_some.new.self c.in_ok-place.field-0 takes

pub returns : goal.returns
returns c =
    fed_all c.args.self.now c.loop-place.self c.args.piece.now c.loop-place.place c.loop-place.invariant (omega (arith, c.loop-place-test.false))

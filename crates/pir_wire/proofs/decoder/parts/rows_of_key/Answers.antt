use Rattle.std.proofs.Common.{sym, ◌∙◌, arith}
use Rattle.pir_wire.proofs.CipherSteps.{round_shape, lift_shape, conversion_shape}
use Rattle.pir_wire.proofs.decoder.parts.rows_of_key.Goals as goal

pub returns-then-k-rounds-clause-value : goal.returns-then-k-rounds-clause-value
returns-then-k-rounds-clause-value c =
    sym (round_shape c.args.set.now c.args.k c.requires.there (omega (arith, c.if-k-rounds.true, c.rounds_count-rounds.ensures)))

pub returns-then-k-rounds-2-clause-value : goal.returns-then-k-rounds-2-clause-value
returns-then-k-rounds-2-clause-value c =
    sym
    (lift_shape c.args.set.now c.args.k c.requires.there (omega (arith, c.if-k-rounds.false, c.rounds_count-rounds.ensures))
    (omega (arith, c.if-k-rounds-2.true, c.rounds_count-rounds.ensures, c.lifts_count.ensures)))

pub returns-clause-value : goal.returns-clause-value
returns-clause-value c =
    c.rows.ensures.value
    ∙ sym
    (conversion_shape c.args.set.now c.args.k c.requires.there (omega (arith, c.if-k-rounds.false, c.rounds_count-rounds.ensures))
    (omega (arith, c.if-k-rounds-2.false, c.rounds_count-rounds.ensures, c.lifts_count.ensures)))

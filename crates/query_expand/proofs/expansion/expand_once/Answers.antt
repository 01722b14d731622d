use Rattle.std.proofs.lemmas.List.Elements.{All-append}
use Rattle.regev_code.specs.Products.{HasShape}
use Rattle.query_expand.proofs.Rounds.{round_is}
use Rattle.query_expand.proofs.expansion.expand_once.Goals as goal

pub returns-clause-value : goal.returns-clause-value
returns-clause-value c =
    round_is c.args.ring.now c.args.round c.args.size c.args.key.now c.args.ciphers.now c.split_at_mut-low.result.0.now c.split_at_mut-low.result.1.now
    c.keep_even_halves.new.ciphers
    c.write_odd_halves.new.high c.requires.within c.split_at_mut-low.ensures.front c.write_odd_halves.ensures.value c.keep_even_halves.ensures.value

pub returns-clause-shapes : goal.returns-clause-shapes
returns-clause-shapes c =
    All-append (HasShape c.args.ring.now 2) c.keep_even_halves.new.ciphers c.write_odd_halves.new.high c.keep_even_halves.ensures.shapes
    c.write_odd_halves.ensures.shapes

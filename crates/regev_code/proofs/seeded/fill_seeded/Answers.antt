use Rattle.std.proofs.Common.{◌≡◌, length, arith}
use Rattle.std.proofs.lemmas.List.Edits.{fill_by_more}
use Rattle.spiral_model.specs.Sampling.{seeded_word}
use Rattle.regev_code.proofs.Streams.{number_is, stream_more, words_all}
use Rattle.regev_code.proofs.seeded.fill_seeded.Goals as goal

pub loop-i-preserved : goal.loop-i-preserved
loop-i-preserved c =
    let seed = c.args.seed.now in
    let number : c.next_number.result ≡ seeded_word seed c.loop-i.i =
    number_is seed c.loop-i.i c.next_number.result c.loop-i.stream c.loop-i.invariant.0 c.next_number.ensures.value in (
      stream_more seed c.loop-i.i c.loop-i.stream c.next_number.new.stream c.loop-i.invariant.0 c.next_number.ensures.rest,
      rw number (fill_by_more (seeded_word seed) c.loop-i.out c.loop-i.i 0 (omega arith) c.loop-i.invariant.1),
    )

pub returns : goal.returns
returns c =
    words_all c.args.seed.now c.loop-i.out (length c.args.out.now) (omega arith) (λ k h. c.loop-i.invariant.1 k (omega arith))

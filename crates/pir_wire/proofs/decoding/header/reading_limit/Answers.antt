use Rattle.std.proofs.Common.{◌≤◌, arith}
use Rattle.spiral_sets.specs.declared.param_set.ParamSet.{ParamSet}
use Rattle.pir_wire.specs.Headers.{frame_len_of}
use Rattle.pir_wire.proofs.Headers.{first_rows-more, first_rows-all}
use Rattle.pir_wire.proofs.decoding.header.reading_limit.Goals as goal

pub loop-i-preserved : goal.loop-i-preserved
loop-i-preserved c = (
  omega (arith, c.loop-i.invariant.0, c.max-longest.ensures, c.frame_len.ensures.most),
  first_rows-more (λ (set : ParamSet). frame_len_of c.args.kind set ≤ c.max-longest.result) c.loop-i.i c.set_at.result
      (λ j lt set is. omega (arith, c.loop-i.invariant.1 j lt set is, c.max-longest.ensures)) c.set_at.ensures.value
      (omega (arith, c.frame_len.ensures.value, c.max-longest.ensures)),
)

pub returns : goal.returns
returns c =
    λ set is.
    omega (arith, first_rows-all (λ (s : ParamSet). frame_len_of c.args.kind s ≤ c.loop-i.longest) c.loop-i.i (omega arith) c.loop-i.invariant.1 set is)

use Rattle.pir_wire.proofs.OneFrames.{new_reading}
use Rattle.pir_wire.proofs.one_frame.OneFrame.new.Goals as goal

pub invariant_of-result : goal.invariant_of-result
invariant_of-result c = new_reading c.args.kinds c.in_ok-decoder.decoder c.requires c.in_ok-decoder.ensures

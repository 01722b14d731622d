use Rattle.std.proofs.Common.{arith}
use Rattle.frame_streams.proofs.Heads.{nothing_yet}
use Rattle.pir_wire.proofs.decoder.Decoder.new.Goals as goal

pub invariant_of-result : goal.invariant_of-result
invariant_of-result c = record {
  taken = c.requires;
  stage = rw c.new-2.ensures.items (nothing_yet c.args.kinds);
  room = rw c.new-2.ensures.items (omega arith);
}

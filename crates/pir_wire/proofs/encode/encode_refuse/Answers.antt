use Rattle.std.proofs.Common.{arith}
use Rattle.spiral_frames.specs.Frames.{PeerRefusal}
use Rattle.pir_wire.proofs.Spelling.{refuse_spelled}
use Rattle.pir_wire.proofs.encode.encode_refuse.Goals as goal

pub returns : goal.returns
returns c =
    let refusal : PeerRefusal = record { set = c.args.set.now; code = c.args.code; place = c.args.at } in
    record {
      is = (c.requires, omega (arith, c.ranges.code), omega (arith, c.ranges.at));
      spelled =
          refuse_spelled refusal _ _ _ c.to_le_bytes.result c.in_ok-out.ensures c.in_ok-push.ensures.items c.to_le_bytes.ensures
          c.in_ok-extend_from_slice.ensures.items;
    }

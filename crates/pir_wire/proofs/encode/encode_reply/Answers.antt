use Rattle.std.proofs.Common.{◌≡◌, ◌∙◌, ap}
use Rattle.spiral_sets.specs.declared.param_set.ParamSet.{ParamSet}
use Rattle.spiral_sets.specs.Counts.{reply_len}
use Rattle.frame_headers.specs.Headers.{header}
use Rattle.pir_wire.proofs.Spelling.{reply_spelled}
use Rattle.pir_wire.proofs.encode.encode_reply.Goals as goal

pub returns : goal.returns
returns c =
    let reply = c.args.reply.now in
    let front : c.in_ok-out.out.items ≡ header 3 reply.set (reply_len reply.set) =
    c.in_ok-out.ensures ∙ ap (λ (set : ParamSet). header 3 set (reply_len set)) c.set-set.ensures.value in
    record {
      is = c.set-set.ensures.kept;
      spelled =
          reply_spelled reply c.from.result c.from-2.result _ _ _ _ _ c.to_le_bytes.result c.to_le_bytes-2.result c.set-set.ensures.kept
          front c.to_le_bytes.ensures (c.from.ensures ∙ c.count.ensures.value) c.in_ok-extend_from_slice.ensures.items
          c.to_le_bytes-2.ensures (c.from-2.ensures ∙ c.length.ensures.value) c.in_ok-extend_from_slice-2.ensures.items c.in_ok-push_body.ensures
          c.in_ok-push_mask.ensures;
    }

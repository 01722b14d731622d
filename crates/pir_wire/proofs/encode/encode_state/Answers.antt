use Rattle.std.proofs.Common.{List, ℤ, ◌++◌, map, ap, ◌∙◌}
use Rattle.spiral_sets.specs.Counts.{state_len}
use Rattle.frame_headers.specs.Headers.{header}
use Rattle.spiral_model.specs.Replies.{QueryState}
use Rattle.spiral_frames.specs.Frames.{secret_byte}
use Rattle.pir_wire.proofs.Spelling.{state_spelled}
use Rattle.pir_wire.proofs.encode.encode_state.Goals as goal

pub returns : goal.returns
returns c =
    let view = c.state.view_is in
    record {
      is = c.requires;
      spelled =
          state_spelled c.args.state.now c.from.result _ _ _ c.to_le_bytes.result c.requires
          (c.in_ok-out.ensures ∙ ap (λ (s : QueryState). header 5 s.set (state_len s.set)) view)
          c.to_le_bytes.ensures (c.from.ensures ∙ ap (λ (s : QueryState). s.index) view) c.in_ok-extend_from_slice.ensures.items
          (c.in_ok-push_secret.ensures
          ∙ ap (λ (secret : List ℤ). c.extend_from_slice.new.self.items ++ map secret_byte secret) c.deref.ensures.value
          ∙ ap (λ (s : QueryState). c.extend_from_slice.new.self.items ++ map secret_byte s.secret) view);
    }

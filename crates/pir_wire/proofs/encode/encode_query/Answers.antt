use Rattle.std.proofs.Common.{List, ◌++◌, sym, ◌∙◌, ap}
use Rattle.spiral_sets.specs.Counts.{query_len}
use Rattle.frame_headers.specs.Headers.{header}
use Rattle.spiral_model.specs.Words.{Cipher}
use Rattle.spiral_model.specs.Bodies.{CipherBody}
use Rattle.spiral_frames.specs.Frames.{cipher_bytes}
use Rattle.spiral_frames.proofs.FrameLaws.{query_frame_is}
use Rattle.pir_wire.proofs.encode.encode_query.Goals as goal

pub returns : goal.returns
returns c = record {
  is = c.requires;
  spelled =
      c.in_ok-push_ciphers.ensures
      ∙ ap (λ (ciphers : List Cipher). c.in_ok-out.out.items ++ cipher_bytes ciphers) c.deref.ensures.value
      ∙ ap (λ (front : List _). front ++ cipher_bytes c.query.inside.ciphers.items) c.in_ok-out.ensures
      ∙ ap (λ (q : CipherBody). header 2 q.set (query_len q.set) ++ cipher_bytes q.ciphers) c.query.view_is
      ∙ sym (query_frame_is c.args.query.now c.requires);
}

use Rattle.std.proofs.Common.{ℕ, List, ◌++◌, sym, ◌∙◌, ap}
use Rattle.spiral_sets.specs.Counts.{setup_len}
use Rattle.frame_headers.specs.Headers.{header}
use Rattle.spiral_model.specs.Words.{Cipher}
use Rattle.spiral_model.specs.Bodies.{CipherBody}
use Rattle.spiral_frames.specs.Frames.{cipher_bytes}
use Rattle.spiral_frames.proofs.FrameLaws.{setup_frame_is}
use Rattle.pir_wire.proofs.Setups.{degrees_fit}
use Rattle.pir_wire.proofs.encode.encode_setup.Goals as goal

pub push_ciphers-requires : goal.push_ciphers-requires
push_ciphers-requires c =
    let inside : CipherBody = record { set = c.keys.inside.set; ciphers = c.keys.inside.ciphers.items } in
    degrees_fit c.args.keys.now inside c.deref.result.now c.deref_mut.result.now c.keys.view_is c.requires c.deref.ensures.value
    (c.deref_mut.ensures.value ∙ c.in_ok-numbers.ensures)

pub returns : goal.returns
returns c = record {
  is = c.requires;
  spelled =
      c.in_ok-push_ciphers.ensures
      ∙ ap (λ (ciphers : List Cipher). c.in_ok-out.out.items ++ cipher_bytes ciphers) c.deref.ensures.value
      ∙ ap (λ (front : List ℕ). front ++ cipher_bytes c.keys.inside.ciphers.items) c.in_ok-out.ensures
      ∙ ap (λ (k : CipherBody). header 1 k.set (setup_len k.set) ++ cipher_bytes k.ciphers) c.keys.view_is
      ∙ sym (setup_frame_is c.args.keys.now c.requires);
}

use Rattle.std.proofs.Common.{List, ℕ, ◌++◌, ap, ◌∙◌, arith, take_all}
use Rattle.spiral_frames.specs.Frames.{cipher_bytes}
use Rattle.pir_wire.proofs.residues.push_ciphers.Goals as goal

pub returns : goal.returns
unfolding cipher_bytes
returns c =
    c.loop-cipher.invariant
    ∙ ap (λ (ciphers : List (List (List ℕ))). c.args.out.now.items ++ cipher_bytes ciphers)
    (take_all c.loop-cipher.cipher-index c.args.ciphers.now (omega arith))

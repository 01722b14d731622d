use Rattle.std.proofs.Common.{ap, ◌∙◌, List, ℕ, ◌++◌, take}
use Rattle.frame_headers.proofs.HeaderLaws.{seven_bytes}
use Rattle.pir_wire.proofs.residues.push_residue.Goals as goal

pub returns : goal.returns
returns c =
    c.in_ok-extend_from_slice.ensures.items
    ∙ ap (λ (bytes : List ℕ). c.args.out.now.items ++ take 7 bytes) c.to_le_bytes-bytes.ensures
    ∙ ap (λ (bytes : List ℕ). c.args.out.now.items ++ bytes) (seven_bytes c.args.residue)

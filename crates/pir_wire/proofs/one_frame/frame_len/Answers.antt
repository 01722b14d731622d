use Rattle.std.proofs.Common.{length, ap, arith}
use Rattle.frame_headers.specs.Kinds.{code_of_kind, body_len_of}
use Rattle.frame_headers.proofs.HeaderLaws.{length-header}
use Rattle.pir_wire.proofs.one_frame.frame_len.Goals as goal

pub returns : goal.returns
returns c =
    let kind = c.args.kind in
    let set = c.args.set.now in
    omega (arith, c.body_len.ensures, ap length c.name.ensures, length-header (code_of_kind kind) set (body_len_of kind set))

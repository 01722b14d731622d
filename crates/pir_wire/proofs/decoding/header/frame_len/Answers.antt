use Rattle.std.proofs.Common.{arith, ap, length}
use Rattle.frame_headers.proofs.HeaderLaws.{length-header}
use Rattle.spiral_sets.proofs.SetNames.{name-most}
use Rattle.frame_headers.specs.Kinds.{code_of_kind, body_len_of}
use Rattle.pir_wire.proofs.Headers.{body_len-most}
use Rattle.pir_wire.proofs.decoding.header.frame_len.Goals as goal

pub returns-clause-value : goal.returns-clause-value
returns-clause-value c =
    let set = c.args.set.now in
    omega (arith, ap length c.name.ensures, length-header (code_of_kind c.args.kind) set (body_len_of c.args.kind set), c.body_len.ensures)

pub returns-clause-most : goal.returns-clause-most
returns-clause-most c =
    omega (arith, ap length c.name.ensures, c.body_len.ensures, name-most c.args.set.now c.requires, body_len-most c.args.kind c.args.set.now c.requires)

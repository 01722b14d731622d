use Rattle.std.proofs.Common.{arith}
use Rattle.negacyclic.proofs.Signed.{nearest_is}
use Rattle.modulus_switch.proofs.rounding.nearest_residue.Goals as goal

pub returns : goal.returns
returns c =
    nearest_is c.args.z c.from-wide.result c.div_euclid-rounded.result c.from.result c.rem_euclid.result c.args.d c.args.modulus c.requires.size
    (omega arith) (omega arith) (record { sfits = c.div_euclid-rounded.type_inv }) (record { sfits = c.rem_euclid.type_inv }) c.from-wide.ensures c.from.ensures c.div_euclid-rounded.ensures c.rem_euclid.ensures.value

use Rattle.spiral_tests.proofs.Pack.{scalars_of, columns_of}
use Rattle.spiral_tests.proofs.packing.translated.Goals as goal

pub translate-requires-clause-bits : goal.translate-requires-clause-bits
translate-requires-clause-bits g c =
    scalars_of c.in_ok-ring.ring c.in_ok-bits.bits.items c.deref.result.now c.in_ok-ring.ensures c.deref.ensures.value c.in_ok-bits.ensures

pub returns : goal.returns
returns g c =
    columns_of c.in_ok-ring.ring c.pack_set-set.result c.in_ok-translate.field-0.items c.in_ok-ring.ensures c.pack_set-set.ensures.value c.in_ok-translate.ensures.shapes

use Rattle.spiral_tests.proofs.Pack.{scalars_of}
use Rattle.spiral_tests.proofs.packing.scalar_ciphertexts_are_packed.Goals as goal

pub pack-requires-clause-ciphers : goal.pack-requires-clause-ciphers
pack-requires-clause-ciphers g c =
    scalars_of c.in_ok-ring.ring c.in_ok-ciphers.ciphers.items c.deref.result.now c.in_ok-ring.ensures c.deref.ensures.value c.in_ok-ciphers.ensures

use Rattle.pir_server.proofs.ResultColumns.{scalar_count, scalar_shapes}
use Rattle.pir_server.proofs.results.put_packed.Goals as goal

pub pack-requires-clause-count : goal.pack-requires-clause-count
pack-requires-clause-count c = scalar_count c.args.set.now c.args.scratch.now c.args.folded.now c.requires.packs c.requires.scratch c.requires.count

pub pack-requires-clause-ciphers : goal.pack-requires-clause-ciphers
pack-requires-clause-ciphers c = scalar_shapes c.args.set.now c.args.ring.now c.args.folded.now c.requires.packs c.requires.ring c.requires.shapes

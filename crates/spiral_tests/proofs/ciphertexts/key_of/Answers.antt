use Rattle.gsw_code.proofs.Products.{shapes_degrees}
use Rattle.query_expand.proofs.Cuts.{ciphers-shapes}
use Rattle.spiral_tests.proofs.ciphertexts.key_of.Goals as goal

pub forms_of-requires : goal.forms_of-requires
forms_of-requires c = record {
  degrees = shapes_degrees c.args.ring.now 256 3 c.args.columns.now c.requires.ring (ciphers-shapes 256 2 c.args.columns.now c.requires.columns);
}

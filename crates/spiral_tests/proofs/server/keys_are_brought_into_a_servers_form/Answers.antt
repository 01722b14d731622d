use Rattle.spiral_tests.proofs.Pack.{keys_set}
use Rattle.spiral_tests.proofs.server.keys_are_brought_into_a_servers_form.Goals as goal

pub expect_keys-requires : goal.expect_keys-requires
expect_keys-requires g c = keys_set c.in_ok-keys.keys _ c.in_ok-keys.ensures c.in_ok-setup.ensures.set

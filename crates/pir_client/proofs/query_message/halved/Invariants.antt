use Rattle.std.proofs.Common.{◌≡◌, ◌<◌}
use Rattle.spiral_sets.specs.Sets.{q}
use Rattle.spiral_model.specs.Queries.{halved}
use Rattle.pir_client.proofs.query_message.halved.Given as goal

abbrev pub invariant-loop : goal.invariant-loop
invariant-loop l = record { value : l.number ≡ halved l.counter l.x; below : l.number < q }

use Rattle.std.proofs.Common.{◌≡◌, ap, subst}
use Rattle.spiral_model.specs.Sets.{IsSet}
use Rattle.spiral_model.specs.Databases.{RecordTable}
use Rattle.pir_server.proofs.Serving.{served_new}
use Rattle.pir_server.proofs.server.Server.new.Goals as goal

pub invariant_of-result : goal.invariant_of-result
invariant_of-result g c =
    let same : c.db.inside.set ≡ c.args.db.set = ap (λ (t : RecordTable). t.set) c.db.view_is in
    served_new c.args.db c.in_ok-prepared.prepared c.in_ok-ring.ring c.db.inside.set c.args.workers
    c.in_ok-scratches.field-0.items c.in_ok-zero_outputs.field-0.items
    (subst IsSet same c.db.invariant.known) same c.in_ok-prepared.ensures c.in_ok-ring.ensures c.requires.some c.requires.few
    c.in_ok-scratches.ensures c.in_ok-zero_outputs.ensures

use Rattle.std.proofs.Common.{◌≡◌, sym, ◌∙◌, ap}
use Rattle.spiral_sets.specs.declared.param_set.ParamSet.{ParamSet}
use Rattle.spiral_model.specs.Databases.{RecordTable}
use Rattle.pir_server.specs.Served.{Served}
use Rattle.pir_server.proofs.server.Server.keys.Goals as goal

pub from_body-requires-clause-ring : goal.from_body-requires-clause-ring
from_body-requires-clause-ring c =
    let table : c.self.inside.db ≡ c.args.self.now.table = ap (λ (v : Served). v.table) c.self.view_is in
    let set_is : c.self.inside.db.set ≡ c.args.setup.now.set = ap (λ (t : RecordTable). t.set) table ∙ sym c.requires.set in
    c.self.invariant.degree ∙ ap (λ (s : ParamSet). s.degree) set_is

use Rattle.tool_base.proofs.NamedSets.{named_known, named_found, named_none}
use Rattle.tool_base.proofs.set_names.find_set.Goals as goal

pub returns-clause-known : goal.returns-clause-known
returns-clause-known c = named_known c.args.name.now c.set_named.result c.set_named.ensures

pub returns-clause-found : goal.returns-clause-found
returns-clause-found c = named_found c.args.name.now c.set_named.result c.set_named.ensures

pub returns-clause-none : goal.returns-clause-none
returns-clause-none c = named_none c.args.name.now c.set_named.result c.set_named.ensures

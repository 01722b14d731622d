use Rattle.tool_run.proofs.Executed.{ran}
use Rattle.tool_run.proofs.Retrieved.{run_retrieves}
use Rattle.tool_run.proofs.FetchedRecord.{run_fetches}
use Rattle.tool_run.proofs.program.run.Goals as goal

pub returns-clause-runs : goal.returns-clause-runs
returns-clause-runs g c = ran _ _ _ _ c.execute.result c.number.result c.number.ensures c.execute.ensures

pub returns-clause-retrieves : goal.returns-clause-retrieves
returns-clause-retrieves g c = run_retrieves _ _ _ _ c.execute.result c.number.result c.number.ensures c.execute.ensures

pub returns-clause-fetches : goal.returns-clause-fetches
returns-clause-fetches g c = run_fetches _ _ _ _ c.execute.result c.number.result c.number.ensures c.execute.ensures

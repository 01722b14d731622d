use Rattle.pir_client.proofs.Retrieved.{retrieved}
use Rattle.pir_client.proofs.opening.open.Goals as goal

pub returns-clause-retrieves : goal.returns-clause-retrieves
returns-clause-retrieves c = retrieved (λ bytes. bytes.items) c.args.state.now c.args.reply.now c.open_present.result c.open_present.ensures

use Rattle.pir_io.proofs.mem_net.MemNetLink.read.Goals as goal

pub returns-clause-reads : goal.returns-clause-reads
returns-clause-reads c = rw c.count_success.ensures (c.read-count.ensures.reads c.args.self.now.plan.faults)

pub returns-clause-exact : goal.returns-clause-exact
returns-clause-exact c = λ _. c.read-count.ensures.exact c.args.self.now.plan.faults

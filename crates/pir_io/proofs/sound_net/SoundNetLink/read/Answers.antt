use Rattle.pir_io.proofs.sound_net.SoundNetLink.read.Goals as goal

pub returns-clause-reads : goal.returns-clause-reads
returns-clause-reads c = c.read-count.ensures.reads 0

pub returns-clause-exact : goal.returns-clause-exact
returns-clause-exact c = c.read-count.ensures.exact 0

use Rattle.std.proofs.Common.{inl, refl}
use Rattle.tool_base.specs.Words.{the_prepare, the_ask, the_answer, the_open, the_noise, the_local, the_serve, the_fetch, prepare_seen, ask_seen, answer_seen, open_seen, noise_seen, local_seen, serve_seen, fetch_seen}
use Rattle.tool_run.proofs.Executed.{given}
use Rattle.tool_run.proofs.program.execute.Goals as goal

pub answer_files-requires-clause-some : goal.answer_files-requires-clause-some
answer_files-requires-clause-some g c κs within = (given _ _ _ c.in-Some-Answer.field-0-is c.in-Some-Answer.ensures).0.0

pub answer_files-requires-clause-few : goal.answer_files-requires-clause-few
answer_files-requires-clause-few g c κs within = (given _ _ _ c.in-Some-Answer.field-0-is c.in-Some-Answer.ensures).0.1

pub local_files-requires-clause-some : goal.local_files-requires-clause-some
local_files-requires-clause-some g c κs within = (given _ _ _ c.in-Some-Local.field-0-is c.in-Some-Local.ensures).0.2

pub local_files-requires-clause-few : goal.local_files-requires-clause-few
local_files-requires-clause-few g c κs within = (given _ _ _ c.in-Some-Local.field-0-is c.in-Some-Local.ensures).0.3

pub local_files-requires-clause-cut : goal.local_files-requires-clause-cut
local_files-requires-clause-cut g c κs within = (given _ _ _ c.in-Some-Local.field-0-is c.in-Some-Local.ensures).0.4

pub serve_net-requires-clause-sessions : goal.serve_net-requires-clause-sessions
serve_net-requires-clause-sessions g c κs within = (given _ _ _ c.in-Some-Serve.field-0-is c.in-Some-Serve.ensures).0.0

pub serve_net-requires-clause-some : goal.serve_net-requires-clause-some
serve_net-requires-clause-some g c κs within = (given _ _ _ c.in-Some-Serve.field-0-is c.in-Some-Serve.ensures).0.2

pub serve_net-requires-clause-few : goal.serve_net-requires-clause-few
serve_net-requires-clause-few g c κs within = (given _ _ _ c.in-Some-Serve.field-0-is c.in-Some-Serve.ensures).0.3

pub returns-in-Some-Prepare : goal.returns-in-Some-Prepare
returns-in-Some-Prepare g c =
    let asked = given _ _ _ c.in-Some-Prepare.field-0-is c.in-Some-Prepare.ensures in
    inl (record { name = the_prepare; said = prepare_seen c.in-Some-Prepare.prepare }, asked.0, asked.1, (refl, c.prepare_files.ensures))

pub returns-in-Some-Ask : goal.returns-in-Some-Ask
returns-in-Some-Ask g c =
    let asked = given _ _ _ c.in-Some-Ask.field-0-is c.in-Some-Ask.ensures in
    inl (record { name = the_ask; said = ask_seen c.in-Some-Ask.ask }, asked.0, asked.1, (refl, c.ask_files.ensures))

pub returns-in-Some-Answer : goal.returns-in-Some-Answer
returns-in-Some-Answer g c =
    let asked = given _ _ _ c.in-Some-Answer.field-0-is c.in-Some-Answer.ensures in
    inl (record { name = the_answer; said = answer_seen c.in-Some-Answer.answer }, asked.0, asked.1, (refl, c.answer_files.ensures))

pub returns-in-Some-Open : goal.returns-in-Some-Open
returns-in-Some-Open g c =
    let asked = given _ _ _ c.in-Some-Open.field-0-is c.in-Some-Open.ensures in
    inl (record { name = the_open; said = open_seen c.in-Some-Open.open }, asked.0, asked.1, (refl, c.open_files.ensures))

pub returns-in-Some-Noise : goal.returns-in-Some-Noise
returns-in-Some-Noise g c =
    let asked = given _ _ _ c.in-Some-Noise.field-0-is c.in-Some-Noise.ensures in
    inl (record { name = the_noise; said = noise_seen c.in-Some-Noise.noise }, asked.0, asked.1, (refl, c.noise_files.ensures))

pub returns-in-Some-Local : goal.returns-in-Some-Local
returns-in-Some-Local g c =
    let asked = given _ _ _ c.in-Some-Local.field-0-is c.in-Some-Local.ensures in
    inl (record { name = the_local; said = local_seen c.in-Some-Local.local }, asked.0, asked.1, (refl, c.local_files.ensures))

pub returns-in-Some-Serve : goal.returns-in-Some-Serve
returns-in-Some-Serve g c =
    let asked = given _ _ _ c.in-Some-Serve.field-0-is c.in-Some-Serve.ensures in
    inl (record { name = the_serve; said = serve_seen c.in-Some-Serve.serve }, asked.0, asked.1, c.serve_net.ensures)

pub returns-in-Some-Fetch : goal.returns-in-Some-Fetch
returns-in-Some-Fetch g c =
    let asked = given _ _ _ c.in-Some-Fetch.field-0-is c.in-Some-Fetch.ensures in
    inl (record { name = the_fetch; said = fetch_seen c.in-Some-Fetch.fetch }, asked.0, asked.1, c.fetch_net.ensures)

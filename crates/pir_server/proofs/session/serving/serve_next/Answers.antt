use Rattle.std.proofs.Common.{ap}
use Rattle.std.proofs.lemmas.Result.{err_from_is_err_and}
use Rattle.frame_streams.specs.Decoding.{Placed, Decoding}
use Rattle.pir_wire.specs.Messages.{message_seen}
use Rattle.pir_server.specs.declared.session.talk.Talk.{Talk}
use Rattle.pir_server.proofs.Onward.{next_fits, last_place, next_served, next_stopped, next_none}
use Rattle.pir_server.proofs.session.serving.serve_next.Goals as goal

pub serve-requires-clause-room : goal.serve-requires-clause-room
serve-requires-clause-room g c κs within =
    let t = c.in-Some.ensures.takes in
    let before : Talk = c.args.talk.now in
    let placed : Placed = record { place = t.1; message = message_seen c.in-Some.message } in
    next_fits c.args.server.now.table before (record before { decoder = c.take.new.self }) t.0 placed t.2
    (ap (λ (d : Decoding). record before { decoder = d }) t.3) c.requires.talk

pub returns-in_err-serve-in-Some-clause-serves : goal.returns-in_err-serve-in-Some-clause-serves
returns-in_err-serve-in-Some-clause-serves g c =
    let t = c.in-Some.ensures.takes in
    let table = c.args.server.now.table in
    let before : Talk = c.args.talk.now in
    let between : Talk = record before { decoder = c.take.new.self } in
    let placed : Placed = record { place = t.1; message = message_seen c.in-Some.message } in
    let old = g.L.Link.seen c.args.link.now in
    let new = g.L.Link.seen c.serve.new.link in
    let p = err_from_is_err_and c.from_residual.result c.from_residual.ensures.1 in
    rw (p.1, p.2)
    (next_stopped table old new before between c.serve.new.talk t.0 placed t.2 (ap (λ (d : Decoding). record before { decoder = d }) t.3)
    c.in_err-serve-in-Some.field-0.0
    (last_place table (message_seen c.in-Some.message) old new between c.serve.new.talk _ t.1 (ap (λ (d : Decoding). d.last) t.3)
    c.in_err-serve-in-Some.ensures.serves))

pub returns-in_ok-serve-in-Some-clause-serves : goal.returns-in_ok-serve-in-Some-clause-serves
returns-in_ok-serve-in-Some-clause-serves g c =
    let t = c.in-Some.ensures.takes in
    let table = c.args.server.now.table in
    let before : Talk = c.args.talk.now in
    let between : Talk = record before { decoder = c.take.new.self } in
    let placed : Placed = record { place = t.1; message = message_seen c.in-Some.message } in
    let old = g.L.Link.seen c.args.link.now in
    let new = g.L.Link.seen c.serve.new.link in
    next_served table old new before between c.serve.new.talk t.0 placed t.2 (ap (λ (d : Decoding). record before { decoder = d }) t.3)
    (last_place table (message_seen c.in-Some.message) old new between c.serve.new.talk _ t.1 (ap (λ (d : Decoding). d.last) t.3)
    c.in_ok-serve-in-Some.ensures.serves)

pub returns-in-None-clause-serves : goal.returns-in-None-clause-serves
returns-in-None-clause-serves g c =
    let before : Talk = c.args.talk.now in
    next_none c.args.server.now.table (g.L.Link.seen c.args.link.now) before (record before { decoder = c.take.new.self }) c.requires.open
    c.in-None.ensures.takes.0 (ap (λ (d : Decoding). record before { decoder = d }) c.in-None.ensures.takes.1)

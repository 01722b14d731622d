use Rattle.std.proofs.Common.{inl, inr, refl}
use Rattle.tool_base.specs.Texts.{too_noisy_line}
use Rattle.tool_base.specs.Words.{fetch_seen}
use Rattle.tool_files.proofs.WithGiven.{named_words}
use Rattle.tool_fetch.proofs.LookingUp.{not_given, ended_with, went_on}
use Rattle.tool_fetch.proofs.fetch.fetch_net.Goals as goal

pub returns-in-Err : goal.returns-in-Err
returns-in-Err g c = not_given (fetch_seen c.args.fetch.now) (g.N.Link.seen c.args.net.now) _ c.in-Err.status c.in-Err.ensures

pub ask-requires : goal.ask-requires
ask-requires g c = record { known = c.in-Ok.ensures.0.known }

pub returns-in-Ok-ask : goal.returns-in-Ok-ask
returns-in-Ok-ask g c =
    let f = fetch_seen c.args.fetch.now in
    went_on f (g.N.Link.seen c.args.net.now) (g.F.Files.seen c.args.files.now) (g.F.Files.seen c.given_words.new.files) (g.F.Files.seen c.look_up.new.files)
    (g.O.Sink.seen c.args.sink.now) (g.O.Sink.seen c.given_words.new.sink) (g.O.Sink.seen c.look_up.new.sink) c.in-Ok.given.set c.deref.result.now c.look_up.result
    (named_words f.set_name f.index f.source _ _ c.in-Ok.given.set _ c.deref.result.now c.deref.ensures.value c.in-Ok.ensures.0) c.in-Ok.ensures.1
    (g.N.Link.seen c.look_up.new.net) c.in-Ok-ask.asked c.in-Ok-ask.ensures.asks.1 c.look_up.ensures

pub returns-in-Err-TooNoisy : goal.returns-in-Err-TooNoisy
returns-in-Err-TooNoisy g c =
    let f = fetch_seen c.args.fetch.now in
    let refused = rw c.in-Err-TooNoisy.field-0-is at c.in-Err-TooNoisy.ensures.asks in
    ended_with f (g.N.Link.seen c.args.net.now) (g.F.Files.seen c.args.files.now) (g.F.Files.seen c.given_words.new.files) (g.F.Files.seen c.given_words.new.files)
    (g.O.Sink.seen c.args.sink.now) (g.O.Sink.seen c.given_words.new.sink) (g.O.Sink.seen c.refuse_by_text.new.sink) c.in-Ok.given.set c.deref.result.now c.refuse_by_text.result
    (named_words f.set_name f.index f.source (g.F.Files.seen c.args.files.now) (g.F.Files.seen c.given_words.new.files) c.in-Ok.given.set c.in-Ok.given.words.items c.deref.result.now
    c.deref.ensures.value c.in-Ok.ensures.0) c.in-Ok.ensures.1
    (inr (inl (c.in-Err-TooNoisy.row, c.in-Err-TooNoisy.noise, refused.1, (refl, c.refuse_by_text.ensures (too_noisy_line c.in-Err-TooNoisy.row c.in-Err-TooNoisy.noise) c.too_noisy_text.ensures))))

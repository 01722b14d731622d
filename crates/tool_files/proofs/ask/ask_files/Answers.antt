use Rattle.std.proofs.Common.{inl, inr, refl}
use Rattle.tool_base.specs.Steps.{scene}
use Rattle.tool_base.specs.Texts.{too_noisy_line}
use Rattle.tool_base.specs.Words.{ask_seen}
use Rattle.tool_base.proofs.Courses.{write_as}
use Rattle.tool_files.proofs.Asking.{ask_rest, outputs_are, line_is}
use Rattle.tool_files.proofs.WithGiven.{with_given, without_words, named_words}
use Rattle.tool_files.proofs.ask.ask_files.Goals as goal

pub returns-in-Err : goal.returns-in-Err
returns-in-Err g c =
    let a = ask_seen c.args.ask.now in without_words a.set_name a.index a.source (ask_rest a) _ c.in-Err.status c.in-Err.ensures

pub ask-requires : goal.ask-requires
ask-requires g c = record { known = c.in-Ok.ensures.0.known }

pub returns-in-Ok-ask : goal.returns-in-Ok-ask
returns-in-Ok-ask g c =
    let a = ask_seen c.args.ask.now in
    let is = c.in-Ok-ask.ensures.asks.1 in
    with_given a.set_name a.index a.source (ask_rest a) _ _ _ _ _ _ c.in-Ok.given.set c.deref.result.now c.write_asked.result
    (named_words a.set_name a.index a.source _ _ c.in-Ok.given.set _ c.deref.result.now c.deref.ensures.value c.in-Ok.ensures.0) c.in-Ok.ensures.1
    (inr (inr (
      is.fits,
      write_as _ _ _ _ (scene (g.F.Files.seen c.given_words.new.files) (g.F.Files.seen c.write_asked.new.files) (g.O.Sink.seen c.given_words.new.sink) (g.O.Sink.seen c.write_asked.new.sink)) c.write_asked.result
          (outputs_are a c.in-Ok.given.set c.deref.result.now c.in-Ok-ask.asked is) (line_is a c.in-Ok.given.set c.deref.result.now c.in-Ok-ask.asked is) c.write_asked.ensures,
    )))

pub returns-in-Err-TooNoisy : goal.returns-in-Err-TooNoisy
returns-in-Err-TooNoisy g c =
    let a = ask_seen c.args.ask.now in
    let refused = rw c.in-Err-TooNoisy.field-0-is at c.in-Err-TooNoisy.ensures.asks in
    let line = rw c.in-Err-TooNoisy.field-0-is at c.too_noisy_text.ensures in
    with_given a.set_name a.index a.source (ask_rest a) (g.F.Files.seen c.args.files.now) (g.F.Files.seen c.given_words.new.files) (g.F.Files.seen c.given_words.new.files)
    (g.O.Sink.seen c.args.sink.now) (g.O.Sink.seen c.given_words.new.sink) (g.O.Sink.seen c.refuse_by_text.new.sink) c.in-Ok.given.set c.deref.result.now c.refuse_by_text.result
    (named_words a.set_name a.index a.source (g.F.Files.seen c.args.files.now) (g.F.Files.seen c.given_words.new.files) c.in-Ok.given.set c.in-Ok.given.words.items c.deref.result.now
    c.deref.ensures.value c.in-Ok.ensures.0) c.in-Ok.ensures.1
    (inr (inl (c.in-Err-TooNoisy.row, c.in-Err-TooNoisy.noise, refused.1, (refl, c.refuse_by_text.ensures (too_noisy_line c.in-Err-TooNoisy.row c.in-Err-TooNoisy.noise) line))))

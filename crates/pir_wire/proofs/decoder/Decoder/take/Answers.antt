use Rattle.std.proofs.Common.{ap, sym, ◌∙◌}
use Rattle.frame_streams.specs.Decoding.{Decoding}
use Rattle.pir_wire.proofs.Feeds.{taken_first}
use Rattle.pir_wire.proofs.decoder.Decoder.take.Goals as goal

pub returns-clause-takes : goal.returns-clause-takes
returns-clause-takes c =
    let rest = c.pop_front.new.self.items in
    let place = c.into_parts-place.result.0 in (
      rest,
      place,
      taken_first c.args.self.now.ready rest c.in_ok-next.next place _
          (ap (λ (d : Decoding). d.ready) (sym c.self.view_is) ∙ c.in_ok-next.ensures.items) c.into_parts-place.ensures.place c.into_parts-place.ensures.message,
      ap (λ (d : Decoding). record d { ready = rest; last = place }) c.self.view_is,
    )

use Rattle.std.proofs.Common.{ap, sym, ◌∙◌}
use Rattle.frame_streams.specs.Decoding.{Decoding}
use Rattle.pir_wire.specs.Making.{body_seen, frame_bytes}
use Rattle.pir_wire.specs.Standing.{condition_of}
use Rattle.pir_wire.proofs.decoder.Decoder.may_go_on.Goals as goal

pub returns-in-Body : goal.returns-in-Body
returns-in-Body c = (frame_bytes (body_seen c.in-Body.body), ap (λ (d : Decoding). d.condition) (sym c.self.view_is) ∙ ap condition_of c.in-Body.is)

use Rattle.std.proofs.Common.{ap, sym, ◌∙◌, refl}
use Rattle.frame_streams.specs.Decoding.{Decoding}
use Rattle.pir_wire.specs.Standing.{condition_of}
use Rattle.pir_wire.proofs.Feeds.{header_in_piece, stays_refused}
use Rattle.pir_wire.proofs.decoder.Decoder.take_some.Goals as goal

pub returns-in-Header : goal.returns-in-Header
returns-in-Header c =
    header_in_piece c.args.self.now _ c.take_header.new.self c.in-Header.bytes.items _ c.args.piece.now c.take_header.result c.self.view_is
    (ap (λ (d : Decoding). d.condition) (sym c.self.view_is) ∙ ap condition_of (sym c.in-Header.ensures.value)) c.requires.some refl c.take_header.ensures

pub returns-in-Failed : goal.returns-in-Failed
returns-in-Failed c =
    stays_refused c.args.self.now _ c.put.new.self c.args.piece.now c.in-Failed.error c.self.view_is
    (ap (λ (d : Decoding). d.condition) (sym c.self.view_is) ∙ ap condition_of (sym c.in-Failed.ensures.value)) c.put.ensures

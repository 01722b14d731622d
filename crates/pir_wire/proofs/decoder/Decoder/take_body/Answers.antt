use Rattle.std.proofs.Common.{arith}
use Rattle.pir_wire.specs.Making.{body_seen}
use Rattle.pir_wire.proofs.Feeds.{body_goes_on, body_place, body_refuses}
use Rattle.pir_wire.proofs.decoder.Decoder.take_body.Goals as goal

pub returns-in-Ok : goal.returns-in-Ok
returns-in-Ok c =
    body_goes_on c.args.self.now c.go_on.new.self (body_seen c.args.body) (body_seen c.grow.new.self) c.args.come c.in-Ok.count c.args.piece.now c.requires.hand
    c.in-Ok.ensures c.in_ok-go_on-in-Ok.ensures

pub refuse-requires : goal.refuse-requires
refuse-requires c =
    let grows = rw c.in-Err-Refused.field-0-is at c.in-Err-Refused.ensures in
    omega (
      arith,
      c.requires.room,
      body_place c.args.self.now.kinds (body_seen c.args.body) (body_seen c.grow.new.self) c.args.come c.args.piece.now c.in-Err-Refused.error c.requires.hand grows,
    )

pub returns-in-Err-Refused : goal.returns-in-Err-Refused
returns-in-Err-Refused c =
    let grows = rw c.in-Err-Refused.field-0-is at c.in-Err-Refused.ensures in
    body_refuses c.args.self.now c.refuse.new.self (body_seen c.args.body) (body_seen c.grow.new.self) c.args.come c.args.piece.now c.in-Err-Refused.error
    c.refuse.result c.requires.hand grows c.refuse.ensures.stands c.refuse.ensures.answer

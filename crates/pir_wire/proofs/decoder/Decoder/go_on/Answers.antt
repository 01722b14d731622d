use Rattle.std.proofs.Common.{◌≡◌, true, sym, ◌∙◌}
use Rattle.std.specs.Prelude.{nat_eq, length}
use Rattle.frame_headers.specs.Kinds.{body_len_of}
use Rattle.frame_streams.proofs.Heads.{nothing_yet}
use Rattle.pir_wire.specs.Growing.{BodySeen}
use Rattle.pir_wire.specs.Making.{body_seen}
use Rattle.pir_wire.specs.Messages.{message_seen}
use Rattle.pir_wire.proofs.Feeds.{at_hand_of, comes_kept, comes_whole, all_by_test, one_more}
use Rattle.pir_wire.proofs.decoder.Decoder.go_on.Goals as goal

pub returns-then-not-is_whole : goal.returns-then-not-is_whole
returns-then-not-is_whole c =
    let b : BodySeen = body_seen c.args.body in
    comes_kept c.args.self.now c.put.new.self b c.args.come
    (at_hand_of c.args.self.now.kinds c.args.come b c.requires.coming (sym c.is_whole.ensures ∙ c.if-not-is_whole.true)) c.put.ensures

pub put-requires-2-clause-stage : goal.put-requires-2-clause-stage
put-requires-2-clause-stage c = rw c.new.ensures.items (nothing_yet c.self.inside.kinds)

pub returns : goal.returns
returns c =
    let b : BodySeen = body_seen c.args.body in
    let m = message_seen c.in_ok-message.message in
    let test : nat_eq (length b.bytes) (body_len_of b.kind b.set) ≡ true = sym c.is_whole.ensures ∙ c.if-not-is_whole.false in
    comes_whole c.args.self.now c.put-3.new.self b c.args.come m c.requires.coming c.in_ok-message.ensures.0 c.in_ok-message.ensures.1 (all_by_test b test)
    (one_more c.args.self.now _ c.put-3.new.self c.push_back.new.self.items c.new.result.items c.args.come m c.self.view_is c.in_ok-push_back.ensures.items
    c.new.ensures.items c.put-3.ensures)

use Rattle.std.proofs.Common.{◌≤◌, ◌+◌, length, arith}
use Rattle.command_tests.proofs.Fed.{room_behind_piece}
use Rattle.command_tests.proofs.streams.feed_in_pieces.Goals as goal

pub loop-place-preserved : goal.loop-place-preserved
loop-place-preserved c =
    let within : c.loop-place.place + c.min-count.result ≤ length c.args.bytes.now = omega (arith, c.min-count.ensures, c.loop-place.invariant.0) in (
      within,
      room_behind_piece c.loop-place.decoder c.args.bytes.now c.loop-place.place c.min-count.result within c.feed.new.self c.in_ok-feed.ensures.0
          c.loop-place.invariant.1,
    )

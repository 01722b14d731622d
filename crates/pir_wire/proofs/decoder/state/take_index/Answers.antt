use Rattle.std.proofs.Common.{◌≡◌, ◌++◌, take, arith, subst, List, ℕ}
use Rattle.frame_headers.specs.Checks.{number_at}
use Rattle.pir_wire.proofs.BodyParts.{put_back, index_found}
use Rattle.pir_wire.proofs.decoder.state.take_index.Goals as goal

pub returns-then-value-bound : goal.returns-then-value-bound
returns-then-value-bound c =
    let old = c.args.bytes.now.items in
    let more = take c.min-count.result c.args.piece.now in
    let longer = c.extend_from_slice.new.self.items in (
      put_back c.len-had.result old more longer c.truncate.new.self.items (omega arith) c.in_ok-extend_from_slice.ensures.items c.truncate.ensures.items,
      c.min-count.result,
      omega arith,
      index_found c.args.set.now longer (old ++ more) c.place_in_frame-place.result c.number_at-value.result c.max_records-bound.result
          c.in_ok-extend_from_slice.ensures.items (omega (arith, c.if-len-lt-INDEX.false)) c.place_in_frame-place.ensures
          (subst (λ (bs : List ℕ). c.number_at-value.result ≡ number_at bs 0) c.deref.ensures.value c.number_at-value.ensures)
          c.max_records-bound.ensures (omega (arith, c.if-value-bound.true)),
    )

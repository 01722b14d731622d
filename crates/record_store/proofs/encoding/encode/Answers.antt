use Rattle.std.proofs.Common.{◌∙◌, ap, sym, arith, List, ℕ, ◌+◌, ◌++◌}
use Rattle.std.specs.Int.{to_le_bytes, w64}
use Rattle.frame_headers.specs.Headers.{header}
use Rattle.record_store.proofs.Spelling.{table_spelled}
use Rattle.record_store.proofs.encoding.encode.Goals as goal

pub returns : goal.returns
returns c =
    let db = c.db.inside in
    table_spelled c.args.db.now db.set db.length c.count.result (16 + c.len.result) db.records.items _ _ _ _ _ c.to_le_bytes.result c.to_le_bytes-2.result
    (sym c.db.view_is) c.new-out.ensures.items (omega (arith, c.len.ensures, db.records.ok))
    (c.in_ok-push_header.ensures ∙ ap (λ (code : ℕ). c.new-out.result.items ++ header code db.set (16 + c.len.result)) c.code.ensures) c.count.ensures.value
    (c.to_le_bytes.ensures ∙ ap (to_le_bytes w64) c.from.ensures) c.in_ok-extend_from_slice.ensures.items
    (c.to_le_bytes-2.ensures ∙ ap (to_le_bytes w64) c.from-2.ensures) c.in_ok-extend_from_slice-2.ensures.items
    (c.in_ok-extend_from_slice-3.ensures.items ∙ ap (λ (records : List ℕ). c.extend_from_slice-2.new.self.items ++ records) c.deref.ensures.value)

-- How a database's frame is spelled piece by piece.
use Rattle.std.proofs.Common.{◌≡◌, ℕ, ◌+◌, ◌/◌, List, [], ◌++◌, length, ap, sym, ◌∙◌, append_assoc}
use Rattle.std.specs.Int.{to_le_bytes, w64}
use Rattle.negacyclic.proofs.Digits.{to_le_bytes-digits}
use Rattle.spiral_sets.specs.declared.param_set.ParamSet.{ParamSet}
use Rattle.spiral_model.specs.Databases.{RecordTable, record_count}
use Rattle.spiral_frames.specs.Headers.{header, number}
use Rattle.spiral_frames.specs.Frames.{database_body, frame_of, database_message}
use Rattle.spiral_frames.proofs.FrameLaws.{database_frame_is}

-- the frame of a table, from its pieces
pub table_spelled : (table : RecordTable) (set : ParamSet) (len count body : ℕ) (records o0 o1 o2 o3 o4 first second : List ℕ)
    → table ≡ record { set = set; record_length = len; bytes = records } → o0 ≡ [] → body ≡ 16 + length records
    → o1 ≡ o0 ++ header 6 set body → count ≡ record_count table → first ≡ to_le_bytes w64 count → o2 ≡ o1 ++ first
    → second ≡ to_le_bytes w64 len → o3 ≡ o2 ++ second → o4 ≡ o3 ++ records
    → o4 ≡ frame_of (database_message table)
unfolding database_body
table_spelled table set len count body records o0 o1 o2 o3 o4 first second is e0 eb e1 en ec e2 el e3 e4 =
    let number_first : first ≡ number 8 count = ec ∙ to_le_bytes-digits w64 count in
    let number_second : second ≡ number 8 len = el ∙ to_le_bytes-digits w64 len in
    let counted : count ≡ length records / len = en ∙ ap record_count is in
    let pieces : o4 ≡ header 6 table.set (16 + length table.bytes) ++ database_body table =
    rw (is, e4, e3, e2, e1, e0, eb, number_first, number_second, counted) (simp append_assoc) in
    pieces ∙ sym (database_frame_is table)

-- The state and the reply of a look-up: opened, they give the record.
use Rattle.std.proofs.Common.{◌≡◌, ◌<◌, ℕ, List, length, inl, inr, sym, ◌∙◌, ap, ap₂, arith}
use Rattle.spiral_model.specs.Databases.{RecordTable, record_at}
use Rattle.spiral_model.specs.Replies.{QueryState, SwitchedReply, open_bytes}
use Rattle.spiral_model.specs.Dealing.{state_of}
use Rattle.noise_laws.specs.LookUps.{LookUp, reply_to}
use Rattle.noise_laws.proofs.LookUps.{of_one_set, asked_below, reply_length, look_up_opens}
use Rattle.tool_base.specs.declared.status.Status.{Status}
use Rattle.tool_base.specs.Texts.{record_line}
use Rattle.tool_base.specs.Outputs.{one}
use Rattle.tool_base.specs.Steps.{Scene, write}
use Rattle.tool_base.proofs.Courses.{write_as}
use Rattle.tool_files.specs.Open.{opens_reply}

module _ (out_name : List ℕ) (table : RecordTable) (words : List ℕ) (index : ℕ) (look_up : LookUp table words index) (state : QueryState) (read : SwitchedReply)
    (state_is : state ≡ state_of table.set words index) (read_is : read ≡ reply_to table words index) (s : Scene) (status : Status) where
  one_set : state.set ≡ read.set
  one_set = ap (λ (t : QueryState). t.set) state_is ∙ of_one_set table words index ∙ ap (λ (r : SwitchedReply). r.set) (sym read_is)

  below : state.index < read.count
  below =
      let low = asked_below table words index look_up in
      omega (arith, low, ap (λ (t : QueryState). t.index) state_is, ap (λ (r : SwitchedReply). r.count) read_is)

  record_written : write (one out_name (open_bytes state read)) (record_line read.record_length) s status
      → write (one out_name (record_at table index)) (record_line (length (record_at table index))) s status
  record_written =
      write_as (one out_name (open_bytes state read)) (one out_name (record_at table index)) (record_line read.record_length)
      (record_line (length (record_at table index))) s status
      (ap (one out_name) (ap₂ open_bytes state_is read_is ∙ look_up_opens table words index look_up))
      (ap record_line (ap (λ (r : SwitchedReply). r.record_length) read_is ∙ reply_length table words index look_up))

  -- Nothing is refused: the record is written.
  pub reply_opened : opens_reply out_name state read s status → write (one out_name (record_at table index)) (record_line (length (record_at table index))) s status
  reply_opened (inl (differ, _)) = absurd (differ one_set)
  reply_opened (inr (_, inl (absent, _))) = absurd (absent below)
  reply_opened (inr (_, inr (_, ends))) = record_written ends

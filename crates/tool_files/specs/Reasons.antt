-- The line of each reason why bytes are not the records of a database.
use Rattle.std.specs.Prelude.{ℕ, List}
use Rattle.record_store.specs.declared.preparing.PrepareError.{PrepareError}
use Rattle.record_store.specs.declared.preparing.PrepareError.TheVariants.{RecordLength, TooMany, Ragged}
use Rattle.tool_base.specs.Texts.{bad_records_line}

abbrev pub reason_line : PrepareError → List ℕ
reason_line (RecordLength len most) = bad_records_line 8 len most
reason_line (TooMany len most) = bad_records_line 9 len most
reason_line (Ragged len size) = bad_records_line 10 len size

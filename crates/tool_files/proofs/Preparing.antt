-- The command that makes a database: how its input is refused, and how the database is written.
use Rattle.std.proofs.Common.{ℕ, List, length, ◌*◌, ◌%◌, ◌≡◌, ◌<◌, ◌≤◌, ◌⊎◌, Ok, Err, inl, inr, ap, ◌∙◌, refl, arith}
use Rattle.std.proofs.Math.Nat.{mul-le-mul_right, mul-mod_left}
use Rattle.pir_io.specs.declared.fault.IoFault.TheVariants.{Failed}
use Rattle.pir_io.specs.Files.{FilesSeen}
use Rattle.pir_io.specs.Sink.{SinkSeen}
use Rattle.spiral_sets.specs.declared.param_set.ParamSet.{ParamSet}
use Rattle.spiral_model.specs.Sets.{max_records, capacity}
use Rattle.spiral_model.specs.Databases.{RecordTable, IsTable, record_count}
use Rattle.spiral_frames.specs.Frames.{frame_of, database_message}
use Rattle.record_store.specs.declared.preparing.PrepareError.{PrepareError}
use Rattle.record_store.specs.declared.preparing.PrepareError.TheVariants.{RecordLength, TooMany, Ragged}
use Rattle.record_store.specs.Preparing.{MayBeLong, ChecksLength, Prepares}
use Rattle.record_store.specs.declared.storing.DbError.TheVariants.{File}
use Rattle.record_store.specs.Storing.{WritesDatabase}
use Rattle.tool_base.specs.declared.status.Status.{Status}
use Rattle.tool_base.specs.declared.status.Status.TheVariants.{BadRecords}
use Rattle.tool_base.specs.Texts.{bad_records_line}
use Rattle.tool_base.specs.Puts.{Refused}
use Rattle.tool_base.specs.Words.{PrepareWords}
use Rattle.tool_base.specs.Outputs.{WritesOutputs, one}
use Rattle.tool_base.specs.Steps.{scene}
use Rattle.tool_base.proofs.Courses.{refused_as}
use Rattle.tool_files.specs.Reasons.{reason_line}
use Rattle.tool_files.specs.Prepare.{prepares_from}

-- ---- how a database is written

-- its file was written, as the one output
pub database_written : {T : Type 0} {t : Unit {0}} {u : T} (old new : FilesSeen) (name : List ℕ) (db : RecordTable) → WritesDatabase old new name db (Ok t)
    → WritesOutputs {T = T} old new (one name (frame_of (database_message db))) (Ok u)
database_written old new name db w = record {
  tells = w.tells;
  later = w.later;
  ok = λ told. (new, (w.ok told, w.others told), λ other. refl);
  rose = λ e. absurd (cc);
  failed = λ told e. absurd (cc);
  no_memory = λ told e. absurd (cc);
}

-- writing it failed
pub database_failed : {T : Type 0} (old new : FilesSeen) (name : List ℕ) (db : RecordTable) → WritesDatabase old new name db (Err File)
    → WritesOutputs {T = T} old new (one name (frame_of (database_message db))) (Err Failed)
database_failed old new name db w = record {
  tells = w.tells;
  later = w.later;
  ok = λ told. tt;
  rose = λ e. w.cause.rose;
  failed = λ told e. inl (w.cause.last told, (w.err told, w.others told));
  no_memory = λ told e. absurd (cc);
}

-- ---- how an input is refused

-- a length that no record of the set has
pub length_refused : (set : ParamSet) (len : ℕ) (error : PrepareError) (so sn : SinkSeen) (status : Status) → ChecksLength set len (Err error) → Refused so sn BadRecords (reason_line error) status
    → (MayBeLong set len → ⊥) × Refused so sn BadRecords (bad_records_line 8 len (capacity set)) status
length_refused set len (RecordLength given most) so sn status checks refused =
    ((λ long. not_long checks.2 long), refused_as so sn BadRecords _ _ status (ap (λ n. bad_records_line 8 n most) checks.0 ∙ ap (bad_records_line 8 len) checks.1) refused)
  where
    not_long : (len ≡ 0) ⊎ (capacity set < len) → MayBeLong set len → ⊥
    not_long (inl none) long = omega (arith, none, long.0)
    not_long (inr above) long = omega (arith, above, long.1)
length_refused set len (TooMany _ _) so sn status checks refused = absurd checks
length_refused set len (Ragged _ _) so sn status checks refused = absurd checks

-- bytes that are not the records of a database
pub records_refused : (p : PrepareWords) (set : ParamSet) (bytes : List ℕ) (error : PrepareError) (old new : FilesSeen) (so sn : SinkSeen) (status : Status) → MayBeLong set p.record_length
    → Prepares set p.record_length bytes (Err error) → Refused so sn BadRecords (reason_line error) status → prepares_from p set bytes (scene new new so sn) status
records_refused p set bytes (RecordLength given most) old new so sn status long is refused = absurd (not_long is.2)
  where
    not_long : (p.record_length ≡ 0) ⊎ (capacity set < p.record_length) → ⊥
    not_long (inl none) = omega (arith, none, long.0)
    not_long (inr above) = omega (arith, above, long.1)
records_refused p set bytes (TooMany given most) old new so sn status long is refused =
    inl ((λ few. omega (arith, few, is.3)), (refl, refused_as so sn BadRecords _ _ status (ap (λ n. bad_records_line 9 n most) is.1 ∙ ap (bad_records_line 9 p.record_length) is.2) refused))
records_refused p set bytes (Ragged given size) old new so sn status long is refused =
    inr (is.1, inl (is.4, (refl, refused_as so sn BadRecords _ _ status (ap (λ n. bad_records_line 10 n size) is.2 ∙ ap (bad_records_line 10 p.record_length) is.3) refused)))

-- ---- and what holds of the records of one

few_enough : (size count most len : ℕ) → size ≡ count * len → count ≤ most → size ≤ most * len
few_enough size count most len whole few = let le : count * len ≤ most * len = mul-le-mul_right len few in omega (arith, le, whole)

module _ (table : RecordTable) (is : IsTable table) where
  pub not_too_many : length table.bytes ≤ max_records table.set * table.record_length
  not_too_many = few_enough (length table.bytes) (record_count table) (max_records table.set) table.record_length is.whole is.count

  pub not_ragged : length table.bytes % table.record_length ≡ 0
  not_ragged = ap (λ n. n % table.record_length) is.whole ∙ mul-mod_left (record_count table) table.record_length

-- The command that answers a query: a database that couldn't be read, and the frame of the reply.
use Rattle.std.proofs.Common.{ℕ, List, IsTrue, ◌≡◌, ◌∙◌, Bool, true, false, not, ◌||◌, if◌then◌else◌, Option, Some, None, option_map, Result, Ok, Err, IfOk, inl, inr, refl, ap, sym, subst}
use Rattle.pir_io.specs.Files.{FilesSeen, content_of}
use Rattle.pir_io.specs.Sink.{SinkSeen}
use Rattle.record_store.specs.declared.storing.DbError.{DbError}
use Rattle.record_store.specs.declared.storing.DbError.TheVariants as db
use Rattle.record_store.specs.Storing.{ReadsDatabase}
use Rattle.spiral_model.specs.Bodies.{CipherBody}
use Rattle.spiral_model.specs.Databases.{RecordTable, matrices_of}
use Rattle.spiral_sets.specs.declared.param_set.ParamSet.{ParamSet}
use Rattle.spiral_model.specs.Sets.{has_keys}
use Rattle.spiral_model.specs.Words.{Cipher}
use Rattle.spiral_model.specs.Keys.{SetKeys, keys_in, lift_keys}
use Rattle.spiral_model.specs.Packing.{packed}
use Rattle.spiral_model.specs.Answering.{Ready, ready_of, ready_by, firsts_of, gsws_of, answer_of, reply_of, result_of, result_columns, folded, first_products}
use Rattle.spiral_model.specs.Replies.{SwitchedReply}
use Rattle.spiral_frames.specs.Frames.{Spell, frame_of, reply_message}
use Rattle.spiral_frames.specs.FrameChecks.{database_refusal}
use Rattle.pir_io.proofs.Kept.{same_content}
use Rattle.tool_base.specs.declared.status.Status.{Status}
use Rattle.tool_base.specs.Steps.{scene, Unread, refuse_frame}
use Rattle.tool_files.specs.Inputs.{SpellsDatabase}
use Rattle.tool_files.specs.Refusing.{DatabaseRefused}
use Rattle.tool_files.specs.Answer.{IsRefused}
use Rattle.frame_streams.specs.Serving.{reply_for, reply_frame}

-- the first input gave no database
pub no_database : (old new : FilesSeen) (so sn : SinkSeen) (name : List ℕ) (error : DbError) (status : Status) → ReadsDatabase old new name (Err error) → DatabaseRefused so sn error status
    → Unread old name SpellsDatabase (refuse_frame 1 name IsRefused) (scene new new so sn) status
no_database old new so sn name (db.Frame error) status reads refused = inr (inr (reads.none, (error, is_refused, (refl, refused))))
  where
    is_refused : IsTrue new.tells → IsRefused (content_of new name) error
    is_refused told =
        let before : IsTrue old.tells = subst IsTrue reads.only.tells told in
        ap database_refusal (same_content old new (reads.only.keeps before) name) ∙ reads.cause before
no_database old new so sn name db.File status reads refused = inl (reads.cause, (refl, refused))
no_database old new so sn name db.NoMemory status reads refused = inr (inl (refl, refused.0, refused.1))

-- the frame that spells a reply is that of the answer which the reply is
pub reply_spelled : {T E : Type 0} (items : T → List ℕ) (result : Result T E) (reply : SwitchedReply) (table : RecordTable) (keys : Option SetKeys) (query : CipherBody)
    → reply ≡ reply_for table keys query → IfOk result (λ x. Spell (reply_message reply) (items x)) → IfOk result (λ x. items x ≡ reply_frame table keys query)
reply_spelled items (Ok x) reply table keys query is spells = spells.spelled ∙ ap (λ (r : SwitchedReply). frame_of (reply_message r)) is
reply_spelled items (Err e) reply table keys query is spells = tt

-- ---- a set without keys

-- It is direct, and doesn't pack.
direct_plain : (direct pack : Bool) → (not direct || pack) ≡ false → (direct ≡ true) × (pack ≡ false)
direct_plain true false is = (refl, refl)
direct_plain true true is = absurd (cc)
direct_plain false pack is = absurd (cc)

ready_direct : (set : ParamSet) (keys : Option SetKeys) (ciphers : List Cipher) → set.direct ≡ true
    → ready_of set keys ciphers ≡ record { firsts = firsts_of set ciphers; gsws = gsws_of set ciphers }
unfolding ready_of
ready_direct set keys ciphers direct =
    ap (λ (d : Bool). if d then record { firsts = firsts_of set ciphers; gsws = gsws_of set ciphers } else ready_by set keys ciphers) direct

answer_plain : (table : RecordTable) (keys : Option SetKeys) (ready : Ready) → table.set.pack ≡ false
    → answer_of table keys ready ≡ reply_of table (folded table.set.degree table.set.w_gsw ready.gsws (first_products table.set (matrices_of table) ready.firsts))
unfolding answer_of result_of result_columns
answer_plain table keys ready plain =
    let columns = folded table.set.degree table.set.w_gsw ready.gsws (first_products table.set (matrices_of table) ready.firsts) in
    ap (λ (p : Bool). reply_of table (if p then packed table.set (lift_keys keys) columns else columns)) plain

-- Keys change nothing there.
pub keys_unused : (table : RecordTable) (keys : SetKeys) (query : CipherBody) → has_keys table.set ≡ false → reply_for table None query ≡ reply_for table (Some keys) query
keys_unused table keys query hasn't =
    let kind = direct_plain table.set.direct table.set.pack hasn't in
    answer_plain table None (ready_of table.set None query.ciphers) kind.1
    ∙ ap (λ (ready : Ready). reply_of table (folded table.set.degree table.set.w_gsw ready.gsws (first_products table.set (matrices_of table) ready.firsts)))
    (ready_direct table.set None query.ciphers kind.0 ∙ sym (ready_direct table.set (Some keys) query.ciphers kind.0))
    ∙ sym (answer_plain table (Some keys) (ready_of table.set (Some keys) query.ciphers) kind.1)

pub answered_without : {E : Type 0} (table : RecordTable) (setup : Option CipherBody) (body : CipherBody) (query : CipherBody) (result : Result SwitchedReply E)
    → has_keys table.set ≡ false → setup ≡ Some body → IfOk result (λ reply. reply ≡ reply_for table None query)
    → IfOk result (λ reply. reply ≡ reply_for table (option_map keys_in setup) query)
answered_without table setup body query (Ok reply) hasn't some is =
    is ∙ keys_unused table (keys_in body) query hasn't ∙ ap (λ (o : Option CipherBody). reply_for table (option_map keys_in o) query) (sym some)
answered_without table setup body query (Err e) hasn't some is = tt

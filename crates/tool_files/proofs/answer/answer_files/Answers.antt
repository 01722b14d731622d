use Rattle.std.proofs.Common.{[], ◌≡◌, ◌∙◌, Option, option_map, option_copied, inl, refl, ap, sym, subst, length}
use Rattle.spiral_sets.specs.declared.param_set.ParamSet.{ParamSet}
use Rattle.spiral_model.specs.Sets.{IsSet, name_of}
use Rattle.spiral_model.specs.Databases.{RecordTable}
use Rattle.spiral_model.specs.Bodies.{CipherBody}
use Rattle.spiral_model.specs.Keys.{SetKeys, keys_in}
use Rattle.tool_base.specs.Outputs.{one}
use Rattle.tool_base.specs.Steps.{scene}
use Rattle.tool_base.specs.Texts.{wrong_set_line, reply_line}
use Rattle.tool_base.proofs.Courses.{behind, found, held, denied, write_as, refused_as, not_begun}
use Rattle.tool_files.specs.Inputs.{SpellsKeys, SpellsQuery}
use Rattle.tool_files.specs.Given.{IsRead, IsGiven}
use Rattle.tool_files.specs.Answer.{set_of_setup}
use Rattle.frame_streams.specs.Serving.{reply_frame}
use Rattle.tool_files.proofs.Unread.{not_read}
use Rattle.tool_files.proofs.Setups.{read_for, given, known_set}
use Rattle.tool_files.proofs.Answering.{no_database}
use Rattle.tool_files.proofs.answer.answer_files.Goals as goal

pub returns-in-Err : goal.returns-in-Err
returns-in-Err g c = behind c.in-Err.ensures.only (inl (no_database _ _ _ _ _ c.in-Err.error c.refuse_database.result c.in-Err.ensures c.refuse_database.ensures))

pub returns-in-Err-read_setup : goal.returns-in-Err-read_setup
returns-in-Err-read_setup g c =
    let db_set : c.db.inside.set ≡ c.in-Ok.db.set = ap (λ (t : RecordTable). t.set) c.db.view_is in
    let reads = read_for _ _ _ _ _ _ db_set c.in-Err-read_setup.ensures.reads in
    behind c.in-Ok.ensures.only (found c.in-Ok.db (λ told. (c.in-Ok.ensures.cause told).0) (behind reads.only
    (inl (not_read 2 2 (SpellsKeys c.in-Ok.db.set) _ _ _ _ _ c.in-Err-read_setup.error c.refuse_input.result reads c.refuse_input.ensures))))

pub returns-in-Err-read_query : goal.returns-in-Err-read_query
returns-in-Err-read_query g c =
    let db_set : c.db.inside.set ≡ c.in-Ok.db.set = ap (λ (t : RecordTable). t.set) c.db.view_is in
    let reads = read_for _ _ _ _ _ _ db_set c.in-Ok-read_setup.ensures.reads in
    behind c.in-Ok.ensures.only (found c.in-Ok.db (λ told. (c.in-Ok.ensures.cause told).0) (behind reads.only
    (found c.in-Ok-read_setup.setup reads.found (behind c.in-Err-read_query.ensures.reads.only
    (inl (not_read 3 4 SpellsQuery _ _ _ _ _ c.in-Err-read_query.error c.refuse_input-in-Err-read_query.result c.in-Err-read_query.ensures.reads c.refuse_input-in-Err-read_query.ensures))))))

pub refuse_set-requires-clause-found : goal.refuse_set-requires-clause-found
refuse_set-requires-clause-found g c =
    let keys : option_copied c.as_ref-keys.result ≡ c.in-Ok-read_setup.setup = c.as_ref-keys.ensures.value in
    let read : IsRead c.db.inside.set (option_copied c.as_ref-keys.result) = subst (λ (o : Option CipherBody). IsRead c.db.inside.set o) (sym keys) c.in-Ok-read_setup.ensures.fits in
    subst IsSet (sym c.set_of_setup-keys_set.ensures) (known_set c.db.inside.set (option_copied c.as_ref-keys.result) c.db.invariant.known read)

pub returns-then-not-is : goal.returns-then-not-is
returns-then-not-is g c =
    let db_set : c.db.inside.set ≡ c.in-Ok.db.set = ap (λ (t : RecordTable). t.set) c.db.view_is in
    let reads = read_for _ _ _ _ _ _ db_set c.in-Ok-read_setup.ensures.reads in
    let keys : option_copied c.as_ref-keys.result ≡ c.in-Ok-read_setup.setup = c.as_ref-keys.ensures.value in
    let keys_set : c.set_of_setup-keys_set.result ≡ set_of_setup c.in-Ok.db.set c.in-Ok-read_setup.setup =
    c.set_of_setup-keys_set.ensures ∙ ap (λ (s : ParamSet). set_of_setup s (option_copied c.as_ref-keys.result)) db_set
    ∙ ap (λ (o : Option CipherBody). set_of_setup c.in-Ok.db.set o) keys in
    let line : wrong_set_line (name_of c.db.inside.set) (name_of c.set_of_setup-keys_set.result) ≡ wrong_set_line (name_of c.in-Ok.db.set) (name_of (set_of_setup c.in-Ok.db.set c.in-Ok-read_setup.setup)) =
    ap (λ (a : ParamSet). wrong_set_line (name_of a) (name_of c.set_of_setup-keys_set.result)) db_set ∙ ap (λ (b : ParamSet). wrong_set_line (name_of c.in-Ok.db.set) (name_of b)) keys_set in
    behind c.in-Ok.ensures.only (found c.in-Ok.db (λ told. (c.in-Ok.ensures.cause told).0) (behind reads.only
    (found c.in-Ok-read_setup.setup reads.found (behind c.in-Ok-read_query.ensures.reads.only
    (found c.in-Ok-read_query.query c.in-Ok-read_query.ensures.reads.found
    (denied (λ same. c.if-not-is.ensures.other refl (db_set ∙ same ∙ sym keys_set)) refl (refused_as _ _ _ _ _ _ line c.refuse_set.ensures)))))))

pub returns-then-not-is-2 : goal.returns-then-not-is-2
returns-then-not-is-2 g c =
    let db_set : c.db.inside.set ≡ c.in-Ok.db.set = ap (λ (t : RecordTable). t.set) c.db.view_is in
    let reads = read_for _ _ _ _ _ _ db_set c.in-Ok-read_setup.ensures.reads in
    let keys : option_copied c.as_ref-keys.result ≡ c.in-Ok-read_setup.setup = c.as_ref-keys.ensures.value in
    let keys_set : c.set_of_setup-keys_set.result ≡ set_of_setup c.in-Ok.db.set c.in-Ok-read_setup.setup =
    c.set_of_setup-keys_set.ensures ∙ ap (λ (s : ParamSet). set_of_setup s (option_copied c.as_ref-keys.result)) db_set
    ∙ ap (λ (o : Option CipherBody). set_of_setup c.in-Ok.db.set o) keys in
    let query_set : c.query.inside.set ≡ c.in-Ok-read_query.query.set = ap (λ (q : CipherBody). q.set) c.query.view_is in
    let line : wrong_set_line (name_of c.db.inside.set) (name_of c.query.inside.set) ≡ wrong_set_line (name_of c.in-Ok.db.set) (name_of c.in-Ok-read_query.query.set) =
    ap (λ (a : ParamSet). wrong_set_line (name_of a) (name_of c.query.inside.set)) db_set ∙ ap (λ (b : ParamSet). wrong_set_line (name_of c.in-Ok.db.set) (name_of b)) query_set in
    behind c.in-Ok.ensures.only (found c.in-Ok.db (λ told. (c.in-Ok.ensures.cause told).0) (behind reads.only
    (found c.in-Ok-read_setup.setup reads.found (behind c.in-Ok-read_query.ensures.reads.only
    (found c.in-Ok-read_query.query c.in-Ok-read_query.ensures.reads.found
    (held (sym db_set ∙ c.if-not-is.ensures.same refl ∙ keys_set)
    (denied (λ same. c.if-not-is-2.ensures.other refl (db_set ∙ same ∙ sym query_set)) refl (refused_as _ _ _ _ _ _ line c.refuse_set-then-not-is-2.ensures))))))))

pub reply_frame-requires-clause-setup : goal.reply_frame-requires-clause-setup
reply_frame-requires-clause-setup g c κs within =
    let keys : option_copied c.as_ref-keys.result ≡ c.in-Ok-read_setup.setup = c.as_ref-keys.ensures.value in
    let same : c.db.inside.set ≡ set_of_setup c.db.inside.set (option_copied c.as_ref-keys.result) = c.if-not-is.ensures.same refl ∙ c.set_of_setup-keys_set.ensures in
    let read : IsRead c.db.inside.set (option_copied c.as_ref-keys.result) = subst (λ (o : Option CipherBody). IsRead c.db.inside.set o) (sym keys) c.in-Ok-read_setup.ensures.fits in
    subst (λ (s : ParamSet). IsGiven s (option_copied c.as_ref-keys.result)) (ap (λ (t : RecordTable). t.set) c.db.view_is)
    (given c.db.inside.set (option_copied c.as_ref-keys.result) read same)

pub returns-in-Ok-reply_frame : goal.returns-in-Ok-reply_frame
returns-in-Ok-reply_frame g c =
    let db_set : c.db.inside.set ≡ c.in-Ok.db.set = ap (λ (t : RecordTable). t.set) c.db.view_is in
    let reads = read_for _ _ _ _ _ _ db_set c.in-Ok-read_setup.ensures.reads in
    let keys : option_copied c.as_ref-keys.result ≡ c.in-Ok-read_setup.setup = c.as_ref-keys.ensures.value in
    let keys_set : c.set_of_setup-keys_set.result ≡ set_of_setup c.in-Ok.db.set c.in-Ok-read_setup.setup =
    c.set_of_setup-keys_set.ensures ∙ ap (λ (s : ParamSet). set_of_setup s (option_copied c.as_ref-keys.result)) db_set
    ∙ ap (λ (o : Option CipherBody). set_of_setup c.in-Ok.db.set o) keys in
    let query_set : c.query.inside.set ≡ c.in-Ok-read_query.query.set = ap (λ (q : CipherBody). q.set) c.query.view_is in
    let setup : Option SetKeys = option_map keys_in c.in-Ok-read_setup.setup in
    let bytes : c.deref.result.now ≡ reply_frame c.in-Ok.db setup c.in-Ok-read_query.query =
    c.deref.ensures.value ∙ c.in-Ok-reply_frame.ensures ∙ ap (λ (o : Option CipherBody). reply_frame c.in-Ok.db (option_map keys_in o) c.in-Ok-read_query.query) keys in
    behind c.in-Ok.ensures.only (found c.in-Ok.db (λ told. (c.in-Ok.ensures.cause told).0) (behind reads.only
    (found c.in-Ok-read_setup.setup reads.found (behind c.in-Ok-read_query.ensures.reads.only
    (found c.in-Ok-read_query.query c.in-Ok-read_query.ensures.reads.found
    (held (sym db_set ∙ c.if-not-is.ensures.same refl ∙ keys_set) (held (sym db_set ∙ c.if-not-is-2.ensures.same refl ∙ query_set)
    (write_as _ _ _ _ (scene (g.F.Files.seen c.read_query.new.files) (g.F.Files.seen c.write_reply.new.files) (g.O.Sink.seen c.args.sink.now) (g.O.Sink.seen c.write_reply.new.sink)) c.write_reply.result
    (ap (one c.args.answer.now.reply.now) bytes)
    (ap (λ (s : ParamSet). reply_line (name_of s) (length c.deref.result.now)) db_set ∙ ap (λ b. reply_line (name_of c.in-Ok.db.set) (length b)) bytes)
    c.write_reply.ensures))))))))

pub returns : goal.returns
returns g c =
    let db_set : c.db.inside.set ≡ c.in-Ok.db.set = ap (λ (t : RecordTable). t.set) c.db.view_is in
    let reads = read_for _ _ _ _ _ _ db_set c.in-Ok-read_setup.ensures.reads in
    let keys : option_copied c.as_ref-keys.result ≡ c.in-Ok-read_setup.setup = c.as_ref-keys.ensures.value in
    let keys_set : c.set_of_setup-keys_set.result ≡ set_of_setup c.in-Ok.db.set c.in-Ok-read_setup.setup =
    c.set_of_setup-keys_set.ensures ∙ ap (λ (s : ParamSet). set_of_setup s (option_copied c.as_ref-keys.result)) db_set
    ∙ ap (λ (o : Option CipherBody). set_of_setup c.in-Ok.db.set o) keys in
    let query_set : c.query.inside.set ≡ c.in-Ok-read_query.query.set = ap (λ (q : CipherBody). q.set) c.query.view_is in
    let setup : Option SetKeys = option_map keys_in c.in-Ok-read_setup.setup in
    behind c.in-Ok.ensures.only (found c.in-Ok.db (λ told. (c.in-Ok.ensures.cause told).0) (behind reads.only
    (found c.in-Ok-read_setup.setup reads.found (behind c.in-Ok-read_query.ensures.reads.only
    (found c.in-Ok-read_query.query c.in-Ok-read_query.ensures.reads.found
    (held (sym db_set ∙ c.if-not-is.ensures.same refl ∙ keys_set) (held (sym db_set ∙ c.if-not-is-2.ensures.same refl ∙ query_set)
    (not_begun (g.F.Files.seen c.read_query.new.files) (g.O.Sink.seen c.args.sink.now) (record { name = c.args.answer.now.reply.now; bytes = reply_frame c.in-Ok.db setup c.in-Ok-read_query.query }) [] _))))))))

use Rattle.std.proofs.Common.{◌≡◌, List, ℕ, inl, inr, refl, subst}
use Rattle.spiral_sets.specs.declared.param_set.ParamSet.{ParamSet}
use Rattle.spiral_model.specs.Noise.{dealt_report}
use Rattle.pir_client.specs.Asks.{IsAsked, FirstMiss}
use Rattle.tool_base.specs.Steps.{scene}
use Rattle.tool_base.specs.Texts.{too_noisy_line}
use Rattle.tool_base.specs.Words.{local_seen}
use Rattle.tool_base.proofs.Courses.{behind}
use Rattle.tool_files.proofs.Answering.{no_database}
use Rattle.tool_local.proofs.LocalLookUp.{local_read, local_asked, local_unasked}
use Rattle.tool_local.proofs.local.local_files.Goals as goal

pub returns-in-Err : goal.returns-in-Err
returns-in-Err g c = behind c.in-Err.ensures.only (inl (no_database _ _ _ _ _ c.in-Err.error c.refuse_database.result c.in-Err.ensures c.refuse_database.ensures))

pub returns-in-Err-words_for : goal.returns-in-Err-words_for
returns-in-Err-words_for g c =
    let old = g.F.Files.seen c.args.files.now in
    let now = g.F.Files.seen c.read_db.new.files in
    let new = g.F.Files.seen c.words_for.new.files in
    let so = g.O.Sink.seen c.args.sink.now in
    let sn = g.O.Sink.seen c.words_for.new.sink in
    let l = local_seen c.args.local.now in
    local_read l c.in-Ok.db old now new so sn c.in-Err-words_for.status c.in-Ok.ensures.only (λ told. (c.in-Ok.ensures.cause told).0)
    (local_unasked l c.in-Ok.db c.set-set.result (scene now new so sn) c.in-Err-words_for.status c.set-set.ensures.value c.in-Err-words_for.ensures)

pub returns-in-Ok-ask : goal.returns-in-Ok-ask
returns-in-Ok-ask g c =
    let old = g.F.Files.seen c.args.files.now in
    let now = g.F.Files.seen c.read_db.new.files in
    let mid = g.F.Files.seen c.words_for.new.files in
    let new = g.F.Files.seen c.look_up.new.files in
    let so = g.O.Sink.seen c.args.sink.now in
    let sm = g.O.Sink.seen c.words_for.new.sink in
    let sn = g.O.Sink.seen c.look_up.new.sink in
    let l = local_seen c.args.local.now in
    let words : List ℕ = c.deref.result.now in
    let set_is : c.set-set.result ≡ c.in-Ok.db.set = c.set-set.ensures.value in
    let is : IsAsked c.in-Ok.db.set c.args.local.now.index words c.in-Ok-ask.asked =
    subst (λ (s : ParamSet). IsAsked s c.args.local.now.index words c.in-Ok-ask.asked) set_is c.in-Ok-ask.ensures.asks.1 in
    local_read l c.in-Ok.db old now new so sn c.look_up.result c.in-Ok.ensures.only (λ told. (c.in-Ok.ensures.cause told).0)
    (local_asked l c.in-Ok.db now mid new so sm sn c.set-set.result c.in-Ok-words_for.words.items words c.look_up.result set_is c.deref.ensures.value
    c.in-Ok-words_for.ensures.0 c.in-Ok-words_for.ensures.1 (inr (inr (is.fits, c.look_up.ensures words is))))

pub returns-in-Err-TooNoisy : goal.returns-in-Err-TooNoisy
returns-in-Err-TooNoisy g c =
    let old = g.F.Files.seen c.args.files.now in
    let now = g.F.Files.seen c.read_db.new.files in
    let mid = g.F.Files.seen c.words_for.new.files in
    let so = g.O.Sink.seen c.args.sink.now in
    let sm = g.O.Sink.seen c.words_for.new.sink in
    let sn = g.O.Sink.seen c.refuse_by_text.new.sink in
    let l = local_seen c.args.local.now in
    let words : List ℕ = c.deref.result.now in
    let row : ℕ = c.in-Err-TooNoisy.row in
    let noise : ℕ = c.in-Err-TooNoisy.noise in
    let set_is : c.set-set.result ≡ c.in-Ok.db.set = c.set-set.ensures.value in
    let refused = rw c.in-Err-TooNoisy.field-0-is at c.in-Err-TooNoisy.ensures.asks in
    let misses : FirstMiss c.in-Ok.db.set (dealt_report c.in-Ok.db.set words c.args.local.now.index) row noise =
    subst (λ (s : ParamSet). FirstMiss s (dealt_report s words c.args.local.now.index) row noise) set_is refused.1 in
    local_read l c.in-Ok.db old now mid so sn c.refuse_by_text.result c.in-Ok.ensures.only (λ told. (c.in-Ok.ensures.cause told).0)
    (local_asked l c.in-Ok.db now mid mid so sm sn c.set-set.result c.in-Ok-words_for.words.items words c.refuse_by_text.result set_is c.deref.ensures.value
    c.in-Ok-words_for.ensures.0 c.in-Ok-words_for.ensures.1 (inr (inl (row, noise, misses, (refl, c.refuse_by_text.ensures (too_noisy_line row noise) c.too_noisy_text.ensures)))))

pub returns : goal.returns
returns g c =
    let old = g.F.Files.seen c.args.files.now in
    let now = g.F.Files.seen c.read_db.new.files in
    let mid = g.F.Files.seen c.words_for.new.files in
    let so = g.O.Sink.seen c.args.sink.now in
    let sm = g.O.Sink.seen c.words_for.new.sink in
    let l = local_seen c.args.local.now in
    local_read l c.in-Ok.db old now mid so sm _ c.in-Ok.ensures.only (λ told. (c.in-Ok.ensures.cause told).0)
    (local_asked l c.in-Ok.db now mid mid so sm sm c.set-set.result c.in-Ok-words_for.words.items c.deref.result.now _ c.set-set.ensures.value c.deref.ensures.value
    c.in-Ok-words_for.ensures.0 c.in-Ok-words_for.ensures.1 (inl (refl, refl, (refl, λ told. refl))))

use Rattle.std.proofs.Common.{◌≡◌, length, ap, arith}
use Rattle.std.specs.Option.{option_copied}
use Rattle.spiral_sets.specs.Counts.{secret_words}
use Rattle.spiral_model.specs.Dealing.{query_body_of}
use Rattle.regev_code.specs.Seen.{Cursor}
use Rattle.pir_client.proofs.DealtParts.{first-secrets, behind-secrets, behind-keys, secrets-at, state-drawn, setup-at, query-at, query-set, row_secrets-count, keys-formed, keys-are, keys-asked, report-dealt}
use Rattle.pir_client.proofs.dealing.deal.Goals as goal

pub deal_keys-requires-clause-secret : goal.deal_keys-requires-clause-secret
deal_keys-requires-clause-secret c =
    let set = c.args.set.now in
    let words = c.args.words.now in
    let at = behind-secrets words (secret_words set) c.new-draw.result c.draw_secret.new.draw c.new-draw.ensures c.in_ok-secret.ensures.taken in
    secrets-at set words c.in_ok-secret.secret c.draw_secret.new.draw _ at
    (first-secrets set words c.in_ok-secret.secret c.new-draw.result c.new-draw.ensures c.in_ok-secret.ensures.ok)

pub deal_keys-requires-clause-place : goal.deal_keys-requires-clause-place
deal_keys-requires-clause-place c =
    ap (λ (d : Cursor). d.used)
    (behind-secrets c.args.words.now (secret_words c.args.set.now) c.new-draw.result c.draw_secret.new.draw c.new-draw.ensures c.in_ok-secret.ensures.taken)

pub deal_keys-requires-clause-enough : goal.deal_keys-requires-clause-enough
deal_keys-requires-clause-enough c =
    let at =
    behind-secrets c.args.words.now (secret_words c.args.set.now) c.new-draw.result c.draw_secret.new.draw c.new-draw.ensures c.in_ok-secret.ensures.taken in
    omega (arith, ap (λ (d : Cursor). length d.words) at, c.requires.words)

pub deal_query-requires-clause-secret : goal.deal_query-requires-clause-secret
deal_query-requires-clause-secret c =
    let set = c.args.set.now in
    let words = c.args.words.now in
    let at = behind-secrets words (secret_words set) c.new-draw.result c.draw_secret.new.draw c.new-draw.ensures c.in_ok-secret.ensures.taken in
    secrets-at set words c.in_ok-secret.secret c.deal_keys.new.draw _
    (behind-keys set words _ c.draw_secret.new.draw c.deal_keys.new.draw at c.in_ok-setup.ensures.place)
    (first-secrets set words c.in_ok-secret.secret c.new-draw.result c.new-draw.ensures c.in_ok-secret.ensures.ok)

pub deal_query-requires-clause-place : goal.deal_query-requires-clause-place
deal_query-requires-clause-place c = ap (λ (d : Cursor). d.used) c.in_ok-setup.ensures.place

pub deal_query-requires-clause-enough : goal.deal_query-requires-clause-enough
deal_query-requires-clause-enough c =
    let set = c.args.set.now in
    let words = c.args.words.now in
    let at = behind-secrets words (secret_words set) c.new-draw.result c.draw_secret.new.draw c.new-draw.ensures c.in_ok-secret.ensures.taken in
    let after = behind-keys set words _ c.draw_secret.new.draw c.deal_keys.new.draw at c.in_ok-setup.ensures.place in
    omega (arith, ap (λ (d : Cursor). length d.words) after, c.requires.words)

pub keys_in_form-requires : goal.keys_in_form-requires
keys_in_form-requires c =
    let set = c.args.set.now in
    let words = c.args.words.now in
    let at = behind-secrets words (secret_words set) c.new-draw.result c.draw_secret.new.draw c.new-draw.ensures c.in_ok-secret.ensures.taken in
    keys-formed set c.in_ok-ring.ring words c.in_ok-setup.setup (option_copied c.as_ref.result) c.in_ok-ring.ensures c.as_ref.ensures.value
    (setup-at set words _ c.draw_secret.new.draw c.in_ok-setup.setup at c.in_ok-setup.ensures.keys) c.in_ok-setup.ensures.shape

pub noise_of-requires-clause-secrets : goal.noise_of-requires-clause-secrets
noise_of-requires-clause-secrets c =
    row_secrets-count c.args.set.now c.new-draw.result.words c.new-draw.result.used c.in_ok-secret.secret c.in_ok-secret.ensures.ok

pub noise_of-requires-clause-set : goal.noise_of-requires-clause-set
noise_of-requires-clause-set c = query-set c.args.set.now c.deal_keys.new.draw.words c.args.index c.in_ok-query.query c.in_ok-query.ensures.query

pub noise_of-requires-clause-keys : goal.noise_of-requires-clause-keys
noise_of-requires-clause-keys c =
    let set = c.args.set.now in
    let words = c.args.words.now in
    let at = behind-secrets words (secret_words set) c.new-draw.result c.draw_secret.new.draw c.new-draw.ensures c.in_ok-secret.ensures.taken in
    keys-asked set words (option_copied c.as_ref-2.result)
    (keys-are set words c.in_ok-setup.setup (option_copied c.as_ref.result) c.in_ok-keys.keys (option_copied c.as_ref-2.result)
    (setup-at set words _ c.draw_secret.new.draw c.in_ok-setup.setup at c.in_ok-setup.ensures.keys) c.as_ref.ensures.value c.in_ok-keys.ensures
    c.as_ref-2.ensures.value)

pub returns : goal.returns
returns c =
    let set = c.args.set.now in
    let words = c.args.words.now in
    let index = c.args.index in
    let secret = c.in_ok-secret.secret in
    let drawn = first-secrets set words secret c.new-draw.result c.new-draw.ensures c.in_ok-secret.ensures.ok in
    let at = behind-secrets words (secret_words set) c.new-draw.result c.draw_secret.new.draw c.new-draw.ensures c.in_ok-secret.ensures.taken in
    let after = behind-keys set words _ c.draw_secret.new.draw c.deal_keys.new.draw at c.in_ok-setup.ensures.place in
    let setup = setup-at set words _ c.draw_secret.new.draw c.in_ok-setup.setup at c.in_ok-setup.ensures.keys in
    let query : c.in_ok-query.query ≡ query_body_of set words index =
    query-at set words index _ c.deal_keys.new.draw c.in_ok-query.query after c.in_ok-query.ensures.query in
    let keys =
    keys-are set words c.in_ok-setup.setup (option_copied c.as_ref.result) c.in_ok-keys.keys (option_copied c.as_ref-2.result) setup c.as_ref.ensures.value
    c.in_ok-keys.ensures c.as_ref-2.ensures.value in
    record {
      state = state-drawn set words index secret c.in_ok-state.state drawn c.in_ok-state.ensures;
      setup = setup;
      keys = c.in_ok-setup.ensures.shape;
      query = query;
      shape = c.in_ok-query.ensures.shape;
      report =
          report-dealt set words index secret c.in_ok-query.query (option_copied c.as_ref-2.result) c.in_ok-report.report drawn query keys
          c.in_ok-report.ensures;
    }

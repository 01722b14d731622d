-- The shape of a query's ciphertexts, and what `ask` sends.
use Rattle.std.proofs.Common.{◌≡◌, ℕ, suc, ◌+◌, ◌-◌, ◌*◌, ◌<◌, ◌≤◌, Bool, true, false, List, [], ◌∷◌, Option, Some, None, length, get_or, take, if◌then◌else◌, All, refl, sym, ◌∙◌, ap, arith, subst}
use Rattle.std.specs.List.{range_with_len, flat_map}
use Rattle.std.proofs.lemmas.List.FromFn.{length-map-range_with_len}
use Rattle.std.proofs.lemmas.List.Elements.{All-nil, All-cons, All-head, All-tail, All-same}
use Rattle.negacyclic.specs.Ring.{ring_mul, ring_add}
use Rattle.negacyclic.proofs.Lengths.{length-ring_add, ring_add-below}
use Rattle.ring_poly.proofs.Modulus.{q_some}
use Rattle.spiral_sets.specs.declared.param_set.ParamSet.{ParamSet}
use Rattle.spiral_sets.specs.Sets.{IsSet, q, places, rows, has_keys}
use Rattle.spiral_sets.specs.Counts.{firsts_count, words_needed}
use Rattle.spiral_model.specs.Words.{Poly, Cipher}
use Rattle.spiral_model.specs.Sampling.{uniform_poly, error_poly}
use Rattle.spiral_model.specs.Ciphertexts.{encrypted_row, encrypted_rows, encrypted, encrypted_all, words_taken, IsCipher}
use Rattle.spiral_model.specs.Bodies.{CipherBody, IsQuery, query_rows}
use Rattle.spiral_model.specs.Keys.{lift_keys}
use Rattle.spiral_model.specs.Answering.{ready_of}
use Rattle.spiral_model.specs.Dealing.{scalar_secret, secret_rows, query_of, dealt_keys, key_body_of}
use Rattle.spiral_model.specs.Noise.{NoiseRow, noise_left, noise_right, report_row, report_of, FitsReport, dealt_report, Fits}
use Rattle.spiral_model.specs.Queries.{first_columns, selection_columns, query_messages}
use Rattle.spiral_frames.specs.Frames.{Spell, setup_message, query_message, frame_of}
use Rattle.regev_code.specs.Seen.{Secrets, Cursor}
use Rattle.regev_code.proofs.Draws.{drawn-more}
use Rattle.regev_code.proofs.Samples.{uniform_poly-below, length-uniform_poly}
use Rattle.regev_code.proofs.Encryptions.{length-encrypted}
use Rattle.gsw_code.specs.Columns.{row_secrets_of, ColumnsDrawn}
use Rattle.noise_check.specs.declared.reported.Report.{Report}
use Rattle.noise_check.specs.declared.reported.RowReport.{RowReport}
use Rattle.noise_check.specs.Reports.{row_at, reported_at, IsReport, LeastMiss}
use Rattle.noise_check.proofs.FittingRows.{row_read, miss_within, miss_left, before_miss}
use Rattle.pir_client.specs.declared.asking.Asked.{Asked}
use Rattle.pir_client.specs.declared.dealing.Dealt.{Dealt}
use Rattle.pir_client.specs.Asks.{IsAsked, IsDealt, FirstMiss, setup_body, setup_frame, frame_if_any}
use Rattle.pir_client.proofs.MessageLists.{firsts-lists, query-lists}
use Rattle.pir_client.proofs.FirstWords.{state-front, keys-front, query-front, report-front}

-- N residues
abbrev IsPoly : ℕ → Poly → Type 0
IsPoly N poly = (length poly ≡ N) × All (λ x. x < q) poly

row-poly : (N : ℕ) (a secret error message : Poly) → IsPoly N (encrypted_row N a secret error message)
unfolding encrypted_row
row-poly N a secret error message =
    let sum = ring_add q N (ring_mul q N secret a) error in (length-ring_add q N sum message, ring_add-below q N sum message q_some)

rows-polys : (N : ℕ) (words : List ℕ) (start : ℕ) (a : Poly) (secrets messages : List Poly)
    → All (λ poly. IsPoly N poly) (encrypted_rows N words start a secrets messages)
unfolding encrypted_rows
rows-polys N words start a [] messages = All-nil (λ (poly : Poly). IsPoly N poly)
rows-polys N words start a (s ∷ secrets) [] = All-nil (λ (poly : Poly). IsPoly N poly)
rows-polys N words start a (s ∷ secrets) (m ∷ messages) =
    All-cons (λ (poly : Poly). IsPoly N poly) (encrypted_row N a s (error_poly N words start) m) (encrypted_rows N words (start + N) a secrets messages)
    (row-poly N a s (error_poly N words start) m) (rows-polys N words (start + N) a secrets messages)

encrypted-polys : (N : ℕ) (words : List ℕ) (start : ℕ) (secrets messages : List Poly) → All (λ poly. IsPoly N poly) (encrypted N words start secrets messages)
unfolding encrypted
encrypted-polys N words start secrets messages =
    All-cons (λ (poly : Poly). IsPoly N poly) (uniform_poly N words start)
    (encrypted_rows N words (start + 2 * N) (uniform_poly N words start) secrets messages)
    (length-uniform_poly N words start, uniform_poly-below N words start) (rows-polys N words (start + 2 * N) (uniform_poly N words start) secrets messages)

encrypted-is : (N m : ℕ) (words : List ℕ) (start : ℕ) (secrets messages : List Poly) → length secrets ≡ m → length messages ≡ m
    → IsCipher N m (encrypted N words start secrets messages)
encrypted-is N m words start secrets messages many count = record {
  rows_count = length-encrypted N words start secrets messages (count ∙ sym many) ∙ ap (λ (n : ℕ). n + 1) count;
  residues = encrypted-polys N words start secrets messages;
}

pub length-encrypted_all : (N : ℕ) (words : List ℕ) (start : ℕ) (secrets : List Poly) (xs : List (List Poly))
    → length (encrypted_all N words start secrets xs) ≡ length xs
unfolding encrypted_all
length-encrypted_all N words start secrets [] = refl
length-encrypted_all N words start secrets (x ∷ xs) = ap (λ (n : ℕ). suc n) (length-encrypted_all N words (start + words_taken N (length x)) secrets xs)

-- encryptions of m messages each are ciphertexts of m rows below row 0
pub all-ciphers : (N m : ℕ) (words : List ℕ) (start : ℕ) (secrets : List Poly) (xs : List (List Poly)) → length secrets ≡ m → All (λ x. length x ≡ m) xs
    → All (IsCipher N m) (encrypted_all N words start secrets xs)
unfolding encrypted_all
all-ciphers N m words start secrets [] many all = All-nil (IsCipher N m)
all-ciphers N m words start secrets (x ∷ xs) many all =
    All-cons (IsCipher N m) (encrypted N words start secrets x) (encrypted_all N words (start + words_taken N (length x)) secrets xs)
    (encrypted-is N m words start secrets x many (All-head (λ (x : List Poly). length x ≡ m) x xs all))
    (all-ciphers N m words (start + words_taken N (length x)) secrets xs many (All-tail (λ (x : List Poly). length x ≡ m) x xs all))

query_rows-are : (set : ParamSet) → set.direct ≡ true → query_rows set ≡ rows set
query_rows-are set direct = rw direct refl

-- Encryptions of a direct set's messages, in their number and shape.
pub query-shape : (set : ParamSet) (words : List ℕ) (start : ℕ) (secrets : List Poly) (index : ℕ) (ciphers : List Cipher) → IsSet set → set.direct ≡ true
    → length secrets ≡ rows set
    → ciphers ≡ encrypted_all set.degree words start secrets (query_messages set secrets index) → IsQuery (record { set = set; ciphers = ciphers })
query-shape set words start secrets index ciphers is direct many drawn =
    let lists = query-lists set secrets index direct in
    let messages = query_messages set secrets index in
    let shapes = all-ciphers set.degree (rows set) words start secrets messages many lists.each in
    record {
      known = is;
      count = ap length drawn ∙ length-encrypted_all set.degree words start secrets messages ∙ lists.many;
      shapes = subst (λ (m : ℕ). All (IsCipher set.degree m) ciphers) (sym (query_rows-are set direct))
          (All-same (IsCipher set.degree (rows set)) ciphers (encrypted_all set.degree words start secrets messages) drawn shapes);
    }

-- ---- what is drawn is what the words give

-- the ciphertexts of the first dimension and then those of the selections
pub parts_drawn : (set : ParamSet) (secrets : Secrets) (index : ℕ) (from mid to : Cursor) (old half new : List Cipher)
    → ColumnsDrawn set secrets (λ _. flat_map (first_columns set index) (range_with_len 0 (places set))) from mid old half
    → ColumnsDrawn set secrets (λ s. flat_map (selection_columns set s index) (range_with_len 0 set.nu2)) mid to half new
    → ColumnsDrawn set secrets (λ s. query_messages set s index) from to old new
unfolding query_messages
parts_drawn set secrets index from mid to old half new firsts selections =
    let s = row_secrets_of set secrets in
    drawn-more set.degree (rows set) (firsts_count set) s (flat_map (first_columns set index) (range_with_len 0 (places set)))
    (flat_map (selection_columns set s index) (range_with_len 0 set.nu2))
    (query_messages set s index) from mid to old half new (firsts-lists set index) refl firsts selections

-- ---- its noise

-- it has a row for each secret
pub length-dealt : (set : ParamSet) (words : List ℕ) (index : ℕ) → length (dealt_report set words index) ≡ set.n
unfolding dealt_report report_of
length-dealt set words index =
    length-map-range_with_len
    (report_row set (scalar_secret set words) (secret_rows set words) index (lift_keys (dealt_keys set words))
    (ready_of set (dealt_keys set words) (query_of set words index))) 0 set.n

-- The row that misses first, as it is told.
pub first-miss : (set : ParamSet) (rows : List NoiseRow) (report : Report) (place : ℕ) (row : RowReport) → IsSet set → IsReport set rows report
    → LeastMiss report place
    → row ≡ get_or report.rows.items place row → FirstMiss set rows row.row row.noise
first-miss set rows report place row known is miss read =
    let within : place < length rows = miss_within set rows report known is place miss in
    let same : row ≡ reported_at set rows place = read ∙ row_read set rows report known is place row within in
    let back : place ≡ place + 1 - 1 = omega arith in
    subst (λ (x : RowReport). FirstMiss set rows x.row x.noise) (sym same)
    (record {
      some = omega arith;
      place = omega (arith, within);
      misses = subst (λ (k : ℕ). noise_right set ≤ noise_left set (row_at rows k)) back (miss_left set rows report known is place miss);
      first = subst (λ (k : ℕ). FitsReport set (take k rows)) back (before_miss set rows report known is place miss);
      noise_is = ap (λ (k : ℕ). (row_at rows k).noise) back;
    })

frame_where : (has : Bool) (body : CipherBody) → frame_if_any (if has then Some body else None) ≡ (if has then frame_of (setup_message body) else [])
frame_where true body = refl
frame_where false body = refl

-- The frame of the keys that were dealt is that of the words.
pub keys-framed : (set : ParamSet) (index : ℕ) (words : List ℕ) (dealt : Dealt) (sent : Option CipherBody) (bytes : List ℕ) → IsDealt set index words dealt
    → sent ≡ dealt.setup
    → bytes ≡ frame_if_any sent → bytes ≡ setup_frame set words
unfolding setup_body setup_frame
keys-framed set index words dealt sent bytes is same framed =
    framed ∙ ap frame_if_any (same ∙ is.setup) ∙ frame_where (has_keys set) (key_body_of set words)

-- ---- what is asked

-- what was dealt and fits, as it is handed out
pub asked-is : (set : ParamSet) (index : ℕ) (words : List ℕ) (dealt : Dealt) (asked : Asked) → IsDealt set index words dealt → asked.state ≡ dealt.state
    → asked.setup.items ≡ setup_frame set words → Spell (query_message dealt.query) asked.query.items → asked.report ≡ dealt.report → Fits set words index
    → IsAsked set index words asked
asked-is set index words dealt asked is state setup spelled report fits = record {
  state = state ∙ is.state;
  setup = setup;
  query = subst (λ (body : CipherBody). Spell (query_message body) asked.query.items) is.query spelled;
  report = subst (λ (r : Report). IsReport set (dealt_report set words index) r) (sym report) is.report;
  fits = fits;
}

-- The words past the needed ones change nothing.
pub asked-front : (set : ParamSet) (index : ℕ) (words : List ℕ) (asked : Asked) → IsSet set → IsAsked set index words asked
    → IsAsked set index (take (words_needed set) words) asked
asked-front set index words asked known is =
    let k = words_needed set in
    let all : words_needed set ≤ k = omega arith in
    let same = report-front set k words index known all in
    record {
      state = is.state ∙ state-front set k words index all;
      setup = is.setup ∙ keys-front set k words known all;
      query = subst (λ (body : CipherBody). Spell (query_message body) asked.query.items) (query-front set k words index known all) is.query;
      report = subst (λ (rows : List NoiseRow). IsReport set rows asked.report) same is.report;
      fits = subst (λ (rows : List NoiseRow). FitsReport set rows) same is.fits;
    }

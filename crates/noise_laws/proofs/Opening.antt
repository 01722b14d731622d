-- The reply of a query made ready opens to the record that was asked for.
use Rattle.std.proofs.Common.{◌≡◌, ℕ, ◌+◌, ◌*◌, ◌/◌, ◌%◌, ◌<◌, ℤ, pos, List, [], length, slice_index, slice_index_or, map, All, sym, ◌∙◌, ap, ap₂, subst, arith, div-add-mod'}
use Rattle.std.specs.List.{range_with_len, flat_map}
use Rattle.std.proofs.lemmas.Nat.{div_below, mod_below}
use Rattle.std.proofs.lemmas.List.Elements.{All-get_or, All-weaker}
use Rattle.std.proofs.lemmas.List.FromFn.{length-map-range_with_len, fill_by_all}
use Rattle.negacyclic.specs.Ring.{at, product_at}
use Rattle.negacyclic.proofs.Lists.{at_range, same_pieces}
use Rattle.negacyclic.proofs.Turn.{product_at-same}
use Rattle.spiral_sets.specs.declared.param_set.ParamSet.{ParamSet}
use Rattle.spiral_sets.specs.Sets.{p, q1, q2, entries}
use Rattle.spiral_sets.proofs.SetBounds.{n-some}
use Rattle.spiral_model.specs.Words.{Poly, Cipher, poly_of, row_of, cipher_at}
use Rattle.spiral_model.specs.Records.{record_of, entry_of, centred_at}
use Rattle.spiral_model.specs.Databases.{RecordTable, values_at}
use Rattle.spiral_model.specs.Replies.{QueryState, IsTernary, switched, switched_entry, switched_body, switched_zeroth, switched_mask, opened, secret_at, opened_at, opened_entry, opened_values, open_bytes}
use Rattle.spiral_model.specs.KeySwitching.{DigitKey}
use Rattle.spiral_model.specs.Answering.{Ready, result_of, reply_of}
use Rattle.spiral_model.specs.Noise.{NoiseRow, secret_weight, noise_left, noise_right, report_row, report_of, FitsReport}
use Rattle.noise_laws.specs.Laws.{Near, AreSecrets, ReadyOpens}
use Rattle.noise_laws.proofs.Openings.{row_opens}
use Rattle.noise_laws.proofs.RecordValues.{centred-small, residue_of_entry, length-entry, entries_joined, record_back, row_number}
use Rattle.noise_laws.proofs.Results.{MadeReady, moved_by, result_phase, target, result_near}

-- ---- the polynomials of a reply

body_entry : (set : ParamSet) (result : List Cipher) (e : ℕ) → e < entries set
    → poly_of (switched_body set result) e ≡ map (switched (q1 set)) (row_of (cipher_at result (e % set.n)) (e / set.n + 1))
unfolding switched_body switched_entry
body_entry set result e h = at_range (switched_entry set result) (entries set) e [] h

mask_column : (set : ParamSet) (result : List Cipher) (c : ℕ) → c < set.n
    → poly_of (switched_mask set result) c ≡ map (switched (q2 set)) (row_of (cipher_at result c) 0)
unfolding switched_mask switched_zeroth
mask_column set result c h = at_range (switched_zeroth set result) set.n c [] h

-- ---- the rows of a report

-- Where a report fits, each of its rows does.
row_fits_in : (set : ParamSet) (s : Poly) (numbers : List (List ℤ)) (index : ℕ) (lift : List DigitKey) (ready : Ready) (row : ℕ)
    → FitsReport set (report_of set s numbers index lift ready) → row < set.n
    → noise_left set (record { noise = moved_by set s numbers index lift ready row + p set / 2; weight = secret_weight (slice_index_or numbers row []) })
    < noise_right set
unfolding report_of report_row
row_fits_in set s numbers index lift ready row fits h =
    let report : ℕ → NoiseRow = report_row set s numbers index lift ready in
    let size : row < length (report_of set s numbers index lift ready) = omega (arith, length-map-range_with_len report 0 set.n) in
    subst (λ (r : NoiseRow). noise_left set r < noise_right set) (at_range report set.n row (report row) h)
    (All-get_or (λ (r : NoiseRow). noise_left set r < noise_right set) (report_of set s numbers index lift ready) row (report row) size fits)

-- ---- the values

-- the state that secrets and an index make
abbrev state_with : ParamSet → List (List ℤ) → ℕ → QueryState
state_with set numbers index = record { set = set; index = index; secret = flat_map (λ row. row) numbers }

-- The product of a row's secret and a switched mask is that of its numbers.
product_is : (set : ParamSet) (numbers : List (List ℤ)) (index r k : ℕ) (a b : Poly) → AreSecrets set numbers → r < set.n → a ≡ b
    → product_at set.degree (secret_at (state_with set numbers index) r) (at a) k
    ≡ product_at set.degree (λ i. slice_index_or (slice_index_or numbers r []) i (pos 0)) (at b) k
product_is set numbers index r k a b secrets h same =
    let sizes : All (λ row. length row ≡ set.degree) numbers =
    All-weaker (λ (row : List ℤ). (length row ≡ set.degree) × All IsTernary row) (λ row. length row ≡ set.degree) (λ row both. both.0) numbers secrets.rows in
    product_at-same set.degree (secret_at (state_with set numbers index) r) (λ i. slice_index_or (slice_index_or numbers r []) i (pos 0)) (at a) (at b) k
    (λ i lt. row_number set.degree r i numbers sizes (omega (arith, secrets.count)) lt) (λ j lt. ap (λ (x : Poly). at x j) same)

-- A coefficient opens to its value.
value_opens : (table : RecordTable) (s : Poly) (numbers : List (List ℤ)) (index : ℕ) (lift : List DigitKey) (ready : Ready) (e k : ℕ)
    → MadeReady table numbers index lift ready → FitsReport table.set (report_of table.set s numbers index lift ready) → e < entries table.set
    → k < table.set.degree
    → opened_at (state_with table.set numbers index) (reply_of table (result_of table lift ready)) e k
    ≡ slice_index (entry_of table.set (values_at table index) e) k
unfolding opened_at reply_of
value_opens table s numbers index lift ready e k is fits h lt =
    let set = table.set in
    let result = result_of table lift ready in
    let some : 0 < set.n = omega (arith, n-some set is.known) in
    let r : ℕ = e / set.n in
    let c : ℕ = e % set.n in
    let row_h : r < set.n = div_below e set.n set.n some h in
    let column_h : c < set.n = mod_below e set.n some in
    let place : r * set.n + c ≡ e = div-add-mod' e set.n in
    let moved : ℕ = moved_by set s numbers index lift ready r in
    let mask : Poly = map (switched (q2 set)) (row_of (cipher_at result c) 0) in
    let row : List ℤ = slice_index_or numbers r [] in
    let secret : (length row ≡ set.degree) × All IsTernary row =
    All-get_or (λ (x : List ℤ). (length x ≡ set.degree) × All IsTernary x) numbers r [] (omega (arith, is.secrets.count)) is.secrets.rows in
    let near =
    subst (λ (x : ℕ). Near set moved (result_phase table numbers lift ready r c) (target table index x)) place
    (result_near table s numbers index r c lift ready is row_h column_h) in
    ap₂ (λ (b sa : ℤ). opened set b sa) (ap (λ (x : Poly). at x k) (body_entry set result e h))
    (product_is set numbers index r k (poly_of (switched_mask set result) c) mask is.secrets row_h (mask_column set result c column_h))
    ∙ row_opens set row (cipher_at result c) r (λ i. centred_at set (values_at table index) e i) moved k is.known secret.0 secret.1
    (λ i. centred-small table index e i is.known) near (row_fits_in set s numbers index lift ready r fits row_h) lt
    ∙ residue_of_entry table index e k

-- The values of all entries are the record's, also where there is no such record.
pub values_open : (table : RecordTable) (s : Poly) (numbers : List (List ℤ)) (index : ℕ) (lift : List DigitKey) (ready : Ready)
    → MadeReady table numbers index lift ready → FitsReport table.set (report_of table.set s numbers index lift ready)
    → opened_values (state_with table.set numbers index) (reply_of table (result_of table lift ready)) ≡ values_at table index
unfolding opened_values opened_entry reply_of
values_open table s numbers index lift ready is fits =
    let set = table.set in
    let state : QueryState = state_with set numbers index in
    let reply = reply_of table (result_of table lift ready) in
    same_pieces (λ e. map (opened_at state reply e) (range_with_len 0 set.degree)) (entry_of set (values_at table index)) (entries set)
    (λ e h.
    sym
    (fill_by_all (opened_at state reply e) (entry_of set (values_at table index) e) set.degree 0 (length-entry table index e h)
    (λ k lt. sym (value_opens table s numbers index lift ready e k is fits h lt))))
    ∙ entries_joined table index

-- From any query made ready the reply opens to the record.
pub ready_opens : ReadyOpens
unfolding open_bytes reply_of
ready_opens table s numbers index lift ready is secrets keys selections h fits =
    let made : MadeReady table numbers index lift ready =
    record { known = is.known; secrets = secrets; keys = keys; selections = selections; present = omega (arith, is.count) } in
    ap (record_of table.set table.record_length) (values_open table s numbers index lift ready made fits) ∙ record_back table index is h

-- The laws of noise, each the contract of a public function: how far each step of an answer moves the phase, that a row whose noise is
-- small enough opens, and what follows for a whole look-up. They speak of what was made ready, never of what was sent, and of all sets.
use Rattle.std.specs.Prelude.{ℕ, ℤ, List, ◌≡◌, true, ◌+◌, ◌-◌, ◌*◌, ◌/◌, ◌^◌, ◌<◌, ◌≤◌, ◌==◌, length, map, slice_index_or, if◌then◌else◌, pos, ◌*ℤ◌, unsigned_abs, All}
use Rattle.std.specs.List.{flat_map}
use Rattle.negacyclic.specs.Residues.{residue, cen}
use Rattle.negacyclic.specs.Ring.{reduced, product_at, at, ring_sub, ring_scale}
use Rattle.spiral_sets.specs.declared.param_set.ParamSet.{ParamSet}
use Rattle.spiral_sets.specs.Sets.{IsSet, q, p, q1, q2, delta, rows, columns, max_records}
use Rattle.spiral_model.specs.Words.{Poly, Cipher, Gsw, Matrix, poly_of, row_of, cipher_at, entry_at}
use Rattle.spiral_model.specs.Ciphertexts.{phase}
use Rattle.spiral_model.specs.Gadgets.{selected}
use Rattle.spiral_model.specs.Queries.{first_place, folded_place}
use Rattle.spiral_model.specs.KeySwitching.{DigitKey}
use Rattle.spiral_model.specs.Packing.{packed_column}
use Rattle.spiral_model.specs.Answering.{Ready, ready_of, first_product, first_products, folded, result_of, reply_of, answer_of}
use Rattle.spiral_model.specs.Databases.{RecordTable, IsTable, record_count, record_at}
use Rattle.spiral_model.specs.Replies.{IsTernary, switched, opened, open_bytes}
use Rattle.spiral_model.specs.Sampling.{secret_poly}
use Rattle.spiral_model.specs.Dealing.{state_of, query_of, dealt_keys}
use Rattle.spiral_model.specs.Noise.{first_noise, selection_noise, gsw_noise, lift_noise, secret_weight, noise_left, noise_right, report_of, FitsReport, Fits}

-- Polynomials that differ by centred coefficients of at most m in size.
abbrev pub Near : ParamSet → ℕ → Poly → Poly → Type 0
Near set m a b = All (λ x. unsigned_abs (cen q x) ≤ m) (ring_sub q set.degree a b)

-- The phase of a ciphertext in row `row` + 1, whose secret has that place in its list.
abbrev pub phase_in : ParamSet → List Poly → ℕ → Cipher → Poly
phase_in set secrets row cipher = phase set.degree (poly_of secrets row) cipher (row + 1)

-- The first dimension at folded place j has Delta times the entry of the record at the asked place, within p / 2 times F.
abbrev pub FirstDimensionKeeps : Type 0
FirstDimensionKeeps =
    (set : ParamSet) (secrets : List Poly) (index row j c : ℕ) (matrices : List Matrix) (firsts : List Cipher) → row < rows set
    → All (All (All (λ x. unsigned_abs (cen q x) ≤ p set / 2))) matrices
    → Near set (p set / 2 * first_noise set secrets index firsts row) (phase_in set secrets row (first_product set matrices firsts j c))
    (ring_scale q set.degree (pos (delta set)) (entry_at matrices (j * 2 ^ set.nu1 + first_place set index) (row * set.n + c)))

-- A selection keeps the phase of that ciphertext which the bit says, within 2^w - 1 times the noise of its columns.
abbrev pub SelectionKeeps : Type 0
SelectionKeeps =
    (set : ParamSet) (secrets : List Poly) (bit row : ℕ) (gsw : Gsw) (low high : Cipher) → IsSet set → row < rows set → bit < 2
    → length low ≡ rows set + 1 → length high ≡ rows set + 1
    → Near set ((2 ^ set.w_gsw - 1) * selection_noise set secrets bit gsw row) (phase_in set secrets row (selected set.degree set.w_gsw gsw low high))
    (phase_in set secrets row (if bit == 0 then low else high))

-- The fold keeps the phase of each column of the asked folded place, within 2^w - 1 times G.
abbrev pub FoldKeeps : Type 0
FoldKeeps =
    (set : ParamSet) (secrets : List Poly) (index row c : ℕ) (matrices : List Matrix) (firsts : List Cipher) (gsws : List Gsw)
    → IsSet set → row < rows set → c < columns set → index < max_records set → length gsws ≡ set.nu2
    → Near set ((2 ^ set.w_gsw - 1) * gsw_noise set secrets index gsws row)
    (phase_in set secrets row (cipher_at (folded set.degree set.w_gsw gsws (first_products set matrices firsts)) c))
    (phase_in set secrets row (first_product set matrices firsts (folded_place set index) c))

-- the lift keys of a set: one of its width for each row
pub record AreLiftKeys (set : ParamSet) (lift : List DigitKey) : Type 0 where
  pub count : length lift ≡ set.n
  pub widths : All (λ key. key.w ≡ set.w_conv) lift

-- Packing keeps the phase of each entry, which then stands in its row, within 2^w - 1 times K.
abbrev pub PackingKeeps : Type 0
PackingKeeps =
    (set : ParamSet) (s : Poly) (secrets : List Poly) (lift : List DigitKey) (ciphers : List Cipher) (row c : ℕ) → IsSet set → set.pack ≡ true
    → AreLiftKeys set lift → row < set.n → c < set.n → ((r : ℕ) → r < set.n → All (λ x. x < q) (row_of (cipher_at ciphers (r * set.n + c)) 0))
    → Near set ((2 ^ set.w_conv - 1) * lift_noise set s secrets lift row) (phase_in set secrets row (packed_column set lift ciphers c))
    (phase set.degree s (cipher_at ciphers (row * set.n + c)) 1)

-- A row opens: where the phase is Delta times small values, within m, and the left side of Fits for m and what Delta adds is below the
-- right one, each coefficient opens, after the switch, to its value modulo p.
abbrev pub RowOpens : Type 0
RowOpens =
    (set : ParamSet) (numbers : List ℤ) (cipher : Cipher) (row : ℕ) (values : ℕ → ℤ) (m k : ℕ) → IsSet set → length numbers ≡ set.degree
    → All IsTernary numbers → ((i : ℕ) → unsigned_abs (values i) ≤ p set / 2)
    → Near set m (phase set.degree (secret_poly set.degree numbers) cipher (row + 1)) (reduced q set.degree (λ i. pos (delta set) *ℤ values i))
    → noise_left set (record { noise = m + p set / 2; weight = secret_weight numbers }) < noise_right set → k < set.degree
    → opened set (at (map (switched (q1 set)) (row_of cipher (row + 1))) k)
    (product_at set.degree (λ i. slice_index_or numbers i (pos 0)) (at (map (switched (q2 set)) (row_of cipher 0))) k)
    ≡ residue (p set) (values k)

-- the secrets of a set, s_1 to s_n: of N numbers each, all of them -1, 0 or 1
pub record AreSecrets (set : ParamSet) (numbers : List (List ℤ)) : Type 0 where
  pub count : length numbers ≡ set.n
  pub rows : All (λ row. (length row ≡ set.degree) × All IsTernary row) numbers

-- From any query made ready, in any set, the reply opens to the record that was asked for, wherever the report of its noise fits.
abbrev pub ReadyOpens : Type 0
ReadyOpens =
    (table : RecordTable) (s : Poly) (numbers : List (List ℤ)) (index : ℕ) (lift : List DigitKey) (ready : Ready) → IsTable table
    → AreSecrets table.set numbers → (table.set.pack ≡ true → AreLiftKeys table.set lift) → length ready.gsws ≡ table.set.nu2
    → index < record_count table → FitsReport table.set (report_of table.set s numbers index lift ready)
    → open_bytes (record { set = table.set; index = index; secret = flat_map (λ row. row) numbers }) (reply_of table (result_of table lift ready))
    ≡ record_at table index

-- From any words, in any set, the reply to the query that they deal for an index opens by their state to the record, wherever Fits holds.
abbrev pub DealtOpens : Type 0
DealtOpens =
    (table : RecordTable) (words : List ℕ) (index : ℕ) → IsTable table → index < record_count table → Fits table.set words index
    → open_bytes (state_of table.set words index)
    (answer_of table (dealt_keys table.set words) (ready_of table.set (dealt_keys table.set words) (query_of table.set words index)))
    ≡ record_at table index

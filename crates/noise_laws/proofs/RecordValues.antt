-- The values of a record: how large they are when they are centred, that they are the entries' one after the other, and that they give
-- the record's bytes again. And the numbers of secrets that stand one after the other.
use Rattle.std.proofs.Common.{◌≡◌, ℕ, zero, suc, ◌+◌, ◌-◌, ◌*◌, ◌/◌, ◌^◌, ◌<◌, ◌≤◌, ℤ, pos, unsigned_abs, List, [], ◌∷◌, ◌++◌, length, slice_index, slice_index_or, drop, All, refl, sym, ◌∙◌, ap, arith, le_refl, mul_comm, lt-ltb, le-ltb, pow_pos, inl, inr}
use Rattle.std.specs.List.{range_with_len, flat_map}
use Rattle.std.proofs.lemmas.Bool.{cases_lt}
use Rattle.std.proofs.lemmas.Int.{ints}
use Rattle.std.proofs.lemmas.Nat.{row_fits}
use Rattle.std.proofs.lemmas.List.{length-drop, length-take-le, get_or_append_left, get_or-append_right}
use Rattle.std.proofs.lemmas.List.Elements.{All-head, All-tail, All-take, All-drop}
use Rattle.negacyclic.specs.Residues.{residue}
use Rattle.negacyclic.proofs.Congruence.{Congruent, congruent_refl}
use Rattle.negacyclic.proofs.Digits.{length-repacked, repacked_below, repacked-back}
use Rattle.negacyclic.proofs.Lists.{pieces_joined}
use Rattle.negacyclic.proofs.Residues.{residue_is}
use Rattle.spiral_sets.specs.declared.param_set.ParamSet.{ParamSet}
use Rattle.spiral_sets.specs.Sets.{IsSet, p, entries, values_count}
use Rattle.spiral_sets.proofs.SetBounds.{same, capacity-whole}
use Rattle.spiral_model.specs.Records.{record_of, entry_of, centred_value, centred_at}
use Rattle.spiral_model.specs.Databases.{RecordTable, IsTable, record_count, record_at, values_at}
use Rattle.noise_laws.proofs.Measured.{all_read}

-- ---- centred values

-- A centred value is its value modulo the modulus,
centred_congruent : (modulus v : ℕ) → Congruent modulus (pos v) (centred_value modulus v)
centred_congruent modulus v =
    elim (cases_lt v (modulus / 2)) [
      | inl low ↦ rw (lt-ltb v (modulus / 2) low) (congruent_refl (pos v))
      | inr high ↦ rw (le-ltb v (modulus / 2) high) (record { times = pos 1; differ = omega (arith, ints) })
    ]

-- so that its residue is the value,
residue_of_centred : (modulus v : ℕ) → v < modulus → residue modulus (centred_value modulus v) ≡ v
residue_of_centred modulus v h = let some : 0 < modulus = omega arith in residue_is some h (centred_congruent modulus v)

-- and no larger than half of an even modulus.
centred_size : (modulus v : ℕ) → modulus ≡ 2 * (modulus / 2) → v < modulus → unsigned_abs (centred_value modulus v) ≤ modulus / 2
centred_size modulus v even h =
    elim (cases_lt v (modulus / 2)) [
      | inl low ↦ rw (lt-ltb v (modulus / 2) low) (omega (arith, ints))
      | inr high ↦ rw (le-ltb v (modulus / 2) high) (omega (arith, ints))
    ]

-- p is even
even_modulus : (set : ParamSet) → IsSet set → p set ≡ 2 * (p set / 2)
even_modulus = same (λ set. p set) (λ set. 2 * (p set / 2)) (refl, (refl, (refl, (refl, (refl, (refl, (refl, (refl, (refl, (refl, tt))))))))))

-- ---- the values of a record

-- how many there are
length-values : (table : RecordTable) (index : ℕ) → length (values_at table index) ≡ values_count table.set
length-values table index = length-repacked 8 table.set.p_bits (values_count table.set) (record_at table index)

-- those of an entry are below p,
entry-below : (table : RecordTable) (index e : ℕ) → All (λ x. x < p table.set) (entry_of table.set (values_at table index) e)
entry-below table index e =
    let set = table.set in
    let below : All (λ x. x < p set) (values_at table index) = repacked_below 8 set.p_bits (values_count set) (record_at table index) in
    All-take (λ (x : ℕ). x < p set) set.degree (drop (e * set.degree) (values_at table index))
    (All-drop (λ (x : ℕ). x < p set) (e * set.degree) (values_at table index) below)

-- and each at any place,
value-below : (table : RecordTable) (index e k : ℕ) → slice_index (entry_of table.set (values_at table index) e) k < p table.set
value-below table index e k =
    all_read (λ (x : ℕ). x < p table.set) (entry_of table.set (values_at table index) e) k 0 (entry-below table index e) (pow_pos table.set.p_bits)

-- and so no larger than p / 2 when they are centred,
pub centred-small : (table : RecordTable) (index e k : ℕ) → IsSet table.set → unsigned_abs (centred_at table.set (values_at table index) e k) ≤ p table.set / 2
centred-small table index e k is =
    let set = table.set in
    centred_size (p set) (slice_index (entry_of set (values_at table index) e) k) (even_modulus set is) (value-below table index e k)

-- of which the residues are the values again.
pub residue_of_entry : (table : RecordTable) (index e k : ℕ)
    → residue (p table.set) (centred_at table.set (values_at table index) e k) ≡ slice_index (entry_of table.set (values_at table index) e) k
residue_of_entry table index e k =
    residue_of_centred (p table.set) (slice_index (entry_of table.set (values_at table index) e) k) (value-below table index e k)

-- An entry has N values,
pub length-entry : (table : RecordTable) (index e : ℕ) → e < entries table.set → length (entry_of table.set (values_at table index) e) ≡ table.set.degree
length-entry table index e h =
    let set = table.set in
    let rest : List ℕ = drop (e * set.degree) (values_at table index) in
    let fits : e * set.degree + set.degree ≤ values_count set = row_fits e set.degree (entries set) set.degree h (le_refl set.degree) in
    length-take-le set.degree rest (omega (arith, length-drop (e * set.degree) (values_at table index), length-values table index))

-- and the entries one after the other are the record's values.
pub entries_joined : (table : RecordTable) (index : ℕ)
    → flat_map (entry_of table.set (values_at table index)) (range_with_len 0 (entries table.set)) ≡ values_at table index
entries_joined table index = pieces_joined table.set.degree (entries table.set) (values_at table index) (length-values table index)

-- ---- its bytes

-- A record that is there has the length of all.
pub length-record : (table : RecordTable) (index : ℕ) → IsTable table → index < record_count table → length (record_at table index) ≡ table.record_length
length-record table index is h =
    let rest : List ℕ = drop (index * table.record_length) table.bytes in
    let fits : index * table.record_length + table.record_length ≤ record_count table * table.record_length =
    row_fits index table.record_length (record_count table) table.record_length h (le_refl table.record_length) in
    length-take-le table.record_length rest (omega (arith, length-drop (index * table.record_length) table.bytes, is.whole))

-- The values of a record write its bytes.
pub record_back : (table : RecordTable) (index : ℕ) → IsTable table → index < record_count table
    → record_of table.set table.record_length (values_at table index) ≡ record_at table index
record_back table index is h =
    let set = table.set in
    let bytes : List ℕ = record_at table index in
    let size : length bytes ≡ table.record_length = length-record table index is h in
    let below : All (λ b. b < 2 ^ 8) bytes =
    All-take (λ (b : ℕ). b < 2 ^ 8) table.record_length (drop (index * table.record_length) table.bytes)
    (All-drop (λ (b : ℕ). b < 2 ^ 8) (index * table.record_length) table.bytes is.are_bytes) in
    let order : values_count set * set.p_bits ≡ set.p_bits * values_count set = mul_comm (values_count set) set.p_bits in
    let room : 8 * length bytes ≤ set.p_bits * values_count set = omega (arith, capacity-whole set is.known, is.record_length) in
    ap (λ (count : ℕ). record_of set count (values_at table index)) (sym size)
    ∙ repacked-back 8 set.p_bits (values_count set) bytes below room

-- ---- numbers of secrets, one secret after the other

-- Number i of row r.
pub row_number : (N r i : ℕ) (rows : List (List ℤ)) → All (λ row. length row ≡ N) rows → r < length rows → i < N
    → slice_index_or (flat_map (λ row. row) rows) (r * N + i) (pos 0) ≡ slice_index_or (slice_index_or rows r []) i (pos 0)
row_number N r i [] sizes h lt = absurd (omega arith)
row_number N zero i (row ∷ rows) sizes h lt =
    let size : length row ≡ N = All-head (λ (x : List ℤ). length x ≡ N) row rows sizes in
    let place : 0 * N + i ≡ i = omega arith in
    ap (λ (k : ℕ). slice_index_or (row ++ flat_map (λ (x : List ℤ). x) rows) k (pos 0)) place
    ∙ get_or_append_left row (flat_map (λ (x : List ℤ). x) rows) (pos 0) i (omega arith)
row_number N (suc r) i (row ∷ rows) sizes h lt =
    let size : length row ≡ N = All-head (λ (x : List ℤ). length x ≡ N) row rows sizes in
    let rest : List ℤ = flat_map (λ (x : List ℤ). x) rows in
    let place : suc r * N + i - N ≡ r * N + i = omega arith in
    get_or-append_right row rest N (suc r * N + i) (pos 0) size (omega arith)
    ∙ ap (λ (k : ℕ). slice_index_or rest k (pos 0)) place
    ∙ row_number N r i rows (All-tail (λ (x : List ℤ). length x ≡ N) row rows sizes) (omega arith) lt

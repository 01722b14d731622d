-- The result of a query made ready: in each row and column its phase is Delta times the entry of the record that was asked for, within
-- what the first dimension, the fold and packing move it.
use Rattle.std.proofs.Common.{◌≡◌, ℕ, ◌+◌, ◌-◌, ◌*◌, ◌/◌, ◌^◌, ◌<◌, ◌≤◌, Bool, true, false, if◌then◌else◌, ℤ, pos, ◌*ℤ◌, unsigned_abs, List, [], ◌∷◌, length, slice_index_or, All, refl, sym, ◌∙◌, ap, subst, arith, le_trans, div-add-mod', inl, inr}
use Rattle.std.proofs.lemmas.Bool.{cases_Bool}
use Rattle.std.proofs.lemmas.Nat.{mul-add-lt}
use Rattle.std.proofs.lemmas.List.{get_or-map}
use Rattle.std.proofs.lemmas.List.Elements.{All-nil, All-weaker}
use Rattle.negacyclic.specs.Residues.{residue, cen}
use Rattle.negacyclic.specs.Ring.{reduced, ring_add, ring_sub, ring_scale}
use Rattle.negacyclic.proofs.Lengths.{ring_add-below, ring_total-below}
use Rattle.negacyclic.proofs.Lists.{at_range, all_range, all_pieces}
use Rattle.negacyclic.proofs.Residues.{cen_residue-le}
use Rattle.negacyclic.proofs.Stands.{follows_at, stands_reduced, stands_same, scale_of}
use Rattle.negacyclic.proofs.Within.{within_trans, within_difference, small_difference}
use Rattle.spiral_sets.specs.declared.param_set.ParamSet.{ParamSet}
use Rattle.spiral_sets.specs.Sets.{IsSet, q, p, delta, rows, columns, entries, max_records}
use Rattle.spiral_model.specs.Words.{Poly, Cipher, Gsw, Matrix, poly_of, row_of, cipher_at, matrix_at, entry_at}
use Rattle.spiral_model.specs.Ciphertexts.{phase}
use Rattle.spiral_model.specs.Sampling.{secret_poly}
use Rattle.spiral_model.specs.Gadgets.{cipher_add, cipher_sub, external_product, selected}
use Rattle.spiral_model.specs.Queries.{first_place, folded_place}
use Rattle.spiral_model.specs.KeySwitching.{DigitKey}
use Rattle.spiral_model.specs.Packing.{packed_column, packed}
use Rattle.spiral_model.specs.Records.{centred_at}
use Rattle.spiral_model.specs.Databases.{RecordTable, values_at, matrix_entry, matrix_of, matrices_of}
use Rattle.spiral_model.specs.Answering.{Ready, place_product, first_row, first_product, first_columns_of, first_products, fold_pair, fold_step, folded, result_columns, result_of}
use Rattle.spiral_model.specs.Noise.{first_noise, gsw_noise, lift_noise, polys_of}
use Rattle.noise_laws.specs.Laws.{Near, phase_in, AreSecrets, AreLiftKeys}
use Rattle.noise_laws.proofs.FirstDimension.{first_dimension_keeps}
use Rattle.noise_laws.proofs.Folding.{fold_keeps}
use Rattle.noise_laws.proofs.Measured.{q_some, all_read}
use Rattle.noise_laws.proofs.Packing.{packing_keeps}
use Rattle.noise_laws.proofs.RecordValues.{centred-small}

-- What a look-up has of a query made ready: the secrets and the lift keys of the set, a GSW ciphertext for each selection, and an index
-- that the database has a place for.
pub record MadeReady (table : RecordTable) (numbers : List (List ℤ)) (index : ℕ) (lift : List DigitKey) (ready : Ready) : Type 0 where
  pub known : IsSet table.set
  pub secrets : AreSecrets table.set numbers
  pub keys : table.set.pack ≡ true → AreLiftKeys table.set lift
  pub selections : length ready.gsws ≡ table.set.nu2
  pub present : index < max_records table.set

-- what the fold leaves
abbrev left_by : RecordTable → Ready → List Cipher
left_by table ready = folded table.set.degree table.set.w_gsw ready.gsws (first_products table.set (matrices_of table) ready.firsts)

-- The phase of the result in row `row` + 1 of column c, under the secret of that row.
abbrev pub result_phase : RecordTable → List (List ℤ) → List DigitKey → Ready → ℕ → ℕ → Poly
result_phase table numbers lift ready row c =
    phase table.set.degree (secret_poly table.set.degree (slice_index_or numbers row [])) (cipher_at (result_of table lift ready) c) (row + 1)

-- Delta times entry e of the record that was asked for.
abbrev pub target : RecordTable → ℕ → ℕ → Poly
target table index e = reduced q table.set.degree (λ k. pos (delta table.set) *ℤ centred_at table.set (values_at table index) e k)

-- ---- polynomials near one another

near_trans : (set : ParamSet) (m n : ℕ) (a b c : Poly) → Near set m a b → Near set n b c → Near set (m + n) a c
near_trans set m n a b c first second =
    let N = set.degree in
    let A = follows_at q N a in
    let B = follows_at q N b in
    let C = follows_at q N c in
    small_difference q_some A C (λ k h. within_trans (within_difference k q_some A B first h) (within_difference k q_some B C second h))

near_most : (set : ParamSet) (m n : ℕ) (a b : Poly) → m ≤ n → Near set m a b → Near set n a b
near_most set m n a b weaker near =
    All-weaker (λ x. unsigned_abs (cen q x) ≤ m) (λ x. unsigned_abs (cen q x) ≤ n) (λ x small. le_trans small weaker) (ring_sub q set.degree a b) near

-- ---- the matrices

-- residues around 0
abbrev IsSmall : ℕ → Poly → Type 0
IsSmall m a = All (λ x. unsigned_abs (cen q x) ≤ m) a

-- those of small numbers
small_reduced : (N m : ℕ) (f : ℕ → ℤ) → ((k : ℕ) → unsigned_abs (f k) ≤ m) → IsSmall m (reduced q N f)
unfolding reduced
small_reduced N m f each =
    all_range (λ x. unsigned_abs (cen q x) ≤ m) (λ k. residue q (f k)) N (λ k h. le_trans (cen_residue-le q (f k) q_some) (each k))

-- The entries of all matrices are small,
matrices-small : (table : RecordTable) → IsSet table.set → All (All (All (λ x. unsigned_abs (cen q x) ≤ p table.set / 2))) (matrices_of table)
unfolding matrices_of matrix_of matrix_entry
matrices-small table is =
    let set = table.set in
    all_range (All (IsSmall (p set / 2))) (matrix_of table) (max_records set)
    (λ i h.
    all_range (IsSmall (p set / 2)) (matrix_entry table i) (entries set)
    (λ e lt. small_reduced set.degree (p set / 2) (λ k. centred_at set (values_at table i) e k) (λ k. centred-small table i e k is)))

entry_is : (table : RecordTable) (i e : ℕ) → i < max_records table.set → e < entries table.set → entry_at (matrices_of table) i e ≡ matrix_entry table i e
unfolding matrices_of matrix_of
entry_is table i e h lt =
    ap (λ (m : Matrix). slice_index_or m e []) (at_range (matrix_of table) (max_records table.set) i [] h)
    ∙ at_range (matrix_entry table i) (entries table.set) e [] lt

-- and Delta times an entry has the residues of Delta times its centred values.
scaled_entry : (table : RecordTable) (index place e entry : ℕ) → index < max_records table.set → e < entries table.set → place ≡ index → entry ≡ e
    → ring_scale q table.set.degree (pos (delta table.set)) (entry_at (matrices_of table) place entry) ≡ target table index e
unfolding matrix_entry
scaled_entry table index place e entry h lt place_is entry_same =
    let N = table.set.degree in
    let z : ℤ = pos (delta table.set) in
    let f : ℕ → ℤ = λ k. centred_at table.set (values_at table index) e k in
    let here : entry_at (matrices_of table) place entry ≡ reduced q N f =
    ap (λ (i : ℕ). entry_at (matrices_of table) i entry) place_is
    ∙ ap (λ (j : ℕ). entry_at (matrices_of table) index j) entry_same
    ∙ entry_is table index e h lt in
    ap (ring_scale q N z) here
    ∙ stands_same (scale_of q_some z (stands_reduced N f q_some).follows) (stands_reduced N (λ k. z *ℤ f k) q_some) (λ k h. refl)

-- ---- rows of residues

-- a ciphertext whose rows have residues
abbrev HasResidues : Cipher → Type 0
HasResidues cipher = All (All (λ x. x < q)) cipher

first_product-residues : (set : ParamSet) (matrices : List Matrix) (firsts : List Cipher) (j c : ℕ) → HasResidues (first_product set matrices firsts j c)
unfolding first_product first_row
first_product-residues set matrices firsts j c =
    all_range (All (λ x. x < q)) (first_row set matrices firsts j c) (rows set + 1)
    (λ row h. ring_total-below q set.degree (2 ^ set.nu1) (λ i. place_product set firsts (matrix_at matrices (j * 2 ^ set.nu1 + i)) i c row) q_some)

first_products-residues : (set : ParamSet) (matrices : List Matrix) (firsts : List Cipher) → All HasResidues (first_products set matrices firsts)
unfolding first_products first_columns_of
first_products-residues set matrices firsts =
    all_pieces HasResidues (first_columns_of set matrices firsts) (2 ^ set.nu2)
    (λ j h. all_range HasResidues (first_product set matrices firsts j) (columns set) (λ c lt. first_product-residues set matrices firsts j c))

selected-residues : (N w : ℕ) (gsw : Gsw) (low high : Cipher) → HasResidues (selected N w gsw low high)
unfolding selected cipher_add
selected-residues N w gsw low high =
    let more : Cipher = external_product N w gsw (cipher_sub N high low) in
    all_range (All (λ x. x < q)) (λ i. ring_add q N (row_of low i) (row_of more i)) (length low)
    (λ i h. ring_add-below q N (row_of low i) (row_of more i) q_some)

fold_step-residues : (N w : ℕ) (gsw : Gsw) (ciphers : List Cipher) → All HasResidues (fold_step N w gsw ciphers)
unfolding fold_step fold_pair
fold_step-residues N w gsw ciphers =
    all_range HasResidues (fold_pair N w gsw ciphers) (length ciphers / 2)
    (λ x h. selected-residues N w gsw (cipher_at ciphers x) (cipher_at ciphers (x + length ciphers / 2)))

folded-residues : (N w : ℕ) (gsws : List Gsw) (ciphers : List Cipher) → All HasResidues ciphers → All HasResidues (folded N w gsws ciphers)
unfolding folded
folded-residues N w [] ciphers residues = residues
folded-residues N w (gsw ∷ gsws) ciphers residues = folded-residues N w gsws (fold_step N w gsw ciphers) (fold_step-residues N w gsw ciphers)

-- Row 0 of what the fold leaves has residues.
mask_below : (table : RecordTable) (ready : Ready) (x : ℕ) → All (λ y. y < q) (row_of (cipher_at (left_by table ready) x) 0)
mask_below table ready x =
    let firsts : List Cipher = first_products table.set (matrices_of table) ready.firsts in
    let residues : All HasResidues (left_by table ready) =
    folded-residues table.set.degree table.set.w_gsw ready.gsws firsts (first_products-residues table.set (matrices_of table) ready.firsts) in
    all_read (All (λ y. y < q)) (cipher_at (left_by table ready) x) 0 [] (all_read HasResidues (left_by table ready) x [] residues (All-nil (All (λ y. y < q))))
    (All-nil (λ y. y < q))

-- ---- a column of what the fold leaves

-- how far the first dimension and the fold move a phase
abbrev folded_by : ParamSet → List Poly → ℕ → Ready → ℕ → ℕ
folded_by set secrets index ready row =
    p set / 2 * first_noise set secrets index ready.firsts row + (2 ^ set.w_gsw - 1) * gsw_noise set secrets index ready.gsws row

folded_near : (table : RecordTable) (secrets : List Poly) (index row c e : ℕ) (ready : Ready)
    → IsSet table.set → row < rows table.set → c < columns table.set → index < max_records table.set → length ready.gsws ≡ table.set.nu2
    → e < entries table.set → row * table.set.n + c ≡ e
    → Near table.set (folded_by table.set secrets index ready row) (phase_in table.set secrets row (cipher_at (left_by table ready) c)) (target table index e)
folded_near table secrets index row c e ready is h lt known count within entry =
    let set = table.set in
    let matrices = matrices_of table in
    let j : ℕ = folded_place set index in
    let F : ℕ = p set / 2 * first_noise set secrets index ready.firsts row in
    let G : ℕ = (2 ^ set.w_gsw - 1) * gsw_noise set secrets index ready.gsws row in
    let before : Poly = phase_in set secrets row (first_product set matrices ready.firsts j c) in
    let after : Poly = phase_in set secrets row (cipher_at (left_by table ready) c) in
    let scaled = scaled_entry table index (j * 2 ^ set.nu1 + first_place set index) e (row * set.n + c) known within (div-add-mod' index (2 ^ set.nu1)) entry in
    let near_first = first_dimension_keeps set secrets index row j c matrices ready.firsts h (matrices-small table is) in
    let near_fold = fold_keeps set secrets index row c matrices ready.firsts ready.gsws is h lt known count in
    near_most set (G + F) (F + G) after (target table index e) (omega arith)
    (near_trans set G F after before (target table index e) near_fold (subst (λ (x : Poly). Near set F before x) scaled near_first))

-- ---- a row and column of the result

-- How far packing moves it too, by whether the set packs.
abbrev moved_as : ParamSet → Poly → List (List ℤ) → ℕ → List DigitKey → Ready → ℕ → Bool → ℕ
moved_as set s numbers index lift ready row packs =
    p set / 2 * first_noise set (if packs then s ∷ [] else polys_of set numbers) index ready.firsts (if packs then 0 else row)
    + (2 ^ set.w_gsw - 1) * gsw_noise set (if packs then s ∷ [] else polys_of set numbers) index ready.gsws (if packs then 0 else row)
    + (2 ^ set.w_conv - 1) * (if packs then lift_noise set s (polys_of set numbers) lift row else 0)

abbrev pub moved_by : ParamSet → Poly → List (List ℤ) → ℕ → List DigitKey → Ready → ℕ → ℕ
moved_by set s numbers index lift ready row = moved_as set s numbers index lift ready row set.pack

more_than : (a b m : ℕ) → m ≡ a + b → a ≤ m
more_than a b m e = omega arith

other_order : (a b m : ℕ) → m ≡ a + b → b + a ≤ m
other_order a b m e = omega arith

-- another bound, and equal secrets and ciphertexts
near_row : (set : ParamSet) (m n row : ℕ) (s t : Poly) (c d : Cipher) (b : Poly) → m ≤ n → t ≡ s → d ≡ c → Near set m (phase set.degree s c row) b
    → Near set n (phase set.degree t d row) b
near_row set m n row s t c d b weaker secret cipher near =
    near_most set m n (phase set.degree t d row) b weaker
    (subst (λ (x : Cipher). Near set m (phase set.degree t x row) b) (sym cipher)
    (subst (λ (x : Poly). Near set m (phase set.degree x c row) b) (sym secret) near))

secret_at_row : (set : ParamSet) (numbers : List (List ℤ)) (row : ℕ) → row < length numbers
    → secret_poly set.degree (slice_index_or numbers row []) ≡ poly_of (polys_of set numbers) row
secret_at_row set numbers row h = sym (get_or-map (secret_poly set.degree) numbers row [] [] h)

-- a column of the result, by whether the set packs
plain_column : (table : RecordTable) (lift : List DigitKey) (ready : Ready) (c : ℕ) → table.set.pack ≡ false
    → cipher_at (result_of table lift ready) c ≡ cipher_at (left_by table ready) c
unfolding result_of result_columns
plain_column table lift ready c plain =
    ap (λ (packs : Bool). cipher_at (if packs then packed table.set lift (left_by table ready) else left_by table ready) c) plain

packed_column_is : (table : RecordTable) (lift : List DigitKey) (ready : Ready) (c : ℕ) → table.set.pack ≡ true → c < table.set.n
    → cipher_at (result_of table lift ready) c ≡ packed_column table.set lift (left_by table ready) c
unfolding result_of result_columns packed
packed_column_is table lift ready c packs h =
    ap (λ (b : Bool). cipher_at (if b then packed table.set lift (left_by table ready) else left_by table ready) c) packs
    ∙ at_range (packed_column table.set lift (left_by table ready)) table.set.n c [] h

-- Where the set doesn't pack, each row has its own secret.
plain_near : (table : RecordTable) (s : Poly) (numbers : List (List ℤ)) (index row c : ℕ) (lift : List DigitKey) (ready : Ready)
    → MadeReady table numbers index lift ready → table.set.pack ≡ false → row < table.set.n → c < table.set.n
    → Near table.set (moved_by table.set s numbers index lift ready row) (result_phase table numbers lift ready row c)
    (target table index (row * table.set.n + c))
plain_near table s numbers index row c lift ready is plain h lt =
    let set = table.set in
    let secrets = polys_of set numbers in
    let e : ℕ = row * set.n + c in
    let moved : ℕ = moved_by set s numbers index lift ready row in
    let FG : ℕ = folded_by set secrets index ready row in
    let rows_are : rows set ≡ set.n = ap (λ (b : Bool). if b then 1 else set.n) plain in
    let columns_are : columns set ≡ set.n = ap (λ (b : Bool). if b then set.n * set.n else set.n) plain in
    let within : e < entries set = mul-add-lt row set.n c set.n h lt in
    let near = folded_near table secrets index row c e ready is.known (omega arith) (omega arith) is.present is.selections within refl in
    let moved_is : moved ≡ FG + (2 ^ set.w_conv - 1) * 0 = ap (moved_as set s numbers index lift ready row) plain in
    near_row set FG moved (row + 1) (poly_of secrets row) (secret_poly set.degree (slice_index_or numbers row [])) (cipher_at (left_by table ready) c)
    (cipher_at (result_of table lift ready) c) (target table index e) (more_than FG ((2 ^ set.w_conv - 1) * 0) moved moved_is)
    (secret_at_row set numbers row (omega (arith, is.secrets.count))) (plain_column table lift ready c plain) near

-- Where it packs, the entries stand under the scalar secret, and packing brings them into their rows.
packed_near : (table : RecordTable) (s : Poly) (numbers : List (List ℤ)) (index row c : ℕ) (lift : List DigitKey) (ready : Ready)
    → MadeReady table numbers index lift ready → table.set.pack ≡ true → row < table.set.n → c < table.set.n
    → Near table.set (moved_by table.set s numbers index lift ready row) (result_phase table numbers lift ready row c)
    (target table index (row * table.set.n + c))
packed_near table s numbers index row c lift ready is packs h lt =
    let set = table.set in
    let secrets = polys_of set numbers in
    let ciphers = left_by table ready in
    let e : ℕ = row * set.n + c in
    let moved : ℕ = moved_by set s numbers index lift ready row in
    let FG : ℕ = folded_by set (s ∷ []) index ready 0 in
    let K : ℕ = (2 ^ set.w_conv - 1) * lift_noise set s secrets lift row in
    let rows_are : rows set ≡ 1 = ap (λ (b : Bool). if b then 1 else set.n) packs in
    let columns_are : columns set ≡ set.n * set.n = ap (λ (b : Bool). if b then set.n * set.n else set.n) packs in
    let within : e < entries set = mul-add-lt row set.n c set.n h lt in
    let scalar = folded_near table (s ∷ []) index 0 e e ready is.known (omega arith) (omega arith) is.present is.selections within (omega arith) in
    let brought = packing_keeps set s secrets lift ciphers row c is.known packs (is.keys packs) h lt (λ r below. mask_below table ready (r * set.n + c)) in
    let moved_is : moved ≡ FG + K = ap (moved_as set s numbers index lift ready row) packs in
    let before : Poly = phase set.degree s (cipher_at ciphers e) 1 in
    let after : Poly = phase_in set secrets row (packed_column set lift ciphers c) in
    let near = near_trans set K FG after before (target table index e) brought scalar in
    near_row set (K + FG) moved (row + 1) (poly_of secrets row) (secret_poly set.degree (slice_index_or numbers row [])) (packed_column set lift ciphers c)
    (cipher_at (result_of table lift ready) c) (target table index e) (other_order FG K moved moved_is)
    (secret_at_row set numbers row (omega (arith, is.secrets.count))) (packed_column_is table lift ready c packs lt) near

-- In either, row `row` + 1 of column c is Delta times entry (row, c) of the record, but for what it is moved by.
pub result_near : (table : RecordTable) (s : Poly) (numbers : List (List ℤ)) (index row c : ℕ) (lift : List DigitKey) (ready : Ready)
    → MadeReady table numbers index lift ready → row < table.set.n → c < table.set.n
    → Near table.set (moved_by table.set s numbers index lift ready row) (result_phase table numbers lift ready row c)
    (target table index (row * table.set.n + c))
result_near table s numbers index row c lift ready is h lt =
    elim (cases_Bool table.set.pack) [
      | inl packs ↦ packed_near table s numbers index row c lift ready is packs h lt
      | inr plain ↦ plain_near table s numbers index row c lift ready is plain h lt
    ]

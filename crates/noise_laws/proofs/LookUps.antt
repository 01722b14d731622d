-- State and reply of a look-up: they are of one set, the index is there, and both have the shape that a frame carries.
use Rattle.std.proofs.Common.{◌≡◌, ℕ, suc, ◌+◌, ◌*◌, ◌/◌, ◌%◌, ◌^◌, ◌<◌, Bool, true, false, ℤ, pos, List, [], ◌∷◌, length, get_or, map, if◌then◌else◌, All, refl, sym, ◌∙◌, ap, arith, subst, length-append, pow_pos}
use Rattle.std.specs.List.{range_with_len, flat_map}
use Rattle.std.proofs.Math.Nat.{pow-succ'}
use Rattle.std.proofs.lemmas.Nat.{mod_below, div_below}
use Rattle.std.proofs.lemmas.List.{length-map}
use Rattle.std.proofs.lemmas.List.Elements.{All-head, All-tail, All-map, All-weaker}
use Rattle.std.proofs.lemmas.List.FromFn.{length-map-range_with_len}
use Rattle.negacyclic.specs.Residues.{nearest}
use Rattle.negacyclic.specs.Ring.{ring_add}
use Rattle.negacyclic.proofs.Residues.{residue-below}
use Rattle.negacyclic.proofs.Lengths.{length-ring_add, length-ring_total}
use Rattle.negacyclic.proofs.Lists.{all_range, all_pieces, all_flat_map}
use Rattle.spiral_sets.specs.declared.param_set.ParamSet.{ParamSet}
use Rattle.spiral_sets.specs.Sets.{q, q1, q2, q1_bits, rows, columns, entries}
use Rattle.spiral_sets.proofs.SetBounds.{n-some}
use Rattle.spiral_model.specs.Words.{Poly, Cipher, Gsw, Matrix, row_of, cipher_at}
use Rattle.spiral_model.specs.Databases.{RecordTable, IsTable, record_at, matrices_of}
use Rattle.spiral_model.specs.Gadgets.{external_product, cipher_add, cipher_sub, selected}
use Rattle.spiral_model.specs.KeySwitching.{DigitKey}
use Rattle.spiral_model.specs.Keys.{lift_keys}
use Rattle.spiral_model.specs.Packing.{packed_row, packed_column, packed}
use Rattle.spiral_model.specs.Replies.{open_bytes, IsSwitched, IsReply, IsState, IsTernary, switched, switched_entry, switched_body, switched_zeroth, switched_mask}
use Rattle.spiral_model.specs.Answering.{Ready, ready_of, first_row, first_product, first_columns_of, first_products, fold_pair, fold_step, folded, result_columns, result_of, reply_of, answer_of}
use Rattle.spiral_model.specs.Dealing.{secret_rows, state_of, query_of, dealt_keys}
use Rattle.noise_laws.specs.LookUps.{LookUp, reply_to}
use Rattle.noise_laws.proofs.RecordValues.{length-record}
use Rattle.noise_laws.proofs.Folding.{length-fold_step, length-first_products}
use Rattle.noise_laws.proofs.Dealt.{dealt_secrets, dealt_selections, dealt_opens}

-- ---- state and reply

-- They are of one set, that of the database,
pub of_one_set : (table : RecordTable) (words : List ℕ) (index : ℕ) → (state_of table.set words index).set ≡ (reply_to table words index).set
unfolding state_of answer_of reply_of
of_one_set table words index = refl

-- and the index is below the count.
pub asked_below : (table : RecordTable) (words : List ℕ) (index : ℕ) → LookUp table words index
    → (state_of table.set words index).index < (reply_to table words index).count
unfolding state_of answer_of reply_of
asked_below table words index look_up = look_up.present

-- The reply says how long the record is.
pub reply_length : (table : RecordTable) (words : List ℕ) (index : ℕ) → LookUp table words index
    → (reply_to table words index).record_length ≡ length (record_at table index)
unfolding answer_of reply_of
reply_length table words index look_up = sym (length-record table index look_up.is_table look_up.present)

-- The reply opens by the state to the record that was asked for.
pub look_up_opens : (table : RecordTable) (words : List ℕ) (index : ℕ) → LookUp table words index
    → open_bytes (state_of table.set words index) (reply_to table words index) ≡ record_at table index
look_up_opens table words index look_up = dealt_opens table words index look_up.is_table look_up.present look_up.fits

-- ---- the shape of a state

-- what each secret keeps
abbrev IsSecret : ℕ → List ℤ → Type 0
IsSecret N row = (length row ≡ N) × All IsTernary row

-- how many numbers secrets have, one after the other
length-secrets : (N : ℕ) (rows : List (List ℤ)) → All (IsSecret N) rows → length (flat_map (λ row. row) rows) ≡ length rows * N
length-secrets N [] each = omega arith
length-secrets N (row ∷ rows) each =
    let first = All-head (IsSecret N) row rows each in
    let rest = length-secrets N rows (All-tail (IsSecret N) row rows each) in
    omega (arith, length-append row (flat_map (λ row. row) rows), first.0, rest)

-- The state of a look-up is one that a frame carries.
pub state_kept : (table : RecordTable) (words : List ℕ) (index : ℕ) → LookUp table words index → IsState (state_of table.set words index)
unfolding state_of
state_kept table words index look_up =
    let set = table.set in
    let secrets = dealt_secrets set words in
    let count = look_up.is_table.count in
    record {
      known = look_up.is_table.known;
      index = omega (arith, count, look_up.present);
      secret_length = length-secrets set.degree (secret_rows set words) secrets.rows ∙ ap (λ (k : ℕ). k * set.degree) secrets.count;
      ternary = all_flat_map IsTernary (λ row. row) (secret_rows set words)
          (All-weaker (IsSecret set.degree) (All IsTernary) (λ row is. is.1) (secret_rows set words) secrets.rows);
    }

-- ---- the shape of a result

-- a ciphertext of so many rows, each of N coefficients
record HasRows (N count : ℕ) (cipher : Cipher) : Type 0 where
  many : length cipher ≡ count
  degree : All (λ a. length a ≡ N) cipher

rows_at : (N count : ℕ) (f : ℕ → Poly) → ((i : ℕ) → length (f i) ≡ N) → HasRows N count (map f (range_with_len 0 count))
rows_at N count f each =
    record { many = length-map-range_with_len f 0 count; degree = all_range (λ a. length a ≡ N) f count (λ i h. each i) }

-- Each column of the first dimension,
length-first_row : (set : ParamSet) (matrices : List Matrix) (firsts : List Cipher) (j c row : ℕ) → length (first_row set matrices firsts j c row) ≡ set.degree
unfolding first_row
length-first_row set matrices firsts j c row = length-ring_total q set.degree (2 ^ set.nu1) _

product_rows : (set : ParamSet) (matrices : List Matrix) (firsts : List Cipher) (j c : ℕ)
    → HasRows set.degree (rows set + 1) (first_product set matrices firsts j c)
unfolding first_product
product_rows set matrices firsts j c =
    rows_at set.degree (rows set + 1) (first_row set matrices firsts j c) (length-first_row set matrices firsts j c)

columns_rows : (set : ParamSet) (matrices : List Matrix) (firsts : List Cipher) (j : ℕ)
    → All (HasRows set.degree (rows set + 1)) (first_columns_of set matrices firsts j)
unfolding first_columns_of
columns_rows set matrices firsts j =
    all_range (HasRows set.degree (rows set + 1)) (first_product set matrices firsts j) (columns set) (λ c h. product_rows set matrices firsts j c)

products_rows : (set : ParamSet) (matrices : List Matrix) (firsts : List Cipher) → All (HasRows set.degree (rows set + 1)) (first_products set matrices firsts)
unfolding first_products
products_rows set matrices firsts =
    all_pieces (HasRows set.degree (rows set + 1)) (first_columns_of set matrices firsts) (2 ^ set.nu2) (λ j h. columns_rows set matrices firsts j)

-- and each that the fold leaves: a selection has the rows of its low ciphertext.
selected_rows : (N w : ℕ) (gsw : Gsw) (low high : Cipher) → HasRows N (length low) (selected N w gsw low high)
unfolding selected cipher_add
selected_rows N w gsw low high =
    let product = external_product N w gsw (cipher_sub N high low) in
    rows_at N (length low) (λ i. ring_add q N (row_of low i) (row_of product i)) (λ i. length-ring_add q N (row_of low i) (row_of product i))

step_rows : (N w count : ℕ) (gsw : Gsw) (ciphers : List Cipher) → All (HasRows N count) ciphers → All (HasRows N count) (fold_step N w gsw ciphers)
unfolding fold_step fold_pair
step_rows N w count gsw ciphers each =
    all_range (HasRows N count) (fold_pair N w gsw ciphers) (length ciphers / 2)
    (λ x h.
    let low = cipher_at ciphers x in
    let here : length low ≡ count = (each x [] (omega arith)).many in
    subst (λ (k : ℕ). HasRows N k (fold_pair N w gsw ciphers x)) here (selected_rows N w gsw low (cipher_at ciphers (x + length ciphers / 2))))

folded_rows : (N w count : ℕ) (gsws : List Gsw) (ciphers : List Cipher) → All (HasRows N count) ciphers → All (HasRows N count) (folded N w gsws ciphers)
unfolding folded
folded_rows N w count [] ciphers each = each
folded_rows N w count (gsw ∷ gsws) ciphers each = folded_rows N w count gsws (fold_step N w gsw ciphers) (step_rows N w count gsw ciphers each)

halved : (n k count : ℕ) → n ≡ 2 ^ suc k * count → n / 2 ≡ 2 ^ k * count
halved n k count e =
    let power : 2 ^ suc k ≡ 2 * 2 ^ k = pow-succ' 2 k in
    let doubled : 2 ^ suc k * count ≡ 2 * (2 ^ k * count) = rw power (omega arith) in
    omega (arith, e, doubled)

length-folded : (N w count : ℕ) (gsws : List Gsw) (ciphers : List Cipher) → length ciphers ≡ 2 ^ length gsws * count → length (folded N w gsws ciphers) ≡ count
unfolding folded
length-folded N w count [] ciphers e = omega (arith, e)
length-folded N w count (gsw ∷ gsws) ciphers e =
    length-folded N w count gsws (fold_step N w gsw ciphers) (length-fold_step N w gsw ciphers ∙ halved (length ciphers) (length gsws) count e)

-- Packed columns
length-packed_row : (set : ParamSet) (lift : List DigitKey) (ciphers : List Cipher) (c i : ℕ) → length (packed_row set lift ciphers c i) ≡ set.degree
unfolding packed_row
length-packed_row set lift ciphers c i = length-ring_total q set.degree set.n _

packed_rows : (set : ParamSet) (lift : List DigitKey) (ciphers : List Cipher) (c : ℕ) → HasRows set.degree (set.n + 1) (packed_column set lift ciphers c)
unfolding packed_column
packed_rows set lift ciphers c = rows_at set.degree (set.n + 1) (packed_row set lift ciphers c) (length-packed_row set lift ciphers c)

-- so many columns of n + 1 rows
record IsResult (set : ParamSet) (result : List Cipher) : Type 0 where
  many : length result ≡ set.n
  each : All (HasRows set.degree (set.n + 1)) result

packed_result : (set : ParamSet) (lift : List DigitKey) (ciphers : List Cipher) → IsResult set (packed set lift ciphers)
unfolding packed
packed_result set lift ciphers = record {
  many = length-map-range_with_len (packed_column set lift ciphers) 0 set.n;
  each = all_range (HasRows set.degree (set.n + 1)) (packed_column set lift ciphers) set.n (λ c h. packed_rows set lift ciphers c);
}

plain_result : (set : ParamSet) (matrices : List Matrix) (ready : Ready) → set.pack ≡ false → length ready.gsws ≡ set.nu2
    → IsResult set (folded set.degree set.w_gsw ready.gsws (first_products set matrices ready.firsts))
plain_result set matrices ready plain selections =
    let rows_are : rows set ≡ set.n = rw plain refl in
    let columns_are : columns set ≡ set.n = rw plain refl in
    let products = first_products set matrices ready.firsts in
    record {
      many = length-folded set.degree set.w_gsw set.n ready.gsws products
          (length-first_products set matrices ready.firsts ∙ ap (λ (k : ℕ). 2 ^ set.nu2 * k) columns_are ∙ ap (λ (k : ℕ). 2 ^ k * set.n) (sym selections));
      each = subst (λ (m : ℕ). All (HasRows set.degree (m + 1)) (folded set.degree set.w_gsw ready.gsws products)) rows_are
          (folded_rows set.degree set.w_gsw (rows set + 1) ready.gsws products (products_rows set matrices ready.firsts));
    }

columns_result : (set : ParamSet) (lift : List DigitKey) (left : List Cipher) (pack : Bool) → (set.pack ≡ false → IsResult set left) → set.pack ≡ pack
    → IsResult set (if pack then packed set lift left else left)
columns_result set lift left true plain packs = packed_result set lift left
columns_result set lift left false plain packs = plain packs

result_kept : (table : RecordTable) (lift : List DigitKey) (ready : Ready) → length ready.gsws ≡ table.set.nu2 → IsResult table.set (result_of table lift ready)
unfolding result_of result_columns
result_kept table lift ready selections =
    let set = table.set in
    columns_result set lift (folded set.degree set.w_gsw ready.gsws (first_products set (matrices_of table) ready.firsts)) set.pack
    (λ plain. plain_result set (matrices_of table) ready plain selections) refl

-- ---- the reply

switched_within : (m c : ℕ) → 0 < m → switched m c < m
unfolding switched
switched_within m c some = residue-below m (nearest (pos (c * m)) q) some

switched_row : (N m : ℕ) (a : Poly) → 0 < m → length a ≡ N → IsSwitched N m (map (switched m) a)
switched_row N m a some size = record {
  degree = length-map a (switched m) ∙ size;
  below = All-map (λ x. x < m) (switched m) a (λ k d h. switched_within m (get_or a k d) some);
}

-- row r of column c
result_row : (set : ParamSet) (result : List Cipher) (c r : ℕ) → IsResult set result → c < set.n → r < set.n + 1
    → length (row_of (cipher_at result c) r) ≡ set.degree
result_row set result c r is column row =
    let cipher = is.each c [] (omega (arith, is.many)) in
    cipher.degree r [] (omega (arith, cipher.many))

entry_kept : (set : ParamSet) (result : List Cipher) (e : ℕ) → 0 < set.n → IsResult set result → e < entries set
    → IsSwitched set.degree (q1 set) (switched_entry set result e)
unfolding switched_entry
entry_kept set result e some is h =
    let row = div_below e set.n set.n some h in
    switched_row set.degree (q1 set) (row_of (cipher_at result (e % set.n)) (e / set.n + 1)) (pow_pos (q1_bits set))
    (result_row set result (e % set.n) (e / set.n + 1) is (mod_below e set.n some) (omega (arith, row)))

zeroth_kept : (set : ParamSet) (result : List Cipher) (c : ℕ) → IsResult set result → c < set.n → IsSwitched set.degree (q2 set) (switched_zeroth set result c)
unfolding switched_zeroth
zeroth_kept set result c is h =
    switched_row set.degree (q2 set) (row_of (cipher_at result c) 0) (pow_pos set.q2_bits) (result_row set result c 0 is h (omega arith))

switched_reply : (table : RecordTable) (result : List Cipher) → IsTable table → IsResult table.set result → IsReply (reply_of table result)
unfolding reply_of switched_body switched_mask
switched_reply table result is shape =
    let set = table.set in
    let two = n-some set is.known in
    record {
      known = is.known;
      count = is.count;
      some_length = is.some_length;
      record_length = is.record_length;
      body_count = length-map-range_with_len (switched_entry set result) 0 (entries set);
      mask_count = length-map-range_with_len (switched_zeroth set result) 0 set.n;
      body = all_range (IsSwitched set.degree (q1 set)) (switched_entry set result) (entries set) (λ e h. entry_kept set result e (omega (arith, two)) shape h);
      mask = all_range (IsSwitched set.degree (q2 set)) (switched_zeroth set result) set.n (λ c h. zeroth_kept set result c shape h);
    }

-- The reply to a look-up is one that a frame carries.
pub reply_kept : (table : RecordTable) (words : List ℕ) (index : ℕ) → LookUp table words index → IsReply (reply_to table words index)
unfolding answer_of
reply_kept table words index look_up =
    let keys = dealt_keys table.set words in
    let ready = ready_of table.set keys (query_of table.set words index) in
    switched_reply table (result_of table (lift_keys keys) ready) look_up.is_table
    (result_kept table (lift_keys keys) ready (dealt_selections table.set words (query_of table.set words index)))

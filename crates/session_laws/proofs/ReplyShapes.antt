-- The answer to what any words deal has the shape that a Reply frame carries.
use Rattle.std.proofs.Common.{◌≡◌, ℕ, suc, ◌+◌, ◌*◌, ◌/◌, ◌%◌, ◌^◌, ◌<◌, Bool, true, false, pos, List, [], ◌∷◌, length, get_or, map, if◌then◌else◌, All, sym, ◌∙◌, subst, arith, pow_pos}
use Rattle.std.specs.List.{range_with_len}
use Rattle.std.proofs.Math.Nat.{pow-succ'}
use Rattle.std.proofs.lemmas.Nat.{mod_below, div_below}
use Rattle.std.proofs.lemmas.List.{length-map}
use Rattle.std.proofs.lemmas.List.Elements.{All-map}
use Rattle.std.proofs.lemmas.List.FromFn.{length-map-range_with_len}
use Rattle.negacyclic.specs.Residues.{nearest}
use Rattle.negacyclic.proofs.Residues.{residue-below}
use Rattle.negacyclic.proofs.Lengths.{length-ring_total}
use Rattle.negacyclic.proofs.Lists.{all_range, all_pieces, length-pieces}
use Rattle.spiral_sets.specs.declared.param_set.ParamSet.{ParamSet}
use Rattle.spiral_sets.specs.Sets.{q, q1, q2, q1_bits, rows, columns, entries}
use Rattle.spiral_sets.proofs.SetBounds.{n-some}
use Rattle.spiral_model.specs.Words.{Poly, Cipher, Gsw, Matrix, row_of, cipher_at}
use Rattle.spiral_model.specs.Databases.{RecordTable, IsTable, matrices_of}
use Rattle.spiral_model.specs.Gadgets.{external_product, cipher_sub, selected}
use Rattle.spiral_model.specs.KeySwitching.{DigitKey}
use Rattle.spiral_model.specs.Keys.{lift_keys}
use Rattle.spiral_model.specs.Packing.{packed_row, packed_column, packed}
use Rattle.spiral_model.specs.Replies.{IsSwitched, IsReply, switched, switched_entry, switched_body, switched_zeroth, switched_mask}
use Rattle.spiral_model.specs.Answering.{Ready, ready_of, first_row, first_product, first_columns_of, first_products, fold_pair, fold_step, folded, result_columns, result_of, reply_of, answer_of}
use Rattle.spiral_model.specs.Dealing.{query_of, dealt_keys}
use Rattle.regev_code.specs.Products.{HasShape}
use Rattle.regev_code.proofs.Sums.{sum-shape}
use Rattle.noise_laws.specs.LookUps.{reply_to}
use Rattle.noise_laws.proofs.Dealt.{dealt_selections}

-- ---- lists of ciphertexts

-- so many ciphertexts, each of so many rows of N coefficients
record AreShaped (N count many : ℕ) (ciphers : List Cipher) : Type 0 where
  many_are : length ciphers ≡ many
  each : All (HasShape N count) ciphers

rows_shape : (N count : ℕ) (f : ℕ → Poly) → ((i : ℕ) → length (f i) ≡ N) → HasShape N count (map f (range_with_len 0 count))
rows_shape N count f each = record {
  rows_count = length-map-range_with_len f 0 count;
  degree = all_range (λ a. length a ≡ N) f count (λ i h. each i);
}

list_shaped : (N count many : ℕ) (f : ℕ → Cipher) → ((i : ℕ) → HasShape N count (f i)) → AreShaped N count many (map f (range_with_len 0 many))
list_shaped N count many f each = record {
  many_are = length-map-range_with_len f 0 many;
  each = all_range (HasShape N count) f many (λ i h. each i);
}

-- ---- the first dimension

module _ (set : ParamSet) (matrices : List Matrix) (firsts : List Cipher) where
  product_shape : (j c : ℕ) → HasShape set.degree (rows set + 1) (first_product set matrices firsts j c)
  unfolding first_product first_row
  product_shape j c =
      rows_shape set.degree (rows set + 1) (first_row set matrices firsts j c) (λ row. length-ring_total q set.degree (2 ^ set.nu1) _)

  columns_shaped : (j : ℕ) → AreShaped set.degree (rows set + 1) (columns set) (first_columns_of set matrices firsts j)
  unfolding first_columns_of
  columns_shaped j = list_shaped set.degree (rows set + 1) (columns set) (first_product set matrices firsts j) (product_shape j)

  products_shaped : AreShaped set.degree (rows set + 1) (2 ^ set.nu2 * columns set) (first_products set matrices firsts)
  unfolding first_products
  products_shaped = record {
    many_are = length-pieces (first_columns_of set matrices firsts) (columns set) (2 ^ set.nu2) (λ j h. (columns_shaped j).many_are);
    each = all_pieces (HasShape set.degree (rows set + 1)) (first_columns_of set matrices firsts) (2 ^ set.nu2) (λ j h. (columns_shaped j).each);
  }

-- ---- the fold

selected_shape : (N w count : ℕ) (gsw : Gsw) (low high : Cipher) → length low ≡ count → HasShape N count (selected N w gsw low high)
unfolding selected
selected_shape N w count gsw low high size = sum-shape N count low (external_product N w gsw (cipher_sub N high low)) size

-- a step leaves half of them
step_shaped : (N w count half : ℕ) (gsw : Gsw) (ciphers : List Cipher) → AreShaped N count (2 * half) ciphers → AreShaped N count half (fold_step N w gsw ciphers)
unfolding fold_step fold_pair
step_shaped N w count half gsw ciphers are = record {
  many_are = length-map-range_with_len (fold_pair N w gsw ciphers) 0 (length ciphers / 2) ∙ omega (arith, are.many_are);
  each = all_range (HasShape N count) (fold_pair N w gsw ciphers) (length ciphers / 2)
      (λ x h.
      selected_shape N w count gsw (cipher_at ciphers x) (cipher_at ciphers (x + length ciphers / 2)) (are.each x [] (omega (arith, h))).rows_count);
}

doubled : (k many : ℕ) → 2 ^ suc k * many ≡ 2 * (2 ^ k * many)
doubled k many = let power : 2 ^ suc k ≡ 2 * 2 ^ k = pow-succ' 2 k in rw power (omega arith)

folded_shaped : (N w count many : ℕ) (gsws : List Gsw) (ciphers : List Cipher) → AreShaped N count (2 ^ length gsws * many) ciphers
    → AreShaped N count many (folded N w gsws ciphers)
unfolding folded
folded_shaped N w count many [] ciphers are = record { many_are = omega (arith, are.many_are); each = are.each }
folded_shaped N w count many (gsw ∷ gsws) ciphers are =
    let halves : AreShaped N count (2 * (2 ^ length gsws * many)) ciphers =
    record { many_are = are.many_are ∙ doubled (length gsws) many; each = are.each } in
    folded_shaped N w count many gsws (fold_step N w gsw ciphers) (step_shaped N w count (2 ^ length gsws * many) gsw ciphers halves)

-- ---- the columns of the result

packed_shape : (set : ParamSet) (lift : List DigitKey) (ciphers : List Cipher) (c : ℕ) → HasShape set.degree (set.n + 1) (packed_column set lift ciphers c)
unfolding packed_column packed_row
packed_shape set lift ciphers c =
    rows_shape set.degree (set.n + 1) (packed_row set lift ciphers c) (λ i. length-ring_total q set.degree set.n _)

-- columns of n + 1 rows, packed from what the fold leaves
packed_shaped : (set : ParamSet) (lift : List DigitKey) (ciphers : List Cipher) → AreShaped set.degree (set.n + 1) set.n (packed set lift ciphers)
unfolding packed
packed_shaped set lift ciphers = list_shaped set.degree (set.n + 1) set.n (packed_column set lift ciphers) (packed_shape set lift ciphers)

-- or just that
columns_by : (pack : Bool) (set : ParamSet) (lift : List DigitKey) (left : List Cipher)
    → AreShaped set.degree ((if pack then 1 else set.n) + 1) (if pack then set.n * set.n else set.n) left
    → AreShaped set.degree (set.n + 1) set.n (if pack then packed set lift left else left)
columns_by true set lift left are = packed_shaped set lift left
columns_by false set lift left are = are

result_shaped : (table : RecordTable) (lift : List DigitKey) (ready : Ready) → length ready.gsws ≡ table.set.nu2
    → AreShaped table.set.degree (table.set.n + 1) table.set.n (result_of table lift ready)
unfolding result_of result_columns
result_shaped table lift ready selections =
    let set : ParamSet = table.set in
    let products : List Cipher = first_products set (matrices_of table) ready.firsts in
    let are : AreShaped set.degree (rows set + 1) (2 ^ length ready.gsws * columns set) products =
    subst (λ (k : ℕ). AreShaped set.degree (rows set + 1) (2 ^ k * columns set) products) (sym selections)
    (products_shaped set (matrices_of table) ready.firsts) in
    columns_by set.pack set lift (folded set.degree set.w_gsw ready.gsws products)
    (folded_shaped set.degree set.w_gsw (rows set + 1) (columns set) ready.gsws products are)

-- ---- the reply

-- a row of a ciphertext, switched
row_switched : (N count many m c r : ℕ) (ciphers : List Cipher) → AreShaped N count many ciphers → 0 < m → c < many → r < count
    → IsSwitched N m (map (switched m) (row_of (cipher_at ciphers c) r))
unfolding switched
row_switched N count many m c r ciphers are some column row =
    let cipher = are.each c [] (omega (arith, are.many_are, column)) in
    let a : Poly = row_of (cipher_at ciphers c) r in
    record {
      degree = length-map a (switched m) ∙ cipher.degree r [] (omega (arith, cipher.rows_count, row));
      below = All-map (λ x. x < m) (switched m) a (λ k d h. residue-below m (nearest (pos (get_or a k d * m)) q) some);
    }

reply_shape : (table : RecordTable) (result : List Cipher) → IsTable table → AreShaped table.set.degree (table.set.n + 1) table.set.n result
    → IsReply (reply_of table result)
unfolding reply_of switched_body switched_mask switched_entry switched_zeroth
reply_shape table result is are =
    let set : ParamSet = table.set in
    let N : ℕ = set.degree in
    let n : ℕ = set.n in
    let some = n-some set is.known in
    record {
      known = is.known;
      count = is.count;
      some_length = is.some_length;
      record_length = is.record_length;
      body_count = length-map-range_with_len (switched_entry set result) 0 (entries set);
      mask_count = length-map-range_with_len (switched_zeroth set result) 0 n;
      body = all_range (IsSwitched N (q1 set)) (switched_entry set result) (entries set)
          (λ e h.
          let positive : 0 < n = omega (arith, some) in
          let row = div_below e n n positive h in
          row_switched N (n + 1) n (q1 set) (e % n) (e / n + 1) result are (pow_pos (q1_bits set)) (mod_below e n positive) (omega (arith, row)));
      mask = all_range (IsSwitched N (q2 set)) (switched_zeroth set result) n
          (λ c h. row_switched N (n + 1) n (q2 set) c 0 result are (pow_pos set.q2_bits) h (omega arith));
    }

-- The reply to the query that any words deal is one that a frame carries.
pub dealt-reply : (table : RecordTable) (words : List ℕ) (index : ℕ) → IsTable table → IsReply (reply_to table words index)
unfolding answer_of
dealt-reply table words index is =
    let keys = dealt_keys table.set words in
    let ready : Ready = ready_of table.set keys (query_of table.set words index) in
    reply_shape table (result_of table (lift_keys keys) ready) is
    (result_shaped table (lift_keys keys) ready (dealt_selections table.set words (query_of table.set words index)))

-- Packing: the lifts of a column's entries, summed up, and one column after the other.
use Rattle.std.proofs.Common.{◌≡◌, ℕ, ◌+◌, ◌*◌, ◌<◌, List, [], ◌∷◌, ◌++◌, length, replicate, map, All, refl, sym, ◌∙◌, ap, subst, arith}
use Rattle.std.specs.List.{range_with_len}
use Rattle.std.proofs.lemmas.Nat.{mul-add-lt}
use Rattle.std.proofs.lemmas.List.{get_or-replicate, length-replicate}
use Rattle.std.proofs.lemmas.List.Elements.{All-nil, All-push, All-same}
use Rattle.std.proofs.lemmas.List.FromFn.{fill_by_all, length-map-range_with_len}
use Rattle.negacyclic.specs.Ring.{ring_add, ring_total}
use Rattle.negacyclic.proofs.Ring.{ring_total_none, ring_total_more}
use Rattle.negacyclic.proofs.Lengths.{zeros_ring}
use Rattle.negacyclic.proofs.Lists.{changed_each, pushed_more}
use Rattle.spiral_sets.specs.declared.param_set.ParamSet.{ParamSet}
use Rattle.spiral_sets.specs.Sets.{q}
use Rattle.spiral_model.specs.Words.{Cipher, row_of, cipher_at}
use Rattle.spiral_model.specs.Gadgets.{cipher_add}
use Rattle.spiral_model.specs.KeySwitching.{DigitKey}
use Rattle.spiral_model.specs.Keys.{SetKeys}
use Rattle.spiral_model.specs.Packing.{lift_row, packed_row, packed_column, packed}
use Rattle.ring_poly.proofs.Modulus.{q_some}
use Rattle.regev_code.specs.Products.{HasShape}
use Rattle.regev_code.proofs.Products.{zeros_shape}
use Rattle.regev_code.proofs.Sums.{sum-shape}

-- ---- ciphertexts summed up, row by row

-- The sum of the first `count` ciphertexts of a sequence, each of so many rows of N coefficients.
abbrev pub cipher_total : ℕ → ℕ → ℕ → (ℕ → Cipher) → Cipher
cipher_total N rows count f = map (λ i. ring_total q N count (λ r. row_of (f r) i)) (range_with_len 0 rows)

-- a sum of none is zeros
pub total_none : (N rows : ℕ) (f : ℕ → Cipher) (zeros : Cipher) → zeros ≡ replicate rows (replicate {A = ℕ} N 0) → zeros ≡ cipher_total N rows 0 f
total_none N rows f zeros is =
    is
    ∙ fill_by_all (λ i. ring_total q N 0 (λ r. row_of (f r) i)) (replicate rows (replicate {A = ℕ} N 0)) rows [] (length-replicate rows (replicate {A = ℕ} N 0))
    (λ i h. get_or-replicate rows i (replicate {A = ℕ} N 0) [] h ∙ zeros_ring q N q_some ∙ sym (ring_total_none q N (λ r. row_of (f r) i)))

-- one ciphertext more
pub total_more : (N rows count : ℕ) (f : ℕ → Cipher) (sum next new : Cipher) → sum ≡ cipher_total N rows count f → next ≡ f count → new ≡ cipher_add N sum next
    → new ≡ cipher_total N rows (count + 1) f
unfolding cipher_add
total_more N rows count f sum next new so_far is added =
    changed_each (λ i. ring_total q N count (λ r. row_of (f r) i)) (λ i. ring_total q N (count + 1) (λ r. row_of (f r) i))
    (λ i a. ring_add q N a (row_of next i)) rows [] sum new so_far added
    (λ i h.
    ap (λ (d : Cipher). ring_add q N (ring_total q N count (λ r. row_of (f r) i)) (row_of d i)) is
    ∙ sym (ring_total_more q N q_some count (λ r. row_of (f r) i)))

-- ---- one column

-- the number n that the keys' set holds is that of the set
pub same_n : {seen keys : SetKeys} {set : ParamSet} → seen ≡ keys → keys.set ≡ set → seen.set.n ≡ set.n
same_n view same = ap (λ (k : SetKeys). k.set.n) view ∙ ap (λ (s : ParamSet). s.n) same

-- an entry has the shape of all ciphertexts
pub entry_shape : (N m n r c : ℕ) (ciphers : List Cipher) (entry : Cipher) → n ≡ m → length ciphers ≡ m * m → r < n → c < m → All (HasShape N 2) ciphers
    → entry ≡ cipher_at ciphers (r * n + c) → HasShape N 2 entry
entry_shape N m n r c ciphers entry same size row column each read =
    let here : c < n = omega arith in
    let within : r * n + c < n * n = mul-add-lt r n c n row here in
    let count : length ciphers ≡ n * n = size ∙ ap (λ (k : ℕ). k * k) (sym same) in
    subst (HasShape N 2) (sym read) (each (r * n + c) [] (omega arith))

-- Entry (r, c) lifted into row r + 1.
abbrev pub entry_lift : ParamSet → List DigitKey → List Cipher → ℕ → ℕ → Cipher
entry_lift set lift ciphers c r = lift_row set lift (cipher_at ciphers (r * set.n + c)) (r + 1)

-- What the loop over a column's entries keeps: the sum of the first r lifts, room for one, and the set of the scratch.
pub record Sums (N : ℕ) (set : ParamSet) (lift : List DigitKey) (ciphers : List Cipher) (c r : ℕ) (sum room : Cipher) (scratch : ParamSet) : Type 0 where
  pub so_far : sum ≡ cipher_total N (set.n + 1) r (entry_lift set lift ciphers c)
  pub shape : HasShape N (set.n + 1) sum
  pub room_shape : HasShape N (set.n + 1) room
  pub kept : scratch ≡ set

-- none so far
pub sums_none : (N : ℕ) (set : ParamSet) (lift : List DigitKey) (ciphers : List Cipher) (c : ℕ) (sum room : Cipher) → N ≡ set.degree
    → sum ≡ replicate (set.n + 1) (replicate {A = ℕ} set.degree 0) → HasShape N (set.n + 1) room → Sums N set lift ciphers c 0 sum room set
sums_none N set lift ciphers c sum room degree zeros shape =
    let here : sum ≡ replicate (set.n + 1) (replicate {A = ℕ} N 0) = zeros ∙ ap (λ (n : ℕ). replicate (set.n + 1) (replicate {A = ℕ} n 0)) (sym degree) in
    record {
      so_far = total_none N (set.n + 1) (entry_lift set lift ciphers c) sum here;
      shape = zeros_shape N (set.n + 1) sum here;
      room_shape = shape;
      kept = refl;
    }

-- the length of row 0
pub row_degree : (N n : ℕ) (c : Cipher) → HasShape N (n + 1) c → length (row_of c 0) ≡ N
row_degree N n c shape = let count = shape.rows_count in shape.degree 0 [] (omega arith)

-- all rows of a ciphertext of the same shape are as long
pub same_degree : (N n : ℕ) (c d : Cipher) → HasShape N (n + 1) c → HasShape N (n + 1) d → All (λ a. length a ≡ length (row_of c 0)) d
same_degree N n c d first second k e h = second.degree k e h ∙ sym (row_degree N n c first)

-- one more
pub sums_more : (N : ℕ) (set : ParamSet) (lift : List DigitKey) (ciphers : List Cipher) (c r n : ℕ) (entry sum room next new : Cipher)
    (scratch after : ParamSet) → n ≡ set.n → Sums N set lift ciphers c r sum room scratch → entry ≡ cipher_at ciphers (r * n + c)
    → next ≡ lift_row scratch lift entry (r + 1) → HasShape N (scratch.n + 1) next → after ≡ scratch
    → new ≡ cipher_add (length (row_of sum 0)) sum next → Sums N set lift ciphers c (r + 1) new next after
sums_more N set lift ciphers c r n entry sum room next new scratch after count sums read worked shape kept added =
    let here : next ≡ entry_lift set lift ciphers c r =
    worked ∙ ap (λ (s : ParamSet). lift_row s lift entry (r + 1)) sums.kept
    ∙ ap (λ (e : Cipher). lift_row set lift e (r + 1)) (read ∙ ap (λ (m : ℕ). cipher_at ciphers (r * m + c)) count) in
    let total : new ≡ cipher_add N sum next = added ∙ ap (λ (m : ℕ). cipher_add m sum next) (row_degree N set.n sum sums.shape) in
    record {
      so_far = total_more N (set.n + 1) r (entry_lift set lift ciphers c) sum next new sums.so_far here total;
      shape = subst (HasShape N (set.n + 1)) (sym total) (sum-shape N (set.n + 1) sum next sums.shape.rows_count);
      room_shape = subst (λ (s : ParamSet). HasShape N (s.n + 1) next) sums.kept shape;
      kept = kept ∙ sums.kept;
    }

-- all of them
pub sums_all : (N : ℕ) (set : ParamSet) (lift : List DigitKey) (ciphers : List Cipher) (c n : ℕ) (sum : Cipher) → N ≡ set.degree → n ≡ set.n
    → sum ≡ cipher_total N (set.n + 1) n (entry_lift set lift ciphers c) → sum ≡ packed_column set lift ciphers c
unfolding packed_column packed_row
sums_all N set lift ciphers c n sum degree all so_far =
    so_far
    ∙ ap (λ (m : ℕ). cipher_total m (set.n + 1) n (entry_lift set lift ciphers c)) degree
    ∙ ap (λ (m : ℕ). cipher_total set.degree (set.n + 1) m (entry_lift set lift ciphers c)) all

-- ---- all columns

-- What the loop over the columns keeps: the first c columns, room for a lift, and the set of the scratch.
pub record Columns (N : ℕ) (set : ParamSet) (lift : List DigitKey) (ciphers : List Cipher) (c : ℕ) (columns : List Cipher) (room : Cipher)
    (scratch : ParamSet) : Type 0 where
  pub so_far : columns ≡ map (packed_column set lift ciphers) (range_with_len 0 c)
  pub shapes : All (HasShape N (set.n + 1)) columns
  pub room_shape : HasShape N (set.n + 1) room
  pub kept : scratch ≡ set

-- none so far
pub columns_none : (N : ℕ) (set seen : ParamSet) (lift : List DigitKey) (ciphers columns : List Cipher) (room : Cipher) → N ≡ set.degree
    → seen ≡ set → columns ≡ [] → room ≡ replicate (seen.n + 1) (replicate {A = ℕ} seen.degree 0) → Columns N set lift ciphers 0 columns room set
columns_none N set seen lift ciphers columns room degree same none zeros = record {
  so_far = none;
  shapes = All-same (HasShape N (set.n + 1)) columns [] none (All-nil (HasShape N (set.n + 1)));
  room_shape =
      subst (λ (n : ℕ). HasShape n (set.n + 1) room) (sym degree)
      (subst (λ (s : ParamSet). HasShape s.degree (s.n + 1) room) same (zeros_shape seen.degree (seen.n + 1) room zeros));
  kept = refl;
}

-- one more
pub columns_more : (N : ℕ) (set : ParamSet) (lift : List DigitKey) (ciphers : List Cipher) (c : ℕ) (columns new : List Cipher)
    (room next column : Cipher) (scratch after : ParamSet) → Columns N set lift ciphers c columns room scratch
    → column ≡ packed_column scratch lift ciphers c → HasShape N (scratch.n + 1) column → HasShape N (scratch.n + 1) next → after ≡ scratch
    → new ≡ columns ++ column ∷ [] → Columns N set lift ciphers (c + 1) new next after
columns_more N set lift ciphers c columns new room next column scratch after before worked shape room_shape kept pushed = record {
  so_far =
      pushed_more (packed_column set lift ciphers) 0 c c columns new column (omega arith) before.so_far pushed
      (worked ∙ ap (λ (s : ParamSet). packed_column s lift ciphers c) before.kept);
  shapes =
      All-same (HasShape N (set.n + 1)) new (columns ++ column ∷ []) pushed
      (All-push (HasShape N (set.n + 1)) columns column before.shapes (subst (λ (s : ParamSet). HasShape N (s.n + 1) column) before.kept shape));
  room_shape = subst (λ (s : ParamSet). HasShape N (s.n + 1) next) before.kept room_shape;
  kept = kept ∙ before.kept;
}

-- all of them
pub columns_all : (set : ParamSet) (lift : List DigitKey) (ciphers columns : List Cipher) (n : ℕ) → n ≡ set.n
    → columns ≡ map (packed_column set lift ciphers) (range_with_len 0 n) → columns ≡ packed set lift ciphers
unfolding packed
columns_all set lift ciphers columns n all so_far = so_far ∙ ap (λ (k : ℕ). map (packed_column set lift ciphers) (range_with_len 0 k)) all

-- how many they are
pub columns_many : (set : ParamSet) (lift : List DigitKey) (ciphers columns : List Cipher) (n : ℕ) → n ≡ set.n
    → columns ≡ map (packed_column set lift ciphers) (range_with_len 0 n) → length columns ≡ set.n
columns_many set lift ciphers columns n all so_far = ap length so_far ∙ length-map-range_with_len (packed_column set lift ciphers) 0 n ∙ all

-- What a server makes of a query: the query made ready, the first dimension, the fold, and the switched reply.
use Rattle.std.specs.Prelude.{ℕ, List, [], ◌∷◌, ◌+◌, ◌*◌, ◌/◌, ◌^◌, length, map, take, drop, if◌then◌else◌, Option, Some, None}
use Rattle.std.specs.List.{range_with_len, flat_map}
use Rattle.negacyclic.specs.Ring.{ring_mul, ring_total}
use Rattle.spiral_sets.specs.declared.param_set.ParamSet.{ParamSet}
use Rattle.spiral_sets.specs.Sets.{q, digit_count, rows, columns}
use Rattle.spiral_sets.specs.Counts.{firsts_count, gsw_count}
use Rattle.spiral_model.specs.Words.{Poly, Cipher, Gsw, Matrix, poly_of, row_of, cipher_at, matrix_at}
use Rattle.spiral_model.specs.Replies.{SwitchedReply, switched_body, switched_mask}
use Rattle.spiral_model.specs.Databases.{RecordTable, record_count, matrices_of}
use Rattle.spiral_model.specs.Gadgets.{selected}
use Rattle.spiral_model.specs.KeySwitching.{DigitKey}
use Rattle.spiral_model.specs.Keys.{SetKeys, lift_keys}
use Rattle.spiral_model.specs.Expansion.{left_side, right_side}
use Rattle.spiral_model.specs.Packing.{lift_matrix, translated, packed}

-- ---- the query made ready

-- A query as the server works with it: the ciphertexts of the first dimension by place, within a place by column, and the GSW
-- ciphertext of each selection, that of the highest bit first.
pub record Ready : Type 0 where
  pub firsts : List Cipher
  pub gsws : List Gsw

-- The parts of a direct set's query: the ciphertexts of the first dimension, then the columns of each selection.
abbrev pub firsts_of : ParamSet → List Cipher → List Cipher
firsts_of set ciphers = take (firsts_count set) ciphers

abbrev pub gsw_of : ParamSet → List Cipher → ℕ → Gsw
gsw_of set ciphers l = take (gsw_count set) (drop (firsts_count set + l * gsw_count set) ciphers)

unfoldable pub gsws_of : ParamSet → List Cipher → List Gsw
gsws_of set ciphers = map (gsw_of set ciphers) (range_with_len 0 set.nu2)

-- The first dimension of an expanded query: its left side, each ciphertext lifted into rows 1 to n but where the set packs.
unfoldable pub expanded_firsts : ParamSet → SetKeys → Cipher → List Cipher
expanded_firsts set keys c =
    if set.pack then left_side set.degree keys c else flat_map (lift_matrix set keys.lift) (left_side set.degree keys c)

-- The GSW ciphertext of selection l of an expanded query, translated from elements l t to l t + t - 1 of its right side.
unfoldable pub expanded_gsw : ParamSet → SetKeys → Cipher → ℕ → Gsw
expanded_gsw set keys c l = translated set keys (take (digit_count set.w_gsw) (drop (l * digit_count set.w_gsw) (right_side set.degree keys c)))

unfoldable pub expanded_gsws : ParamSet → SetKeys → Cipher → List Gsw
expanded_gsws set keys c = map (expanded_gsw set keys c) (range_with_len 0 set.nu2)

-- A query made ready: in a direct set the ciphertexts that were sent, else those that its one ciphertext expands to.
abbrev pub ready_by : ParamSet → Option SetKeys → List Cipher → Ready
ready_by set (Some keys) ciphers = record { firsts = expanded_firsts set keys (cipher_at ciphers 0); gsws = expanded_gsws set keys (cipher_at ciphers 0) }
ready_by set None ciphers = record { firsts = []; gsws = [] }

unfoldable pub ready_of : ParamSet → Option SetKeys → List Cipher → Ready
ready_of set keys ciphers =
    if set.direct then record { firsts = firsts_of set ciphers; gsws = gsws_of set ciphers } else ready_by set keys ciphers

-- ---- the first dimension

-- Row `row` of column c of the product of the m ciphertexts of place i, as columns, and a record's matrix: the sum over r below m of
-- ciphertext r times entry (r, c). Where the set packs there is one ciphertext a place, which multiplies each entry: then c counts
-- the entries, row by row.
unfoldable pub place_product : ParamSet → List Cipher → Matrix → ℕ → ℕ → ℕ → Poly
place_product set firsts matrix i c row =
    ring_total q set.degree (rows set) (λ r. ring_mul q set.degree (row_of (cipher_at firsts (i * rows set + r)) row) (poly_of matrix (r * set.n + c)))

-- Row `row` of column c of R_j, the first dimension at folded place j: the sum over all places i of C_i M, with C_i the ciphertexts of
-- place i and M the matrix of record j 2^nu1 + i.
unfoldable pub first_row : ParamSet → List Matrix → List Cipher → ℕ → ℕ → ℕ → Poly
first_row set matrices firsts j c row =
    ring_total q set.degree (2 ^ set.nu1) (λ i. place_product set firsts (matrix_at matrices (j * 2 ^ set.nu1 + i)) i c row)

-- Column c, from 0, of R_j.
unfoldable pub first_product : ParamSet → List Matrix → List Cipher → ℕ → ℕ → Cipher
first_product set matrices firsts j c = map (first_row set matrices firsts j c) (range_with_len 0 (rows set + 1))

-- all columns of R_j
unfoldable pub first_columns_of : ParamSet → List Matrix → List Cipher → ℕ → List Cipher
first_columns_of set matrices firsts j = map (first_product set matrices firsts j) (range_with_len 0 (columns set))

-- all of them: by folded place, within it by column
unfoldable pub first_products : ParamSet → List Matrix → List Cipher → List Cipher
first_products set matrices firsts = flat_map (first_columns_of set matrices firsts) (range_with_len 0 (2 ^ set.nu2))

-- ---- the fold

-- The ciphertext at place x of the lower half, selected against its partner in the upper half.
unfoldable pub fold_pair : ℕ → ℕ → Gsw → List Cipher → ℕ → Cipher
fold_pair N w gsw ciphers x = selected N w gsw (cipher_at ciphers x) (cipher_at ciphers (x + length ciphers / 2))

-- A step of the fold: the lower half of the ciphertexts, each selected so.
unfoldable pub fold_step : ℕ → ℕ → Gsw → List Cipher → List Cipher
fold_step N w gsw ciphers = map (fold_pair N w gsw ciphers) (range_with_len 0 (length ciphers / 2))

-- The fold: a step for each selection, that of the highest bit first.
unfoldable pub folded : ℕ → ℕ → List Gsw → List Cipher → List Cipher
folded N w [] ciphers = ciphers
folded N w (gsw ∷ gsws) ciphers = folded N w gsws (fold_step N w gsw ciphers)

-- ---- the reply

-- The columns of the result: what the fold leaves, packed with the lift keys where the set packs.
unfoldable pub result_columns : ParamSet → List DigitKey → List Cipher → List Cipher
result_columns set lift ciphers = if set.pack then packed set lift ciphers else ciphers

-- A query made ready, with these lift keys, worked out over a database.
unfoldable pub result_of : RecordTable → List DigitKey → Ready → List Cipher
result_of table lift ready =
    result_columns table.set lift
    (folded table.set.degree table.set.w_gsw ready.gsws (first_products table.set (matrices_of table) ready.firsts))

-- The reply of a result: its numbers switched to few bits.
unfoldable pub reply_of : RecordTable → List Cipher → SwitchedReply
reply_of table result = record {
  set = table.set;
  count = record_count table;
  record_length = table.record_length;
  body = switched_body table.set result;
  mask = switched_mask table.set result;
}

-- The answer of a database to a query made ready. The keys are looked at where the set packs.
unfoldable pub answer_of : RecordTable → Option SetKeys → Ready → SwitchedReply
answer_of table keys ready = reply_of table (result_of table (lift_keys keys) ready)

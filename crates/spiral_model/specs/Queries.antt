-- What a query's ciphertexts encrypt.
use Rattle.std.specs.Prelude.{ℕ, ℤ, List, ◌++◌, ◌+◌, ◌-◌, ◌*◌, ◌/◌, ◌%◌, ◌^◌, ◌==◌, map, nat_lt, if◌then◌else◌, pos, neg_ℤ}
use Rattle.std.specs.List.{range_with_len, flat_map}
use Rattle.negacyclic.specs.Ring.{reduced, ring_scale}
use Rattle.spiral_sets.specs.declared.param_set.ParamSet.{ParamSet}
use Rattle.spiral_sets.specs.Sets.{q, delta, digit_count, rho, rows}
use Rattle.spiral_model.specs.Words.{Poly, poly_of}
use Rattle.spiral_model.specs.Ciphertexts.{constant}

-- A record's index is j 2^nu1 + i: i is its place in the first dimension, j its folded place.
abbrev pub first_place : ParamSet → ℕ → ℕ
first_place set index = index % 2 ^ set.nu1

abbrev pub folded_place : ParamSet → ℕ → ℕ
folded_place set index = index / 2 ^ set.nu1

-- Selection bit l of a query: bit nu2 - 1 - l of its folded place, so the highest comes first.
abbrev pub selection_bit : ParamSet → ℕ → ℕ → ℕ
selection_bit set index l = folded_place set index / 2 ^ (set.nu2 - 1 - l) % 2

-- ---- the intended phases, in every set; a direct set's query encrypts them as they are

-- What row i has, where z stands in row r and 0 in the others.
unfoldable pub row_message : ParamSet → ℕ → ℤ → ℕ → Poly
row_message set r z i = constant set.degree (if i == r then z else pos 0)

-- z in row r and 0 in the others, for rows 1 to m
unfoldable pub in_row : ParamSet → ℕ → ℤ → List Poly
in_row set r z = map (row_message set r z) (range_with_len 1 (rows set))

-- The messages of the first-dimension ciphertext of place u and column r: Delta in row r where u is the asked place.
abbrev pub first_messages : ParamSet → ℕ → ℕ → ℕ → List Poly
first_messages set index u r = in_row set r (if u == first_place set index then pos (delta set) else pos 0)

-- What row i has in a GSW column of row r, for power bit 2^(w k): -s_i power for r = 0; else power where i is r.
unfoldable pub column_message : ℕ → List Poly → ℕ → ℕ → ℕ → Poly
column_message N secrets power r i =
    if r == 0 then ring_scale q N (neg_ℤ (pos power)) (poly_of secrets (i - 1)) else constant N (if i == r then pos power else pos 0)

-- The messages of column (r, k) of a GSW ciphertext of a bit, for rows 1 to m.
unfoldable pub gsw_messages : ParamSet → List Poly → ℕ → ℕ → ℕ → List Poly
gsw_messages set secrets bit r k = map (column_message set.degree secrets (bit * 2 ^ (set.w_gsw * k)) r) (range_with_len 1 (rows set))

-- The messages of the columns of row r, by k; and of all columns, by r from 0 to m.
unfoldable pub gsw_row_columns : ParamSet → List Poly → ℕ → ℕ → List (List Poly)
gsw_row_columns set secrets bit r = map (gsw_messages set secrets bit r) (range_with_len 0 (digit_count set.w_gsw))

unfoldable pub gsw_columns : ParamSet → List Poly → ℕ → List (List Poly)
gsw_columns set secrets bit = flat_map (gsw_row_columns set secrets bit) (range_with_len 0 (rows set + 1))

-- The messages of the first dimension's ciphertexts of place u, by column; and of a selection's columns.
unfoldable pub first_columns : ParamSet → ℕ → ℕ → List (List Poly)
first_columns set index u = map (first_messages set index u) (range_with_len 1 (rows set))

unfoldable pub selection_columns : ParamSet → List Poly → ℕ → ℕ → List (List Poly)
selection_columns set secrets index l = gsw_columns set secrets (selection_bit set index l)

-- The messages of a direct set's query, in order: those of the first dimension by place, then those of each selection.
unfoldable pub query_messages : ParamSet → List Poly → ℕ → List (List Poly)
query_messages set secrets index =
    flat_map (first_columns set index) (range_with_len 0 (2 ^ set.nu1)) ++ flat_map (selection_columns set secrets index) (range_with_len 0 set.nu2)

-- ---- the one message of a query that is expanded

-- x 2^-e modulo q: q is odd, so that (q + 1) / 2 is the inverse of 2
abbrev pub halved : ℕ → ℕ → ℕ
halved e x = x * ((q + 1) / 2) ^ e % q

-- The number that the selection side holds at odd place 2 x + 1: with x = l t + k, the digit's power 2^(w k) times bit l.
abbrev pub selection_number : ParamSet → ℕ → ℕ → ℕ
selection_number set index x =
    let t = digit_count set.w_gsw in
    if nat_lt (x / t) set.nu2 then 2 ^ (set.w_gsw * (x % t)) * selection_bit set index (x / t) else 0

-- Coefficient k. Place 2u holds Delta where u is the asked place of the first dimension; place 2 x + 1 holds the selection
-- side's number x. Each is halved once for each round that doubles it: 1 + nu1 and 1 + rho.
unfoldable pub query_number : ParamSet → ℕ → ℕ → ℕ
query_number set index k =
    if k % 2 == 0 then (if k / 2 == first_place set index then halved (1 + set.nu1) (delta set) else 0)
    else halved (1 + rho set) (selection_number set index (k / 2))

-- the message as a polynomial
unfoldable pub query_poly : ParamSet → ℕ → Poly
query_poly set index = reduced q set.degree (λ k. pos (query_number set index k))

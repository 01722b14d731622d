-- The messages of a query's ciphertexts: what rows encrypt, and the lists of them, part by part.
use Rattle.std.proofs.Common.{◌≡◌, ℕ, ◌*◌, ◌==◌, if◌then◌else◌, true, pos, List, length, map, All, sym, ◌∙◌, ap, subst}
use Rattle.std.specs.List.{range_with_len, flat_map}
use Rattle.std.proofs.lemmas.List.Elements.{All-map}
use Rattle.std.proofs.lemmas.List.FromFn.{length-map-range_with_len}
use Rattle.spiral_sets.specs.declared.param_set.ParamSet.{ParamSet}
use Rattle.spiral_sets.specs.Sets.{delta, places, rows}
use Rattle.spiral_sets.specs.Counts.{firsts_count, gsw_count, ciphertext_count, query_ciphertexts}
use Rattle.spiral_model.specs.Words.{Poly}
use Rattle.spiral_model.specs.Queries.{first_place, row_message, in_row, first_messages, first_columns, selection_bit, selection_columns, query_messages}
use Rattle.regev_code.proofs.MessageLists.{AreLists, lists-append, lists-pieces}
use Rattle.gsw_code.proofs.ColumnMessages.{length-constant}
use Rattle.gsw_code.proofs.Columns.{gsw-lists}
use Rattle.pir_client.proofs.SetNumbers.{query_count-is}

-- ---- the messages of one ciphertext

-- what all rows encrypt
pub in_row-all : (set : ParamSet) (index u r m : ℕ) (worked : List Poly) → m ≡ rows set
    → worked ≡ map (row_message set r (if u == first_place set index then pos (delta set) else pos 0)) (range_with_len 1 m)
    → worked ≡ first_messages set index u r
unfolding in_row
in_row-all set index u r m worked all is =
    is ∙ ap (λ (n : ℕ). map (row_message set r (if u == first_place set index then pos (delta set) else pos 0)) (range_with_len 1 n)) all

pub length-first_messages : (set : ParamSet) (index u r : ℕ) → length (first_messages set index u r) ≡ rows set
unfolding in_row
length-first_messages set index u r =
    length-map-range_with_len (row_message set r (if u == first_place set index then pos (delta set) else pos 0)) 1 (rows set)

pub first_messages-degree : (set : ParamSet) (index u r : ℕ) → All (λ a. length a ≡ set.degree) (first_messages set index u r)
unfolding in_row row_message
first_messages-degree set index u r =
    All-map (λ (a : Poly). length a ≡ set.degree) (row_message set r (if u == first_place set index then pos (delta set) else pos 0))
    (range_with_len 1 (rows set))
    (λ k d h. length-constant set.degree _)

-- ---- lists of messages

-- those of a function of the place, from any place on
pub lists-from : (m a n : ℕ) (f : ℕ → List Poly) → ((i : ℕ) → length (f i) ≡ m) → AreLists m n (map f (range_with_len a n))
lists-from m a n f each = record {
  many = length-map-range_with_len f a n;
  each = All-map (λ (x : List Poly). length x ≡ m) f (range_with_len a n) (λ k d h. each _);
}

-- the columns of a place
pub columns-lists : (set : ParamSet) (index u : ℕ) → AreLists (rows set) (rows set) (first_columns set index u)
unfolding first_columns
columns-lists set index u = lists-from (rows set) 1 (rows set) (first_messages set index u) (length-first_messages set index u)

-- the columns of a selection
pub selection-lists : (set : ParamSet) (secrets : List Poly) (index l : ℕ) → AreLists (rows set) (gsw_count set) (selection_columns set secrets index l)
unfolding selection_columns
selection-lists set secrets index l = gsw-lists set secrets (selection_bit set index l)

-- those of the first dimension
pub firsts-lists : (set : ParamSet) (index : ℕ) → AreLists (rows set) (firsts_count set) (flat_map (first_columns set index) (range_with_len 0 (places set)))
firsts-lists set index = lists-pieces (rows set) (rows set) (places set) (first_columns set index) (λ u h. columns-lists set index u)

-- all messages of a query
pub query-lists : (set : ParamSet) (secrets : List Poly) (index : ℕ) → set.direct ≡ true
    → AreLists (rows set) (ciphertext_count (query_ciphertexts set)) (query_messages set secrets index)
unfolding query_messages
query-lists set secrets index direct =
    subst (λ (n : ℕ). AreLists (rows set) n (query_messages set secrets index)) (sym (query_count-is set direct))
    (lists-append (rows set) (firsts_count set) (set.nu2 * gsw_count set) (flat_map (first_columns set index) (range_with_len 0 (places set)))
    (flat_map (selection_columns set secrets index) (range_with_len 0 set.nu2)) (firsts-lists set index)
    (lists-pieces (rows set) (gsw_count set) set.nu2 (selection_columns set secrets index) (λ l h. selection-lists set secrets index l)))

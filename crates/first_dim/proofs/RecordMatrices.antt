-- The matrices of records, entry by entry.
use Rattle.std.proofs.Common.{◌≡◌, ℕ, ◌<◌, List, length, get_or, map, sym, ◌∙◌, ap, subst}
use Rattle.std.specs.List.{range_with_len}
use Rattle.std.proofs.lemmas.List.FromFn.{length-map-range_with_len}
use Rattle.negacyclic.specs.Ring.{reduced}
use Rattle.negacyclic.proofs.Lists.{all_range}
use Rattle.negacyclic.proofs.Stands.{length-reduced, reduced_same}
use Rattle.spiral_sets.specs.declared.param_set.ParamSet.{ParamSet}
use Rattle.spiral_model.specs.Sets.{IsSet, q, p, entries, max_records}
use Rattle.spiral_model.specs.Words.{Poly, Matrix}
use Rattle.spiral_model.specs.Records.{entry_of, centred_value, centred_at}
use Rattle.spiral_model.specs.Databases.{RecordTable, values_at, matrix_entry, matrix_of, matrices_of}
use Rattle.first_dim.specs.Preparations.{IsMatrix, AreMatrices}

-- ---- entries, matrices and all matrices

-- an entry from its values
pub entry_is : (table : RecordTable) (i e N modulus : ℕ) (values a : Poly) → modulus ≡ p table.set → N ≡ table.set.degree
    → ((k : ℕ) → k < table.set.degree → get_or values k 0 ≡ get_or (entry_of table.set (values_at table i) e) k 0)
    → a ≡ reduced q N (λ k. centred_value modulus (get_or values k 0)) → a ≡ matrix_entry table i e
unfolding matrix_entry
entry_is table i e N modulus values a modulus_is degree read is =
    is
    ∙ ap (λ (m : ℕ). reduced q N (λ k. centred_value m (get_or values k 0))) modulus_is
    ∙ ap (λ (d : ℕ). reduced q d (λ k. centred_value (p table.set) (get_or values k 0))) degree
    ∙ reduced_same q table.set.degree (λ k. centred_value (p table.set) (get_or values k 0)) (λ k. centred_at table.set (values_at table i) e k)
    (λ k h. ap (centred_value (p table.set)) (read k h))

-- all entries of a matrix
pub matrix_done : (table : RecordTable) (i k : ℕ) (items : List Poly) → k ≡ entries table.set → items ≡ map (matrix_entry table i) (range_with_len 0 k)
    → items ≡ matrix_of table i
unfolding matrix_of
matrix_done table i k items all is = is ∙ ap (λ (n : ℕ). map (matrix_entry table i) (range_with_len 0 n)) all

-- the matrices of all records
pub matrices_done : (table : RecordTable) (k : ℕ) (items : List Matrix) → k ≡ max_records table.set → items ≡ map (matrix_of table) (range_with_len 0 k)
    → items ≡ matrices_of table
unfolding matrices_of
matrices_done table k items all is = is ∙ ap (λ (n : ℕ). map (matrix_of table) (range_with_len 0 n)) all

-- ---- shapes

length-matrix_entry : (table : RecordTable) (i e : ℕ) → length (matrix_entry table i e) ≡ table.set.degree
unfolding matrix_entry
length-matrix_entry table i e = length-reduced q table.set.degree (λ k. centred_at table.set (values_at table i) e k)

matrix_shape : (table : RecordTable) (i : ℕ) → IsMatrix table.set (matrix_of table i)
unfolding matrix_of
matrix_shape table i = record {
  count = length-map-range_with_len (matrix_entry table i) 0 (entries table.set);
  degree = all_range (λ (a : Poly). length a ≡ table.set.degree) (matrix_entry table i) (entries table.set) (λ e h. length-matrix_entry table i e);
}

matrices_shape : (table : RecordTable) → IsSet table.set → AreMatrices table.set (matrices_of table)
unfolding matrices_of
matrices_shape table is = record {
  known = is;
  count = length-map-range_with_len (matrix_of table) 0 (max_records table.set);
  each = all_range (IsMatrix table.set) (matrix_of table) (max_records table.set) (λ i h. matrix_shape table i);
}

pub prepared_shape : (table : RecordTable) (set : ParamSet) (items : List Matrix) → set ≡ table.set → IsSet set → items ≡ matrices_of table → AreMatrices set items
prepared_shape table set items same known is =
    subst (λ (s : ParamSet). AreMatrices s items) (sym same)
    (subst (AreMatrices table.set) (sym is) (matrices_shape table (subst IsSet same known)))

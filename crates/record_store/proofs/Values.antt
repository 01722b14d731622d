-- The values of a record, place by place.
use Rattle.std.proofs.Common.{◌≡◌, ℕ, ◌+◌, ◌*◌, ◌<◌, ◌≤◌, List, [], length, get_or, take, drop, ap, ◌∙◌, arith, pow_pos}
use Rattle.std.proofs.lemmas.List.{get_or-take, get_or-drop, drop_all, take_all}
use Rattle.std.proofs.Math.Nat.{mul-le-mul_right}
use Rattle.negacyclic.specs.Digits.{digit, number_of}
use Rattle.negacyclic.proofs.Digits.{get_or-repacked, digit-below, digit-of_zero, number_of-nil}
use Rattle.spiral_sets.specs.declared.param_set.ParamSet.{ParamSet}
use Rattle.spiral_model.specs.Sets.{entries, values_count, p}
use Rattle.spiral_model.specs.Records.{values_of, entry_of}
use Rattle.spiral_model.specs.Databases.{RecordTable, IsTable, record_count, record_at}

module _ (set : ParamSet) (entry place : ℕ) (low : entry < entries set) (within : place < set.degree) where
  in_values : entry * set.degree + place < values_count set
  in_values = let rows : (entry + 1) * set.degree ≤ entries set * set.degree = mul-le-mul_right set.degree (omega arith) in omega arith

  pub value_is : (bytes : List ℕ) → get_or (entry_of set (values_of set bytes) entry) place 0 ≡ digit (p set) (entry * set.degree + place) (number_of 256 bytes)
  value_is bytes =
      get_or-take set.degree (drop (entry * set.degree) (values_of set bytes)) place 0 within
      ∙ get_or-drop (entry * set.degree) (values_of set bytes) place 0
      ∙ get_or-repacked 8 set.p_bits (values_count set) bytes (entry * set.degree + place) 0 in_values

  pub value_of_none : get_or (entry_of set (values_of set []) entry) place 0 ≡ 0
  value_of_none =
      value_is [] ∙ ap (digit (p set) (entry * set.degree + place)) (number_of-nil 256) ∙ digit-of_zero (p set) (entry * set.degree + place)

pub value_below : (set : ParamSet) (index x : ℕ) → digit (p set) index x < p set
value_below set index x = digit-below (p set) index x (pow_pos set.p_bits)

take_none : (k : ℕ) (xs : List ℕ) → xs ≡ [] → take k xs ≡ []
take_none k xs none = let few : length xs ≤ k = rw none (omega arith) in take_all k xs few ∙ none

-- no bytes where there is no such record
pub no_record : (table : RecordTable) (i : ℕ) → IsTable table → record_count table ≤ i → record_at table i ≡ []
no_record table i is past =
    let le : record_count table * table.record_length ≤ i * table.record_length = mul-le-mul_right table.record_length past in
    take_none table.record_length (drop (i * table.record_length) table.bytes) (drop_all (i * table.record_length) table.bytes (omega (arith, is.whole)))

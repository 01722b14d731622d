-- Bounds that the numbers of every set keep.
use Rattle.std.proofs.Common.{◌≡◌, ℕ, ◌*◌, ◌^◌, ◌≤◌, ◌⊎◌, Bool, true, leb, eqb, refl, leb-true, eqb-true, inl, inr}
use Rattle.std.specs.List.{AllByRecursion}
use Rattle.spiral_sets.specs.declared.param_set.ParamSet.{ParamSet}
use Rattle.spiral_sets.specs.declared.sets.TheConstants.{SETS}
use Rattle.spiral_sets.specs.Sets.{IsSet, p, q1, q2, q1_bits, entries, values_count, max_records, capacity}
use Rattle.spiral_sets.specs.Counts.{packed_len}
use Rattle.spiral_sets.proofs.EachSet.{each_set}

-- what each row of the table passes, every set passes
abbrev each_passes : (ParamSet → Bool) → Type 0
each_passes test = AllByRecursion (λ set. test set ≡ true) SETS

pub passes : (test : ParamSet → Bool) → each_passes test → (set : ParamSet) → IsSet set → test set ≡ true
passes test all = each_set (λ set. test set ≡ true) all

pub at_most : (f : ParamSet → ℕ) (bound : ℕ) → each_passes (λ set. leb (f set) bound) → (set : ParamSet) → IsSet set → f set ≤ bound
at_most f bound all set is = leb-true (f set) bound (passes (λ set. leb (f set) bound) all set is)

pub at_least : (f : ParamSet → ℕ) (bound : ℕ) → each_passes (λ set. leb bound (f set)) → (set : ParamSet) → IsSet set → bound ≤ f set
at_least f bound all set is = leb-true bound (f set) (passes (λ set. leb bound (f set)) all set is)

pub same : (f g : ParamSet → ℕ) → each_passes (λ set. eqb (f set) (g set)) → (set : ParamSet) → IsSet set → f set ≡ g set
same f g all set is = eqb-true (f set) (g set) (passes (λ set. eqb (f set) (g set)) all set is)

-- the degree N
pub degree-some : (set : ParamSet) → IsSet set → 256 ≤ set.degree
degree-some = at_least (λ set. set.degree) 256 (refl, (refl, (refl, (refl, (refl, (refl, (refl, (refl, (refl, (refl, tt))))))))))

pub degree-most : (set : ParamSet) → IsSet set → set.degree ≤ 2048
degree-most = at_most (λ set. set.degree) 2048 (refl, (refl, (refl, (refl, (refl, (refl, (refl, (refl, (refl, (refl, tt))))))))))

pub degree_cases : (set : ParamSet) → IsSet set → (set.degree ≡ 256) ⊎ (set.degree ≡ 2048)
degree_cases = each_set (λ set. (set.degree ≡ 256) ⊎ (set.degree ≡ 2048)) (inl refl, (inl refl, (inl refl, (inl refl, (inl refl, (inr refl, (inr refl, (inr refl, (inr refl, (inr refl, tt))))))))))

-- a record's matrix is n times n
pub n-some : (set : ParamSet) → IsSet set → 2 ≤ set.n
n-some = at_least (λ set. set.n) 2 (refl, (refl, (refl, (refl, (refl, (refl, (refl, (refl, (refl, (refl, tt))))))))))

pub n-most : (set : ParamSet) → IsSet set → set.n ≤ 4
n-most = at_most (λ set. set.n) 4 (refl, (refl, (refl, (refl, (refl, (refl, (refl, (refl, (refl, (refl, tt))))))))))

pub entries-most : (set : ParamSet) → IsSet set → entries set ≤ 16
entries-most = at_most (λ set. entries set) 16 (refl, (refl, (refl, (refl, (refl, (refl, (refl, (refl, (refl, (refl, tt))))))))))

-- the widths of a value and of a reply's numbers, and their moduli
pub p_bits-some : (set : ParamSet) → IsSet set → 2 ≤ set.p_bits
p_bits-some = at_least (λ set. set.p_bits) 2 (refl, (refl, (refl, (refl, (refl, (refl, (refl, (refl, (refl, (refl, tt))))))))))

pub p_bits-most : (set : ParamSet) → IsSet set → set.p_bits ≤ 15
p_bits-most = at_most (λ set. set.p_bits) 15 (refl, (refl, (refl, (refl, (refl, (refl, (refl, (refl, (refl, (refl, tt))))))))))

pub q1_bits-most : (set : ParamSet) → IsSet set → q1_bits set ≤ 17
q1_bits-most = at_most (λ set. q1_bits set) 17 (refl, (refl, (refl, (refl, (refl, (refl, (refl, (refl, (refl, (refl, tt))))))))))

pub q2_bits-some : (set : ParamSet) → IsSet set → 12 ≤ set.q2_bits
q2_bits-some = at_least (λ set. set.q2_bits) 12 (refl, (refl, (refl, (refl, (refl, (refl, (refl, (refl, (refl, (refl, tt))))))))))

pub q2_bits-most : (set : ParamSet) → IsSet set → set.q2_bits ≤ 30
q2_bits-most = at_most (λ set. set.q2_bits) 30 (refl, (refl, (refl, (refl, (refl, (refl, (refl, (refl, (refl, (refl, tt))))))))))

pub p-most : (set : ParamSet) → IsSet set → p set ≤ 2 ^ 15
p-most = at_most (λ set. p set) (2 ^ 15) (refl, (refl, (refl, (refl, (refl, (refl, (refl, (refl, (refl, (refl, tt))))))))))

pub q1-most : (set : ParamSet) → IsSet set → q1 set ≤ 2 ^ 17
q1-most = at_most (λ set. q1 set) (2 ^ 17) (refl, (refl, (refl, (refl, (refl, (refl, (refl, (refl, (refl, (refl, tt))))))))))

pub q2-most : (set : ParamSet) → IsSet set → q2 set ≤ 2 ^ 30
q2-most = at_most (λ set. q2 set) (2 ^ 30) (refl, (refl, (refl, (refl, (refl, (refl, (refl, (refl, (refl, (refl, tt))))))))))

pub q1-fourfold : (set : ParamSet) → IsSet set → q1 set ≡ 4 * p set
q1-fourfold = same (λ set. q1 set) (λ set. 4 * p set) (refl, (refl, (refl, (refl, (refl, (refl, (refl, (refl, (refl, (refl, tt))))))))))

-- the dimensions of the database
pub nu1-most : (set : ParamSet) → IsSet set → set.nu1 ≤ 8
nu1-most = at_most (λ set. set.nu1) 8 (refl, (refl, (refl, (refl, (refl, (refl, (refl, (refl, (refl, (refl, tt))))))))))

pub nu2-most : (set : ParamSet) → IsSet set → set.nu2 ≤ 4
nu2-most = at_most (λ set. set.nu2) 4 (refl, (refl, (refl, (refl, (refl, (refl, (refl, (refl, (refl, (refl, tt))))))))))

pub max_records-most : (set : ParamSet) → IsSet set → max_records set ≤ 4096
max_records-most = at_most (λ set. max_records set) 4096 (refl, (refl, (refl, (refl, (refl, (refl, (refl, (refl, (refl, (refl, tt))))))))))

-- what a record holds
pub values_count-most : (set : ParamSet) → IsSet set → values_count set ≤ 32768
values_count-most = at_most (λ set. values_count set) 32768 (refl, (refl, (refl, (refl, (refl, (refl, (refl, (refl, (refl, (refl, tt))))))))))

pub capacity-some : (set : ParamSet) → IsSet set → 256 ≤ capacity set
capacity-some = at_least (λ set. capacity set) 256 (refl, (refl, (refl, (refl, (refl, (refl, (refl, (refl, (refl, (refl, tt))))))))))

pub capacity-most : (set : ParamSet) → IsSet set → capacity set ≤ 49152
capacity-most = at_most (λ set. capacity set) 49152 (refl, (refl, (refl, (refl, (refl, (refl, (refl, (refl, (refl, (refl, tt))))))))))

-- the values fill whole bytes
pub capacity-whole : (set : ParamSet) → IsSet set → 8 * capacity set ≡ values_count set * set.p_bits
capacity-whole = same (λ set. 8 * capacity set) (λ set. values_count set * set.p_bits) (refl, (refl, (refl, (refl, (refl, (refl, (refl, (refl, (refl, (refl, tt))))))))))

-- a reply's polynomial fills whole bytes, at either width
pub packed_len-q1 : (set : ParamSet) → IsSet set → 8 * packed_len set (q1_bits set) ≡ set.degree * q1_bits set
packed_len-q1 = same (λ set. 8 * packed_len set (q1_bits set)) (λ set. set.degree * q1_bits set) (refl, (refl, (refl, (refl, (refl, (refl, (refl, (refl, (refl, (refl, tt))))))))))

pub packed_len-q2 : (set : ParamSet) → IsSet set → 8 * packed_len set set.q2_bits ≡ set.degree * set.q2_bits
packed_len-q2 = same (λ set. 8 * packed_len set set.q2_bits) (λ set. set.degree * set.q2_bits) (refl, (refl, (refl, (refl, (refl, (refl, (refl, (refl, (refl, (refl, tt))))))))))

-- The bounds that are linear in the dimensions, in one record that `omega` reads: `let sizes = set_sizes set is in omega arith`.
pub record Sizes (set : ParamSet) : Type 0 where
  pub degree_some : 256 ≤ set.degree
  pub degree_most : set.degree ≤ 2048
  pub n_some : 2 ≤ set.n
  pub n_most : set.n ≤ 4
  pub p_bits_some : 2 ≤ set.p_bits
  pub p_bits_most : set.p_bits ≤ 15
  pub q2_bits_some : 12 ≤ set.q2_bits
  pub q2_bits_most : set.q2_bits ≤ 30
  pub entries_most : entries set ≤ 16
  pub values_count_most : values_count set ≤ 32768
  pub max_records_most : max_records set ≤ 4096
  pub capacity_most : capacity set ≤ 49152

pub set_sizes : (set : ParamSet) → IsSet set → Sizes set
set_sizes set is = record {
  degree_some = degree-some set is;
  degree_most = degree-most set is;
  n_some = n-some set is;
  n_most = n-most set is;
  p_bits_some = p_bits-some set is;
  p_bits_most = p_bits-most set is;
  q2_bits_some = q2_bits-some set is;
  q2_bits_most = q2_bits-most set is;
  entries_most = entries-most set is;
  values_count_most = values_count-most set is;
  max_records_most = max_records-most set is;
  capacity_most = capacity-most set is;
}

-- The parameter sets and the numbers derived from their dimensions.
use Rattle.std.specs.Prelude.{ℕ, Bool, List, [], ◌∷◌, ◌+◌, ◌-◌, ◌*◌, ◌/◌, ◌^◌, ◌||◌, not, nat_le, nat_eq, if◌then◌else◌, slice_index_or, Option, Some, None, codes}
use Rattle.std.proofs.Common.{zero, suc}
use Rattle.std.specs.List.{Contains}
use lib.Pointwise.{pointwise}
use Rattle.spiral_sets.specs.declared.param_set.ParamSet.{ParamSet}
use Rattle.spiral_sets.specs.declared.sets.TheConstants.{SETS}

-- one of the ten sets
abbrev pub IsSet : ParamSet → Type 0
IsSet set = Contains SETS set

-- The names, in the order of the ids.
abbrev pub names : List (List ℕ)
names = codes "tiny-spiral" ∷ codes "tiny-pack" ∷ codes "tiny-stream" ∷ codes "tiny-streampack" ∷ codes "edge-256" ∷ codes "spiral-2048" ∷ codes "pack-2048" ∷ codes "stream-2048" ∷ codes "streampack-2048" ∷ codes "big-2048" ∷ []

abbrev pub name_of : ParamSet → List ℕ
name_of set = slice_index_or names set.id []

-- the first set whose name it is
abbrev pub named_among : List ℕ → List (List ℕ) → List ParamSet → Option ParamSet
named_among name (other ∷ others) (set ∷ sets) = if pointwise nat_eq name other then Some set else named_among name others sets
named_among name [] sets = None
named_among name (other ∷ others) [] = None

-- the set of a name
abbrev pub set_of : List ℕ → Option ParamSet
set_of name = named_among name names SETS

-- q, the modulus of the ring: 268369921 * 249561089
unfoldable pub q : ℕ
q = 66974689739603969

-- p, the modulus of a record's values
abbrev pub p : ParamSet → ℕ
p set = 2 ^ set.p_bits

-- The moduli of a reply's numbers: q1 = 4p in rows 1 to n, q2 in row 0; and their widths in bits.
abbrev pub q1_bits : ParamSet → ℕ
q1_bits set = set.p_bits + 2

abbrev pub q1 : ParamSet → ℕ
q1 set = 2 ^ q1_bits set

abbrev pub q2 : ParamSet → ℕ
q2 set = 2 ^ set.q2_bits

-- Delta, what a value is scaled by in a ciphertext: floor (q / p)
abbrev pub delta : ParamSet → ℕ
delta set = q / p set

-- t, how many digits of w bits a residue has: ceil (56 / w)
abbrev pub digit_count : ℕ → ℕ
digit_count w = (56 + w - 1) / w

-- the least k from `start` on, tried at most `turns` times, with x ≤ 2^k
abbrev pub exponent_from : ℕ → ℕ → ℕ → ℕ
exponent_from zero start x = start
exponent_from (suc turns) start x = if nat_le x (2 ^ start) then start else exponent_from turns (start + 1) x

-- rho, the rounds of the expansion's selection side: the least number with 2^rho ≥ t nu2 bits to expand
abbrev pub rho : ParamSet → ℕ
rho set = exponent_from 16 0 (digit_count set.w_gsw * set.nu2)

-- m, the rows below row 0 of first-dimension and GSW ciphertexts
abbrev pub rows : ParamSet → ℕ
rows set = if set.pack then 1 else set.n

-- how many ciphertexts a folded place has
abbrev pub columns : ParamSet → ℕ
columns set = if set.pack then set.n * set.n else set.n

-- whether the client sends keys; exactly then it has the scalar secret
abbrev pub has_keys : ParamSet → Bool
has_keys set = not set.direct || set.pack

-- how many entries a record's matrix has
abbrev pub entries : ParamSet → ℕ
entries set = set.n * set.n

-- how many values a record has
abbrev pub values_count : ParamSet → ℕ
values_count set = entries set * set.degree

-- how many records a database has at most
abbrev pub max_records : ParamSet → ℕ
max_records set = 2 ^ (set.nu1 + set.nu2)

-- how many bytes a record has at most
abbrev pub capacity : ParamSet → ℕ
capacity set = values_count set * set.p_bits / 8

-- the places of the first dimension, and the folded ones
abbrev pub places : ParamSet → ℕ
places set = 2 ^ set.nu1

abbrev pub folded_places : ParamSet → ℕ
folded_places set = 2 ^ set.nu2

-- The least width of a set's digits, so that with the most digits: a direct set has the width of its GSW ciphertexts and at most a
-- wider one of its lift keys; the others' narrowest keys are those of the selection side.
abbrev pub smallest_width : ParamSet → ℕ
smallest_width set = if set.direct then set.w_gsw else set.w_right

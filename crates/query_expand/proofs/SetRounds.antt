-- The rounds of expansion of a set: how many there are, that they fit the degree, and that they have their keys.
use Rattle.std.proofs.Common.{◌≡◌, ℕ, ◌+◌, ◌*◌, ◌^◌, ◌≤◌, Bool, false, if◌then◌else◌, List, length, All, leb, leb-true, refl, sym, ◌∙◌, ap, subst}
use Rattle.spiral_sets.specs.declared.param_set.ParamSet.{ParamSet}
use Rattle.spiral_sets.specs.Sets.{IsSet, digit_count, rho}
use Rattle.spiral_sets.proofs.SetBounds.{passes}
use Rattle.spiral_model.specs.KeySwitching.{DigitKey}
use Rattle.spiral_model.specs.Keys.{SetKeys}
use Rattle.regev_code.specs.KeyShapes.{IsKeyOf, AreSetKeys}
use Rattle.regev_code.proofs.KeyWidths.{round0_keys_of, left_keys_of, right_keys_of}

-- ---- the numbers of the table

-- round 0,
first_fits : (set : ParamSet) → IsSet set → 2 ^ (0 + 1) ≤ set.degree
first_fits set is =
    leb-true (2 ^ (0 + 1)) set.degree
    (passes (λ s. leb (2 ^ (0 + 1)) s.degree) (refl, (refl, (refl, (refl, (refl, (refl, (refl, (refl, (refl, (refl, tt)))))))))) set is)

-- the left rounds and the right ones each halve what the degree holds, and leave something
left_fits : (set : ParamSet) → IsSet set → 2 ^ (1 + set.nu1) ≤ set.degree
left_fits set is =
    leb-true (2 ^ (1 + set.nu1)) set.degree
    (passes (λ s. leb (2 ^ (1 + s.nu1)) s.degree) (refl, (refl, (refl, (refl, (refl, (refl, (refl, (refl, (refl, (refl, tt)))))))))) set is)

right_fits : (set : ParamSet) → IsSet set → 2 ^ (1 + rho set) ≤ set.degree
right_fits set is =
    leb-true (2 ^ (1 + rho set)) set.degree
    (passes (λ s. leb (2 ^ (1 + rho s)) s.degree) (refl, (refl, (refl, (refl, (refl, (refl, (refl, (refl, (refl, (refl, tt)))))))))) set is)

-- the right side has a ciphertext for each digit of each selection's bit
pub digits_enough : (set : ParamSet) → IsSet set → digit_count set.w_gsw * set.nu2 ≤ 2 ^ rho set
digits_enough set is =
    leb-true (digit_count set.w_gsw * set.nu2) (2 ^ rho set)
    (passes (λ s. leb (digit_count s.w_gsw * s.nu2) (2 ^ rho s)) (refl, (refl, (refl, (refl, (refl, (refl, (refl, (refl, (refl, (refl, tt)))))))))) set is)

-- ---- the rounds with their keys

-- These are `count` rounds from `first` on, which degree N has room for, with keys of the set.
pub record AreRounds (N : ℕ) (set : ParamSet) (first count : ℕ) (rounds : List DigitKey) : Type 0 where
  pub many : length rounds ≡ count
  pub fit : 2 ^ (first + length rounds) ≤ N
  pub keys : All (IsKeyOf set 1) rounds

rounds_are : (set : ParamSet) (N first count kept : ℕ) (rounds : List DigitKey) → N ≡ set.degree → 2 ^ (first + count) ≤ set.degree → length rounds ≡ kept
    → kept ≡ count → All (IsKeyOf set 1) rounds → AreRounds N set first count rounds
rounds_are set N first count kept rounds degree fits all same keys =
    let many : length rounds ≡ count = all ∙ same in
    record {
      many = many;
      fit = subst (λ (n : ℕ). 2 ^ (first + length rounds) ≤ n) (sym degree) (subst (λ (k : ℕ). 2 ^ (first + k) ≤ set.degree) (sym many) fits);
      keys = keys;
    }

chosen : (b : Bool) (count : ℕ) → b ≡ false → (if b then 0 else count) ≡ count
chosen b count e = ap (λ (x : Bool). if x then 0 else count) e

first_of : (N : ℕ) (keys : SetKeys) → N ≡ keys.set.degree → keys.set.direct ≡ false → AreSetKeys keys → AreRounds N keys.set 0 1 keys.round0
first_of N keys degree expanding are =
    rounds_are keys.set N 0 1 (if keys.set.direct then 0 else 1) keys.round0 degree (first_fits keys.set are.known) are.round0.many
    (chosen keys.set.direct 1 expanding)
    (round0_keys_of keys are)

left_of : (N : ℕ) (keys : SetKeys) → N ≡ keys.set.degree → keys.set.direct ≡ false → AreSetKeys keys → AreRounds N keys.set 1 keys.set.nu1 keys.left
left_of N keys degree expanding are =
    rounds_are keys.set N 1 keys.set.nu1 (if keys.set.direct then 0 else keys.set.nu1) keys.left degree (left_fits keys.set are.known) are.left.many
    (chosen keys.set.direct keys.set.nu1 expanding) (left_keys_of keys are)

right_of : (N : ℕ) (keys : SetKeys) → N ≡ keys.set.degree → keys.set.direct ≡ false → AreSetKeys keys → AreRounds N keys.set 1 (rho keys.set) keys.right
right_of N keys degree expanding are =
    rounds_are keys.set N 1 (rho keys.set) (if keys.set.direct then 0 else rho keys.set) keys.right degree (right_fits keys.set are.known) are.right.many
    (chosen keys.set.direct (rho keys.set) expanding) (right_keys_of keys are)

-- the same where the set is known by an equation
first_rounds : (N : ℕ) (set : ParamSet) (keys : SetKeys) → N ≡ set.degree → keys.set ≡ set → set.direct ≡ false → AreSetKeys keys
    → AreRounds N set 0 1 keys.round0
first_rounds N set keys degree same expanding are =
    subst (λ (s : ParamSet). AreRounds N s 0 1 keys.round0) same
    (first_of N keys (degree ∙ ap (λ (s : ParamSet). s.degree) (sym same)) (ap (λ (s : ParamSet). s.direct) same ∙ expanding) are)

left_rounds : (N : ℕ) (set : ParamSet) (keys : SetKeys) → N ≡ set.degree → keys.set ≡ set → set.direct ≡ false → AreSetKeys keys
    → AreRounds N set 1 set.nu1 keys.left
left_rounds N set keys degree same expanding are =
    subst (λ (s : ParamSet). AreRounds N s 1 s.nu1 keys.left) same
    (left_of N keys (degree ∙ ap (λ (s : ParamSet). s.degree) (sym same)) (ap (λ (s : ParamSet). s.direct) same ∙ expanding) are)

right_rounds : (N : ℕ) (set : ParamSet) (keys : SetKeys) → N ≡ set.degree → keys.set ≡ set → set.direct ≡ false → AreSetKeys keys
    → AreRounds N set 1 (rho set) keys.right
right_rounds N set keys degree same expanding are =
    subst (λ (s : ParamSet). AreRounds N s 1 (rho s) keys.right) same
    (right_of N keys (degree ∙ ap (λ (s : ParamSet). s.degree) (sym same)) (ap (λ (s : ParamSet). s.direct) same ∙ expanding) are)

-- ---- the rounds as they are lent to a call

-- what is known of rounds that are lent: they are the keys', and as many as they should be
pub record AreLent (N : ℕ) (set : ParamSet) (first count : ℕ) (rounds lent : List DigitKey) : Type 0 where
  pub same : lent ≡ rounds
  pub are : AreRounds N set first count lent

lent_of : (N : ℕ) (set : ParamSet) (first count : ℕ) (rounds lent : List DigitKey) → lent ≡ rounds → AreRounds N set first count rounds
    → AreLent N set first count rounds lent
lent_of N set first count rounds lent same are = record { same = same; are = subst (AreRounds N set first count) (sym same) are }

-- Round 0, as its key is lent,
pub first_lent : (N : ℕ) (set : ParamSet) (keys inside : SetKeys) (lent : List DigitKey) → inside ≡ keys → AreSetKeys inside → lent ≡ inside.round0
    → N ≡ set.degree → keys.set ≡ set → set.direct ≡ false → AreLent N set 0 1 keys.round0 lent
first_lent N set keys inside lent view are shown degree same expanding =
    lent_of N set 0 1 keys.round0 lent (shown ∙ ap (λ (k : SetKeys). k.round0) view) (first_rounds N set keys degree same expanding (subst AreSetKeys view are))

-- the left rounds,
pub left_lent : (N : ℕ) (set : ParamSet) (keys inside : SetKeys) (lent : List DigitKey) → inside ≡ keys → AreSetKeys inside → lent ≡ inside.left
    → N ≡ set.degree → keys.set ≡ set → set.direct ≡ false → AreLent N set 1 set.nu1 keys.left lent
left_lent N set keys inside lent view are shown degree same expanding =
    lent_of N set 1 set.nu1 keys.left lent (shown ∙ ap (λ (k : SetKeys). k.left) view)
    (left_rounds N set keys degree same expanding (subst AreSetKeys view are))

-- and the right ones.
pub right_lent : (N : ℕ) (set : ParamSet) (keys inside : SetKeys) (lent : List DigitKey) → inside ≡ keys → AreSetKeys inside → lent ≡ inside.right
    → N ≡ set.degree → keys.set ≡ set → set.direct ≡ false → AreLent N set 1 (rho set) keys.right lent
right_lent N set keys inside lent view are shown degree same expanding =
    lent_of N set 1 (rho set) keys.right lent (shown ∙ ap (λ (k : SetKeys). k.right) view)
    (right_rounds N set keys degree same expanding (subst AreSetKeys view are))

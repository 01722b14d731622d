-- All layers: those down to parts of four coefficients, and the two below them.
use Rattle.std.proofs.Common.{◌≡◌, ◌≢◌, ℕ, ◌+◌, ◌-◌, ◌*◌, ◌/◌, ◌%◌, ◌^◌, ◌<◌, ◌≤◌, ℤ, pos, ◌*ℤ◌, List, length, map, All, sym, ◌∙◌, ap, subst, arith}
use Rattle.std.specs.List.{range_with_len}
use Rattle.std.proofs.lemmas.Nat.{pow-add}
use Rattle.std.proofs.Math.Nat.{pow-le-pow_right}
use Rattle.negacyclic.specs.Ring.{at, reduced}
use Rattle.negacyclic.proofs.Congruence.{Congruent, congruent_equal, congruent_trans}
use Rattle.negacyclic.proofs.Residues.{residue_congruent}
use Rattle.negacyclic.proofs.Stands.{at-reduced}
use Rattle.ring_transform.specs.Points.{IsPrime, IsDegree, node, depth_of, points}
use Rattle.ring_transform.specs.Values.{values}
use Rattle.ring_transform.specs.Remainders.{Remainders}
use Rattle.ring_transform.specs.Tables.{AreTwiddles, AreInverses, IsFactor, AreQuotients, AreTables}
use Rattle.ring_transform.proofs.Nodes.{prime_some}
use Rattle.ring_transform.proofs.Halving.{remainders_none, remainders_compose}
use Rattle.ring_transform.proofs.Sizes.{twice, layer_less}
use Rattle.ring_transform.proofs.Whole.{degree_is, depth_most, forward_values, inverse_values}

-- the same node, written otherwise
remainders_at : (p s m d d' j j' f : ℕ) (whole parts : ℕ → ℤ) → d ≡ d' → j ≡ j' → Remainders p s m d j f whole parts → Remainders p s m d' j' f whole parts
remainders_at p s m d d' j j' f whole parts e g known =
    subst (λ (x : ℕ). Remainders p s m x j' f whole parts) e (subst (λ (x : ℕ). Remainders p s m d x f whole parts) g known)

-- the remainders through all layers
all_layers : (p n layers f : ℕ) (whole mid parts : ℕ → ℤ) (g : ℕ) → IsPrime p → IsDegree n → layers + 2 ≡ depth_of n → Remainders p 4 layers 0 0 f whole mid
    → ((i : ℕ) → i < 2 ^ layers → Remainders p 1 2 layers i g (λ u. mid (i * 4 + u)) (λ u. parts (i * 4 + u)))
    → Remainders p 1 (depth_of n) 0 0 (f * g) whole parts
all_layers p n layers f whole mid parts g prime degree depth first second =
    let most = depth_most n degree in
    subst (λ (m : ℕ). Remainders p 1 m 0 0 (f * g) whole parts) depth
    (remainders_compose p 1 layers 2 0 0 f g whole mid parts prime (omega arith) first
    (λ i h. remainders_at p 1 2 layers (0 + layers) i (0 * 2 ^ layers + i) g (λ u. mid (i * 4 + u)) (λ u. parts (i * 4 + u)) (omega arith) (omega arith) (second i h)))

-- The transform gives the values.
pub forward_whole : (p n layers : ℕ) (old mid new : List ℕ) → IsPrime p → IsDegree n → layers + 2 ≡ depth_of n → length old ≡ n → length new ≡ n → All (λ x. x < p) new
    → Remainders p 4 layers 0 0 1 (at old) (at mid)
    → ((i : ℕ) → i < 2 ^ layers → Remainders p 1 2 layers i 1 (λ u. at mid (i * 4 + u)) (λ u. at new (i * 4 + u)))
    → new ≡ values p (points p n) old
forward_whole p n layers old mid new prime degree depth size size_new below first second =
    forward_values p n old new prime degree size size_new below (all_layers p n layers 1 (at old) (at mid) (at new) 1 prime degree depth first second)

-- The inverse gives a polynomial that has the values.
pub inverse_whole : (p n layers scale : ℕ) (old mid up new : List ℕ) → IsPrime p → IsDegree n → layers + 2 ≡ depth_of n → length new ≡ n → length old ≡ n → All (λ x. x < p) old
    → n * scale % p ≡ 1 → ((k : ℕ) → k < n → Congruent p (at new k) (pos scale *ℤ at up k))
    → ((i : ℕ) → i < 2 ^ layers → Remainders p 1 2 layers i 4 (λ u. at mid (i * 4 + u)) (λ u. at old (i * 4 + u)))
    → Remainders p 4 layers 0 0 (2 ^ layers) (at up) (at mid)
    → values p (points p n) new ≡ old
inverse_whole p n layers scale old mid up new prime degree depth size size_old below unit scaled second first =
    let whole : 2 ^ layers * 4 ≡ n = sym (pow-add 2 layers 2) ∙ ap (λ (m : ℕ). 2 ^ m) depth ∙ sym (degree_is n degree) in
    inverse_values p n scale old up new prime degree size size_old below unit scaled
    (subst (λ (f : ℕ). Remainders p 1 (depth_of n) 0 0 f (at up) (at old)) whole (all_layers p n layers (2 ^ layers) (at up) (at mid) (at old) 4 prime degree depth first second))

-- ---- one layer after another

-- One layer below what the layers above it gave.
pub layer_parted : (p half depth f g : ℕ) (whole : ℕ → ℤ) (mid new : List ℕ) → IsPrime p → depth + 1 ≤ 11 → Remainders p (2 * half) depth 0 0 f whole (at mid)
    → ((i : ℕ) → i < 2 ^ depth → Remainders p half 1 depth i g (λ u. at mid (i * (2 * half) + u)) (λ u. at new (i * (2 * half) + u)))
    → Remainders p half (depth + 1) 0 0 (f * g) whole (at new)
layer_parted p half depth f g whole mid new prime deep above layer =
    remainders_compose p half depth 1 0 0 f g whole (at mid) (at new) prime (omega arith) above
    (λ i h. remainders_at p half 1 depth (0 + depth) i (0 * 2 ^ depth + i) g (λ u. at mid (i * (2 * half) + u)) (λ u. at new (i * (2 * half) + u)) (omega arith) (omega arith) (layer i h))

-- the same parts, by an equal size
pub remainders_sized : (p s s' m f : ℕ) (whole : ℕ → ℤ) (parts : List ℕ) → s ≡ s' → Remainders p s m 0 0 f whole (at parts) → Remainders p s' m 0 0 f whole (at parts)
remainders_sized p s s' m f whole parts e known = subst (λ (x : ℕ). Remainders p x m 0 0 f whole (at parts)) e known

-- the parts after the last layer
pub parted_all : (p layers size depth : ℕ) (old now : List ℕ) → depth ≤ layers → layers ≤ depth → size ≡ 2 ^ (layers - depth) * 4 → Remainders p size depth 0 0 1 (at old) (at now)
    → Remainders p 4 layers 0 0 1 (at old) (at now)
parted_all p layers size depth old now most least is known =
    let all : depth ≡ layers = omega arith in
    let none : layers - depth ≡ 0 = omega arith in
    let four : size ≡ 4 = is ∙ ap (λ (m : ℕ). 2 ^ m * 4) none in
    subst (λ (x : ℕ). Remainders p 4 x 0 0 1 (at old) (at now)) all (remainders_sized p size 4 depth 1 (at old) now four known)

-- the sizes of the parts
pub size_whole : (layers len : ℕ) → len ≡ 2 ^ layers * 4 → len ≡ 2 ^ (layers - 0) * 4
size_whole layers len size = let e : layers ≡ layers - 0 = omega arith in size ∙ ap (λ (m : ℕ). 2 ^ m * 4) e

pub size_halved : (layers depth size : ℕ) → depth < layers → size ≡ 2 ^ (layers - depth) * 4 → size / 2 ≡ 2 ^ (layers - (depth + 1)) * 4
size_halved layers depth size within is =
    let some : layers - depth ≢ 0 = omega arith in
    let e : layers - depth - 1 ≡ layers - (depth + 1) = omega arith in
    omega (arith, layer_less (layers - depth) some, ap (λ (m : ℕ). 2 ^ m) e)

pub size_even : (layers depth size : ℕ) → depth < layers → size ≡ 2 ^ (layers - depth) * 4 → size ≡ 2 * (size / 2)
size_even layers depth size within is = omega arith

-- how many parts of which size
pub parts_fit : (layers depth size len : ℕ) → depth < layers → len ≡ 2 ^ layers * 4 → size ≡ 2 ^ (layers - depth) * 4 → len ≡ 2 ^ depth * (2 * (size / 2))
parts_fit layers depth size len within whole is =
    let e : layers ≡ depth + (layers - depth) = omega arith in
    let split : 2 ^ layers ≡ 2 ^ depth * 2 ^ (layers - depth) = ap (λ (m : ℕ). 2 ^ m) e ∙ pow-add 2 depth (layers - depth) in
    let even : size ≡ 2 * (size / 2) = omega arith in
    let size' : 2 * (size / 2) ≡ 2 ^ (layers - depth) * 4 = sym even ∙ is in
    whole ∙ ap (λ (w : ℕ). w * 4) split ∙ regroup (2 ^ depth) (2 ^ (layers - depth)) ∙ ap (λ (w : ℕ). 2 ^ depth * w) (sym size')
  where
    regroup : (v w : ℕ) → v * w * 4 ≡ v * (w * 4)
    regroup v w = omega arith

pub room_for : (layers depth len : ℕ) → depth < layers → 2 ^ layers ≤ len → 2 ^ (depth + 1) ≤ len
room_for layers depth len within room =
    let more : depth + 1 ≤ layers = omega arith in
    let most : 2 ^ (depth + 1) ≤ 2 ^ layers = pow-le-pow_right (omega arith) more in omega arith

-- ---- the layers of the inverse

-- What holds of the list at a depth: the remainders of a polynomial at that depth come from those at the last one.
pub record Rises (p layers size depth : ℕ) (old now : List ℕ) : Type 0 where
  pub remainders : (f : ℕ) (whole : ℕ → ℤ) → Remainders p size depth 0 0 f whole (at now) → Remainders p 4 layers 0 0 (f * 2 ^ (layers - depth)) whole (at old)

same_factor : (p s m f g : ℕ) (whole : ℕ → ℤ) (parts : List ℕ) → f ≡ g → Remainders p s m 0 0 f whole (at parts) → Remainders p s m 0 0 g whole (at parts)
same_factor p s m f g whole parts e known = subst (λ (x : ℕ). Remainders p s m 0 0 x whole (at parts)) e known

pub rises_none : (p layers : ℕ) (old : List ℕ) → Rises p layers 4 layers old old
rises_none p layers old =
    record { remainders = λ f whole known. same_factor p 4 layers f (f * 2 ^ (layers - layers)) whole old (factor f) known }
  where
    factor : (f : ℕ) → f ≡ f * 2 ^ (layers - layers)
    factor f = let none : layers - layers ≡ 0 = omega arith in rw none (omega arith)

pub rises_more : (p layers size depth : ℕ) (old mid new : List ℕ) → IsPrime p → layers ≤ 9 → 0 < depth → depth ≤ layers → Rises p layers size depth old mid
    → ((i : ℕ) → i < 2 ^ (depth - 1) → Remainders p size 1 (depth - 1) i 2 (λ u. at new (i * (2 * size) + u)) (λ u. at mid (i * (2 * size) + u)))
    → Rises p layers (size * 2) (depth - 1) old new
rises_more p layers size depth old mid new prime deep some most so_far layer =
    record {
      remainders = λ f whole known.
          let sized = remainders_sized p (size * 2) (2 * size) (depth - 1) f whole new (omega arith) known in
          let below = layer_parted p size (depth - 1) f 2 whole new mid prime (omega arith) sized layer in
          let depth_is : depth - 1 + 1 ≡ depth = omega arith in
          let here : Remainders p size depth 0 0 (f * 2) whole (at mid) = subst (λ (x : ℕ). Remainders p size x 0 0 (f * 2) whole (at mid)) depth_is below in
          same_factor p 4 layers (f * 2 * 2 ^ (layers - depth)) (f * 2 ^ (layers - (depth - 1))) whole old (factor f) (so_far.remainders (f * 2) whole here);
    }
  where
    regroup : (f w : ℕ) → f * (2 * w) ≡ f * 2 * w
    regroup f w = omega arith

    factor : (f : ℕ) → f * 2 * 2 ^ (layers - depth) ≡ f * 2 ^ (layers - (depth - 1))
    factor f =
        let e : layers - (depth - 1) ≡ layers - depth + 1 = omega arith in
        rw e (sym (ap (λ (w : ℕ). f * w) (twice (layers - depth)) ∙ regroup f (2 ^ (layers - depth))))

pub rises_all : (p layers size depth : ℕ) (old now : List ℕ) → depth ≡ 0 → size ≡ 2 ^ (layers - depth) * 4 → Rises p layers size depth old now → Remainders p 4 layers 0 0 (2 ^ layers) (at now) (at old)
rises_all p layers size depth old now none is so_far =
    let own : Remainders p size depth 0 0 1 (at now) (at now) = subst (λ (x : ℕ). Remainders p size x 0 0 1 (at now) (at now)) (sym none) (remainders_none p size 0 0 (at now)) in
    same_factor p 4 layers (1 * 2 ^ (layers - depth)) (2 ^ layers) (at now) old factor (so_far.remainders 1 (at now) own)
  where
    factor : 1 * 2 ^ (layers - depth) ≡ 2 ^ layers
    factor = let e : layers - depth ≡ layers = omega arith in rw e (omega arith)

-- the sizes on the way up
pub size_doubled : (layers depth size : ℕ) → 0 < depth → depth ≤ layers → size ≡ 2 ^ (layers - depth) * 4 → size * 2 ≡ 2 ^ (layers - (depth - 1)) * 4
size_doubled layers depth size some most is =
    let e : layers - (depth - 1) ≡ layers - depth + 1 = omega arith in
    omega (arith, twice (layers - depth), ap (λ (m : ℕ). 2 ^ m) e)

pub parts_fit_up : (layers depth size len : ℕ) → 0 < depth → depth ≤ layers → len ≡ 2 ^ layers * 4 → size ≡ 2 ^ (layers - depth) * 4 → len ≡ 2 ^ (depth - 1) * (2 * size)
parts_fit_up layers depth size len some most whole is =
    let e : layers ≡ depth - 1 + (layers - depth + 1) = omega arith in
    let split : 2 ^ layers ≡ 2 ^ (depth - 1) * 2 ^ (layers - depth + 1) = ap (λ (m : ℕ). 2 ^ m) e ∙ pow-add 2 (depth - 1) (layers - depth + 1) in
    whole ∙ ap (λ (w : ℕ). w * 4) (split ∙ ap (λ (w : ℕ). 2 ^ (depth - 1) * w) (twice (layers - depth)))
    ∙ regroup (2 ^ (depth - 1)) (2 ^ (layers - depth))
    ∙ ap (λ (w : ℕ). 2 ^ (depth - 1) * (2 * w)) (sym is)
  where
    regroup : (v w : ℕ) → v * (2 * w) * 4 ≡ v * (2 * (w * 4))
    regroup v w = omega arith

-- what is multiplied by a factor, place by place
pub scaled_places : (p n scale : ℕ) (old new : List ℕ) → IsPrime p → length old ≡ n → new ≡ reduced p (length old) (λ k. pos scale *ℤ at old k) → (k : ℕ) → k < n → Congruent p (at new k) (pos scale *ℤ at old k)
scaled_places p n scale old new prime size is k h =
    congruent_trans (congruent_equal (ap (λ (xs : List ℕ). at xs k) is ∙ at-reduced p (length old) (λ i. pos scale *ℤ at old i) k (omega arith)))
    (residue_congruent p (pos scale *ℤ at old k) (prime_some p prime))

-- ---- the tables

-- what is made for a degree are its tables
pub tables_made : (p n layers scale scale_quotient : ℕ) (twiddles quotients inverses inverse_quotients leaves : List ℕ) → IsPrime p → IsDegree n → layers + 2 ≡ depth_of n → length twiddles ≡ 2 ^ (layers + 2) → AreTwiddles p twiddles → AreQuotients p twiddles quotients
    → length inverses ≡ 2 ^ (layers + 2) → AreInverses p inverses → AreQuotients p inverses inverse_quotients → leaves ≡ map (node p (layers + 2)) (range_with_len 0 n) → IsFactor p scale scale_quotient → 2 ^ (layers + 2) * scale % p ≡ 1
    → AreTables p n twiddles quotients inverses inverse_quotients leaves scale scale_quotient
unfolding points
tables_made p n layers scale scale_quotient twiddles quotients inverses inverse_quotients leaves prime degree depth twiddle_count factors factor_quotients inverse_count inverse_factors inverse_factor_quotients made scale_factor unit =
    let whole : 2 ^ (layers + 2) ≡ n = ap (λ (m : ℕ). 2 ^ m) depth ∙ sym (degree_is n degree) in
    record {
      prime = prime;
      degree = degree;
      twiddle_count = twiddle_count ∙ whole;
      factors = factors;
      factor_quotients = factor_quotients;
      inverse_count = inverse_count ∙ whole;
      inverse_factors = inverse_factors;
      inverse_factor_quotients = inverse_factor_quotients;
      at_points = made ∙ ap (λ (m : ℕ). map (node p m) (range_with_len 0 n)) depth;
      scale_factor = scale_factor;
      unit = ap (λ (m : ℕ). m * scale % p) (sym whole) ∙ unit;
    }

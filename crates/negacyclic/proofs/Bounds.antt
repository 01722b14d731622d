-- Bounds of the absolute values of centred coefficients: of sums, multiples, powers of x and automorphisms.
use Rattle.std.proofs.Common.{◌≡◌, ◌≢◌, ℕ, zero, suc, ◌+◌, ◌-◌, ◌*◌, ◌/◌, ◌%◌, ◌<◌, ◌≤◌, Bool, true, false, if◌then◌else◌, ◌==◌, ℤ, pos, ◌+ℤ◌, ◌*ℤ◌, neg_ℤ, unsigned_abs, slice_index, List, length, take, All, sum_by, sym, ◌∙◌, ap, arith, mul-add, one-mul, mod-lt, mod-eq_of_lt, le_trans, le_refl, mul-le-mul_right, add-one, inl, inr, zero-le}
use Rattle.std.proofs.Math.Nat.{div-add-mod', mod-mod_of_dvd, mod-add-mod, add-mul-mod_self_right, dvd-mul_left}
use Rattle.std.proofs.lemmas.Nat.{mul-mod_first, mul-mod_second}
use Rattle.std.proofs.lemmas.Int.{ints, unsigned_abs-mul}
use Rattle.std.proofs.lemmas.Bool.{cases_lt}
use Rattle.std.proofs.lemmas.List.{get_or_past, take_all}
use Rattle.std.proofs.lemmas.List.Elements.{All-get_or, All-from_get_or}
use Rattle.std.proofs.lemmas.List.Sums.{sum_by_more}
use Rattle.negacyclic.specs.Sums.{total}
use Rattle.negacyclic.specs.Residues.{cen}
use Rattle.negacyclic.specs.Ring.{turn, shift_at, tau_at, at, ring_add, ring_sub, ring_scale, ring_shift, tau}
use Rattle.negacyclic.proofs.Integers.{zero-mul_ℤ}
use Rattle.negacyclic.proofs.Sums.{total_one}
use Rattle.negacyclic.proofs.Turn.{turn-mod, turn_elsewhere}
use Rattle.negacyclic.proofs.Congruence.{congruent_sym}
use Rattle.negacyclic.proofs.Residues.{unsigned_abs-add, unsigned_abs-sub, cen_congruent, cen_least, cen_zero}
use Rattle.negacyclic.proofs.Gather.{moved}
use Rattle.negacyclic.proofs.Stands.{Follows, Stands, add_of, sub_of, scale_of, shift_of, tau_of}

-- ---- centred coefficients

-- the centred coefficients of a list: 0 past its end
unfoldable pub centred : ℕ → List ℕ → ℕ → ℤ
centred q a k = cen q (slice_index a k)

-- a list follows its centred coefficients
pub follows_centred : (q N : ℕ) (a : List ℕ) → Follows q N a (centred q a)
unfolding at centred
follows_centred q N a = record { place = λ k h. congruent_sym (cen_congruent q (slice_index a k)) }

-- past the end
pub centred_past : (q : ℕ) (a : List ℕ) (k : ℕ) → length a ≤ k → centred q a k ≡ pos 0
unfolding centred
centred_past q a k h = ap (cen q) (get_or_past a k 0 h) ∙ cen_zero q

-- a bound of the numbers of a list
pub centred_below : (q m : ℕ) (a : List ℕ) (k : ℕ) → All (λ x. unsigned_abs (cen q x) ≤ m) a → unsigned_abs (centred q a k) ≤ m
unfolding centred
centred_below q m a k all =
    elim (cases_lt k (length a)) [
      | inl h ↦ All-get_or (λ x. unsigned_abs (cen q x) ≤ m) a k 0 h all
      | inr past ↦ let e : cen q (slice_index a k) ≡ pos 0 = centred_past q a k past in omega (arith, ints)
    ]

-- No centred coefficient is larger than what a list stands for.
pub centred-stands : {q N : ℕ} {a : List ℕ} {f : ℕ → ℤ} → Stands q N a f → (k : ℕ) → k < N → unsigned_abs (centred q a k) ≤ unsigned_abs (f k)
unfolding at centred
centred-stands {q} {N} {a} {f} s k h =
    cen_least (All-get_or (λ x. x < q) a k 0 (omega (arith, s.size)) s.below) (congruent_sym (s.follows.place k h))

-- a bound of all coefficients is one of the list
pub all_from_centred : (q m : ℕ) (a : List ℕ) → ((k : ℕ) → k < length a → unsigned_abs (centred q a k) ≤ m)
    → All (λ x. unsigned_abs (cen q x) ≤ m) a
unfolding centred
all_from_centred q m a each = All-from_get_or (λ x. unsigned_abs (cen q x) ≤ m) a 0 each

-- ---- sums

more : (t f S w m : ℕ) → t ≤ m * S → f ≤ m * w → t + f ≤ m * (S + w)
more t f S w m h g = rw mul-add (omega arith)

-- A sum whose terms are at most m times those of a list, and 0 past its end, is at most m times the sum of the list.
pub unsigned_abs-total : (w : ℕ → ℕ) (b : List ℕ) (f : ℕ → ℤ) (m n : ℕ) → w 0 ≡ 0
    → ((j : ℕ) → j < n → unsigned_abs (f j) ≤ m * w (slice_index b j)) → unsigned_abs (total n f) ≤ m * sum_by w (take n b)
unfolding total
unsigned_abs-total w b f m zero none each = zero-le
unsigned_abs-total w b f m (suc n) none each =
    let front : unsigned_abs (total n f) ≤ m * sum_by w (take n b) = unsigned_abs-total w b f m n none (λ j h. each j (omega arith)) in
    let last : unsigned_abs (f n) ≤ m * w (slice_index b n) = each n (omega arith) in
    let step : unsigned_abs (total n f +ℤ f n) ≤ m * (sum_by w (take n b) + w (slice_index b n)) =
    le_trans (unsigned_abs-add (total n f) (f n))
    (more (unsigned_abs (total n f)) (unsigned_abs (f n)) (sum_by w (take n b)) (w (slice_index b n)) m front last) in
    let whole : sum_by w (take (suc n) b) ≡ sum_by w (take n b) + w (slice_index b n) = taken n in rw whole step
  where
    taken : (n : ℕ) → sum_by w (take (suc n) b) ≡ sum_by w (take n b) + w (slice_index b n)
    taken n =
        elim (cases_lt n (length b)) [
          | inl h ↦ rw add-one at (sum_by_more w b n 0 h)
          | inr past ↦
              let here : w (slice_index b n) ≡ 0 = ap w (get_or_past b n 0 past) ∙ none in
              let all : take n b ≡ b = take_all n b past in
              let all' : take (suc n) b ≡ b = take_all (suc n) b (omega arith) in rw (here, all, all') (omega arith)
        ]

-- A sum whose terms are at most m is at most m times their number.
pub unsigned_abs-total_each : (f : ℕ → ℤ) (m n : ℕ) → ((j : ℕ) → j < n → unsigned_abs (f j) ≤ m) → unsigned_abs (total n f) ≤ m * n
unfolding total
unsigned_abs-total_each f m zero each = zero-le
unsigned_abs-total_each f m (suc n) each =
    let front : unsigned_abs (total n f) ≤ m * n = unsigned_abs-total_each f m n (λ j h. each j (omega arith)) in
    let last : unsigned_abs (f n) ≤ m = each n (omega arith) in
    omega (arith, unsigned_abs-add (total n f) (f n))

-- ---- powers of x

-- x^t counts 1, -1 or 0 at a place
pub unsigned_abs-turn : (N k t : ℕ) → unsigned_abs (turn N k t) ≤ 1
unfolding turn
unsigned_abs-turn N k t = at_most_one (t % (2 * N) == k) (t % (2 * N) == k + N)
  where
    at_most_one : (x y : Bool) → unsigned_abs (if x then pos 1 else (if y then neg_ℤ (pos 1) else pos 0)) ≤ 1
    at_most_one true y = le_refl 1
    at_most_one false true = le_refl 1
    at_most_one false false = zero-le

mod_twice : (N t : ℕ) → t % (2 * N) % N ≡ t % N
mod_twice N t = mod-mod_of_dvd N t (dvd-mul_left N 2)

-- and nothing at a place that is not t modulo N
pub turn_apart : (N k t : ℕ) → k < N → t % N ≢ k → turn N k t ≡ pos 0
turn_apart N k t h ne =
    let twice : t % (2 * N) % N ≡ t % N = mod_twice N t in
    let here : k % N ≡ k = mod-eq_of_lt h in
    let there : (k + 1 * N) % N ≡ k % N = add-mul-mod_self_right k 1 N in
    sym (turn-mod N k t)
    ∙ turn_elsewhere N k (t % (2 * N)) (mod-lt t (omega arith))
    (λ e. ne (sym twice ∙ ap (λ (x : ℕ). x % N) e ∙ here))
    (λ e. ne (sym twice ∙ ap (λ (x : ℕ). x % N) (e ∙ one_more k N) ∙ there ∙ here))
  where
    one_more : (k N : ℕ) → k + N ≡ k + 1 * N
    one_more k N = omega arith

-- A place that only the term at j comes to has at most the size of that term.
pub moved_one : (N : ℕ) (e : ℕ → ℕ) (a : ℕ → ℤ) (k j : ℕ) → k < N → j < N → ((i : ℕ) → i < N → e i % N ≡ k → i ≡ j)
    → unsigned_abs (moved N e a k) ≤ unsigned_abs (a j)
unfolding moved
moved_one N e a k j h hj only =
    let one : total N (λ i. turn N k (e i) *ℤ a i) ≡ turn N k (e j) *ℤ a j =
    total_one N (λ i. turn N k (e i) *ℤ a i) j hj
    (λ i hi ne. ap (λ (z : ℤ). z *ℤ a i) (turn_apart N k (e i) h (λ here. ne (only i hi here))) ∙ zero-mul_ℤ (a i)) in
    let small : unsigned_abs (turn N k (e j)) * unsigned_abs (a j) ≤ 1 * unsigned_abs (a j) =
    mul-le-mul_right (unsigned_abs (a j)) (unsigned_abs-turn N k (e j)) in
    rw (one, unsigned_abs-mul (turn N k (e j)) (a j)) (omega arith)

shift_place : (N s i k : ℕ) → i < N → (s + i) % N ≡ k → i ≡ (k + (N - s % N)) % N
shift_place N s i k h here =
    let split : s / N * N + s % N ≡ s = div-add-mod' s N in
    let low : s % N < N = mod-lt s (omega arith) in
    let sum : s + i + (N - s % N) ≡ i + (s / N + 1) * N = omega arith in
    sym
    (ap (λ (x : ℕ). (x + (N - s % N)) % N) (sym here)
    ∙ mod-add-mod (s + i) N (N - s % N)
    ∙ ap (λ (x : ℕ). x % N) sum
    ∙ add-mul-mod_self_right i (s / N + 1) N
    ∙ mod-eq_of_lt h)

-- A product with a power of x has no larger coefficient.
pub unsigned_abs-shift_at : (N s : ℕ) (a : ℕ → ℤ) (m k : ℕ) → k < N → ((i : ℕ) → i < N → unsigned_abs (a i) ≤ m)
    → unsigned_abs (shift_at N s a k) ≤ m
unfolding shift_at moved
unsigned_abs-shift_at N s a m k h each =
    let j : ℕ = (k + (N - s % N)) % N in
    let hj : j < N = mod-lt (k + (N - s % N)) (omega arith) in
    le_trans (moved_one N (λ i. s + i) a k j h hj (λ i hi here. shift_place N s i k hi here)) (each j hj)

tau_place : (N g e i k : ℕ) → (g * e) % (2 * N) ≡ 1 → i < N → (g * i) % N ≡ k → i ≡ (e * k) % N
tau_place N g e i k inverse h here =
    let order : e * (g * i) ≡ g * e * i = omega arith in
    let within : i < 2 * N = omega arith in
    sym
    (ap (λ (x : ℕ). (e * x) % N) (sym here)
    ∙ mul-mod_second e (g * i) N
    ∙ ap (λ (x : ℕ). x % N) order
    ∙ sym (mod_twice N (g * e * i))
    ∙ ap (λ (x : ℕ). x % N) (sym (mul-mod_first (g * e) i (2 * N)) ∙ ap (λ (x : ℕ). (x * i) % (2 * N)) inverse ∙ ap (λ (x : ℕ). x % (2 * N)) (one-mul i) ∙ mod-eq_of_lt within)
    ∙ mod-eq_of_lt h)

-- Nor has an automorphism that another undoes.
pub unsigned_abs-tau_at : (N g e : ℕ) (a : ℕ → ℤ) (m k : ℕ) → (g * e) % (2 * N) ≡ 1 → k < N → ((i : ℕ) → i < N → unsigned_abs (a i) ≤ m)
    → unsigned_abs (tau_at N g a k) ≤ m
unfolding tau_at moved
unsigned_abs-tau_at N g e a m k inverse h each =
    let j : ℕ = (e * k) % N in
    let hj : j < N = mod-lt (e * k) (omega arith) in
    le_trans (moved_one N (λ i. g * i) a k j h hj (λ i hi here. tau_place N g e i k inverse hi here)) (each j hj)

-- ---- polynomials

module _ (q N : ℕ) (some : 0 < q) where
  own : (a : List ℕ) → Follows q N a (centred q a)
  own a = follows_centred q N a

  -- the triangle law
  pub centred-ring_add : (a b : List ℕ) (k : ℕ) → k < N
      → unsigned_abs (centred q (ring_add q N a b) k) ≤ unsigned_abs (centred q a k) + unsigned_abs (centred q b k)
  centred-ring_add a b k h =
      le_trans (centred-stands (add_of some (own a) (own b)) k h) (unsigned_abs-add (centred q a k) (centred q b k))

  -- of a difference
  pub centred-ring_sub : (a b : List ℕ) (k : ℕ) → k < N
      → unsigned_abs (centred q (ring_sub q N a b) k) ≤ unsigned_abs (centred q a k) + unsigned_abs (centred q b k)
  centred-ring_sub a b k h =
      le_trans (centred-stands (sub_of some (own a) (own b)) k h) (unsigned_abs-sub (centred q a k) (centred q b k))

  -- of a multiple
  pub centred-ring_scale : (z : ℤ) (a : List ℕ) (k : ℕ) → k < N
      → unsigned_abs (centred q (ring_scale q N z a) k) ≤ unsigned_abs z * unsigned_abs (centred q a k)
  centred-ring_scale z a k h = rw unsigned_abs-mul at (centred-stands (scale_of some z (own a)) k h)

  -- A product with a power of x keeps a bound,
  pub ring_shift_bound : (m s : ℕ) (a : List ℕ) → All (λ x. unsigned_abs (cen q x) ≤ m) a
      → All (λ x. unsigned_abs (cen q x) ≤ m) (ring_shift q N s a)
  ring_shift_bound m s a all =
      let stands = shift_of some s (own a) in
      all_from_centred q m (ring_shift q N s a)
      (λ k lt.
      let h : k < N = omega (arith, stands.size) in
      le_trans (centred-stands stands k h) (unsigned_abs-shift_at N s (centred q a) m k h (λ i hi. centred_below q m a i all)))

  -- and so does an automorphism that another undoes.
  pub tau_bound : (m g e : ℕ) (a : List ℕ) → (g * e) % (2 * N) ≡ 1 → All (λ x. unsigned_abs (cen q x) ≤ m) a
      → All (λ x. unsigned_abs (cen q x) ≤ m) (tau q N g a)
  tau_bound m g e a inverse all =
      let stands = tau_of some g (own a) in
      all_from_centred q m (tau q N g a)
      (λ k lt.
      let h : k < N = omega (arith, stands.size) in
      le_trans (centred-stands stands k h) (unsigned_abs-tau_at N g e (centred q a) m k inverse h (λ i hi. centred_below q m a i all)))

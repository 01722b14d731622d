-- Sums of powers of x. All laws rest on one fact: a sum over the places of what x^t counts there, times a
-- function F of the place, is F t, where F changes its sign every N places as x^t does.
use Rattle.std.proofs.Common.{◌≡◌, ℕ, zero, suc, ◌+◌, ◌*◌, ◌/◌, ◌%◌, ◌<◌, ℤ, ◌+ℤ◌, ◌-ℤ◌, ◌*ℤ◌, neg_ℤ, refl, sym, ◌∙◌, ap, arith, mod-lt}
use Rattle.std.proofs.Math.Nat.{mod-add-div'}
use Rattle.std.proofs.lemmas.Int.{ints}
use Rattle.negacyclic.specs.Sums.{total}
use Rattle.negacyclic.specs.Ring.{turn, product_at}
use Rattle.negacyclic.proofs.Integers.{ring, mul-neg_ℤ, neg-mul_ℤ, one-mul_ℤ, zero-mul_ℤ}
use Rattle.negacyclic.proofs.Sums.{total_same, total_zero, total_one, total_add, total_sub, total_neg, total_mul, total_mul_right, total_swap}
use Rattle.negacyclic.proofs.Turn.{turn_here, turn_elsewhere, turn_flip}

-- ---- functions of the place that turn

-- F changes its sign every N places, as a power of x does.
pub record Turns (N : ℕ) (F : ℕ → ℤ) : Type 0 where
  pub flips : (t : ℕ) → F (t + N) ≡ neg_ℤ (F t)

-- what x^t counts at a place turns
pub Turns-turn : (N k : ℕ) → k < N → Turns N (turn N k)
Turns-turn N k h = record { flips = λ t. turn_flip N k t h }

-- from a place on
pub Turns-after : {N : ℕ} {F : ℕ → ℤ} → Turns N F → (s : ℕ) → Turns N (λ t. F (s + t))
Turns-after {N} {F} turns s = record { flips = λ t. ap F (omega arith) ∙ turns.flips (s + t) }

-- up to a place
pub Turns-before : {N : ℕ} {F : ℕ → ℤ} → Turns N F → (s : ℕ) → Turns N (λ t. F (t + s))
Turns-before {N} {F} turns s = record { flips = λ t. ap F (omega arith) ∙ turns.flips (t + s) }

-- times a number
pub Turns-times : {N : ℕ} {F : ℕ → ℤ} → Turns N F → (z : ℤ) → Turns N (λ t. F t *ℤ z)
Turns-times {N} {F} turns z = record { flips = λ t. ap (λ (y : ℤ). y *ℤ z) (turns.flips t) ∙ neg-mul_ℤ (F t) z }

-- twice N places further on there is the same number
pub Turns-round : {N : ℕ} {F : ℕ → ℤ} → Turns N F → (t count : ℕ) → F (t + count * (2 * N)) ≡ F t
Turns-round {N} {F} turns t zero = ap F (omega arith)
Turns-round {N} {F} turns t (suc count) =
    let front : F (t + count * (2 * N)) ≡ F t = Turns-round turns t count in
    let once : F (t + count * (2 * N) + N) ≡ neg_ℤ (F (t + count * (2 * N))) = turns.flips (t + count * (2 * N)) in
    let twice : F (t + count * (2 * N) + N + N) ≡ neg_ℤ (F (t + count * (2 * N) + N)) = turns.flips (t + count * (2 * N) + N) in
    let here : F (t + suc count * (2 * N)) ≡ F (t + count * (2 * N) + N + N) = ap F (omega arith) in omega (arith, ints)

-- at each odd multiple
pub Turns-odd : {N : ℕ} {F : ℕ → ℤ} → Turns N F → (g : ℕ) → g % 2 ≡ 1 → Turns N (λ t. F (g * t))
Turns-odd {N} {F} turns g odd =
    let g_is : g ≡ 2 * (g / 2) + 1 = omega arith in
    record {
      flips = λ t.
          let place : g * (t + N) ≡ g * t + N + g / 2 * (2 * N) = odd_step g (g / 2) t N g_is in
          ap F place ∙ Turns-round turns (g * t + N) (g / 2) ∙ turns.flips (g * t);
    }
  where
    odd_step : (g u t N : ℕ) → g ≡ 2 * u + 1 → g * (t + N) ≡ g * t + N + u * (2 * N)
    odd_step g u t N e = rw e (omega arith)

-- ---- spreading and gathering

spread_low : (N : ℕ) (F : ℕ → ℤ) (t : ℕ) → t < N → total N (λ m. turn N m t *ℤ F m) ≡ F t
spread_low N F t h =
    total_one N (λ m. turn N m t *ℤ F m) t h
    (λ m below ne. ap (λ (z : ℤ). z *ℤ F m) (turn_elsewhere N m t (omega arith) (λ e. ne (sym e)) (omega arith)) ∙ zero-mul_ℤ (F m))
    ∙ ap (λ (z : ℤ). z *ℤ F t) (turn_here N t t (omega arith) refl)
    ∙ one-mul_ℤ (F t)

spread_from : (N : ℕ) (F : ℕ → ℤ) → Turns N F → (r count : ℕ) → r < N → total N (λ m. turn N m (r + count * N) *ℤ F m) ≡ F (r + count * N)
spread_from N F turns r zero h = let e : r + zero * N ≡ r = omega arith in rw e (spread_low N F r h)
spread_from N F turns r (suc count) h =
    let e : r + suc count * N ≡ r + count * N + N = omega arith in
    rw e
    (total_same N (λ m. turn N m (r + count * N + N) *ℤ F m) (λ m. neg_ℤ (turn N m (r + count * N) *ℤ F m))
    (λ m below. ap (λ (z : ℤ). z *ℤ F m) (turn_flip N m (r + count * N) below) ∙ neg-mul_ℤ (turn N m (r + count * N)) (F m))
    ∙ total_neg N (λ m. turn N m (r + count * N) *ℤ F m)
    ∙ ap neg_ℤ (spread_from N F turns r count h)
    ∙ sym (turns.flips (r + count * N)))

-- What x^t counts at the places, times F of the place, is F t.
pub spread : (N : ℕ) (F : ℕ → ℤ) → Turns N F → 0 < N → (t : ℕ) → total N (λ m. turn N m t *ℤ F m) ≡ F t
spread N F turns some t = rw (mod-add-div' t N) at (spread_from N F turns (t % N) (t / N) (mod-lt t some))

-- Place k of the sum of c_i x^(e i).
unfoldable pub moved : ℕ → (ℕ → ℕ) → (ℕ → ℤ) → ℕ → ℤ
moved N e c k = total N (λ i. turn N k (e i) *ℤ c i)

gather_terms : (N : ℕ) (e : ℕ → ℕ) (c F : ℕ → ℤ) → Turns N F → 0 < N
    → total N (λ m. F m *ℤ total N (λ i. turn N m (e i) *ℤ c i)) ≡ total N (λ i. F (e i) *ℤ c i)
gather_terms N e c F turns some =
    total_same N (λ m. F m *ℤ total N (λ i. turn N m (e i) *ℤ c i)) (λ m. total N (λ i. F m *ℤ (turn N m (e i) *ℤ c i)))
    (λ m h. sym (total_mul N (F m) (λ i. turn N m (e i) *ℤ c i)))
    ∙ total_swap N N (λ m i. F m *ℤ (turn N m (e i) *ℤ c i))
    ∙ total_same N (λ i. total N (λ m. F m *ℤ (turn N m (e i) *ℤ c i))) (λ i. F (e i) *ℤ c i)
    (λ i h.
    total_same N (λ m. F m *ℤ (turn N m (e i) *ℤ c i)) (λ m. turn N m (e i) *ℤ F m *ℤ c i) (λ m g. simp ring)
    ∙ total_mul_right N (λ m. turn N m (e i) *ℤ F m) (c i)
    ∙ ap (λ (z : ℤ). z *ℤ c i) (spread N F turns some (e i)))

-- F over the places of a sum of powers is F over its exponents.
pub gather-moved : (N : ℕ) (e : ℕ → ℕ) (c F : ℕ → ℤ) → Turns N F
    → total N (λ m. F m *ℤ moved N e c m) ≡ total N (λ i. F (e i) *ℤ c i)
unfolding moved
gather-moved zero e c F turns = total_zero zero (λ m. F m *ℤ moved zero e c m) (λ i h. absurd (omega arith)) ∙ sym (total_zero zero (λ i. F (e i) *ℤ c i) (λ i h. absurd (omega arith)))
gather-moved (suc n) e c F turns = gather_terms (suc n) e c F turns (omega arith)

-- F over the places of a product is F over the sums of the places of its factors.
pub gather-product : (N : ℕ) (a b F : ℕ → ℤ) → Turns N F
    → total N (λ m. F m *ℤ product_at N a b m) ≡ total N (λ i. total N (λ j. F (i + j) *ℤ (a i *ℤ b j)))
unfolding product_at moved
gather-product N a b F turns =
    total_same N (λ m. F m *ℤ product_at N a b m) (λ m. total N (λ i. F m *ℤ moved N (λ j. i + j) (λ j. a i *ℤ b j) m))
    (λ m h. sym (total_mul N (F m) (λ i. moved N (λ j. i + j) (λ j. a i *ℤ b j) m)))
    ∙ total_swap N N (λ m i. F m *ℤ moved N (λ j. i + j) (λ j. a i *ℤ b j) m)
    ∙ total_same N (λ i. total N (λ m. F m *ℤ moved N (λ j. i + j) (λ j. a i *ℤ b j) m)) (λ i. total N (λ j. F (i + j) *ℤ (a i *ℤ b j)))
    (λ i h. gather-moved N (λ j. i + j) (λ j. a i *ℤ b j) F turns)

-- ---- sums of powers

-- the powers of a sum
pub moved-add : (N : ℕ) (e : ℕ → ℕ) (a b : ℕ → ℤ) (k : ℕ) → moved N e (λ i. a i +ℤ b i) k ≡ moved N e a k +ℤ moved N e b k
unfolding moved
moved-add N e a b k =
    total_same N (λ i. turn N k (e i) *ℤ (a i +ℤ b i)) (λ i. turn N k (e i) *ℤ a i +ℤ turn N k (e i) *ℤ b i) (λ i h. simp ring)
    ∙ total_add N (λ i. turn N k (e i) *ℤ a i) (λ i. turn N k (e i) *ℤ b i)

-- of a difference
pub moved-sub : (N : ℕ) (e : ℕ → ℕ) (a b : ℕ → ℤ) (k : ℕ) → moved N e (λ i. a i -ℤ b i) k ≡ moved N e a k -ℤ moved N e b k
unfolding moved
moved-sub N e a b k =
    total_same N (λ i. turn N k (e i) *ℤ (a i -ℤ b i)) (λ i. turn N k (e i) *ℤ a i -ℤ turn N k (e i) *ℤ b i) (λ i h. simp ring)
    ∙ total_sub N (λ i. turn N k (e i) *ℤ a i) (λ i. turn N k (e i) *ℤ b i)

-- of a multiple
pub moved-scale : (N : ℕ) (e : ℕ → ℕ) (a : ℕ → ℤ) (z : ℤ) (k : ℕ) → moved N e (λ i. z *ℤ a i) k ≡ z *ℤ moved N e a k
unfolding moved
moved-scale N e a z k =
    total_same N (λ i. turn N k (e i) *ℤ (z *ℤ a i)) (λ i. z *ℤ (turn N k (e i) *ℤ a i)) (λ i h. simp ring)
    ∙ total_mul N z (λ i. turn N k (e i) *ℤ a i)

-- of the opposite
pub moved-neg : (N : ℕ) (e : ℕ → ℕ) (a : ℕ → ℤ) (k : ℕ) → moved N e (λ i. neg_ℤ (a i)) k ≡ neg_ℤ (moved N e a k)
unfolding moved
moved-neg N e a k =
    total_same N (λ i. turn N k (e i) *ℤ neg_ℤ (a i)) (λ i. neg_ℤ (turn N k (e i) *ℤ a i)) (λ i h. mul-neg_ℤ (turn N k (e i)) (a i))
    ∙ total_neg N (λ i. turn N k (e i) *ℤ a i)

-- of a sum of many
pub moved-total : (N : ℕ) (e : ℕ → ℕ) (count : ℕ) (a : ℕ → ℕ → ℤ) (k : ℕ)
    → moved N e (λ i. total count (λ c. a c i)) k ≡ total count (λ c. moved N e (a c) k)
unfolding moved
moved-total N e count a k =
    total_same N (λ i. turn N k (e i) *ℤ total count (λ c. a c i)) (λ i. total count (λ c. turn N k (e i) *ℤ a c i))
    (λ i h. sym (total_mul count (turn N k (e i)) (λ c. a c i)))
    ∙ total_swap N count (λ i c. turn N k (e i) *ℤ a c i)

-- equal coefficients
pub moved-equal : (N : ℕ) (e : ℕ → ℕ) (a b : ℕ → ℤ) (k : ℕ) → ((i : ℕ) → i < N → a i ≡ b i) → moved N e a k ≡ moved N e b k
unfolding moved
moved-equal N e a b k same =
    total_same N (λ i. turn N k (e i) *ℤ a i) (λ i. turn N k (e i) *ℤ b i) (λ i h. ap (λ (z : ℤ). turn N k (e i) *ℤ z) (same i h))

-- equal exponents
pub moved-same : (N : ℕ) (e d : ℕ → ℕ) (a : ℕ → ℤ) (k : ℕ) → ((i : ℕ) → i < N → e i ≡ d i) → moved N e a k ≡ moved N d a k
unfolding moved
moved-same N e d a k same =
    total_same N (λ i. turn N k (e i) *ℤ a i) (λ i. turn N k (d i) *ℤ a i) (λ i h. ap (λ (t : ℕ). turn N k t *ℤ a i) (same i h))

-- powers of powers
pub moved-moved : (N : ℕ) (e d : ℕ → ℕ) (a : ℕ → ℤ) (k : ℕ) → Turns N (λ t. turn N k (e t))
    → moved N e (moved N d a) k ≡ moved N (λ i. e (d i)) a k
unfolding moved
moved-moved N e d a k turns = gather-moved N d a (λ t. turn N k (e t)) turns

-- What a power counts at a place, and the one term that a row of the negacyclic product has at a place.
use Rattle.std.proofs.Common.{◌≡◌, ◌≢◌, ℕ, ◌+◌, ◌-◌, ◌*◌, ◌%◌, ◌<◌, ◌≤◌, ℤ, pos, ◌*ℤ◌, neg_ℤ, leb, if◌then◌else◌, refl, sym, ◌∙◌, ap, arith, mod-lt, mod-eq_of_lt, eq-eqb, ne_eqb, le-leb, inl, inr}
use borrow.Author.Tests.{lt-leb}
use Rattle.std.proofs.lemmas.Bool.{cases_lt, cases_eq}
use Rattle.std.proofs.lemmas.Int.{ints}
use Rattle.std.proofs.Math.Nat.{mod-mod, mod-add-mod, add-mod_right}
use Rattle.negacyclic.specs.Sums.{total}
use Rattle.negacyclic.specs.Ring.{turn, product_at}
use Rattle.negacyclic.proofs.Sums.{total_same, total_one}

-- x^t stands at place t below N
pub turn_here : (N k t : ℕ) → t < 2 * N → t ≡ k → turn N k t ≡ pos 1
unfolding turn
turn_here N k t h e = rw mod-eq_of_lt (rw (eq-eqb t k e) refl)

-- and with a minus sign at place t - N from N on
pub turn_wrapped : (N k t : ℕ) → t < 2 * N → 0 < N → t ≡ k + N → turn N k t ≡ neg_ℤ (pos 1)
unfolding turn
turn_wrapped N k t h some e =
    let ne : t ≢ k = omega arith in rw mod-eq_of_lt (rw (ne_eqb t k ne) (rw (eq-eqb t (k + N) e) refl))

-- it counts nothing elsewhere
pub turn_elsewhere : (N k t : ℕ) → t < 2 * N → t ≢ k → t ≢ k + N → turn N k t ≡ pos 0
unfolding turn
turn_elsewhere N k t h ne other = rw mod-eq_of_lt (rw (ne_eqb t k ne) (rw (ne_eqb t (k + N) other) refl))

-- Only t mod 2N matters.
pub turn-mod : (N k t : ℕ) → turn N k (t % (2 * N)) ≡ turn N k t
unfolding turn
turn-mod N k t = rw mod-mod refl

-- x^(2N) = 1
pub turn_period : (N k t : ℕ) → turn N k (t + 2 * N) ≡ turn N k t
turn_period N k t = sym (turn-mod N k (t + 2 * N)) ∙ ap (turn N k) (add-mod_right t (2 * N)) ∙ turn-mod N k t

turn_flip_low : (N k s : ℕ) → k < N → s < N → turn N k (s + N) ≡ neg_ℤ (turn N k s)
turn_flip_low N k s h low =
    elim (cases_eq s k) [
      | inl e ↦ turn_wrapped N k (s + N) (omega arith) (omega arith) (omega arith) ∙ ap neg_ℤ (sym (turn_here N k s (omega arith) e))
      | inr ne ↦
          turn_elsewhere N k (s + N) (omega arith) (omega arith) (λ e. ne (omega arith))
          ∙ ap neg_ℤ (sym (turn_elsewhere N k s (omega arith) ne (omega arith)))
    ]

turn_flip_within : (N k s : ℕ) → k < N → s < 2 * N → turn N k (s + N) ≡ neg_ℤ (turn N k s)
turn_flip_within N k s h within =
    elim (cases_lt s N) [
      | inl low ↦ turn_flip_low N k s h low
      | inr high ↦
          let again : turn N k (s - N + N) ≡ neg_ℤ (turn N k (s - N)) = turn_flip_low N k (s - N) h (omega arith) in
          let round : turn N k (s - N + 2 * N) ≡ turn N k (s - N) = turn_period N k (s - N) in
          let here : s - N + N ≡ s = omega arith in
          let there : s - N + 2 * N ≡ s + N = omega arith in
          let again' : turn N k s ≡ neg_ℤ (turn N k (s - N)) = rw here at again in
          let round' : turn N k (s + N) ≡ turn N k (s - N) = rw there at round in omega (arith, ints)
    ]

-- x^N = -1
pub turn_flip : (N k t : ℕ) → k < N → turn N k (t + N) ≡ neg_ℤ (turn N k t)
turn_flip N k t h =
    sym (turn-mod N k (t + N))
    ∙ ap (turn N k) (sym (mod-add-mod t (2 * N) N))
    ∙ turn-mod N k (t % (2 * N) + N)
    ∙ turn_flip_within N k (t % (2 * N)) h (mod-lt t (omega arith))
    ∙ ap neg_ℤ (turn-mod N k t)

-- 1, -1 and 0 times a number
pub one_times : (z : ℤ) → pos 1 *ℤ z ≡ z
one_times z = omega (arith, ints)

pub minus_times : (z : ℤ) → neg_ℤ (pos 1) *ℤ z ≡ neg_ℤ z
minus_times z = omega (arith, ints)

pub none_times : (z : ℤ) → pos 0 *ℤ z ≡ pos 0
none_times z = omega (arith, ints)

-- The row of x in a product with b, at a place k from i on: the one term with j = k - i.
pub row_plain : (N k i : ℕ) (x : ℤ) (b : ℕ → ℤ) → k < N → i ≤ k → total N (λ j. turn N k (i + j) *ℤ (x *ℤ b j)) ≡ x *ℤ b (k - i)
row_plain N k i x b h within =
    total_one N (λ j. turn N k (i + j) *ℤ (x *ℤ b j)) (k - i) (omega arith)
    (λ j below ne. ap (λ (z : ℤ). z *ℤ (x *ℤ b j)) (turn_elsewhere N k (i + j) (omega arith) (λ e. ne (omega arith)) (omega arith)) ∙ none_times (x *ℤ b j))
    ∙ ap (λ (z : ℤ). z *ℤ (x *ℤ b (k - i))) (turn_here N k (i + (k - i)) (omega arith) (omega arith))
    ∙ one_times (x *ℤ b (k - i))

-- At a place k below i: the one term with j = N + k - i, which wraps round and so has a minus sign.
pub row_wrapped : (N k i : ℕ) (x : ℤ) (b : ℕ → ℤ) → i < N → k < i → total N (λ j. turn N k (i + j) *ℤ (x *ℤ b j)) ≡ neg_ℤ (x *ℤ b (N + k - i))
row_wrapped N k i x b h below_i =
    total_one N (λ j. turn N k (i + j) *ℤ (x *ℤ b j)) (N + k - i) (omega arith)
    (λ j below ne. ap (λ (z : ℤ). z *ℤ (x *ℤ b j)) (turn_elsewhere N k (i + j) (omega arith) (omega arith) (λ e. ne (omega arith))) ∙ none_times (x *ℤ b j))
    ∙ ap (λ (z : ℤ). z *ℤ (x *ℤ b (N + k - i))) (turn_wrapped N k (i + (N + k - i)) (omega arith) (omega arith) (omega arith))
    ∙ minus_times (x *ℤ b (N + k - i))

-- The term of a_i at place k of the product with b.
unfoldable pub product_term : ℕ → (ℕ → ℤ) → (ℕ → ℤ) → ℕ → ℕ → ℤ
product_term N a b k i = if leb i k then a i *ℤ b (k - i) else neg_ℤ (a i *ℤ b (N + k - i))

-- for a place from i on
pub product_term-plain : (N : ℕ) (a b : ℕ → ℤ) (k i : ℕ) → i ≤ k → product_term N a b k i ≡ a i *ℤ b (k - i)
unfolding product_term
product_term-plain N a b k i h = rw (le-leb i k h) refl

-- and for one below i
pub product_term-wrapped : (N : ℕ) (a b : ℕ → ℤ) (k i : ℕ) → k < i → product_term N a b k i ≡ neg_ℤ (a i *ℤ b (N + k - i))
unfolding product_term
product_term-wrapped N a b k i h = rw (lt-leb i k h) refl

-- A place of the product is the sum of its rows' terms there.
pub product_at-terms : (N : ℕ) (a b : ℕ → ℤ) (k : ℕ) → k < N → product_at N a b k ≡ total N (product_term N a b k)
unfolding product_at
product_at-terms N a b k h =
    total_same N (λ i. total N (λ j. turn N k (i + j) *ℤ (a i *ℤ b j))) (product_term N a b k)
    (λ i below.
    elim (cases_lt k i) [
      | inl wraps ↦ row_wrapped N k i (a i) b below wraps ∙ sym (product_term-wrapped N a b k i wraps)
      | inr within ↦ row_plain N k i (a i) b h within ∙ sym (product_term-plain N a b k i within)
    ])

-- Equal factors have equal products.
pub product_at-same : (N : ℕ) (a c b d : ℕ → ℤ) (k : ℕ) → ((i : ℕ) → i < N → a i ≡ c i) → ((j : ℕ) → j < N → b j ≡ d j) → product_at N a b k ≡ product_at N c d k
unfolding product_at
product_at-same N a c b d k first second =
    total_same N (λ i. total N (λ j. turn N k (i + j) *ℤ (a i *ℤ b j))) (λ i. total N (λ j. turn N k (i + j) *ℤ (c i *ℤ d j)))
    (λ i h.
    total_same N (λ j. turn N k (i + j) *ℤ (a i *ℤ b j)) (λ j. turn N k (i + j) *ℤ (c i *ℤ d j))
    (λ j g. let x : a i ≡ c i = first i h in let y : b j ≡ d j = second j g in cc))

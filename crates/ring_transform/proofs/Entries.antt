-- A table that a loop appends to, node by node: entry 2^d + j is that of node j at depth d.
use Rattle.std.proofs.Common.{◌≡◌, ℕ, ◌+◌, ◌-◌, ◌^◌, ◌<◌, ◌≤◌, List, [], ◌∷◌, ◌++◌, All, length, get_or, refl, sym, ◌∙◌, ap, ap₂, subst, arith, length-append, inl, inr}
use Rattle.std.proofs.lemmas.Bool.{cases_lt}
use Rattle.std.proofs.lemmas.List.{get_or_append_left, get_or-append_right}
use Rattle.std.proofs.Math.Nat.{pow-le-pow_right}
use Rattle.std.proofs.lemmas.List.Elements.{All-append, All-cons, All-nil, All-same}
use Rattle.ring_transform.specs.Tables.{IsFactor}
use Rattle.ring_transform.proofs.Sizes.{twice}

-- a node at a lesser depth comes first
before : (a i d : ℕ) → i < 2 ^ a → a < d → 2 ^ a + i < 2 ^ d
before a i d within less =
    let more : a + 1 ≤ d = omega arith in
    let most : 2 ^ (a + 1) ≤ 2 ^ d = pow-le-pow_right (omega arith) more in omega (arith, twice a)

-- nodes with one number are one
same_node : (a i d j : ℕ) → i < 2 ^ a → j < 2 ^ d → 2 ^ a + i ≡ 2 ^ d + j → (a ≡ d) × (i ≡ j)
same_node a i d j within within' same =
    elim (cases_lt a d) [
      | inl less ↦ absurd (omega (arith, before a i d within less))
      | inr most ↦
          elim (cases_lt d a) [
            | inl more ↦ absurd (omega (arith, before d j a within' more))
            | inr least ↦
                let e : a ≡ d = omega arith in
                let powers : 2 ^ a ≡ 2 ^ d = ap (λ (n : ℕ). 2 ^ n) e in (e, omega arith)
          ]
    ]

-- one more entry
pub entries_more : (entry : ℕ → ℕ → ℕ) (d j : ℕ) (old new : List ℕ) (x : ℕ) → j < 2 ^ d → length old ≡ 2 ^ d + j → new ≡ old ++ x ∷ [] → x ≡ entry d j
    → ((a i : ℕ) → i < 2 ^ a → 2 ^ a + i < length old → get_or old (2 ^ a + i) 0 ≡ entry a i)
    → (a i : ℕ) → i < 2 ^ a → 2 ^ a + i < length new → get_or new (2 ^ a + i) 0 ≡ entry a i
entries_more entry d j old new x place size pushed is so_far a i within inside =
    let count : length new ≡ length old + 1 = ap length pushed ∙ length-append old (x ∷ []) in
    elim (cases_lt (2 ^ a + i) (length old)) [
      | inl low ↦
          ap (λ (xs : List ℕ). get_or xs (2 ^ a + i) 0) pushed ∙ get_or_append_left old (x ∷ []) 0 (2 ^ a + i) low ∙ so_far a i within low
      | inr high ↦
          let last : 2 ^ a + i ≡ length old = omega arith in
          let same = same_node a i d j within place (last ∙ size) in
          ap (λ (xs : List ℕ). get_or xs (2 ^ a + i) 0) pushed
          ∙ get_or-append_right old (x ∷ []) (length old) (2 ^ a + i) 0 refl (omega arith)
          ∙ ap (λ (k : ℕ). get_or (x ∷ []) k 0) (zero_left (2 ^ a + i) (length old) last)
          ∙ is
          ∙ ap₂ entry (sym same.0) (sym same.1)
    ]
  where
    zero_left : (k n : ℕ) → k ≡ n → k - n ≡ 0
    zero_left k n e = omega arith

-- and how many there are
pub entry_count : (w j : ℕ) (old new : List ℕ) (x : ℕ) → length old ≡ w + j → new ≡ old ++ x ∷ [] → length new ≡ w + (j + 1)
entry_count w j old new x size pushed = ap length pushed ∙ length-append old (x ∷ []) ∙ omega arith

-- each is below p
pub below_more : (p : ℕ) (old new : List ℕ) (x : ℕ) → new ≡ old ++ x ∷ [] → x < p → All (λ w. w < p) old → All (λ w. w < p) new
below_more p old new x pushed below so_far =
    All-same (λ w. w < p) new (old ++ x ∷ []) pushed (All-append (λ w. w < p) old (x ∷ []) so_far (All-cons (λ w. w < p) x [] below (All-nil (λ w. w < p))))

-- one more quotient
pub quotients_more : (p i x : ℕ) (factors old new : List ℕ) → length old ≡ i → new ≡ old ++ x ∷ [] → IsFactor p (get_or factors i 0) x
    → ((k : ℕ) → k < i → IsFactor p (get_or factors k 0) (get_or old k 0)) → (k : ℕ) → k < i + 1 → IsFactor p (get_or factors k 0) (get_or new k 0)
quotients_more p i x factors old new size pushed last so_far k h =
    elim (cases_lt k i) [
      | inl low ↦
          let read : get_or new k 0 ≡ get_or old k 0 = ap (λ (xs : List ℕ). get_or xs k 0) pushed ∙ get_or_append_left old (x ∷ []) 0 k (omega arith) in
          subst (λ (q : ℕ). IsFactor p (get_or factors k 0) q) (sym read) (so_far k low)
      | inr high ↦
          let here : k ≡ i = omega arith in
          let none : k - i ≡ 0 = omega arith in
          let read : get_or new k 0 ≡ x = ap (λ (xs : List ℕ). get_or xs k 0) pushed ∙ get_or-append_right old (x ∷ []) i k 0 size (omega arith) ∙ ap (λ (j : ℕ). get_or (x ∷ []) j 0) none in
          subst (λ (q : ℕ). IsFactor p (get_or factors k 0) q) (sym read) (subst (λ (j : ℕ). IsFactor p (get_or factors j 0) x) (sym here) last)
    ]

-- and how many there are
pub quotients_count : (i x : ℕ) (old new : List ℕ) → length old ≡ i → new ≡ old ++ x ∷ [] → length new ≡ i + 1
quotients_count i x old new size pushed = ap length pushed ∙ length-append old (x ∷ []) ∙ ap (λ (n : ℕ). n + 1) size

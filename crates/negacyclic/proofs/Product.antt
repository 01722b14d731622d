-- Laws of the negacyclic product over whole numbers.
use Rattle.std.proofs.Common.{◌≡◌, ℕ, zero, suc, ◌+◌, ◌-◌, ◌<◌, ◌==◌, ℤ, pos, ◌+ℤ◌, ◌-ℤ◌, ◌*ℤ◌, neg_ℤ, if◌then◌else◌, refl, sym, ◌∙◌, ap, ap₂, arith, add_comm, ne_eqb, zero-le}
use Rattle.negacyclic.specs.Sums.{total}
use Rattle.negacyclic.specs.Ring.{turn, product_at}
use Rattle.negacyclic.proofs.Integers.{ring, one-mul_ℤ, mul_comm_ℤ, mul-assoc_ℤ}
use Rattle.negacyclic.proofs.Sums.{total_same, total_zero, total_one, total_add, total_sub, total_neg, total_mul, total_swap}
use Rattle.negacyclic.proofs.Turn.{row_plain, product_at-same}
use Rattle.negacyclic.proofs.Gather.{Turns, Turns-turn, Turns-after, Turns-before, Turns-times, moved, gather-moved, gather-product}

-- the order of the factors is free
pub product_at-comm : (N : ℕ) (a b : ℕ → ℤ) (k : ℕ) → product_at N a b k ≡ product_at N b a k
unfolding product_at
product_at-comm N a b k =
    total_swap N N (λ i j. turn N k (i + j) *ℤ (a i *ℤ b j))
    ∙ total_same N (λ j. total N (λ i. turn N k (i + j) *ℤ (a i *ℤ b j))) (λ j. total N (λ i. turn N k (j + i) *ℤ (b j *ℤ a i)))
    (λ j h.
    total_same N (λ i. turn N k (i + j) *ℤ (a i *ℤ b j)) (λ i. turn N k (j + i) *ℤ (b j *ℤ a i))
    (λ i g. ap₂ (λ (t : ℕ) (z : ℤ). turn N k t *ℤ z) (add_comm i j) (mul_comm_ℤ (a i) (b j))))

-- the product with a sum
pub product_at-add : (N : ℕ) (a b c : ℕ → ℤ) (k : ℕ)
    → product_at N a (λ j. b j +ℤ c j) k ≡ product_at N a b k +ℤ product_at N a c k
unfolding product_at
product_at-add N a b c k =
    total_same N (λ i. total N (λ j. turn N k (i + j) *ℤ (a i *ℤ (b j +ℤ c j))))
    (λ i. total N (λ j. turn N k (i + j) *ℤ (a i *ℤ b j)) +ℤ total N (λ j. turn N k (i + j) *ℤ (a i *ℤ c j)))
    (λ i h.
    total_same N (λ j. turn N k (i + j) *ℤ (a i *ℤ (b j +ℤ c j))) (λ j. turn N k (i + j) *ℤ (a i *ℤ b j) +ℤ turn N k (i + j) *ℤ (a i *ℤ c j)) (λ j g. simp ring)
    ∙ total_add N (λ j. turn N k (i + j) *ℤ (a i *ℤ b j)) (λ j. turn N k (i + j) *ℤ (a i *ℤ c j)))
    ∙ total_add N (λ i. total N (λ j. turn N k (i + j) *ℤ (a i *ℤ b j))) (λ i. total N (λ j. turn N k (i + j) *ℤ (a i *ℤ c j)))

-- the product with a difference
pub product_at-sub : (N : ℕ) (a b c : ℕ → ℤ) (k : ℕ)
    → product_at N a (λ j. b j -ℤ c j) k ≡ product_at N a b k -ℤ product_at N a c k
unfolding product_at
product_at-sub N a b c k =
    total_same N (λ i. total N (λ j. turn N k (i + j) *ℤ (a i *ℤ (b j -ℤ c j))))
    (λ i. total N (λ j. turn N k (i + j) *ℤ (a i *ℤ b j)) -ℤ total N (λ j. turn N k (i + j) *ℤ (a i *ℤ c j)))
    (λ i h.
    total_same N (λ j. turn N k (i + j) *ℤ (a i *ℤ (b j -ℤ c j))) (λ j. turn N k (i + j) *ℤ (a i *ℤ b j) -ℤ turn N k (i + j) *ℤ (a i *ℤ c j)) (λ j g. simp ring)
    ∙ total_sub N (λ j. turn N k (i + j) *ℤ (a i *ℤ b j)) (λ j. turn N k (i + j) *ℤ (a i *ℤ c j)))
    ∙ total_sub N (λ i. total N (λ j. turn N k (i + j) *ℤ (a i *ℤ b j))) (λ i. total N (λ j. turn N k (i + j) *ℤ (a i *ℤ c j)))

-- the product with a multiple
pub product_at-scale : (N : ℕ) (a b : ℕ → ℤ) (z : ℤ) (k : ℕ) → product_at N a (λ j. z *ℤ b j) k ≡ z *ℤ product_at N a b k
unfolding product_at
product_at-scale N a b z k =
    total_same N (λ i. total N (λ j. turn N k (i + j) *ℤ (a i *ℤ (z *ℤ b j)))) (λ i. z *ℤ total N (λ j. turn N k (i + j) *ℤ (a i *ℤ b j)))
    (λ i h.
    total_same N (λ j. turn N k (i + j) *ℤ (a i *ℤ (z *ℤ b j))) (λ j. z *ℤ (turn N k (i + j) *ℤ (a i *ℤ b j))) (λ j g. simp ring)
    ∙ total_mul N z (λ j. turn N k (i + j) *ℤ (a i *ℤ b j)))
    ∙ total_mul N z (λ i. total N (λ j. turn N k (i + j) *ℤ (a i *ℤ b j)))

-- the product with the opposite
pub product_at-neg : (N : ℕ) (a b : ℕ → ℤ) (k : ℕ) → product_at N a (λ j. neg_ℤ (b j)) k ≡ neg_ℤ (product_at N a b k)
unfolding product_at
product_at-neg N a b k =
    total_same N (λ i. total N (λ j. turn N k (i + j) *ℤ (a i *ℤ neg_ℤ (b j)))) (λ i. neg_ℤ (total N (λ j. turn N k (i + j) *ℤ (a i *ℤ b j))))
    (λ i h.
    total_same N (λ j. turn N k (i + j) *ℤ (a i *ℤ neg_ℤ (b j))) (λ j. neg_ℤ (turn N k (i + j) *ℤ (a i *ℤ b j))) (λ j g. simp ring)
    ∙ total_neg N (λ j. turn N k (i + j) *ℤ (a i *ℤ b j)))
    ∙ total_neg N (λ i. total N (λ j. turn N k (i + j) *ℤ (a i *ℤ b j)))

-- the product with 0
pub product_at-zero : (N : ℕ) (a : ℕ → ℤ) (k : ℕ) → product_at N a (λ j. pos 0) k ≡ pos 0
unfolding product_at
product_at-zero N a k =
    total_zero N (λ i. total N (λ j. turn N k (i + j) *ℤ (a i *ℤ pos 0)))
    (λ i h. total_zero N (λ j. turn N k (i + j) *ℤ (a i *ℤ pos 0)) (λ j g. simp ring))

-- the product with a sum of many
pub product_at-total : (N : ℕ) (a : ℕ → ℤ) (count : ℕ) (b : ℕ → ℕ → ℤ) (k : ℕ)
    → product_at N a (λ j. total count (λ c. b c j)) k ≡ total count (λ c. product_at N a (b c) k)
unfolding total
product_at-total N a zero b k = product_at-zero N a k
product_at-total N a (suc count) b k =
    product_at-add N a (λ j. total count (λ c. b c j)) (b count) k
    ∙ ap (λ (z : ℤ). z +ℤ product_at N a (b count) k) (product_at-total N a count b k)

-- ---- the same for the first factor

-- the product of a sum
pub product_at-add_left : (N : ℕ) (a b c : ℕ → ℤ) (k : ℕ)
    → product_at N (λ i. a i +ℤ b i) c k ≡ product_at N a c k +ℤ product_at N b c k
product_at-add_left N a b c k =
    product_at-comm N (λ i. a i +ℤ b i) c k
    ∙ product_at-add N c a b k
    ∙ ap₂ (λ (x y : ℤ). x +ℤ y) (product_at-comm N c a k) (product_at-comm N c b k)

-- of a difference
pub product_at-sub_left : (N : ℕ) (a b c : ℕ → ℤ) (k : ℕ)
    → product_at N (λ i. a i -ℤ b i) c k ≡ product_at N a c k -ℤ product_at N b c k
product_at-sub_left N a b c k =
    product_at-comm N (λ i. a i -ℤ b i) c k
    ∙ product_at-sub N c a b k
    ∙ ap₂ (λ (x y : ℤ). x -ℤ y) (product_at-comm N c a k) (product_at-comm N c b k)

-- of a multiple
pub product_at-scale_left : (N : ℕ) (a b : ℕ → ℤ) (z : ℤ) (k : ℕ) → product_at N (λ i. z *ℤ a i) b k ≡ z *ℤ product_at N a b k
product_at-scale_left N a b z k =
    product_at-comm N (λ i. z *ℤ a i) b k ∙ product_at-scale N b a z k ∙ ap (λ (y : ℤ). z *ℤ y) (product_at-comm N b a k)

-- of the opposite
pub product_at-neg_left : (N : ℕ) (a b : ℕ → ℤ) (k : ℕ) → product_at N (λ i. neg_ℤ (a i)) b k ≡ neg_ℤ (product_at N a b k)
product_at-neg_left N a b k =
    product_at-comm N (λ i. neg_ℤ (a i)) b k ∙ product_at-neg N b a k ∙ ap neg_ℤ (product_at-comm N b a k)

-- of 0
pub product_at-zero_left : (N : ℕ) (b : ℕ → ℤ) (k : ℕ) → product_at N (λ i. pos 0) b k ≡ pos 0
product_at-zero_left N b k = product_at-comm N (λ i. pos 0) b k ∙ product_at-zero N b k

-- of a sum of many
pub product_at-total_left : (N count : ℕ) (a : ℕ → ℕ → ℤ) (b : ℕ → ℤ) (k : ℕ)
    → product_at N (λ i. total count (λ c. a c i)) b k ≡ total count (λ c. product_at N (a c) b k)
product_at-total_left N count a b k =
    product_at-comm N (λ i. total count (λ c. a c i)) b k
    ∙ product_at-total N b count a k
    ∙ total_same count (λ c. product_at N b (a c) k) (λ c. product_at N (a c) b k) (λ c h. product_at-comm N b (a c) k)

-- ---- one, and three factors

-- the product with 1
pub product_at-one : (N : ℕ) (b : ℕ → ℤ) (k : ℕ) → k < N → product_at N (λ i. if i == 0 then pos 1 else pos 0) b k ≡ b k
unfolding product_at
product_at-one N b k h =
    total_one N (λ i. total N (λ j. turn N k (i + j) *ℤ ((if i == 0 then pos 1 else pos 0) *ℤ b j))) 0 (omega arith)
    (λ i below ne.
    total_zero N (λ j. turn N k (i + j) *ℤ ((if i == 0 then pos 1 else pos 0) *ℤ b j)) (λ j g. rw (ne_eqb i 0 ne) (simp ring)))
    ∙ row_plain N k 0 (pos 1) b h zero-le
    ∙ one-mul_ℤ (b (k - 0))
    ∙ ap b (omega arith)

-- The product of three, as one sum over their places.
product_of_three : (N : ℕ) (a b c : ℕ → ℤ) (k : ℕ) → k < N
    → product_at N a (product_at N b c) k ≡ total N (λ i. total N (λ j. total N (λ l. turn N k (i + (j + l)) *ℤ a i *ℤ (b j *ℤ c l))))
unfolding product_at
product_of_three N a b c k h =
    total_same N (λ i. total N (λ m. turn N k (i + m) *ℤ (a i *ℤ product_at N b c m)))
    (λ i. total N (λ j. total N (λ l. turn N k (i + (j + l)) *ℤ a i *ℤ (b j *ℤ c l))))
    (λ i g.
    total_same N (λ m. turn N k (i + m) *ℤ (a i *ℤ product_at N b c m)) (λ m. turn N k (i + m) *ℤ a i *ℤ product_at N b c m)
    (λ m f. sym (mul-assoc_ℤ (turn N k (i + m)) (a i) (product_at N b c m)))
    ∙ gather-product N b c (λ t. turn N k (i + t) *ℤ a i) (Turns-times (Turns-after (Turns-turn N k h) i) (a i)))

-- the order of two products is free
pub product_at-assoc : (N : ℕ) (a b c : ℕ → ℤ) (k : ℕ) → k < N
    → product_at N (product_at N a b) c k ≡ product_at N a (product_at N b c) k
product_at-assoc N a b c k h =
    product_at-comm N (product_at N a b) c k
    ∙ product_of_three N c a b k h
    ∙ total_swap N N (λ l i. total N (λ j. turn N k (l + (i + j)) *ℤ c l *ℤ (a i *ℤ b j)))
    ∙ total_same N (λ i. total N (λ l. total N (λ j. turn N k (l + (i + j)) *ℤ c l *ℤ (a i *ℤ b j))))
    (λ i. total N (λ j. total N (λ l. turn N k (i + (j + l)) *ℤ a i *ℤ (b j *ℤ c l))))
    (λ i hi.
    total_swap N N (λ l j. turn N k (l + (i + j)) *ℤ c l *ℤ (a i *ℤ b j))
    ∙ total_same N (λ j. total N (λ l. turn N k (l + (i + j)) *ℤ c l *ℤ (a i *ℤ b j))) (λ j. total N (λ l. turn N k (i + (j + l)) *ℤ a i *ℤ (b j *ℤ c l)))
    (λ j hj.
    total_same N (λ l. turn N k (l + (i + j)) *ℤ c l *ℤ (a i *ℤ b j)) (λ l. turn N k (i + (j + l)) *ℤ a i *ℤ (b j *ℤ c l))
    (λ l hl. ap (λ (t : ℕ). turn N k t *ℤ c l *ℤ (a i *ℤ b j)) (order i j l) ∙ exchange (turn N k (i + (j + l))) (a i) (b j) (c l))))
    ∙ sym (product_of_three N a b c k h)
  where
    order : (i j l : ℕ) → l + (i + j) ≡ i + (j + l)
    order i j l = omega arith

    exchange : (t x y z : ℤ) → t *ℤ z *ℤ (x *ℤ y) ≡ t *ℤ x *ℤ (y *ℤ z)
    exchange t x y z = simp ring

-- the first two of three factors change places
pub product_at-left_comm : (N : ℕ) (a b c : ℕ → ℤ) (k : ℕ) → k < N → product_at N a (product_at N b c) k ≡ product_at N b (product_at N a c) k
product_at-left_comm N a b c k h =
    sym (product_at-assoc N a b c k h)
    ∙ product_at-same N (product_at N a b) (product_at N b a) c c k (λ i lt. product_at-comm N a b i) (λ i lt. refl)
    ∙ product_at-assoc N b a c k h

-- ---- the product and sums of powers

-- the powers of a product
pub moved-product : (N : ℕ) (e : ℕ → ℕ) (a b : ℕ → ℤ) (k : ℕ) → Turns N (λ t. turn N k (e t))
    → moved N e (product_at N a b) k ≡ total N (λ i. total N (λ j. turn N k (e (i + j)) *ℤ (a i *ℤ b j)))
unfolding moved
moved-product N e a b k turns = gather-product N a b (λ t. turn N k (e t)) turns

-- a product with powers
pub product_at-moved : (N : ℕ) (d : ℕ → ℕ) (a b : ℕ → ℤ) (k : ℕ) → k < N
    → product_at N a (moved N d b) k ≡ total N (λ i. total N (λ j. turn N k (i + d j) *ℤ (a i *ℤ b j)))
unfolding product_at
product_at-moved N d a b k h =
    total_same N (λ i. total N (λ m. turn N k (i + m) *ℤ (a i *ℤ moved N d b m))) (λ i. total N (λ j. turn N k (i + d j) *ℤ (a i *ℤ b j)))
    (λ i g.
    total_same N (λ m. turn N k (i + m) *ℤ (a i *ℤ moved N d b m)) (λ m. turn N k (i + m) *ℤ a i *ℤ moved N d b m)
    (λ m f. sym (mul-assoc_ℤ (turn N k (i + m)) (a i) (moved N d b m)))
    ∙ gather-moved N d b (λ t. turn N k (i + t) *ℤ a i) (Turns-times (Turns-after (Turns-turn N k h) i) (a i))
    ∙ total_same N (λ j. turn N k (i + d j) *ℤ a i *ℤ b j) (λ j. turn N k (i + d j) *ℤ (a i *ℤ b j))
    (λ j f. mul-assoc_ℤ (turn N k (i + d j)) (a i) (b j)))

-- a product of powers with another
pub product_at-moved_left : (N : ℕ) (e : ℕ → ℕ) (a b : ℕ → ℤ) (k : ℕ) → k < N
    → product_at N (moved N e a) b k ≡ total N (λ i. total N (λ j. turn N k (e i + j) *ℤ (a i *ℤ b j)))
product_at-moved_left N e a b k h =
    product_at-comm N (moved N e a) b k
    ∙ product_at-moved N e b a k h
    ∙ total_swap N N (λ j i. turn N k (j + e i) *ℤ (b j *ℤ a i))
    ∙ total_same N (λ i. total N (λ j. turn N k (j + e i) *ℤ (b j *ℤ a i))) (λ i. total N (λ j. turn N k (e i + j) *ℤ (a i *ℤ b j)))
    (λ i g.
    total_same N (λ j. turn N k (j + e i) *ℤ (b j *ℤ a i)) (λ j. turn N k (e i + j) *ℤ (a i *ℤ b j))
    (λ j f. ap₂ (λ (t : ℕ) (z : ℤ). turn N k t *ℤ z) (add_comm j (e i)) (mul_comm_ℤ (b j) (a i))))

-- a product of powers
pub product_at-moved_both : (N : ℕ) (e d : ℕ → ℕ) (a b : ℕ → ℤ) (k : ℕ) → k < N
    → product_at N (moved N e a) (moved N d b) k ≡ total N (λ i. total N (λ j. turn N k (e i + d j) *ℤ (a i *ℤ b j)))
product_at-moved_both N e d a b k h =
    product_at-moved N d (moved N e a) b k h
    ∙ total_swap N N (λ m j. turn N k (m + d j) *ℤ (moved N e a m *ℤ b j))
    ∙ total_same N (λ j. total N (λ m. turn N k (m + d j) *ℤ (moved N e a m *ℤ b j))) (λ j. total N (λ i. turn N k (e i + d j) *ℤ (a i *ℤ b j)))
    (λ j g.
    total_same N (λ m. turn N k (m + d j) *ℤ (moved N e a m *ℤ b j)) (λ m. turn N k (m + d j) *ℤ b j *ℤ moved N e a m) (λ m f. simp ring)
    ∙ gather-moved N e a (λ t. turn N k (t + d j) *ℤ b j) (Turns-times (Turns-before (Turns-turn N k h) (d j)) (b j))
    ∙ total_same N (λ i. turn N k (e i + d j) *ℤ b j *ℤ a i) (λ i. turn N k (e i + d j) *ℤ (a i *ℤ b j)) (λ i f. simp ring))
    ∙ total_swap N N (λ j i. turn N k (e i + d j) *ℤ (a i *ℤ b j))

-- where exponents add, the powers of a product are the product of the powers
pub moved-product_is : (N : ℕ) (e c d : ℕ → ℕ) (a b : ℕ → ℤ) (k : ℕ) → k < N → Turns N (λ t. turn N k (e t))
    → ((i j : ℕ) → e (i + j) ≡ c i + d j) → moved N e (product_at N a b) k ≡ product_at N (moved N c a) (moved N d b) k
moved-product_is N e c d a b k h turns adds =
    moved-product N e a b k turns
    ∙ total_same N (λ i. total N (λ j. turn N k (e (i + j)) *ℤ (a i *ℤ b j))) (λ i. total N (λ j. turn N k (c i + d j) *ℤ (a i *ℤ b j)))
    (λ i g.
    total_same N (λ j. turn N k (e (i + j)) *ℤ (a i *ℤ b j)) (λ j. turn N k (c i + d j) *ℤ (a i *ℤ b j))
    (λ j f. ap (λ (t : ℕ). turn N k t *ℤ (a i *ℤ b j)) (adds i j)))
    ∙ sym (product_at-moved_both N c d a b k h)

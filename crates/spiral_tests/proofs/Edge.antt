-- Ciphertexts of the set of the fixtures.
use Rattle.std.proofs.Common.{ℕ, List, [], ◌≡◌, ◌+◌, ◌∙◌, All, length, replicate, arith, ap, sym, subst}
use Rattle.spiral_sets.specs.declared.param_set.ParamSet.{ParamSet}
use Rattle.spiral_sets.specs.Sets.{rows}
use Rattle.spiral_model.specs.Words.{Cipher, row_of}
use Rattle.regev_code.specs.Products.{HasShape}
use Rattle.regev_code.proofs.Products.{zeros_shape}
use Rattle.spiral_tests.specs.Edge.{edge}

-- their shape, where the degree and the set are known by an equation
pub shape_of : (N : ℕ) (s : ParamSet) (c : Cipher) → N ≡ 256 → s ≡ edge → HasShape 256 3 c → HasShape N (rows s + 1) c
shape_of N s c degree set shape =
    subst (λ (n : ℕ). HasShape n (rows s + 1) c) (sym degree) (subst (λ (t : ParamSet). HasShape 256 (rows t + 1) c) (sym set) shape)

-- the same of rows 0 to n
pub matrix_of : (N : ℕ) (s : ParamSet) (c : Cipher) → N ≡ 256 → s ≡ edge → HasShape 256 3 c → HasShape N (s.n + 1) c
matrix_of N s c degree set shape =
    subst (λ (n : ℕ). HasShape n (s.n + 1) c) (sym degree) (subst (λ (t : ParamSet). HasShape 256 (t.n + 1) c) (sym set) shape)

pub shapes_of : (s : ParamSet) (cs : List Cipher) → s ≡ edge → All (HasShape 256 3) cs → All (HasShape s.degree (rows s + 1)) cs
shapes_of s cs set shapes = subst (λ (t : ParamSet). All (HasShape t.degree (rows t + 1)) cs) (sym set) shapes

-- rows of zeros, as many and as long as those of such a ciphertext
pub cleared : (c d z : Cipher) → HasShape 256 3 c → d ≡ c → z ≡ replicate (length d) (replicate {A = ℕ} (length (row_of d 0)) 0) → HasShape 256 3 z
cleared c d z shape same zeros =
    let zeros_of : Cipher → Cipher = λ x. replicate (length x) (replicate {A = ℕ} (length (row_of x 0)) 0) in
    zeros_shape 256 3 z
    (zeros ∙ ap zeros_of same ∙ ap (λ (k : ℕ). replicate k (replicate {A = ℕ} (length (row_of c 0)) 0)) shape.rows_count
    ∙ ap (λ (n : ℕ). replicate 3 (replicate {A = ℕ} n 0)) (shape.degree 0 [] (omega (arith, shape.rows_count))))

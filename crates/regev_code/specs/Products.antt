-- Shapes of ciphertexts in product form, and the widths of digits by which a set's ciphertexts are multiplied.
use Rattle.std.specs.Prelude.{ℕ, List, ◌≡◌, ◌+◌, ◌*◌, ◌≤◌, length, All}
use Rattle.spiral_sets.specs.declared.param_set.ParamSet.{ParamSet}
use Rattle.spiral_model.specs.Sets.{IsSet, digit_count, smallest_width}
use Rattle.spiral_model.specs.Words.{Poly, Cipher}
use Rattle.ring_poly.specs.Sums.{ProductSum}

-- a ciphertext of so many rows, each of N coefficients
pub record HasShape (N count : ℕ) (cipher : Cipher) : Type 0 where
  pub rows_count : length cipher ≡ count
  pub degree : All (λ a. length a ≡ N) cipher

-- a width for which a set's room suffices
pub record IsWidth (set : ParamSet) (w : ℕ) : Type 0 where
  pub least : smallest_width set ≤ w
  pub most : w ≤ 56

-- what a set's room for a digit sum keeps: the numbers of a polynomial, their digits at the least width, a polynomial, as many product
-- forms as there are digits, and a sum
pub record IsRoom (set : ParamSet) (numbers digits : List ℕ) (poly : Poly) (forms : List Poly) (sum : ProductSum) : Type 0 where
  pub known : IsSet set
  pub numbers_count : length numbers ≡ set.degree
  pub digits_count : length digits ≡ digit_count (smallest_width set) * set.degree
  pub poly_degree : length poly ≡ set.degree
  pub forms_count : length forms ≡ digit_count (smallest_width set)
  pub forms_degree : All (λ a. length a ≡ set.degree) forms
  pub sum_degree : length sum.value ≡ set.degree

-- what the room for a set's products of ciphertexts keeps: its sums have n + 1 rows, or 2 where the set packs
pub record IsScratch (set room : ParamSet) (matrix scalar : Cipher) (first second : Poly) : Type 0 where
  pub known : IsSet set
  pub same : room ≡ set
  pub matrix_shape : HasShape set.degree (set.n + 1) matrix
  pub scalar_shape : HasShape set.degree 2 scalar
  pub first_degree : length first ≡ set.degree
  pub second_degree : length second ≡ set.degree

-- Secrets that are drawn one after the other, and the shapes of what is drawn.
use Rattle.std.proofs.Common.{◌≡◌, ℕ, ◌+◌, ◌*◌, ℤ, Bool, true, false, List, [], ◌∷◌, ◌++◌, length, map, if◌then◌else◌, Some, None, All, ◌∙◌, ap, arith}
use Rattle.std.specs.List.{range_with_len}
use Rattle.std.specs.Option.{option_to_list}
use Rattle.std.proofs.lemmas.List.Elements.{All-nil, All-cons}
use Rattle.negacyclic.proofs.Lists.{same_range, all_range, pushed_more}
use Rattle.spiral_model.specs.Sampling.{secret_numbers}
use Rattle.spiral_model.specs.Dealing.{secret_rows}
use Rattle.spiral_sets.specs.declared.param_set.ParamSet.{ParamSet}
use Rattle.spiral_model.specs.Sets.{has_keys}
use Rattle.regev_code.specs.Shapes.{rows_from, secrets_from, OfDegree}
use Rattle.regev_code.proofs.Samples.{length-secret_numbers}

-- one more secret
pub rows_more : (N M : ℕ) (words : List ℕ) (start r : ℕ) (rows new : List (List ℤ)) (key : List ℤ) → M ≡ N
    → rows ≡ rows_from N r words start → key ≡ secret_numbers M words (start + r * M) → new ≡ rows ++ key ∷ []
    → new ≡ rows_from N (r + 1) words start
rows_more N M words start r rows new key e so_far drawn pushed =
    let here : key ≡ secret_numbers N words (start + r * N) = drawn ∙ ap (λ (n : ℕ). secret_numbers n words (start + r * n)) e in
    pushed_more (λ i. secret_numbers N words (start + i * N)) 0 r r rows new key (omega arith) so_far pushed here

secret_numbers-some : (N : ℕ) (words : List ℕ) (start : ℕ) (has : Bool) → All (λ s. length s ≡ N) (option_to_list (if has then Some (secret_numbers N words start) else None))
secret_numbers-some N words start true =
    All-cons (λ (s : List ℤ). length s ≡ N) (secret_numbers N words start) [] (length-secret_numbers N words start) (All-nil (λ (s : List ℤ). length s ≡ N))
secret_numbers-some N words start false = All-nil (λ (s : List ℤ). length s ≡ N)

-- The secrets of a set: n of them, each of N numbers.
pub rows_from-degree : (N n : ℕ) (words : List ℕ) (start : ℕ) → All (λ s. length s ≡ N) (rows_from N n words start)
rows_from-degree N n words start =
    all_range (λ (s : List ℤ). length s ≡ N) (λ r. secret_numbers N words (start + r * N)) n (λ k h. length-secret_numbers N words _)

pub secrets_from-degree : (set : ParamSet) (words : List ℕ) (start : ℕ) → OfDegree set.degree (secrets_from set words start)
secrets_from-degree set words start = record {
  scalar = secret_numbers-some set.degree words start (has_keys set);
  rows = rows_from-degree set.degree set.n words (start + (if has_keys set then set.degree else 0));
}

-- At the front of a query's words the secrets s_1 to s_n are those that a query's definition names.
rows_same : (has : Bool) (N n : ℕ) (words : List ℕ)
    → rows_from N n words (0 + (if has then N else 0)) ≡ map (λ r. secret_numbers N words ((if has then r + 1 else r) * N)) (range_with_len 0 n)
rows_same true N n words =
    same_range (λ r. secret_numbers N words (0 + N + r * N)) (λ r. secret_numbers N words ((r + 1) * N)) n
    (λ k h. let place : 0 + N + k * N ≡ (k + 1) * N = omega arith in ap (λ (p : ℕ). secret_numbers N words p) place)
rows_same false N n words =
    same_range (λ r. secret_numbers N words (0 + 0 + r * N)) (λ r. secret_numbers N words (r * N)) n
    (λ k h. let place : 0 + 0 + k * N ≡ k * N = omega arith in ap (λ (p : ℕ). secret_numbers N words p) place)

pub secrets_from-rows : (set : ParamSet) (words : List ℕ) → (secrets_from set words 0).rows ≡ secret_rows set words
unfolding secret_rows
secrets_from-rows set words = rows_same (has_keys set) set.degree set.n words

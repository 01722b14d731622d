-- The ciphertexts of the first dimension, written one after the other.
use Rattle.std.proofs.Common.{◌≡◌, ℕ, ◌*◌, ◌/◌, ◌%◌, ◌^◌, ◌≤◌, List, [], length, ◌∙◌, arith}
use Rattle.negacyclic.proofs.Lists.{rows_from_places}
use Rattle.negacyclic.proofs.Filled.{Filled}
use Rattle.spiral_sets.specs.declared.param_set.ParamSet.{ParamSet}
use Rattle.spiral_model.specs.Sets.{columns}
use Rattle.spiral_model.specs.Words.{Cipher, Matrix}
use Rattle.spiral_model.specs.Answering.{first_product, first_columns_of, first_products}

-- the ciphertext at place k of the first dimension
abbrev pub product_at : ParamSet → List Matrix → List Cipher → ℕ → Cipher
product_at set matrices firsts k = first_product set matrices firsts (k / columns set) (k % columns set)

-- all of them
pub products_all : (set : ParamSet) (matrices : List Matrix) (firsts old : List Cipher) (k : ℕ) (out : List Cipher) → length old ≡ 2 ^ set.nu2 * columns set
    → length old ≤ k → Filled (product_at set matrices firsts) old k out → out ≡ first_products set matrices firsts
unfolding first_products first_columns_of
products_all set matrices firsts old k out count past so_far =
    rows_from_places (first_product set matrices firsts) (columns set) (2 ^ set.nu2) out [] (so_far.count ∙ count)
    (λ i h. so_far.done i [] (omega (arith, so_far.count)))

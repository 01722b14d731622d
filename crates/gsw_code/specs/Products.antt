-- The shapes of GSW ciphertexts and of a query made ready.
use Rattle.std.specs.Prelude.{◌≡◌, ◌+◌, length, All}
use Rattle.spiral_sets.specs.declared.param_set.ParamSet.{ParamSet}
use Rattle.spiral_sets.specs.Sets.{rows}
use Rattle.spiral_sets.specs.Counts.{firsts_count, gsw_count}
use Rattle.spiral_model.specs.Words.{Gsw}
use Rattle.spiral_model.specs.Answering.{Ready}
use Rattle.regev_code.specs.Products.{HasShape}

-- a GSW ciphertext of a set: a column for each row from 0 to m and each digit, of m + 1 rows of N coefficients
pub record IsGsw (set : ParamSet) (columns : Gsw) : Type 0 where
  pub count : length columns ≡ gsw_count set
  pub shapes : All (λ column. HasShape set.degree (rows set + 1) column) columns

-- a query of a set made ready: the ciphertexts of its first dimension, and a GSW ciphertext for each selection
pub record IsReady (set : ParamSet) (ready : Ready) : Type 0 where
  pub firsts_many : length ready.firsts ≡ firsts_count set
  pub firsts_shapes : All (HasShape set.degree (rows set + 1)) ready.firsts
  pub gsws_many : length ready.gsws ≡ set.nu2
  pub gsws_shapes : All (IsGsw set) ready.gsws

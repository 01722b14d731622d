-- How contracts see a server, and what it keeps.
use Rattle.std.specs.Prelude.{ℕ, List, ◌≡◌, ◌+◌, ◌*◌, ◌^◌, ◌≤◌, length, All}
use Rattle.spiral_sets.specs.declared.param_set.ParamSet.{ParamSet}
use Rattle.spiral_model.specs.Sets.{IsSet, rows, columns}
use Rattle.spiral_model.specs.Databases.{RecordTable, matrices_of}
use Rattle.regev_code.specs.Products.{HasShape}
use Rattle.first_dim.specs.Preparations.{PreparedRecords}

-- a server: its database, and how many workers it has
pub record Served : Type 0 where
  pub table : RecordTable
  pub workers : ℕ

-- What every server keeps: the database as the first dimension reads it, the ring of its degree, a scratch for each
-- worker, and room for the ciphertexts of the first dimension.
pub record IsServed (table : RecordTable) (prepared : PreparedRecords) (ring : ℕ) (scratch : List ParamSet) (outputs : List (List (List ℕ))) : Type 0 where
  pub known : IsSet table.set
  pub same : prepared ≡ record { set = table.set; matrices = matrices_of table }
  pub degree : ring ≡ table.set.degree
  pub some : 1 ≤ length scratch
  pub few : length scratch ≤ 64
  pub sets : All (λ s. s ≡ table.set) scratch
  pub count : length outputs ≡ 2 ^ table.set.nu2 * columns table.set
  pub shapes : All (HasShape table.set.degree (rows table.set + 1)) outputs

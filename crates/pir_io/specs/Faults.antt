-- How the answers of an outside object hang together with its count of faults.
use Rattle.std.specs.Prelude.{ℕ, ◌≡◌, ◌-◌, ◌^◌, ◌<◌, ◌≤◌, ◌⊎◌, Result, Err}
use Rattle.pir_io.specs.declared.fault.IoFault.{IoFault}
use Rattle.pir_io.specs.declared.fault.IoFault.TheVariants.{Failed, NoMemory}

-- The count rose: it is higher than before, or it stands at 2^64 - 1, the end of its type, where it can rise no more.
abbrev pub Rose : ℕ → ℕ → Type 0
Rose before now = (before < now) ⊎ (now ≡ 2 ^ 64 - 1)

-- The count never falls; Failed is answered only where it rose; want of memory changes nothing.
pub record HasCause {T : Type 0} (before now : ℕ) (result : Result T IoFault) : Type 0 where
  pub later : before ≤ now
  pub failed : result ≡ Err Failed → Rose before now
  pub no_memory : result ≡ Err NoMemory → now ≡ before

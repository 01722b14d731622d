-- The calls of an object in memory that are to fail, and those that were made.
use Rattle.std.specs.Prelude.{ℕ, Bool, false, IsTrue, List, ◌≡◌, ◌+◌, ◌-◌, ◌^◌, ◌==◌, min, Result, Ok, Err, OnOk}
use Rattle.std.specs.List.{list_any}
use Rattle.pir_io.specs.declared.fault.IoFault.{IoFault}
use Rattle.pir_io.specs.declared.fault.IoFault.TheVariants.{Failed, NoMemory}

-- the numbers of the calls that are to fail, and how many calls were made: the next call's number
pub record CallPlan : Type 0 where
  pub fail : List ℕ
  pub calls : ℕ

-- whether the next call is to fail
abbrev pub is_listed : CallPlan → Bool
is_listed plan = list_any (λ number. number == plan.calls) plan.fail

-- one more, up to the end of the type
abbrev pub one_more : ℕ → ℕ
one_more n = min (n + 1) (2 ^ 64 - 1)

-- what the calls made become by a call with this answer: want of memory isn't counted
abbrev pub calls_after : {T : Type 0} → ℕ → Result T IoFault → ℕ
calls_after calls (Ok _) = one_more calls
calls_after calls (Err Failed) = one_more calls
calls_after calls (Err NoMemory) = calls

-- a call fails exactly where it is to, if memory isn't wanting, and is counted
pub record FailsExactly {T : Type 0} (old new : CallPlan) (fails : Bool) (result : Result T IoFault) : Type 0 where
  pub same_list : new.fail ≡ old.fail
  pub counted : new.calls ≡ calls_after old.calls result
  pub ok : OnOk result (fails ≡ false)
  pub failed : result ≡ Err Failed → IsTrue fails

-- A command step by step and its ends, from what the calls that make them promise.
use Rattle.std.proofs.Common.{ℕ, List, ◌∷◌, ◌≡◌, ◌<◌, ◌⊎◌, length, Ok, Err, inl, inr, refl, subst}
use Rattle.pir_io.specs.declared.fault.IoFault.TheVariants.{Failed, NoMemory as out_of_memory}
use Rattle.pir_io.specs.Files.{FilesSeen}
use Rattle.pir_io.specs.Reading.{OnlyRead}
use Rattle.pir_io.specs.Sink.{SinkSeen}
use Rattle.tool_base.specs.declared.status.Status.{Status}
use Rattle.tool_base.specs.declared.status.Status.TheVariants.{NoMemory, FileFault}
use Rattle.tool_base.specs.Texts.{file_fault_line}
use Rattle.tool_base.specs.Puts.{Finishes, Refused}
use Rattle.tool_base.specs.Outputs.{Output, WritesOutputs}
use Rattle.tool_base.specs.Steps.{Scene, scene, write}
use Rattle.tool_base.proofs.WritingAll.{failed_is_stopped, all_is_stopped}

-- ---- a command's course, step by step, each from what the call that makes it promises

-- a file was read, with this outcome
pub behind : {old now : FilesSeen} {Outcome : FilesSeen → Type 0} → OnlyRead old now → Outcome now → (n : FilesSeen) × OnlyRead old n × Outcome n
behind {now = now} only outcome = (now, only, outcome)

-- its bytes are this, and so it goes on
pub found : {A Unread : Type 0} {Is Rest : A → Type 0} (x : A) → Is x → Rest x → Unread ⊎ ((y : A) × Is y × Rest y)
found x is rest = inr (x, is, rest)

-- what is needed holds, or it doesn't and the command is refused
pub held : {Holds Refused Rest : Type 0} → Holds → Rest → Refused ⊎ (Holds × Rest)
held holds rest = inr (holds, rest)

abbrev pub Both : Type 0 → Type 0 → Type 0
Both A B = A × B

pub denied : {Not Same Refusal Further : Type 0} → Not → Same → Refusal → (Not × Both Same Refusal) ⊎ Further
denied not same refusal = inl (not, (same, refusal))

-- ---- its ends

module _ (old new : FilesSeen) (so sn : SinkSeen) (outputs : List Output) (some : 0 < length outputs) where
  -- all were written, and the line was to be put
  pub written : {T : Type 0} {t : T} (line : List ℕ) (status : Status) → WritesOutputs old new outputs (Ok t) → Finishes so sn line status → write outputs line (scene old new so sn) status
  written line status writes (inl finished) = (writes.tells, inl (writes.ok, finished))
  written line status writes (inr (short, nothing)) = (writes.tells, inr (inl (short, (λ told. all_is_stopped outputs old new some (writes.ok told)), nothing)))

  -- writing one of them failed
  pub not_written : {T : Type 0} (line : List ℕ) (status : Status) → WritesOutputs {T = T} old new outputs (Err Failed) → Refused so sn FileFault file_fault_line status → write outputs line (scene old new so sn) status
  not_written line status writes (inl (is, got)) = (writes.tells, inr (inr (is, writes.rose refl, (λ told. writes.failed told refl), got)))
  not_written line status writes (inr (short, nothing)) =
      (writes.tells, inr (inl (short, (λ told. failed_is_stopped outputs old new (writes.failed told refl)), nothing)))

-- memory was wanting while they were written
pub stopped_writing : {T : Type 0} (old new : FilesSeen) (so : SinkSeen) (outputs : List Output) (line : List ℕ) → WritesOutputs {T = T} old new outputs (Err out_of_memory)
    → write outputs line (scene old new so so) NoMemory
stopped_writing old new so outputs line writes = (writes.tells, inr (inl (refl, (λ told. writes.no_memory told refl), (refl, λ told. refl))))

-- memory was wanting before anything was written
pub not_begun : (old : FilesSeen) (so : SinkSeen) (first : Output) (outputs : List Output) (line : List ℕ) → write (first ∷ outputs) line (scene old old so so) NoMemory
not_begun old so first outputs line = (refl, inr (inl (refl, (λ told. inl (inl refl, λ other differs. refl)), (refl, λ told. refl))))

-- the outputs that were given are those that were wanted, and so is the line
pub write_as : (given wanted : List Output) (text line : List ℕ) (s : Scene) (status : Status) → given ≡ wanted → text ≡ line → write given text s status → write wanted line s status
write_as given wanted text line s status outputs_are line_is ends =
    subst (λ l. write wanted l s status) line_is (subst (λ o. write o text s status) outputs_are ends)

pub refused_as : (so sn : SinkSeen) (ended : Status) (text line : List ℕ) (status : Status) → text ≡ line → Refused so sn ended text status → Refused so sn ended line status
refused_as so sn ended text line status line_is refused = subst (λ l. Refused so sn ended l status) line_is refused

-- What a sink got from a command. Whether it tells its bytes stays.
use Rattle.std.specs.Prelude.{ℕ, List, ◌++◌, ◌≡◌, ◌⊎◌, IsTrue, take}
use Rattle.pir_io.specs.Faults.{Rose}
use Rattle.pir_io.specs.Sink.{SinkSeen}
use Rattle.tool_base.specs.declared.status.Status.{Status}
use Rattle.tool_base.specs.declared.status.Status.TheVariants.{Done, NoMemory, SinkFault}

-- nothing
abbrev pub GotNothing : SinkSeen → SinkSeen → Type 0
GotNothing old new = (new.tells ≡ old.tells) × (IsTrue old.tells → new.bytes ≡ old.bytes)

-- this line and nothing else
abbrev pub GotLine : SinkSeen → SinkSeen → List ℕ → Type 0
GotLine old new text = (new.tells ≡ old.tells) × (IsTrue old.tells → new.bytes ≡ old.bytes ++ text)

-- a prefix of this line, where the count of faults rose
abbrev pub GotPrefix : SinkSeen → SinkSeen → List ℕ → Type 0
GotPrefix old new text = (new.tells ≡ old.tells) × Rose old.faults new.faults × (IsTrue old.tells → (k : ℕ) × (new.bytes ≡ old.bytes ++ take k text))

-- the line of a refusal: a prefix of it where the put failed
abbrev pub GotRefusal : SinkSeen → SinkSeen → List ℕ → Type 0
GotRefusal old new text = GotLine old new text ⊎ GotPrefix old new text

-- the line of a refusal with a status of its own; where memory was wanting for the line, that is the status
abbrev pub Refused : SinkSeen → SinkSeen → Status → List ℕ → Status → Type 0
Refused old new ended text status = ((status ≡ ended) × GotRefusal old new text) ⊎ ((status ≡ NoMemory) × GotNothing old new)

-- the line of a command that did what it promises
abbrev pub Finished : SinkSeen → SinkSeen → List ℕ → Status → Type 0
Finished old new text status = ((status ≡ Done) × GotLine old new text) ⊎ ((status ≡ SinkFault) × GotPrefix old new text)

-- that line; or memory was wanting for it
abbrev pub Finishes : SinkSeen → SinkSeen → List ℕ → Status → Type 0
Finishes old new text status = Finished old new text status ⊎ ((status ≡ NoMemory) × GotNothing old new)

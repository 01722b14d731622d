-- What a client opens of a reply, and why it may not.
use Rattle.std.specs.Prelude.{ℕ, List, ◌≡◌, ◌≢◌, ◌<◌, ◌≤◌, Result, Ok, Err}
use Rattle.spiral_model.specs.Databases.{RecordTable, record_at}
use Rattle.spiral_model.specs.Replies.{QueryState, SwitchedReply, open_bytes}
use Rattle.spiral_model.specs.Dealing.{state_of}
use Rattle.noise_laws.specs.LookUps.{LookUp, reply_to}
use Rattle.pir_client.specs.declared.opening.OpenError.{OpenError}
use Rattle.pir_client.specs.declared.opening.OpenError.TheVariants.{WrongSet, Absent, NoMemory}

-- Each answer of a call that opens, and where it comes: another set before an index that isn't below the count, and
-- want of memory only where there is neither. `bytes_of` shows the record's bytes.
abbrev pub Opens : {T : Type 0} → (T → List ℕ) → QueryState → SwitchedReply → Result T OpenError → Type 0
Opens bytes_of state reply (Ok record_opened) =
    (state.set ≡ reply.set) × (state.index < reply.count) × (bytes_of record_opened ≡ open_bytes state reply)
Opens bytes_of state reply (Err (WrongSet expected found)) = (expected ≡ state.set) × (found ≡ reply.set) × (state.set ≢ reply.set)
Opens bytes_of state reply (Err (Absent index count)) =
    (state.set ≡ reply.set) × (index ≡ state.index) × (count ≡ reply.count) × (count ≤ index)
Opens bytes_of state reply (Err NoMemory) = (state.set ≡ reply.set) × (state.index < reply.count)

-- The answer has these bytes, or memory was wanting.
abbrev pub HasRecord : {T : Type 0} → (T → List ℕ) → List ℕ → Result T OpenError → Type 0
HasRecord bytes_of bytes (Ok record_opened) = bytes_of record_opened ≡ bytes
HasRecord bytes_of bytes (Err (WrongSet expected found)) = ⊥
HasRecord bytes_of bytes (Err (Absent index count)) = ⊥
HasRecord bytes_of bytes (Err NoMemory) = Unit {0}

-- Where state and reply are those of a look-up, the answer is the record that was asked for, or that memory was wanting.
abbrev pub Retrieves : {T : Type 0} → (T → List ℕ) → QueryState → SwitchedReply → Result T OpenError → Type 0
Retrieves bytes_of state reply result =
    (table : RecordTable) (words : List ℕ) (index : ℕ) → LookUp table words index → state ≡ state_of table.set words index
    → reply ≡ reply_to table words index → HasRecord bytes_of (record_at table index) result

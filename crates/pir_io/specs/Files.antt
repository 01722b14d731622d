-- A set of named files, and what a call does to it. The clauses on contents hold of an object that tells them.
use Rattle.std.specs.Prelude.{ℕ, Bool, true, false, IsTrue, List, [], ◌++◌, ◌≡◌, ◌≢◌, ◌+◌, ◌<◌, ◌≤◌, ◌⊎◌, length, take, drop, unwrap_or, Option, Some, Result, Ok, Err, IfOk, OnOk}
use Rattle.pir_io.specs.declared.fault.IoFault.{IoFault}
use Rattle.pir_io.specs.declared.fault.IoFault.TheVariants.{Failed, NoMemory}
use Rattle.pir_io.specs.Faults.{HasCause}

-- a call that answered Failed: the name that it was given, and whether it wrote (create, append) or read
pub record FailedCall : Type 0 where
  pub name : List ℕ
  pub wrote : Bool

-- What is seen of an object: whether it tells contents, what stands under each name (None: the name isn't
-- there), how many faults were counted, and the last call that answered Failed.
pub record FilesSeen : Type 0 where
  pub tells : Bool
  pub content : List ℕ → Option (List ℕ)
  pub faults : ℕ
  pub last_failed : Option FailedCall

-- the bytes of a name; none where it isn't there
abbrev pub content_of : FilesSeen → List ℕ → List ℕ
content_of files name = unwrap_or (files.content name) []

-- every name holds what it held
abbrev pub Keeps : FilesSeen → FilesSeen → Type 0
Keeps old new = (name : List ℕ) → new.content name ≡ old.content name

-- every name but this one holds what it held
abbrev pub KeepsOthers : FilesSeen → FilesSeen → List ℕ → Type 0
KeepsOthers old new name = (other : List ℕ) → other ≢ name → new.content other ≡ old.content other

-- the last failed call after a call with this answer
abbrev pub last_after : {T : Type 0} → Result T IoFault → FailedCall → Option FailedCall → Option FailedCall
last_after (Ok _) call before = before
last_after (Err Failed) call before = Some call
last_after (Err NoMemory) call before = before

-- The first n bytes of `into` are bytes of the content from `place`, at least one where there is room and some are left.
pub record IsPiece (bytes : List ℕ) (place : ℕ) (into : List ℕ) (n : ℕ) : Type 0 where
  pub front : take n into ≡ take n (drop place bytes)
  pub within : 0 < n → place + n ≤ length bytes
  pub some : 0 < length into → place < length bytes → 0 < n

-- what `read_at` does: it changes nothing but its buffer, which was `before` and is `into`, and not that where memory
-- was wanting
pub record ReadsAt (old new : FilesSeen) (name : List ℕ) (place : ℕ) (before into : List ℕ) (result : Result ℕ IoFault) : Type 0 where
  pub tells : new.tells ≡ old.tells
  pub cause : HasCause old.faults new.faults result
  pub count : IfOk result (λ n. n ≤ length into)
  pub buffer : result ≡ Err NoMemory → into ≡ before
  pub piece : IsTrue old.tells → IfOk result (λ n. IsPiece (content_of old name) place into n)
  pub keeps : IsTrue old.tells → Keeps old new
  pub last : IsTrue old.tells → new.last_failed ≡ last_after result (record { name = name; wrote = false }) old.last_failed

-- what `create` does: the name then holds no bytes; a failed one changes nothing or leaves it empty
pub record Creates (old new : FilesSeen) (name : List ℕ) (result : Result (Unit {0}) IoFault) : Type 0 where
  pub tells : new.tells ≡ old.tells
  pub cause : HasCause old.faults new.faults result
  pub ok : IsTrue old.tells → OnOk result (new.content name ≡ Some [])
  pub failed : IsTrue old.tells → result ≡ Err Failed → (new.content name ≡ old.content name) ⊎ (new.content name ≡ Some [])
  pub no_memory : IsTrue old.tells → result ≡ Err NoMemory → new.content name ≡ old.content name
  pub others : IsTrue old.tells → KeepsOthers old new name
  pub last : IsTrue old.tells → new.last_failed ≡ last_after result (record { name = name; wrote = true }) old.last_failed

-- a name holds what it held, or that and the first k of these bytes
abbrev pub HasPrefixAdded : FilesSeen → FilesSeen → List ℕ → List ℕ → Type 0
HasPrefixAdded old new name bytes = (new.content name ≡ old.content name) ⊎ ((k : ℕ) × (new.content name ≡ Some (content_of old name ++ take k bytes)))

-- what `append` does: the bytes stand at the name's end; a failed one has added a prefix of them
pub record AppendsTo (old new : FilesSeen) (name bytes : List ℕ) (result : Result (Unit {0}) IoFault) : Type 0 where
  pub tells : new.tells ≡ old.tells
  pub cause : HasCause old.faults new.faults result
  pub ok : IsTrue old.tells → OnOk result (new.content name ≡ Some (content_of old name ++ bytes))
  pub failed : IsTrue old.tells → result ≡ Err Failed → HasPrefixAdded old new name bytes
  pub no_memory : IsTrue old.tells → result ≡ Err NoMemory → new.content name ≡ old.content name
  pub others : IsTrue old.tells → KeepsOthers old new name
  pub last : IsTrue old.tells → new.last_failed ≡ last_after result (record { name = name; wrote = true }) old.last_failed

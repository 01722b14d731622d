-- How frames are sent over a net, and how what comes for them is received: by the answer of each call.
use Rattle.std.specs.Prelude.{ℕ, List, [], ◌++◌, ◌≡◌, ◌⊎◌, ◌<◌, ◌≤◌, ◌+◌, ◌^◌, IsTrue, false, length, take, Result, Ok, Err, OnOk, OnErr}
use Rattle.pir_io.specs.declared.fault.IoFault.{IoFault}
use Rattle.pir_io.specs.declared.fault.IoFault.TheVariants.{Failed, NoMemory as no_memory}
use Rattle.pir_io.specs.Faults.{Rose}
use Rattle.pir_io.specs.Link.{LinkSeen}
use Rattle.spiral_model.specs.Replies.{QueryState}
use Rattle.tool_base.specs.Steps.{Steps, without_line, IsRefusedAs}
use Rattle.tool_base.specs.declared.status.Status.TheVariants as status
use Rattle.tool_files.specs.declared.peer_answer.PeerAnswer.{PeerAnswer}
use Rattle.tool_files.specs.Inputs.{SpellsAnswer, answer_kinds}
use Rattle.tool_fetch.specs.declared.exchange.LinkError.{LinkError}
use Rattle.tool_fetch.specs.declared.exchange.LinkError.TheVariants.{Fault, Frame, NoMemory}
use Rattle.tool_fetch.specs.Fetch.{HasSent, ShortAtEnd, breaks_off, receives}

-- ---- sending

-- On an open link bytes are written, or a prefix of them where it fails; where it succeeds, its side is closed behind them.
pub record WritesAndEnds (old new : LinkSeen) (bytes : List ℕ) (result : Result (Unit {0}) IoFault) : Type 0 where
  pub tells : new.tells ≡ old.tells
  pub is_open : IsTrue new.is_open
  pub later : old.faults ≤ new.faults
  pub failed : result ≡ Err Failed → Rose old.faults new.faults
  pub ok : IsTrue old.tells → OnOk result ((new.wrote ≡ old.wrote ++ bytes) × IsTrue new.closed)
  pub err : IsTrue old.tells → OnErr result ((k : ℕ) × (new.wrote ≡ old.wrote ++ take k bytes))
  pub others : IsTrue old.tells → (new.took ≡ old.took) × (new.ended ≡ old.ended) × (new.log ≡ old.log)

-- nothing was read yet, and the input goes on
abbrev pub Unread : LinkSeen → Type 0
Unread net = IsTrue net.tells → (net.took ≡ []) × (net.ended ≡ false)

-- all was sent in the first session behind those before it, and the side is closed
abbrev pub SentAll : LinkSeen → LinkSeen → List ℕ → List ℕ → Type 0
SentAll old new addr bytes = HasSent old new addr bytes × IsTrue new.closed

-- a prefix was sent in it
abbrev pub SentSome : LinkSeen → LinkSeen → List ℕ → List ℕ → Type 0
SentSome old new addr bytes = (k : ℕ) × HasSent old new addr (take k bytes)

-- by the answer
abbrev pub SendsAs : LinkSeen → LinkSeen → List ℕ → List ℕ → Result (Unit {0}) IoFault → Type 0
SendsAs old new addr bytes (Ok _) = IsTrue new.is_open × (old.faults ≤ new.faults) × Unread new × (IsTrue old.tells → SentAll old new addr bytes)
SendsAs old new addr bytes (Err Failed) =
    Rose old.faults new.faults × (IsTrue old.tells → new.ended ≡ false) × (IsTrue old.tells → SentSome old new addr bytes)
SendsAs old new addr bytes (Err no_memory) = (new ≡ old) ⊎ (IsTrue old.tells → SentSome old new addr bytes)

-- A net connects to an address and sends these bytes.
pub record Sends (old new : LinkSeen) (addr bytes : List ℕ) (result : Result (Unit {0}) IoFault) : Type 0 where
  pub tells : new.tells ≡ old.tells
  pub sent : SendsAs old new addr bytes result

-- ---- receiving

-- What comes is one frame of these kinds, up to the end of input; or it isn't, and is refused for the first reason; or a call failed before the
-- end was read.
abbrev pub CameAs : {T : Type 0} → ℕ → (List ℕ → T → Type 0) → LinkSeen → LinkSeen → Result T LinkError → Type 0
CameAs kinds Is old new (Ok x) = IsTrue old.tells → IsTrue new.ended × Is new.took x
CameAs kinds Is old new (Err Fault) = Rose old.faults new.faults × (IsTrue old.tells → new.ended ≡ false)
CameAs kinds Is old new (Err (Frame error)) = IsTrue old.tells → IsRefusedAs kinds new.took error × ShortAtEnd new error
CameAs kinds Is old new (Err NoMemory) = Unit {0}

-- The input of an open link is read, and nothing else changes.
pub record Receives {T : Type 0} (kinds : ℕ) (Is : List ℕ → T → Type 0) (old new : LinkSeen) (result : Result T LinkError) : Type 0 where
  pub tells : new.tells ≡ old.tells
  pub few : IsTrue old.tells → length new.took < 2 ^ 24 + 2 ^ 16
  pub others : IsTrue old.tells → (new.wrote ≡ old.wrote) × (new.closed ≡ old.closed) × (new.log ≡ old.log)
  pub came : CameAs kinds Is old new result

-- ---- both

-- by the answer
abbrev pub ExchangesAs : LinkSeen → LinkSeen → List ℕ → List ℕ → Result PeerAnswer LinkError → Type 0
ExchangesAs old new addr bytes (Ok answer) =
    (IsTrue old.tells → SentAll old new addr bytes) × (IsTrue old.tells → IsTrue new.ended × SpellsAnswer new.took answer)
ExchangesAs old new addr bytes (Err (Frame error)) =
    (IsTrue old.tells → SentAll old new addr bytes) × (IsTrue old.tells → IsRefusedAs answer_kinds new.took error × ShortAtEnd new error)
ExchangesAs old new addr bytes (Err Fault) =
    Rose old.faults new.faults × (IsTrue old.tells → new.ended ≡ false) × (IsTrue old.tells → SentSome old new addr bytes)
ExchangesAs old new addr bytes (Err NoMemory) = (new ≡ old) ⊎ (IsTrue old.tells → SentSome old new addr bytes)

-- A net connects, sends these bytes, and receives what comes for them.
pub record Exchanges (old new : LinkSeen) (addr bytes : List ℕ) (result : Result PeerAnswer LinkError) : Type 0 where
  pub tells : new.tells ≡ old.tells
  pub came : ExchangesAs old new addr bytes result

-- by how it goes
abbrev pub looks_up_as : (addr out_name bytes : List ℕ) → QueryState → LinkSeen → LinkSeen → Steps
looks_up_as addr out_name bytes state net net_after s ended =
    ((net_after ≡ net) × without_line status.NoMemory s ended)
    ⊎ (((IsTrue net.tells → SentSome net net_after addr bytes) × breaks_off net net_after s ended)
    ⊎ ((IsTrue net.tells → SentAll net net_after addr bytes) × receives out_name state net_after s ended))

-- What a look-up comes to that sends these bytes and keeps this state: `exchanges` with what was asked.
abbrev pub looks_up : (addr out_name bytes : List ℕ) → QueryState → LinkSeen → LinkSeen → Steps
looks_up addr out_name bytes state net net_after s ended =
    (net_after.tells ≡ net.tells) × looks_up_as addr out_name bytes state net net_after s ended

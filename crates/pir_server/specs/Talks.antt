-- What a session has come to between two of its calls, and what each of its steps does.
use Rattle.std.specs.Prelude.{ℕ, Bool, true, false, IsTrue, List, [], ◌∷◌, ◌++◌, ◌+◌, ◌^◌, ◌≡◌, ◌≢◌, ◌≤◌, ◌<◌, ◌⊎◌, length, take, Option, Some, None, Result, Ok, Err}
use Rattle.pir_io.specs.Faults.{Rose}
use Rattle.pir_io.specs.Link.{LinkSeen}
use Rattle.spiral_sets.specs.declared.param_set.ParamSet.{ParamSet}
use Rattle.frame_headers.specs.declared.frame_error.FrameError.{FrameError}
use Rattle.spiral_model.specs.Databases.{RecordTable}
use Rattle.spiral_model.specs.Keys.{SetKeys}
use Rattle.spiral_frames.specs.Frames.{PeerRefusal, frame_of, refuse_message}
use Rattle.frame_streams.specs.Decoding.{Placed, refused, reading, Decoding, begun, decoded}
use Rattle.frame_streams.specs.StreamLaws.{AreBytes}
use Rattle.frame_streams.specs.Serving.{Serving, idle, serve_one, served, server_kinds, refusal_by}
use Rattle.pir_wire.specs.Feeding.{ends_by}
use Rattle.pir_server.specs.declared.session.EndCause.{EndCause}
use Rattle.pir_server.specs.declared.session.EndCause.TheVariants.{Done, Refused, LinkFault, Limit, NoMemory}
use Rattle.pir_server.specs.declared.session.talk.Talk.{Talk}
use Rattle.pir_server.specs.declared.session.talk.Piece.{Piece}
use Rattle.pir_server.specs.declared.session.talk.Piece.TheVariants as piece
use Rattle.pir_server.specs.Sessions.{joined, no_memory_frame, EndsBy}

-- ---- what is written

-- Nothing is read, and the link stays open.
pub record OnlyWrites (old new : LinkSeen) : Type 0 where
  pub tells : new.tells ≡ old.tells
  pub is_open : IsTrue new.is_open
  pub later : old.faults ≤ new.faults
  pub others : IsTrue old.tells → (new.took ≡ old.took) × (new.ended ≡ old.ended) × (new.closed ≡ old.closed) × (new.log ≡ old.log)

-- Bytes of which this is so are added to those written.
abbrev pub Adds : LinkSeen → LinkSeen → (List ℕ → Type 0) → Type 0
Adds old new So = IsTrue old.tells → (more : List ℕ) × (new.wrote ≡ old.wrote ++ more) × So more

-- a prefix of them
abbrev pub IsFrontOf : List ℕ → List ℕ → Type 0
IsFrontOf bytes more = (k : ℕ) × (more ≡ take k bytes)

-- What was written of bytes where writing them failed: a prefix of them; or where memory was wanting, of the Refuse frame of code 13.
abbrev pub FailedSo : ParamSet → List ℕ → EndCause → List ℕ → Type 0
FailedSo set bytes Done more = ⊥
FailedSo set bytes (Refused code at) more = ⊥
FailedSo set bytes LinkFault more = IsFrontOf bytes more
FailedSo set bytes Limit more = ⊥
FailedSo set bytes NoMemory more = IsFrontOf (no_memory_frame set) more

abbrev pub SentSo : ParamSet → List ℕ → Result (Unit {0}) EndCause → List ℕ → Type 0
SentSo set bytes (Ok _) more = more ≡ bytes
SentSo set bytes (Err cause) more = FailedSo set bytes cause more

-- Bytes were sent.
pub record Sends (set : ParamSet) (bytes : List ℕ) (old new : LinkSeen) (result : Result (Unit {0}) EndCause) : Type 0 where
  pub only : OnlyWrites old new
  pub fault : result ≡ Err LinkFault → Rose old.faults new.faults
  pub adds : Adds old new (SentSo set bytes result)

-- What was written of a refusal, by the cause that the session ends for.
abbrev pub RefusedSo : PeerRefusal → EndCause → List ℕ → Type 0
RefusedSo refusal Done more = ⊥
RefusedSo refusal (Refused code at) more = (code ≡ refusal.code) × (at ≡ refusal.place) × (more ≡ frame_of (refuse_message refusal))
RefusedSo refusal LinkFault more = IsFrontOf (frame_of (refuse_message refusal)) more
RefusedSo refusal Limit more = ⊥
RefusedSo refusal NoMemory more = IsFrontOf (no_memory_frame refusal.set) more

-- A refusal was sent.
pub record Refuses (refusal : PeerRefusal) (old new : LinkSeen) (cause : EndCause) : Type 0 where
  pub only : OnlyWrites old new
  pub fault : cause ≡ LinkFault → Rose old.faults new.faults
  pub adds : Adds old new (RefusedSo refusal cause)

-- Memory was wanting, and the Refuse frame of code 13 was tried.
pub record GivesUp (set : ParamSet) (old new : LinkSeen) (cause : EndCause) : Type 0 where
  pub only : OnlyWrites old new
  pub wanting : cause ≡ NoMemory
  pub adds : Adds old new (IsFrontOf (no_memory_frame set))

-- ---- how far a session has come

-- These bytes were read, and the first of their messages have made this; the others are ready.
pub record Amid (table : RecordTable) (x : List ℕ) (d : Decoding) (s : Serving) : Type 0 where
  pub bytes : AreBytes x
  pub seen : List Placed
  pub same : decoded (begun server_kinds) x ≡ record d { ready = seen ++ d.ready; last = 0 }
  pub made : served table idle seen ≡ s

-- what a server has made that has refused nothing
abbrev pub unrefused : Option SetKeys → List (List ℕ) → Serving
unrefused keys replies = record { keys = keys; replies = replies; refusal = None }

-- keys at hand are those of the set
abbrev pub KeysFit : ParamSet → Option SetKeys → Type 0
KeysFit set (Some keys) = keys.set ≡ set
KeysFit set None = Unit {0}

-- A session that has read these bytes and written these replies.
pub record TalkAt (table : RecordTable) (x : List ℕ) (replies : List (List ℕ)) (t : Talk) : Type 0 where
  pub amid : Amid table x t.decoder (unrefused t.keys replies)
  pub fit : KeysFit table.set t.keys
  pub taken : t.taken ≡ length x
  pub answered : t.answered ≡ length replies
  pub small : t.taken < 2 ^ 64

pub record IsTalk (table : RecordTable) (t : Talk) : Type 0 where
  pub x : List ℕ
  pub replies : List (List ℕ)
  pub at : TalkAt table x replies t

-- nothing was read, and no keys are at hand
abbrev pub IsFresh : Talk → Type 0
IsFresh t = t ≡ record { decoder = begun server_kinds; keys = None; answered = 0; taken = 0 }

-- It waits for the next piece: each message was served, and the input isn't refused.
pub record Waits (t : Talk) : Type 0 where
  pub none : t.decoder.ready ≡ []
  pub bytes : List ℕ
  pub reads : t.decoder.condition ≡ reading bytes

-- ---- one message

-- with whatever replies before, a message makes of these keys those, and adds these replies
abbrev pub ServesTo : RecordTable → Placed → Option SetKeys → Option SetKeys → List (List ℕ) → Type 0
ServesTo table placed keys after frames =
    (replies : List (List ℕ)) → serve_one table (unrefused keys replies) placed ≡ unrefused after (replies ++ frames)

-- it is refused
abbrev pub refusal_at : RecordTable → ℕ → ℕ → PeerRefusal
refusal_at table code place = record { set = table.set; code = code; place = place }

abbrev pub RefusedWith : RecordTable → Placed → Option SetKeys → ℕ → ℕ → Type 0
RefusedWith table placed keys code place =
    (replies : List (List ℕ))
    → serve_one table (unrefused keys replies) placed ≡ record { keys = keys; replies = replies; refusal = Some (refusal_at table code place) }

-- A message was served.
pub record ServesMessage (table : RecordTable) (placed : Placed) (old new : LinkSeen) (before after : Talk) : Type 0 where
  pub frames : List (List ℕ)
  pub to : ServesTo table placed before.keys after.keys frames
  pub fit : KeysFit table.set after.keys
  pub decoder : after.decoder ≡ before.decoder
  pub taken : after.taken ≡ before.taken
  pub answered : after.answered ≡ before.answered + length frames
  pub wrote : IsTrue old.tells → new.wrote ≡ old.wrote ++ joined frames

-- A message was refused; or a reply to it failed; or memory was wanting before.
pub record StopsRefused (table : RecordTable) (placed : Placed) (keys : Option SetKeys) (cause : EndCause) (more : List ℕ) : Type 0 where
  pub code : ℕ
  pub place : ℕ
  pub refused_with : RefusedWith table placed keys code place
  pub other : code ≢ 1
  pub so : RefusedSo (refusal_at table code place) cause more

pub record StopsReplying (table : RecordTable) (placed : Placed) (keys : Option SetKeys) (cause : EndCause) (more : List ℕ) : Type 0 where
  pub frame : List ℕ
  pub to : ServesTo table placed keys keys (frame ∷ [])
  pub so : FailedSo table.set frame cause more

pub record StopsWanting (table : RecordTable) (cause : EndCause) (more : List ℕ) : Type 0 where
  pub wanting : cause ≡ NoMemory
  pub so : IsFrontOf (no_memory_frame table.set) more

abbrev pub MessageStops : RecordTable → Placed → Option SetKeys → EndCause → List ℕ → Type 0
MessageStops table placed keys cause more =
    StopsRefused table placed keys cause more ⊎ (StopsReplying table placed keys cause more ⊎ StopsWanting table cause more)

abbrev pub ServesBy : RecordTable → Placed → LinkSeen → LinkSeen → Talk → Talk → Result (Unit {0}) EndCause → Type 0
ServesBy table placed old new before after (Ok _) = ServesMessage table placed old new before after
ServesBy table placed old new before after (Err cause) =
    (after.taken ≡ before.taken) × (after.answered ≡ before.answered) × Adds old new (MessageStops table placed before.keys cause)

pub record Serves (table : RecordTable) (placed : Placed) (old new : LinkSeen) (before after : Talk) (result : Result (Unit {0}) EndCause) : Type 0 where
  pub only : OnlyWrites old new
  pub fault : result ≡ Err LinkFault → Rose old.faults new.faults
  pub by : ServesBy table placed old new before after result

-- ---- the messages that are ready

-- Some messages were served, and the session goes on.
pub record GoesOn (table : RecordTable) (old new : LinkSeen) (before after : Talk) : Type 0 where
  pub condition : after.decoder.condition ≡ before.decoder.condition
  pub taken : after.taken ≡ before.taken
  pub goes :
      (x : List ℕ) (replies : List (List ℕ)) → TalkAt table x replies before
      → (frames : List (List ℕ)) × TalkAt table x (replies ++ frames) after × (IsTrue old.tells → new.wrote ≡ old.wrote ++ joined frames)

-- The session stops, having read no more.
pub record StopsHere (table : RecordTable) (old new : LinkSeen) (before after : Talk) (cause : EndCause) : Type 0 where
  pub taken : after.taken ≡ before.taken
  pub stops :
      (x : List ℕ) (replies : List (List ℕ)) → TalkAt table x replies before
      → Adds old new (λ more. (ended : Bool) (limit : ℕ) → EndsBy table limit ended x (joined replies ++ more) after.answered cause)

-- One is taken and served, where there is one.
abbrev pub NextBy : RecordTable → LinkSeen → LinkSeen → Talk → Talk → Result Bool EndCause → Type 0
NextBy table old new before after (Ok true) = GoesOn table old new before after × (length after.decoder.ready < length before.decoder.ready)
NextBy table old new before after (Ok false) = GoesOn table old new before after × (after.decoder.ready ≡ [])
NextBy table old new before after (Err cause) = StopsHere table old new before after cause

pub record ServesNext (table : RecordTable) (old new : LinkSeen) (before after : Talk) (result : Result Bool EndCause) : Type 0 where
  pub only : OnlyWrites old new
  pub fault : result ≡ Err LinkFault → Rose old.faults new.faults
  pub by : NextBy table old new before after result

-- All are.
abbrev pub ReadyBy : RecordTable → LinkSeen → LinkSeen → Talk → Talk → Result (Unit {0}) EndCause → Type 0
ReadyBy table old new before after (Ok _) = GoesOn table old new before after × (after.decoder.ready ≡ [])
ReadyBy table old new before after (Err cause) = StopsHere table old new before after cause

pub record ServesReady (table : RecordTable) (old new : LinkSeen) (before after : Talk) (result : Result (Unit {0}) EndCause) : Type 0 where
  pub only : OnlyWrites old new
  pub fault : result ≡ Err LinkFault → Rose old.faults new.faults
  pub by : ReadyBy table old new before after result

-- ---- one piece

-- A link after calls of a session: only more was read and written.
pub record Came (old new : LinkSeen) : Type 0 where
  pub tells : new.tells ≡ old.tells
  pub is_open : IsTrue new.is_open
  pub later : old.faults ≤ new.faults
  pub others : IsTrue old.tells → (new.closed ≡ old.closed) × (new.log ≡ old.log)

-- Bytes were read and fed.
pub record HasFed (old new : LinkSeen) (before after : Talk) (room : ℕ) : Type 0 where
  pub bytes : List ℕ
  pub below : AreBytes bytes
  pub some : 0 < length bytes
  pub within : length bytes ≤ room
  pub fed : after ≡ record before { decoder = decoded before.decoder bytes; taken = before.taken + length bytes }
  pub told : IsTrue old.tells → (new.took ≡ old.took ++ bytes) × (new.wrote ≡ old.wrote) × (new.ended ≡ old.ended)

-- Reading or feeding failed.
abbrev pub NotFed : ParamSet → LinkSeen → LinkSeen → Talk → Talk → ℕ → EndCause → Type 0
NotFed set old new before after room cause =
    (bytes : List ℕ) × AreBytes bytes × (length bytes ≤ room) × (after.taken ≡ before.taken + length bytes) × (after.answered ≡ before.answered)
    × (IsTrue old.tells → (more : List ℕ) × (new.took ≡ old.took ++ bytes) × (new.wrote ≡ old.wrote ++ more) × FailedSo set [] cause more)

abbrev pub TakenBy : ParamSet → LinkSeen → LinkSeen → Talk → Talk → ℕ → Result Piece EndCause → Type 0
TakenBy set old new before after room (Ok piece.Fed) =
    HasFed old new before after room × (bytes : List ℕ) × (after.decoder.condition ≡ reading bytes)
TakenBy set old new before after room (Ok (piece.Bad error)) = HasFed old new before after room × (after.decoder.condition ≡ refused error)
TakenBy set old new before after room (Ok piece.End) =
    (after ≡ before) × (IsTrue old.tells → (new.took ≡ old.took) × (new.wrote ≡ old.wrote) × (new.ended ≡ true))
TakenBy set old new before after room (Err cause) = NotFed set old new before after room cause

pub record TakesPiece (set : ParamSet) (old new : LinkSeen) (before after : Talk) (room : ℕ) (result : Result Piece EndCause) : Type 0 where
  pub came : Came old new
  pub fault : result ≡ Err LinkFault → Rose old.faults new.faults
  pub by : TakenBy set old new before after room result

-- The session ends with its input: done, or refused inside a frame.
abbrev pub FinishesWith : ParamSet → Option FrameError → LinkSeen → LinkSeen → EndCause → Type 0
FinishesWith set None old new cause = (cause ≡ Done) × (new ≡ old)
FinishesWith set (Some error) old new cause = Refuses (refusal_by set error) old new cause

abbrev pub Finishes : ParamSet → Decoding → LinkSeen → LinkSeen → EndCause → Type 0
Finishes set d old new cause = FinishesWith set (ends_by d.condition d.at) old new cause

-- A piece was read, and its messages served.
pub record Advances (table : RecordTable) (old new : LinkSeen) (before after : Talk) (room : ℕ) : Type 0 where
  pub waits : Waits after
  pub some : before.taken < after.taken
  pub within : after.taken ≤ before.taken + room
  pub goes :
      (x : List ℕ) (replies : List (List ℕ)) → TalkAt table x replies before
      → (bytes : List ℕ) × (frames : List (List ℕ)) × TalkAt table (x ++ bytes) (replies ++ frames) after
      × (IsTrue old.tells → (new.took ≡ old.took ++ bytes) × (new.wrote ≡ old.wrote ++ joined frames) × (new.ended ≡ old.ended))

-- The session stops in it.
pub record Stops (table : RecordTable) (old new : LinkSeen) (before after : Talk) (room : ℕ) (cause : EndCause) : Type 0 where
  pub within : after.taken ≤ before.taken + room
  pub stops :
      (x : List ℕ) (replies : List (List ℕ)) → TalkAt table x replies before
      → (bytes : List ℕ) × (after.taken ≡ length (x ++ bytes))
      × (IsTrue old.tells → (more : List ℕ) × (new.took ≡ old.took ++ bytes) × (new.wrote ≡ old.wrote ++ more)
      × ((limit : ℕ) → EndsBy table limit new.ended (x ++ bytes) (joined replies ++ more) after.answered cause))

abbrev pub TurnBy : RecordTable → LinkSeen → LinkSeen → Talk → Talk → ℕ → Result (Unit {0}) EndCause → Type 0
TurnBy table old new before after room (Ok _) = Advances table old new before after room
TurnBy table old new before after room (Err cause) = Stops table old new before after room cause

pub record Turns (table : RecordTable) (old new : LinkSeen) (before after : Talk) (room : ℕ) (result : Result (Unit {0}) EndCause) : Type 0 where
  pub came : Came old new
  pub fault : result ≡ Err LinkFault → Rose old.faults new.faults
  pub by : TurnBy table old new before after room result

-- ---- the whole session

-- A session over a link that was `base` when it began.
pub record Standing (table : RecordTable) (base now : LinkSeen) (t : Talk) : Type 0 where
  pub came : Came base now
  pub x : List ℕ
  pub replies : List (List ℕ)
  pub at : TalkAt table x replies t
  pub waits : Waits t
  pub told : IsTrue base.tells → (now.took ≡ base.took ++ x) × (now.wrote ≡ base.wrote ++ joined replies) × (now.ended ≡ false)

-- What a session does: what it reads and writes, how it ends, and why.
use Rattle.std.specs.Prelude.{ℕ, Bool, true, false, IsTrue, List, ◌++◌, ◌≡◌, ◌≤◌, ◌⊎◌, length, take, slice_index_or, [], Option, Some, None}
use Rattle.std.specs.List.{flat_map}
use Rattle.pir_io.specs.Faults.{Rose}
use Rattle.pir_io.specs.Link.{LinkSeen}
use Rattle.spiral_sets.specs.declared.param_set.ParamSet.{ParamSet}
use Rattle.spiral_model.specs.Databases.{RecordTable}
use Rattle.spiral_frames.specs.Frames.{PeerRefusal, frame_of, refuse_message}
use Rattle.frame_streams.specs.Serving.{served_input, server_first, replies_to, refuse_frame, serve_bytes}
use Rattle.pir_server.specs.declared.session.EndCause.{EndCause}
use Rattle.pir_server.specs.declared.session.EndCause.TheVariants.{Done, Refused, LinkFault, Limit, NoMemory}
use Rattle.pir_server.specs.declared.session.SessionEnd.{SessionEnd}

-- the replies' frames to the messages of an input
abbrev pub reply_frames : RecordTable → List ℕ → List (List ℕ)
reply_frames table took = (served_input table took).replies

abbrev pub joined : List (List ℕ) → List ℕ
joined frames = flat_map (λ frame. frame) frames

-- no refusal, or that the input ends inside a frame, which is none before it has ended
abbrev pub IsOpenEnded : Option PeerRefusal → Type 0
IsOpenEnded None = Unit {0}
IsOpenEnded (Some refusal) = refusal.code ≡ 1

-- the Refuse frame of a server that memory failed
abbrev pub no_memory_frame : ParamSet → List ℕ
no_memory_frame set = frame_of (refuse_message (record { set = set; code = 13; place = 0 }))

-- Why a session ended that took and wrote these bytes and wrote so many replies, and where each cause comes; `ended` says whether the end of
-- input was read.
abbrev pub EndsBy : RecordTable → ℕ → Bool → List ℕ → List ℕ → ℕ → EndCause → Type 0
-- The input has ended, and it has no refusal.
EndsBy table limit ended took wrote answered Done =
    (ended ≡ true) × (server_first table took ≡ None) × (wrote ≡ serve_bytes table took) × (answered ≡ length (reply_frames table took))
-- It has one, which is Short only where the input has ended.
EndsBy table limit ended took wrote answered (Refused code at) =
    (refusal : PeerRefusal) × (server_first table took ≡ Some refusal) × (refusal.code ≡ code) × (refusal.place ≡ at) × (code ≡ 1 → ended ≡ true)
    × (wrote ≡ serve_bytes table took) × (answered ≡ length (reply_frames table took))
-- So many bytes were taken before a refusal and before the end of input. No Refuse is written.
EndsBy table limit ended took wrote answered Limit =
    (ended ≡ false) × (length took ≡ limit) × IsOpenEnded (server_first table took) × (wrote ≡ replies_to table took)
    × (answered ≡ length (reply_frames table took))
-- A call failed: in reading or at a reply, behind the replies before it; or at the Refuse of an input that has a refusal.
EndsBy table limit ended took wrote answered LinkFault =
    (answered ≤ length (reply_frames table took))
    × (k : ℕ)
    × ((wrote ≡ joined (take answered (reply_frames table took)) ++ take k (slice_index_or (reply_frames table took) answered []))
    ⊎ ((IsOpenEnded (server_first table took) → ended ≡ true) × (answered ≡ length (reply_frames table took))
    × (wrote ≡ replies_to table took ++ take k (refuse_frame (server_first table took)))))
-- Memory was wanting: the replies to the first messages, and the Refuse frame of code 13 or a prefix of it.
EndsBy table limit ended took wrote answered NoMemory =
    (answered ≤ length (reply_frames table took))
    × (k : ℕ) × (wrote ≡ joined (take answered (reply_frames table took)) ++ take k (no_memory_frame table.set))

-- A session over a link that may have been used before: `took` and `wrote` are what it added to the link's bytes.
pub record SessionEnds (table : RecordTable) (limit : ℕ) (old new : LinkSeen) (end : SessionEnd) : Type 0 where
  pub tells : new.tells ≡ old.tells
  pub is_open : IsTrue new.is_open
  pub later : old.faults ≤ new.faults
  pub fault : end.cause ≡ LinkFault → Rose old.faults new.faults
  pub within : end.taken ≤ limit
  pub others : IsTrue old.tells → (new.closed ≡ old.closed) × (new.log ≡ old.log)
  pub told :
      IsTrue old.tells → (took : List ℕ) × (wrote : List ℕ) × (new.took ≡ old.took ++ took) × (new.wrote ≡ old.wrote ++ wrote)
      × (end.taken ≡ length took) × EndsBy table limit new.ended took wrote end.answered end.cause

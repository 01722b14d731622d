-- A file that was read as one frame of some kinds, read as what a command wants of it.
use Rattle.std.proofs.Common.{ℕ, List, Result, Ok, Err, refl}
use Rattle.pir_io.specs.Files.{FilesSeen, content_of}
use Rattle.pir_wire.specs.declared.message.Message.{Message}
use Rattle.pir_wire.specs.declared.message.Message.TheVariants as read
use Rattle.spiral_model.specs.Bodies.{CipherBody}
use Rattle.spiral_model.specs.Replies.{QueryState}
use Rattle.tool_files.specs.declared.input.InputError.{InputError}
use Rattle.tool_files.specs.declared.input.InputError.TheVariants.{File, Frame, NoMemory}
use Rattle.tool_files.specs.declared.peer_answer.PeerAnswer.TheVariants as peer
use Rattle.tool_files.specs.Inputs.{SpellsSetup, SpellsQuery, SpellsState, SpellsAnswer}
use Rattle.tool_files.specs.Reading.{ReadsMessage, SpellsOneOf}

-- what a command wants of the bytes is the message of one frame
abbrev pub IsOfOne : {T : Type 0} → ℕ → (List ℕ → T → Type 0) → Type 0
IsOfOne {T = T} kinds Is = (bytes : List ℕ) (x : T) → Is bytes x → (m : Message) × SpellsOneOf kinds bytes m

module _ {T : Type 0} (kinds : ℕ) (Is : List ℕ → T → Type 0) (old new : FilesSeen) (name : List ℕ) where
  -- it was read,
  pub kind_read : (m : Message) (x : T) → ((bytes : List ℕ) → SpellsOneOf kinds bytes m → Is bytes x)
      → ReadsMessage kinds (SpellsOneOf kinds) old new name (Ok m) → ReadsMessage kinds Is old new name (Ok x)
  kind_read m x is reads = record {
    only = reads.only;
    file = λ e. absurd (cc);
    found = λ told. is (content_of old name) (reads.found told);
    cause = λ error e. absurd (cc);
    none = λ error e. absurd (cc);
  }

  -- or refused,
  pub kind_refused : (error : InputError) → IsOfOne kinds Is → ReadsMessage kinds (SpellsOneOf kinds) old new name (Err error)
      → ReadsMessage kinds Is old new name (Err error)
  kind_refused File of_one reads = record {
    only = reads.only;
    file = λ _. reads.file refl;
    found = λ _. tt;
    cause = λ error e. absurd (cc);
    none = λ error e. absurd (cc);
  }
  kind_refused (Frame refusal) of_one reads = record {
    only = reads.only;
    file = λ e. absurd (cc);
    found = λ _. tt;
    cause = λ error e. reads.cause error (cc);
    none = λ error e told x is. let one = of_one (content_of old name) x is in reads.none refusal refl told one.0 one.1;
  }
  kind_refused NoMemory of_one reads = record {
    only = reads.only;
    file = λ e. absurd (cc);
    found = λ _. tt;
    cause = λ error e. absurd (cc);
    none = λ error e. absurd (cc);
  }

  -- or is of a kind that isn't accepted, which doesn't come.
  pub kind_unknown : {U : Type 0} {Other : List ℕ → U → Type 0} (r : Result U InputError) → ReadsMessage kinds Other old new name r → ReadsMessage kinds Is old new name (Err NoMemory)
  kind_unknown r reads = record {
    only = reads.only;
    file = λ e. absurd (cc);
    found = λ _. tt;
    cause = λ error e. absurd (cc);
    none = λ error e. absurd (cc);
  }

-- ---- each kind

pub state_of_one : IsOfOne 32 SpellsState
state_of_one bytes state is = (read.State state, record { accepted = refl; spells = is.spells })

pub state_found : (state : QueryState) (bytes : List ℕ) → SpellsOneOf 32 bytes (read.State state) → SpellsState bytes state
state_found state bytes is = record { kind_is = refl; spells = is.spells }

pub keys_of_one : IsOfOne 2 SpellsSetup
keys_of_one bytes keys is = (read.Setup keys, record { accepted = refl; spells = is.spells })

pub keys_found : (keys : CipherBody) (bytes : List ℕ) → SpellsOneOf 2 bytes (read.Setup keys) → SpellsSetup bytes keys
keys_found keys bytes is = record { kind_is = refl; spells = is.spells }

pub query_of_one : IsOfOne 4 SpellsQuery
query_of_one bytes query is = (read.Query query, record { accepted = refl; spells = is.spells })

pub query_found : (query : CipherBody) (bytes : List ℕ) → SpellsOneOf 4 bytes (read.Query query) → SpellsQuery bytes query
query_found query bytes is = record { kind_is = refl; spells = is.spells }

pub answer_of_one : IsOfOne 24 SpellsAnswer
answer_of_one bytes (peer.Reply reply) is = (read.Reply reply, record { accepted = refl; spells = is.spells })
answer_of_one bytes (peer.Refuse code place) (set, is) = (read.Refuse set code place, record { accepted = refl; spells = is.spells })

-- The command `local`: what an exchange with a server in the same process finds, what is written of it, and the command's course.
use Rattle.std.proofs.Common.{ℕ, List, [], ◌∷◌, ◌++◌, ◌≡◌, ◌∙◌, IsTrue, ◌+◌, ◌-◌, take, drop, arith, inl, inr, refl, ap, sym, subst}
use Rattle.pir_io.specs.Files.{FilesSeen, content_of}
use Rattle.pir_io.specs.Reading.{OnlyRead}
use Rattle.pir_io.specs.Sink.{SinkSeen}
use Rattle.pir_io.proofs.LeftToRead.{taken_more}
use Rattle.spiral_sets.specs.declared.param_set.ParamSet.{ParamSet}
use Rattle.spiral_model.specs.Databases.{RecordTable, record_at}
use Rattle.spiral_model.specs.Replies.{SwitchedReply}
use Rattle.spiral_frames.specs.Frames.{reply_message}
use Rattle.spiral_frames.proofs.SameMessages.{same_reply}
use Rattle.frame_streams.specs.OneFrames.{IsOneOf}
use Rattle.frame_streams.specs.Serving.{serve_bytes}
use Rattle.noise_laws.specs.LookUps.{LookUp, reply_to}
use Rattle.pir_client.specs.declared.asking.Asked.{Asked}
use Rattle.pir_client.specs.Asks.{IsAsked, setup_frame}
use Rattle.pir_wire.specs.OneFrames.{OneRead}
use Rattle.session_laws.specs.Exchanges.{asking_bytes, answering_bytes, client_kinds}
use Rattle.session_laws.proofs.Answered.{query_is_answered, answer_is_read}
use Rattle.tool_base.specs.declared.status.Status.{Status}
use Rattle.tool_base.specs.Outputs.{Output}
use Rattle.tool_base.specs.Sources.{WordSource}
use Rattle.tool_base.specs.Words.{LocalWords}
use Rattle.tool_base.specs.Steps.{Scene, Steps, scene, never}
use Rattle.tool_base.proofs.Courses.{behind, found, held}
use Rattle.tool_files.specs.Inputs.{SpellsDatabase}
use Rattle.tool_files.specs.WithWords.{with_words_for, HasWordsFor}
use Rattle.tool_local.specs.declared.local.Found.{Found}
use Rattle.tool_local.specs.Local.{local_rest, local_outputs, locals}
use Rattle.tool_local.specs.LocalParts.{IsFound, found_outputs}

-- ---- the exchange

module _ (table : RecordTable) (words : List ℕ) (index : ℕ) (look_up : LookUp table words index) (asked : Asked) (is : IsAsked table.set index words asked)
    (sent wrote : List ℕ) (sent_all : sent ≡ asked.setup.items ++ asked.query.items) (served : wrote ≡ serve_bytes table sent) where
  -- what was sent is what the words deal,
  sent_is : sent ≡ asking_bytes table.set words index
  sent_is =
      sent_all ∙ ap (λ (x : List ℕ). x ++ asked.query.items) is.setup ∙ ap (λ (x : List ℕ). setup_frame table.set words ++ x) is.query.spelled

  -- what was written is the answer to it,
  answer_is : wrote ≡ answering_bytes table words index
  answer_is = served ∙ ap (serve_bytes table) sent_is ∙ (query_is_answered table words index look_up.is_table).bytes

  -- a reply that is read of it is that of the look-up,
  pub reply_is : (reply : SwitchedReply) → IsOneOf client_kinds wrote (reply_message reply) → reply ≡ reply_to table words index
  reply_is reply one =
      same_reply (answering_bytes table words index) reply (reply_to table words index)
      (record { kind_is = refl; spells = (subst (λ (x : List ℕ). IsOneOf client_kinds x (reply_message reply)) answer_is one).spells })
      (record { kind_is = refl; spells = (answer_is_read table words index look_up.is_table).one.spells })

  -- and both directions are these.
  pub transcript_is : (input bytes : List ℕ) → input ≡ sent → bytes ≡ input ++ wrote
      → bytes ≡ asking_bytes table.set words index ++ answering_bytes table words index
  transcript_is input bytes same both =
      both ∙ ap (λ (x : List ℕ). x ++ wrote) (same ∙ sent_is) ∙ ap (λ (x : List ℕ). asking_bytes table.set words index ++ x) answer_is

-- ---- reading the answer in pieces

-- so many bytes more of an input have come
pub read_more : (bytes : List ℕ) (at n kinds : ℕ) (old new : OneRead) → old ≡ record { kinds = kinds; bytes = take at bytes }
    → new ≡ record old { bytes = old.bytes ++ take (at + n - at) (drop at bytes) } → new ≡ record { kinds = kinds; bytes = take (at + n) bytes }
read_more bytes at n kinds old new before grown =
    let count : at + n - at ≡ n = omega arith in
    grown ∙ ap (λ (r : OneRead). record r { bytes = r.bytes ++ take (at + n - at) (drop at bytes) }) before
    ∙ ap (λ (m : ℕ). record { kinds = kinds; bytes = take at bytes ++ take m (drop at bytes) }) count
    ∙ ap (λ (x : List ℕ). record { kinds = kinds; bytes = x }) (sym (taken_more bytes (drop at bytes) at n refl))

-- ---- what is written

-- two outputs
abbrev pub pair : (a b p q : List ℕ) → List Output
pair a b p q = record { name = a; bytes = p } ∷ record { name = b; bytes = q } ∷ []

-- that have the same bytes
pub two_same : (a b p q x y : List ℕ) → p ≡ x → q ≡ y → pair a b p q ≡ pair a b x y
two_same a b p q x y first second = ap (λ l. pair a b l q) first ∙ ap (λ l. pair a b x l) second

-- what was found is what is to be written
pub found_is : (l : LocalWords) (table : RecordTable) (words : List ℕ) (it : Found) → IsFound table words l.index it → found_outputs l it ≡ local_outputs l table words
found_is l table words it is =
    two_same l.transcript_name l.out_name it.transcript.items it.record.items (asking_bytes table.set words l.index ++ answering_bytes table words l.index)
    (record_at table l.index) is.transcript is.bytes

-- ---- the command's course

module _ (l : LocalWords) (table : RecordTable) where
  -- with a database that was read it goes on
  pub local_read : (old now new : FilesSeen) (so sn : SinkSeen) (status : Status) → OnlyRead old now → (IsTrue old.tells → SpellsDatabase (content_of old l.db_name) table)
      → with_words_for table.set l.index l.source (local_rest l table) (scene now new so sn) status → locals l (scene old new so sn) status
  local_read old now new so sn status only is ends = behind only (found table is ends)

  -- with words for the database's set it goes on, the sink being as it was
  pub local_asked : (old now new : FilesSeen) (so mid sn : SinkSeen) (set : ParamSet) (words given : List ℕ) (status : Status) → set ≡ table.set → given ≡ words
      → HasWordsFor set l.index l.source old now words → mid ≡ so → local_rest l table given (scene now new mid sn) status
      → with_words_for table.set l.index l.source (local_rest l table) (scene old new so sn) status
  local_asked old now new so mid sn set words given status set_is same has kept ends =
      let own : HasWordsFor table.set l.index l.source old now given =
      subst (λ (ws : List ℕ). HasWordsFor table.set l.index l.source old now ws) (sym same)
      (subst (λ (s : ParamSet). HasWordsFor s l.index l.source old now words) set_is has) in
      held own.below (behind own.only (found given own.given (held own.enough
      (subst (λ (sink : SinkSeen). local_rest l table given (scene now new sink sn) status) kept ends))))

  -- where it ended before that, it ended so whatever it would have gone on with
  without_words_for : (index : ℕ) (source : WordSource) (rest : List ℕ → Steps) (set : ParamSet) (s : Scene) (status : Status) → with_words_for set index source (λ _. never) s status
      → with_words_for set index source rest s status
  without_words_for index source rest set s status (inl refused) = inl refused
  without_words_for index source rest set s status (inr (below, (now, only, inl unread))) = inr (below, (now, only, inl unread))
  without_words_for index source rest set s status (inr (below, (now, only, inr (words, given, inl refused)))) =
      inr (below, (now, only, inr (words, given, inl refused)))
  without_words_for index source rest set s status (inr (below, (now, only, inr (words, given, inr (_, ends))))) = absurd ends

  pub local_unasked : (set : ParamSet) (s : Scene) (status : Status) → set ≡ table.set → with_words_for set l.index l.source (λ _. never) s status
      → with_words_for table.set l.index l.source (local_rest l table) s status
  local_unasked set s status same ends =
      subst (λ (t : ParamSet). with_words_for t l.index l.source (local_rest l table) s status) same (without_words_for l.index l.source (local_rest l table) set s status ends)

-- The command that looks a record up by a server: how it goes on from what came of the exchange, and with what was asked.
use Rattle.std.proofs.Common.{ℕ, List, IsTrue, ◌++◌, ◌≡◌, ◌∙◌, Result, Ok, Err, inl, inr, refl, ap, subst}
use Rattle.pir_io.specs.Files.{FilesSeen}
use Rattle.pir_io.specs.Link.{LinkSeen}
use Rattle.pir_io.specs.Sink.{SinkSeen}
use Rattle.spiral_sets.specs.declared.param_set.ParamSet.{ParamSet}
use Rattle.frame_headers.specs.declared.frame_error.FrameError.{FrameError}
use Rattle.frame_headers.specs.Refusals.{code_of, place_of}
use Rattle.spiral_model.specs.Replies.{QueryState}
use Rattle.spiral_model.specs.Dealing.{state_of, query_body_of}
use Rattle.spiral_frames.specs.Frames.{frame_of, query_message}
use Rattle.pir_client.specs.declared.asking.Asked.{Asked}
use Rattle.pir_client.specs.Asks.{setup_frame, IsAsked}
use Rattle.tool_base.specs.declared.status.Status.{Status}
use Rattle.tool_base.specs.declared.status.Status.TheVariants as status
use Rattle.tool_base.specs.Texts.{link_fault_line, bad_frame_line}
use Rattle.tool_base.specs.Words.{FetchWords}
use Rattle.tool_base.specs.Puts.{Refused}
use Rattle.tool_base.specs.Steps.{Scene, Steps, scene, work_out, never}
use Rattle.tool_files.specs.declared.peer_answer.PeerAnswer.{PeerAnswer}
use Rattle.tool_files.specs.Ask.{quiet}
use Rattle.tool_files.specs.Open.{opens_answer}
use Rattle.tool_files.specs.WithWords.{with_words, HasWords}
use Rattle.tool_files.proofs.WithGiven.{with_given, without_words}
use Rattle.tool_fetch.specs.declared.exchange.LinkError.{LinkError}
use Rattle.tool_fetch.specs.declared.exchange.LinkError.TheVariants.{Fault, Frame, NoMemory}
use Rattle.session_laws.specs.Exchanges.{asking_bytes}
use Rattle.tool_fetch.specs.Fetch.{exchanges, fetches}
use Rattle.tool_fetch.specs.Exchanging.{ExchangesAs, Exchanges, looks_up, looks_up_as}

module _ (net now : LinkSeen) (addr out_name bytes : List ℕ) (state : QueryState) where
  -- an answer came, and it was gone on with
  pub answered : (answer : PeerAnswer) (s : Scene) (ended : Status) → Exchanges net now addr bytes (Ok answer) → opens_answer out_name state answer s ended
      → looks_up addr out_name bytes state net now s ended
  answered answer s ended exchanged opens = (exchanged.tells, inr (inr (exchanged.came.0, inr (answer, λ told. exchanged.came.1 (subst IsTrue exchanged.tells told), opens))))

  module _ (files : FilesSeen) (so sn : SinkSeen) (ended : Status) where
    -- a call failed
    pub broke_off : Exchanges net now addr bytes (Err Fault) → Refused so sn status.LinkFault link_fault_line ended
        → looks_up addr out_name bytes state net now (scene files files so sn) ended
    broke_off exchanged refused = (exchanged.tells, inr (inl (exchanged.came.2, inl (exchanged.came.0, exchanged.came.1, (refl, refused)))))

    -- what came is refused
    pub bad_frame : (error : FrameError) → Exchanges net now addr bytes (Err (Frame error))
        → Refused so sn status.BadFrame (bad_frame_line 2 (code_of error) (place_of error)) ended
        → looks_up addr out_name bytes state net now (scene files files so sn) ended
    bad_frame error exchanged refused = (exchanged.tells, inr (inr (exchanged.came.0, inl (error, λ told. exchanged.came.1 (subst IsTrue exchanged.tells told), (refl, refused)))))

  stopped : (files : FilesSeen) (sink : SinkSeen) → ExchangesAs net now addr bytes (Err NoMemory)
      → looks_up_as addr out_name bytes state net now (scene files files sink sink) status.NoMemory
  stopped files sink (inl same) = inl (same, (refl, refl, (refl, λ told. refl)))
  stopped files sink (inr sent) = inr (inl (sent, inr (refl, refl, (refl, λ told. refl))))

  -- memory was wanting, before anything was sent or later
  pub wanting : (files : FilesSeen) (sink : SinkSeen) → Exchanges net now addr bytes (Err NoMemory)
      → looks_up addr out_name bytes state net now (scene files files sink sink) status.NoMemory
  wanting files sink exchanged = (exchanged.tells, stopped files sink exchanged.came)

-- What was asked is what the words give: so are the bytes that are sent and the state that is kept.
pub looked_up : (f : FetchWords) (set : ParamSet) (words : List ℕ) (asked : Asked) (net now : LinkSeen) (s : Scene) (ended : Status) → IsAsked set f.index words asked
    → looks_up f.addr f.out_name (asked.setup.items ++ asked.query.items) asked.state net now s ended → exchanges f set words net now s ended
looked_up f set words asked net now s ended is looks =
    let query : List ℕ = frame_of (query_message (query_body_of set words f.index)) in
    let bytes_are : asked.setup.items ++ asked.query.items ≡ asking_bytes set words f.index =
    ap (λ (l : List ℕ). l ++ asked.query.items) is.setup ∙ ap (λ (l : List ℕ). setup_frame set words ++ l) is.query.spelled in
    subst (λ (b : List ℕ). looks_up f.addr f.out_name b (state_of set words f.index) net now s ended) bytes_are
    (subst (λ (kept : QueryState). looks_up f.addr f.out_name (asked.setup.items ++ asked.query.items) kept net now s ended) is.state looks)

-- the bytes that were sent, by other names
pub sent_these : (net now : LinkSeen) (addr a b x y : List ℕ) (result : Result PeerAnswer LinkError) → a ≡ x → b ≡ y → Exchanges net now addr (a ++ b) result
    → Exchanges net now addr (x ++ y) result
sent_these net now addr a b x y result first second exchanged =
    subst (λ (l : List ℕ). Exchanges net now addr (x ++ l) result) second (subst (λ (l : List ℕ). Exchanges net now addr (l ++ b) result) first exchanged)

-- ---- the command

-- what it does with a set and words where it ends before the net is used
abbrev pub ends_rest : FetchWords → ParamSet → List ℕ → Steps
ends_rest f set words = work_out (quiet set words f.index never)

module _ (f : FetchWords) (net : LinkSeen) where
  -- no words were given
  pub not_given : (s : Scene) (ended : Status) → with_words f.set_name f.index f.source (λ _ _. never) s ended → fetches f net net s ended
  not_given s ended ends = inl (refl, without_words f.set_name f.index f.source (ends_rest f) s ended ends)

  module _ (old now new : FilesSeen) (so mid sn : SinkSeen) (set : ParamSet) (words : List ℕ) (ended : Status)
      (has : HasWords f.set_name f.index f.source old now set words) (same : mid ≡ so) where
    -- with them it ended before the net was used
    pub ended_with : ends_rest f set words (scene now new mid sn) ended → fetches f net net (scene old new so sn) ended
    ended_with ends = inl (refl, with_given f.set_name f.index f.source (ends_rest f) old now new so mid sn set words ended has same ends)

    -- with what was asked it went on
    pub went_on : (net_after : LinkSeen) (asked : Asked) → IsAsked set f.index words asked
        → looks_up f.addr f.out_name (asked.setup.items ++ asked.query.items) asked.state net net_after (scene now new mid sn) ended
        → fetches f net net_after (scene old new so sn) ended
    went_on net_after asked is looks =
        let query : List ℕ = asked.setup.items ++ asked.query.items in
        inr (
          set,
          words,
          now,
          has,
          is.fits,
          looked_up f set words asked net net_after (scene now new so sn) ended is
              (subst (λ (sink : SinkSeen). looks_up f.addr f.out_name query asked.state net net_after (scene now new sink sn) ended) same looks),
        )

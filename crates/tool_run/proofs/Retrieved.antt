-- `open` on the files of a look-up: no step refuses them, and what is written is the record.
use Rattle.std.proofs.Common.{◌≡◌, ℕ, List, [], IsTrue, Option, unwrap_or, get_or, length, inl, inr, refl, sym, ◌∙◌, ap, arith, subst}
use Rattle.pir_io.specs.Files.{FilesSeen, content_of}
use Rattle.pir_io.specs.Reading.{OnlyRead}
use Rattle.pir_io.specs.Link.{LinkSeen}
use Rattle.spiral_model.specs.Databases.{RecordTable, record_at}
use Rattle.spiral_model.specs.Replies.{QueryState, SwitchedReply}
use Rattle.spiral_model.specs.Dealing.{state_of, query_body_of}
use Rattle.spiral_frames.specs.Frames.{refuse_message, reply_message}
use Rattle.spiral_frames.proofs.SameMessages.{same_state, same_reply}
use Rattle.frame_streams.proofs.Spelled.{spelled_once}
use Rattle.noise_laws.specs.LookUps.{reply_to}
use Rattle.noise_laws.proofs.LookUps.{state_kept, reply_kept}
use Rattle.tool_base.specs.declared.status.Status.{Status}
use Rattle.tool_base.specs.Statuses.{number_of_status}
use Rattle.tool_base.specs.Words.{OpenWords, CommandName, the_prepare, the_ask, the_answer, the_open, the_noise, the_local, the_serve, the_fetch, Said, words_of}
use Rattle.tool_base.specs.Steps.{Scene, Steps, at_files, refuse_frame, IsRefusedAs, never, Unread}
use Rattle.tool_base.proofs.Courses.{behind, found}
use Rattle.tool_files.specs.declared.peer_answer.PeerAnswer.TheVariants as peer
use Rattle.tool_files.specs.Inputs.{SpellsState, SpellsReply, SpellsRefuse, SpellsAnswer, state_kinds, answer_kinds}
use Rattle.tool_files.specs.Open.{opens}
use Rattle.tool_run.specs.Run.{does, executes}
use Rattle.tool_run.specs.Retrieving.{Anything, retrieves, HoldLookUp, Retrieves}
use Rattle.tool_run.proofs.OpenedReply.{reply_opened}

-- ---- the words of `open` are those of no other command

open_words : (said o : OpenWords) → words_of (record { name = the_open; said = said }) ≡ words_of (record { name = the_open; said = o }) → said ≡ o
open_words said o same =
    let state : said.state_name ≡ o.state_name = ap (λ (ws : List (List ℕ)). get_or ws 1 []) same in
    let reply : said.reply_name ≡ o.reply_name = ap (λ (ws : List (List ℕ)). get_or ws 2 []) same in
    let out : said.out_name ≡ o.out_name = ap (λ (ws : List (List ℕ)). get_or ws 3 []) same in
    λ i. record { state_name = state i; reply_name = reply i; out_name = out i }

first_length : {line other : List (List ℕ)} → line ≡ other → length (get_or line 0 []) ≡ length (get_or other 0 [])
first_length same = ap (λ (line : List (List ℕ)). length (get_or line 0 [])) same

opened : (name : CommandName) (said : Said name) (o : OpenWords) (net net_after : LinkSeen) (s : Scene) (status : Status)
    → words_of (record { name = name; said = said }) ≡ words_of (record { name = the_open; said = o }) → does name said net net_after s status → opens o s status
opened the_prepare said o net net_after s status same done = absurd (omega (arith, first_length same))
opened the_ask said o net net_after s status same done = absurd (omega (arith, first_length same))
opened the_answer said o net net_after s status same done = absurd (omega (arith, first_length same))
opened the_noise said o net net_after s status same done = absurd (omega (arith, first_length same))
opened the_local said o net net_after s status same done = absurd (omega (arith, first_length same))
opened the_serve said o net net_after s status same done = absurd (omega (arith, first_length same))
opened the_fetch said o net net_after s status same done = absurd (omega (arith, first_length same))
opened the_open said o net net_after s status same done = subst (λ (w : OpenWords). opens w s status) (open_words said o same) done.1

-- ---- reading a file that holds what is looked for

-- the content of a name stays when files are only read
content_kept : (old now : FilesSeen) (name : List ℕ) → IsTrue old.tells → OnlyRead old now → content_of now name ≡ content_of old name
content_kept old now name told only = ap (λ (content : Option (List ℕ)). unwrap_or content []) (only.keeps told name)

-- where it is there, only the read itself or memory can fail
unread : {A : Type 0} (before : FilesSeen) (name : List ℕ) (Is : List ℕ → A → Type 0) (otherwise : Steps) (x : A) (s : Scene) (status : Status)
    → IsTrue before.tells → Is (content_of before name) x → Unread before name Is otherwise s status → Unread before name Anything never s status
unread before name Is otherwise x s status told is (inl failed) = inl failed
unread before name Is otherwise x s status told is (inr (inl short)) = inr (inl short)
unread before name Is otherwise x s status told is (inr (inr (none, _))) = absurd (none told x is)

-- ---- `open`

module _ (o : OpenWords) (table : RecordTable) (words : List ℕ) (index : ℕ) where
  abbrev kept_state : QueryState
  kept_state = state_of table.set words index

  abbrev reply : SwitchedReply
  reply = reply_to table words index

  module _ (files : FilesSeen) (hold : HoldLookUp o table words index files) where
    state_held : SpellsState (content_of files o.state_name) kept_state
    state_held = record {
      kind_is = refl;
      spells = record { is = state_kept table words index hold.look_up; spelled = hold.state };
    }

    reply_held : SpellsReply (content_of files o.reply_name) reply
    unfolding query_body_of
    reply_held = record {
      kind_is = refl;
      spells = record { is = reply_kept table words index hold.look_up; spelled = hold.reply };
    }

  module _ (s : Scene) (status : Status) (hold : HoldLookUp o table words index s.files) where
    -- the state that was read is that of the look-up,
    state_is : (state : QueryState) → SpellsState (content_of s.files o.state_name) state → state ≡ kept_state
    state_is state is = same_state (content_of s.files o.state_name) state kept_state is (state_held s.files hold)

    -- and so is the reply.
    reply_there : (now : FilesSeen) → OnlyRead s.files now → SpellsReply (content_of now o.reply_name) reply
    reply_there now only =
        subst (λ (bytes : List ℕ). SpellsReply bytes reply) (sym (content_kept s.files now o.reply_name hold.tell only)) (reply_held s.files hold)

    reply_is : (now : FilesSeen) → OnlyRead s.files now → (read : SwitchedReply) → SpellsReply (content_of now o.reply_name) read → read ≡ reply
    reply_is now only read is = same_reply (content_of now o.reply_name) read reply is (reply_there now only)

    -- It is no refusal.
    not_refused : (now : FilesSeen) → OnlyRead s.files now → (code place : ℕ) → SpellsRefuse (content_of now o.reply_name) code place → ⊥
    not_refused now only code place (set, is) =
        let same : refuse_message (record { set = set; code = code; place = place }) ≡ reply_message reply =
        spelled_once (content_of now o.reply_name) (refuse_message (record { set = set; code = code; place = place })) (reply_message reply) is.spells
        (reply_there now only).spells in
        absurd (cc)

    told : (now : FilesSeen) → OnlyRead s.files now → IsTrue now.tells
    told now only = subst IsTrue (sym only.tells) hold.tell

    -- `open` retrieves the record.
    pub open_retrieves : opens o s status → retrieves o (record_at table index) s status
    open_retrieves (first, only, inl failed) =
        behind only
        (inl (unread s.files o.state_name SpellsState (refuse_frame 1 o.state_name (IsRefusedAs state_kinds)) kept_state (at_files first s) status hold.tell
        (state_held s.files hold) failed))
    open_retrieves (first, only, inr (state, is, (second, only_too, inl failed))) =
        behind only (found tt (λ _. tt) (behind only_too
        (inl (unread first o.reply_name SpellsAnswer (refuse_frame 2 o.reply_name (IsRefusedAs answer_kinds)) (peer.Reply reply) (at_files second s) status
        (told first only) (reply_there first only) failed))))
    open_retrieves (first, only, inr (state, is, (second, only_too, inr (peer.Refuse code place, is_too, _)))) =
        absurd (not_refused first only code place (is_too (told first only)))
    open_retrieves (first, only, inr (state, is, (second, only_too, inr (peer.Reply read, is_too, ends)))) =
        behind only (found tt (λ _. tt) (behind only_too (found tt (λ _. tt)
        (reply_opened o.out_name table words index hold.look_up state read (state_is state (is hold.tell)) (reply_is first only read (is_too (told first only)))
        (at_files second s) status ends))))

-- ---- the program

module _ (line : List (List ℕ)) (net net_after : LinkSeen) (s : Scene) (status : Status) where
  retrieved : executes line net net_after s status → (o : OpenWords) (table : RecordTable) (words : List ℕ) (index : ℕ)
      → line ≡ words_of (record { name = the_open; said = o }) → HoldLookUp o table words index s.files → retrieves o (record_at table index) s status
  retrieved (inl (asked, _, is, done)) o table words index line_is hold =
      open_retrieves o table words index s status hold (opened asked.name asked.said o net net_after s status (sym is ∙ line_is) done)
  retrieved (inr (none, _)) o table words index line_is hold = absurd (none (record { name = the_open; said = o }) tt line_is)

  -- The program, run with the words of `open`, retrieves the record.
  pub run_retrieves : (number : ℕ) → number ≡ number_of_status status → executes line net net_after s status → Retrieves line s number
  run_retrieves number is ends o table words index line_is hold = (status, is, retrieved ends o table words index line_is hold)

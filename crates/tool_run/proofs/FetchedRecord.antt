-- `fetch` beside a server of the database: no step refuses what came, and what is written is the record.
use Rattle.std.proofs.Common.{◌≡◌, ℕ, List, [], IsTrue, Some, None, get_or, drop, decimal, inl, inr, refl, sym, ◌∙◌, ap, arith, subst}
use Rattle.std.proofs.lemmas.Fmt.{decimal_injective}
use Rattle.pir_io.specs.Link.{LinkSeen}
use Rattle.pir_io.specs.Files.{FilesSeen}
use Rattle.pir_io.specs.Reading.{OnlyRead}
use Rattle.spiral_sets.specs.declared.param_set.ParamSet.{ParamSet}
use Rattle.frame_headers.specs.declared.frame_error.FrameError.{FrameError}
use Rattle.spiral_model.specs.Databases.{RecordTable, record_at}
use Rattle.spiral_model.specs.Replies.{SwitchedReply}
use Rattle.spiral_model.specs.Noise.{Fits}
use Rattle.spiral_frames.specs.Frames.{Spell, refuse_message, reply_message}
use Rattle.spiral_frames.specs.FrameChecks.{one_refusal}
use Rattle.spiral_frames.proofs.SameMessages.{same_reply}
use Rattle.frame_streams.specs.Serving.{serve_bytes}
use Rattle.frame_streams.proofs.Spelled.{spelled_once}
use Rattle.noise_laws.specs.LookUps.{LookUp, reply_to}
use Rattle.session_laws.specs.Exchanges.{asking_bytes, answering_bytes, client_kinds}
use Rattle.session_laws.proofs.Answered.{query_is_answered, answer_is_read}
use Rattle.tool_base.specs.declared.status.Status.{Status}
use Rattle.tool_base.specs.Statuses.{number_of_status}
use Rattle.tool_base.specs.Names.{Names}
use Rattle.tool_base.specs.Sources.{WordSource, words_in, seed_in, source_word}
use Rattle.tool_base.specs.Words.{FetchWords, FetchForm, CommandName, the_prepare, the_ask, the_answer, the_open, the_noise, the_local, the_serve, the_fetch, Said, InForm, words_of}
use Rattle.tool_base.specs.Steps.{Scene, at_files}
use Rattle.tool_files.specs.declared.peer_answer.PeerAnswer.TheVariants as peer
use Rattle.tool_files.specs.Inputs.{SpellsReply, SpellsAnswer}
use Rattle.tool_fetch.specs.Fetch.{HasSent, exchanges, fetches}
use Rattle.tool_run.specs.Run.{does, executes}
use Rattle.tool_run.specs.Fetching.{brings, IsServed, Fetches}
use Rattle.tool_run.proofs.OpenedReply.{reply_opened}

-- ---- the words of `fetch` are those of no other command

first_letter : {line other : List (List ℕ)} → line ≡ other → get_or (get_or line 0 []) 0 0 ≡ get_or (get_or other 0 []) 0 0
first_letter same = ap (λ (line : List (List ℕ)). get_or (get_or line 0 []) 0 0) same

-- a source is known by its word
source_same : (a b : WordSource) → source_word a ≡ source_word b → a ≡ b
source_same (words_in x) (words_in y) same = ap (λ (l : List ℕ). words_in (drop 6 l)) same
source_same (seed_in x) (seed_in y) same = ap (λ (l : List ℕ). seed_in (drop 5 l)) same
source_same (words_in x) (seed_in y) same = let first : 119 ≡ 115 = ap (λ (l : List ℕ). get_or l 0 0) same in absurd (omega (arith, first))
source_same (seed_in x) (words_in y) same = let first : 115 ≡ 119 = ap (λ (l : List ℕ). get_or l 0 0) same in absurd (omega (arith, first))

fetch_words : (said f : FetchWords) → FetchForm said → FetchForm f
    → words_of (record { name = the_fetch; said = said }) ≡ words_of (record { name = the_fetch; said = f }) → said ≡ f
fetch_words said f form form_too same =
    let addr : said.addr ≡ f.addr = ap (λ (ws : List (List ℕ)). get_or ws 1 []) same in
    let set : said.set_name ≡ f.set_name = ap (λ (ws : List (List ℕ)). get_or ws 2 []) same in
    let number : decimal said.index ≡ decimal f.index = ap (λ (ws : List (List ℕ)). get_or ws 3 []) same in
    let index : said.index ≡ f.index = decimal_injective said.index f.index (omega (arith, form.0)) (omega (arith, form_too.0)) number in
    let source : said.source ≡ f.source = source_same said.source f.source (ap (λ (ws : List (List ℕ)). get_or ws 4 []) same) in
    let out : said.out_name ≡ f.out_name = ap (λ (ws : List (List ℕ)). get_or ws 5 []) same in
    λ i. record { addr = addr i; set_name = set i; index = index i; source = source i; out_name = out i }

module _ (net net_after : LinkSeen) (s : Scene) (status : Status) where
  fetched : (name : CommandName) (said : Said name) (f : FetchWords) → InForm name said → FetchForm f
      → words_of (record { name = name; said = said }) ≡ words_of (record { name = the_fetch; said = f }) → does name said net net_after s status
      → fetches f net net_after s status
  fetched the_prepare said f form form_too same done = absurd (omega (arith, first_letter same))
  fetched the_ask said f form form_too same done = absurd (omega (arith, first_letter same))
  fetched the_answer said f form form_too same done = absurd (omega (arith, first_letter same))
  fetched the_open said f form form_too same done = absurd (omega (arith, first_letter same))
  fetched the_noise said f form form_too same done = absurd (omega (arith, first_letter same))
  fetched the_local said f form form_too same done = absurd (omega (arith, first_letter same))
  fetched the_serve said f form form_too same done = absurd (omega (arith, first_letter same))
  fetched the_fetch said f form form_too same done = subst (λ (w : FetchWords). fetches w net net_after s status) (fetch_words said f form form_too same) done

-- ---- what came is the reply

-- one name names one set
named_once : (name : List ℕ) (a b : ParamSet) → Names name a → Names name b → a ≡ b
named_once name a b is is_too = let same : Some a ≡ Some b = sym is.named ∙ is_too.named in cc

module _ (table : RecordTable) (words : List ℕ) (index : ℕ) (look_up : LookUp table words index) (bytes : List ℕ) (is : bytes ≡ answering_bytes table words index) where
  reply_there : SpellsReply bytes (reply_to table words index)
  reply_there = record {
    kind_is = refl;
    spells = subst (λ (b : List ℕ). Spell (reply_message (reply_to table words index)) b) (sym is) (answer_is_read table words index look_up.is_table).one.spells;
  }

  reply_came : (read : SwitchedReply) → SpellsReply bytes read → read ≡ reply_to table words index
  reply_came read spells = same_reply bytes read (reply_to table words index) spells reply_there

  -- it is no refusal
  not_refused : (code place : ℕ) → SpellsAnswer bytes (peer.Refuse code place) → ⊥
  not_refused code place (set, refusal) =
      let same : refuse_message (record { set = set; code = code; place = place }) ≡ reply_message (reply_to table words index) =
      spelled_once bytes (refuse_message (record { set = set; code = code; place = place })) (reply_message (reply_to table words index)) refusal.spells
      reply_there.spells in
      absurd (cc)

  -- and isn't refused
  kept : (error : FrameError) → one_refusal client_kinds bytes ≡ Some error → ⊥
  kept error refusal =
      let none : one_refusal client_kinds bytes ≡ None = ap (one_refusal client_kinds) is ∙ (answer_is_read table words index look_up.is_table).kept in
      absurd (cc)

module _ (f : FetchWords) (table : RecordTable) (net net_after : LinkSeen) (served : IsServed f table net net_after) (words : List ℕ) (fits : Fits table.set words f.index) where
  look_up : LookUp table words f.index
  look_up = record { is_table = served.is_table; present = served.present; fits = fits }

  came : HasSent net net_after f.addr (asking_bytes table.set words f.index) → net_after.took ≡ answering_bytes table words f.index
  came sent = served.came ∙ ap (serve_bytes table) sent.wrote ∙ (query_is_answered table words f.index served.is_table).bytes

  told : net_after.tells ≡ net.tells → IsTrue net_after.tells
  told tells = subst IsTrue (sym tells) served.tells

  -- what comes of the exchange
  exchanged : (s : Scene) (status : Status) (now : FilesSeen) → OnlyRead s.files now → exchanges f table.set words net net_after (at_files now s) status
      → brings f (record_at table f.index) net net_after s status
  exchanged s status now only (_, inl (_, short)) = inr (now, only, inl (inr short))
  exchanged s status now only (_, inr (inl (_, breaks))) = inr (now, only, inl breaks)
  exchanged s status now only (tells, inr (inr (sent, inl (error, refused, _)))) =
      absurd (kept table words f.index look_up net_after.took (came (sent served.tells).0) error (refused (told tells)).0)
  exchanged s status now only (tells, inr (inr (sent, inr (peer.Refuse code place, spells, _)))) =
      absurd (not_refused table words f.index look_up net_after.took (came (sent served.tells).0) code place (spells (told tells)).1)
  exchanged s status now only (tells, inr (inr (sent, inr (peer.Reply read, spells, ends)))) =
      inr (
        now,
        only,
        inr (reply_opened f.out_name table words f.index look_up _ read refl
            (reply_came table words f.index look_up net_after.took (came (sent served.tells).0) read (spells (told tells)).1) (at_files now s) status ends),
      )

module _ (f : FetchWords) (table : RecordTable) (net net_after : LinkSeen) (served : IsServed f table net net_after) (s : Scene) (status : Status) where
  -- what was done with the set that is named
  of_set : (set : ParamSet) (words : List ℕ) (now : FilesSeen) → set ≡ table.set → OnlyRead s.files now → Fits set words f.index
      → exchanges f set words net net_after (at_files now s) status → brings f (record_at table f.index) net net_after s status
  of_set set words now same only fits ends =
      exchanged f table net net_after served words (subst (λ (t : ParamSet). Fits t words f.index) same fits) s status now only
      (subst (λ (t : ParamSet). exchanges f t words net net_after (at_files now s) status) same ends)

  record_fetched : fetches f net net_after s status → brings f (record_at table f.index) net net_after s status
  record_fetched (inl before) = inl before
  record_fetched (inr (set, words, now, has, fits, ends)) = of_set set words now (named_once f.set_name set table.set has.names served.named) has.has.only fits ends

module _ (line : List (List ℕ)) (net net_after : LinkSeen) (s : Scene) (status : Status) where
  executed : executes line net net_after s status → (f : FetchWords) (table : RecordTable) → line ≡ words_of (record { name = the_fetch; said = f }) → FetchForm f
      → IsServed f table net net_after → brings f (record_at table f.index) net net_after s status
  executed (inl (asked, form, is, done)) f table line_is form_too served =
      record_fetched f table net net_after served s status
      (fetched net net_after s status asked.name asked.said f form form_too (sym is ∙ line_is) done)
  executed (inr (none, _)) f table line_is form served = absurd (none (record { name = the_fetch; said = f }) form line_is)

  -- The program, run with the words of `fetch`, brings the record.
  pub run_fetches : (number : ℕ) → number ≡ number_of_status status → executes line net net_after s status → Fetches line net net_after s number
  run_fetches number is ends f table line_is form served = (status, is, executed ends f table line_is form served)

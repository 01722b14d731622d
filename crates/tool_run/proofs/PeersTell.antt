-- Whether the files, the sink and the net tell what they hold stays, whatever a command with a peer does.
use Rattle.std.proofs.Common.{ℕ, List, ◌≡◌, ◌∙◌, inl, inr, ap}
use Rattle.pir_io.specs.Files.{FilesSeen}
use Rattle.pir_io.specs.Sink.{SinkSeen}
use Rattle.pir_io.specs.Link.{LinkSeen}
use Rattle.spiral_sets.specs.declared.param_set.ParamSet.{ParamSet}
use Rattle.spiral_model.specs.Databases.{RecordTable}
use Rattle.spiral_model.specs.Dealing.{state_of}
use Rattle.spiral_model.specs.Replies.{QueryState, open_bytes}
use Rattle.pir_server.specs.declared.session.SessionEnd.{SessionEnd}
use Rattle.tool_base.specs.declared.status.Status.{Status}
use Rattle.tool_base.specs.Outputs.{one}
use Rattle.tool_base.specs.Words.{LocalWords, FetchWords, ServeWords}
use Rattle.tool_base.specs.Steps.{Scene, at_files, refuse_frame, never, work_out}
use Rattle.tool_base.proofs.Telling.{TellsStill, refuse_told, refusal_told, without_told, write_told, unread_told, refused_frame_told, after_reading}
use Rattle.tool_files.specs.declared.peer_answer.PeerAnswer.{PeerAnswer}
use Rattle.tool_files.specs.declared.peer_answer.PeerAnswer.TheVariants as peer
use Rattle.tool_files.specs.Inputs.{SpellsDatabase}
use Rattle.tool_files.specs.Answer.{IsRefused}
use Rattle.tool_files.specs.Ask.{quiet}
use Rattle.tool_files.specs.Open.{opens_answer}
use Rattle.tool_files.proofs.CommandsTell.{words_for_told, words_told}
use Rattle.tool_local.specs.Local.{locals, local_rest, local_outputs}
use Rattle.tool_fetch.specs.Fetch.{breaks_off, receives, exchanges, ends_before, fetches}
use Rattle.tool_serve.specs.Serve.{EndsWith, stops, serving, serves}

-- ---- `local`

local_rest_told : (l : LocalWords) (table : RecordTable) (status : Status) (words : List ℕ) (t : Scene) → local_rest l table words t status → TellsStill t
local_rest_told l table status words t (inl short) = without_told t status _ short
local_rest_told l table status words t (inr (inl (_, _, _, refused))) = refuse_told t status _ _ refused
local_rest_told l table status words t (inr (inr (_, inl (_, refused)))) = refuse_told t status _ _ refused
local_rest_told l table status words t (inr (inr (_, inr (_, ends)))) = write_told t status (local_outputs l table words) _ ends

pub local_told : (l : LocalWords) (s : Scene) (status : Status) → locals l s status → TellsStill s
local_told l s status (now, only, inl unread) =
    after_reading s now only (unread_told (at_files now s) status s.files _ SpellsDatabase (refuse_frame 1 l.db_name IsRefused)
    (refused_frame_told (at_files now s) status 1 l.db_name IsRefused) unread)
local_told l s status (now, only, inr (table, _, ends)) =
    after_reading s now only
    (words_for_told table.set l.index l.source (local_rest l table) (at_files now s) status (local_rest_told l table status) ends)

-- ---- `fetch`

abbrev pub NetToo : LinkSeen → LinkSeen → Scene → Type 0
NetToo net net_after s = (net_after.tells ≡ net.tells) × TellsStill s

pub net_same : (net net_after : LinkSeen) → net_after ≡ net → net_after.tells ≡ net.tells
net_same net net_after same = ap (λ (l : LinkSeen). l.tells) same

before_rest_told : (f : FetchWords) (status : Status) (set : ParamSet) (words : List ℕ) (t : Scene) → work_out (quiet set words f.index never) t status → TellsStill t
before_rest_told f status set words t (inl short) = without_told t status _ short
before_rest_told f status set words t (inr (inl (_, _, _, refused))) = refuse_told t status _ _ refused
before_rest_told f status set words t (inr (inr (_, nowhere))) = absurd nowhere

before_told : (f : FetchWords) (s : Scene) (status : Status) → ends_before f s status → TellsStill s
before_told f s status ends =
    words_told f.set_name f.index f.source (λ set words. work_out (quiet set words f.index never)) s status (before_rest_told f status) ends

breaks_told : (net net_after : LinkSeen) (s : Scene) (status : Status) → breaks_off net net_after s status → TellsStill s
breaks_told net net_after s status (inl (_, _, refused)) = refuse_told s status _ _ refused
breaks_told net net_after s status (inr short) = without_told s status _ short

answer_told : (out_name : List ℕ) (state : QueryState) (s : Scene) (status : Status) (answer : PeerAnswer) → opens_answer out_name state answer s status → TellsStill s
answer_told out_name state s status (peer.Refuse code place) refused = refuse_told s status _ _ refused
answer_told out_name state s status (peer.Reply reply) (inl (_, refused)) = refuse_told s status _ _ refused
answer_told out_name state s status (peer.Reply reply) (inr (_, inl (_, refused))) = refuse_told s status _ _ refused
answer_told out_name state s status (peer.Reply reply) (inr (_, inr (_, ends))) = write_told s status (one out_name (open_bytes state reply)) _ ends

receives_told : (out_name : List ℕ) (state : QueryState) (net : LinkSeen) (s : Scene) (status : Status) → receives out_name state net s status → TellsStill s
receives_told out_name state net s status (inl (_, _, refused)) = refuse_told s status _ _ refused
receives_told out_name state net s status (inr (answer, _, ends)) = answer_told out_name state s status answer ends

exchange_told : (f : FetchWords) (set : ParamSet) (words : List ℕ) (net net_after : LinkSeen) (s : Scene) (status : Status)
    → exchanges f set words net net_after s status → NetToo net net_after s
exchange_told f set words net net_after s status (tells, inl (_, short)) = (tells, without_told s status _ short)
exchange_told f set words net net_after s status (tells, inr (inl (_, breaks))) = (tells, breaks_told net net_after s status breaks)
exchange_told f set words net net_after s status (tells, inr (inr (_, ends))) =
    (tells, receives_told f.out_name (state_of set words f.index) net_after s status ends)

pub fetch_told : (f : FetchWords) (net net_after : LinkSeen) (s : Scene) (status : Status) → fetches f net net_after s status → NetToo net net_after s
fetch_told f net net_after s status (inl (same, ends)) = (net_same net net_after same, before_told f s status ends)
fetch_told f net net_after s status (inr (set, words, now, has, fits, ends)) =
    let told = exchange_told f set words net net_after (at_files now s) status ends in
    (told.0, after_reading s now has.has.only told.1)

-- ---- `serve`

ends_told : (last : Status) (so mid sn : SinkSeen) (ended : Status) → mid.tells ≡ so.tells → EndsWith last mid sn ended → sn.tells ≡ so.tells
ends_told last so mid sn ended tells (inl (_, _, got)) = got.0 ∙ tells
ends_told last so mid sn ended tells (inr (line, _, inl (_, got))) = refusal_told mid sn line got ∙ tells
ends_told last so mid sn ended tells (inr (line, _, inr (_, got))) = got.0 ∙ tells

stops_told : (v : ServeWords) (net net_after : LinkSeen) (ends : List SessionEnd) (s : Scene) (ended : Status) → stops v net net_after ends s ended
    → s.sink_after.tells ≡ s.sink.tells
stops_told v net net_after ends s ended (inl (_, mid, lines, with)) = ends_told _ s.sink mid s.sink_after ended lines.0 with
stops_told v net net_after ends s ended (inr (inl (_, _, mid, lines, inl (_, got)))) = refusal_told mid s.sink_after _ got ∙ lines.0
stops_told v net net_after ends s ended (inr (inl (_, _, mid, lines, inr (_, got)))) = got.0 ∙ lines.0
stops_told v net net_after ends s ended (inr (inr (inl (_, tells, _)))) = tells
stops_told v net net_after ends s ended (inr (inr (inr (_, got)))) = got.0

serving_told : (v : ServeWords) (table : RecordTable) (net net_after : LinkSeen) (s : Scene) (ended : Status) → serving v table net net_after s ended
    → NetToo net net_after s
serving_told v table net net_after s ended (same, tells, ends, _, stopped, _) =
    (tells, (ap (λ (f : FilesSeen). f.tells) same, stops_told v net net_after ends s ended stopped))

pub serve_told : (v : ServeWords) (net net_after : LinkSeen) (s : Scene) (ended : Status) → serves v net net_after s ended → NetToo net net_after s
serve_told v net net_after s ended (inl (same, (now, only, inl unread))) = (
  net_same net net_after same,
  after_reading s now only (unread_told (at_files now s) ended s.files _ SpellsDatabase (refuse_frame 1 v.db_name IsRefused)
      (refused_frame_told (at_files now s) ended 1 v.db_name IsRefused) unread),
)
serve_told v net net_after s ended (inl (same, (now, only, inr (table, _, nowhere)))) = absurd nowhere
serve_told v net net_after s ended (inr (table, now, only, _, _, served)) =
    let told = serving_told v table net net_after (at_files now s) ended served in
    (told.0, after_reading s now only told.1)

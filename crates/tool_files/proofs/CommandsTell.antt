-- Whether the files and the sink tell what they hold stays, whatever a command does.
use Rattle.std.proofs.Common.{ℕ, List, ◌+◌, ◌*◌, option_map, inl, inr}
use Rattle.spiral_sets.specs.declared.param_set.ParamSet.{ParamSet}
use Rattle.spiral_model.specs.Sets.{max_records}
use Rattle.spiral_model.specs.Counts.{words_needed}
use Rattle.spiral_model.specs.Keys.{keys_in}
use Rattle.spiral_model.specs.Replies.{open_bytes}
use Rattle.spiral_frames.specs.Frames.{frame_of, database_message}
use Rattle.tool_base.specs.declared.status.Status.{Status}
use Rattle.tool_base.specs.Outputs.{one}
use Rattle.tool_base.specs.Sources.{WordSource}
use Rattle.tool_base.specs.Words.{PrepareWords, AskWords, NoiseWords, AnswerWords, OpenWords}
use Rattle.tool_base.specs.Steps.{Scene, Steps, at_files, refuse_frame, IsRefusedAs, never}
use Rattle.tool_base.proofs.Telling.{TellsStill, refuse_told, without_told, puts_told, write_told, unread_told, refused_frame_told, after_reading}
use Rattle.tool_files.specs.declared.peer_answer.PeerAnswer.TheVariants as peer
use Rattle.tool_files.specs.Inputs.{SpellsDatabase, SpellsKeys, SpellsQuery, SpellsState, SpellsAnswer, setup_kinds, query_kinds, answer_kinds, state_kinds}
use Rattle.tool_files.specs.RandomWords.{GivesWords}
use Rattle.tool_files.specs.Prepare.{prepares, IsFront, table_of}
use Rattle.tool_files.specs.WithWords.{with_words, with_words_for}
use Rattle.tool_files.specs.Ask.{asks, asked_outputs}
use Rattle.tool_files.specs.Noise.{noises}
use Rattle.tool_files.specs.Answer.{answers, IsRefused}
use Rattle.frame_streams.specs.Serving.{reply_frame}
use Rattle.tool_files.specs.Open.{opens}
use Rattle.tool_files.proofs.Asking.{ask_rest}
use Rattle.tool_files.proofs.Reporting.{noise_rest}

pub prepare_told : (p : PrepareWords) (s : Scene) (status : Status) → prepares p s status → TellsStill s
prepare_told p s status (inl (_, refused)) = refuse_told s status _ _ refused
prepare_told p s status (inr (set, _, inl (_, refused))) = refuse_told s status _ _ refused
prepare_told p s status (inr (set, _, inr (_, (now, only, inl unread)))) =
    after_reading s now only (unread_told (at_files now s) status s.files _ (IsFront (max_records set * p.record_length + 1)) never (λ e. absurd e) unread)
prepare_told p s status (inr (set, _, inr (_, (now, only, inr (bytes, _, inl (_, refused)))))) = after_reading s now only (refuse_told (at_files now s) status _ _ refused)
prepare_told p s status (inr (set, _, inr (_, (now, only, inr (bytes, _, inr (_, inl (_, refused))))))) = after_reading s now only (refuse_told (at_files now s) status _ _ refused)
prepare_told p s status (inr (set, _, inr (_, (now, only, inr (bytes, _, inr (_, inr (_, (_, ends)))))))) =
    after_reading s now only (write_told (at_files now s) status (one p.db_name (frame_of (database_message (table_of p set bytes)))) _ ends)

-- so it does where a command goes on with words, whatever it goes on with
pub words_for_told : (set : ParamSet) (index : ℕ) (source : WordSource) (rest : List ℕ → Steps) (s : Scene) (status : Status)
    → ((words : List ℕ) (t : Scene) → rest words t status → TellsStill t) → with_words_for set index source rest s status → TellsStill s
words_for_told set index source rest s status further (inl (_, refused)) = refuse_told s status _ _ refused
words_for_told set index source rest s status further (inr (_, (now, only, inl unread))) =
    after_reading s now only (unread_told (at_files now s) status s.files _ (GivesWords source (words_needed set)) never (λ e. absurd e) unread)
words_for_told set index source rest s status further (inr (_, (now, only, inr (words, _, inl (_, refused))))) =
    after_reading s now only (refuse_told (at_files now s) status _ _ refused)
words_for_told set index source rest s status further (inr (_, (now, only, inr (words, _, inr (_, ends))))) =
    after_reading s now only (further words (at_files now s) ends)

pub words_told : (set_name : List ℕ) (index : ℕ) (source : WordSource) (rest : ParamSet → List ℕ → Steps) (s : Scene) (status : Status)
    → ((set : ParamSet) (words : List ℕ) (t : Scene) → rest set words t status → TellsStill t) → with_words set_name index source rest s status → TellsStill s
words_told set_name index source rest s status further (inl (_, refused)) = refuse_told s status _ _ refused
words_told set_name index source rest s status further (inr (set, _, ends)) = words_for_told set index source (rest set) s status (further set) ends

asked_told : (a : AskWords) (status : Status) (set : ParamSet) (words : List ℕ) (t : Scene)
    → ask_rest a set words t status → TellsStill t
asked_told a status set words t (inl short) = without_told t status _ short
asked_told a status set words t (inr (inl (_, _, _, refused))) = refuse_told t status _ _ refused
asked_told a status set words t (inr (inr (_, ends))) = write_told t status (asked_outputs a set words) _ ends

pub ask_told : (a : AskWords) (s : Scene) (status : Status) → asks a s status → TellsStill s
ask_told a s status asked = words_told a.set_name a.index a.source (ask_rest a) s status (asked_told a status) asked

reported_told : (n : NoiseWords) (status : Status) (set : ParamSet) (words : List ℕ) (t : Scene)
    → noise_rest n set words t status → TellsStill t
reported_told n status set words t (inl short) = without_told t status _ short
reported_told n status set words t (inr (inl (_, ends))) = puts_told t status _ ends
reported_told n status set words t (inr (inr (_, ends))) = puts_told t status _ ends

pub noise_told : (n : NoiseWords) (s : Scene) (status : Status) → noises n s status → TellsStill s
noise_told n s status reported = words_told n.set_name n.index n.source (noise_rest n) s status (reported_told n status) reported

pub answer_told : (a : AnswerWords) (s : Scene) (status : Status) → answers a s status → TellsStill s
answer_told a s status (one_read, only1, inl unread) =
    after_reading s one_read only1 (unread_told (at_files one_read s) status s.files _ SpellsDatabase (refuse_frame 1 a.db_name IsRefused) (refused_frame_told (at_files one_read s) status _ _ IsRefused) unread)
answer_told a s status (one_read, only1, inr (table, _, (two, only2, inl unread))) =
    after_reading s one_read only1 (after_reading (at_files one_read s) two only2
    (unread_told (at_files two s) status one_read _ (SpellsKeys table.set) (refuse_frame 2 a.setup_name (IsRefusedAs setup_kinds))
    (refused_frame_told (at_files two s) status 2 a.setup_name (IsRefusedAs setup_kinds)) unread))
answer_told a s status (one_read, only1, inr (table, _, (two, only2, inr (setup, _, (now, only, inl unread))))) =
    after_reading s one_read only1 (after_reading (at_files one_read s) two only2 (after_reading (at_files two s) now only
    (unread_told (at_files now s) status two _ SpellsQuery (refuse_frame 3 a.query_name (IsRefusedAs query_kinds))
    (refused_frame_told (at_files now s) status 3 a.query_name (IsRefusedAs query_kinds)) unread)))
answer_told a s status (one_read, only1, inr (table, _, (two, only2, inr (setup, _, (now, only, inr (query, _, inl (_, refused))))))) =
    after_reading s one_read only1 (after_reading (at_files one_read s) two only2 (after_reading (at_files two s) now only (refuse_told (at_files now s) status _ _ refused)))
answer_told a s status (one_read, only1, inr (table, _, (two, only2, inr (setup, _, (now, only, inr (query, _, inr (_, inl (_, refused)))))))) =
    after_reading s one_read only1 (after_reading (at_files one_read s) two only2 (after_reading (at_files two s) now only (refuse_told (at_files now s) status _ _ refused)))
answer_told a s status (one_read, only1, inr (table, _, (two, only2, inr (setup, _, (now, only, inr (query, _, inr (_, inr (_, ends)))))))) =
    after_reading s one_read only1 (after_reading (at_files one_read s) two only2 (after_reading (at_files two s) now only
    (write_told (at_files now s) status (one a.reply_name (reply_frame table (option_map keys_in setup) query)) _ ends)))

pub open_told : (o : OpenWords) (s : Scene) (status : Status) → opens o s status → TellsStill s
open_told o s status (one_read, only1, inl unread) =
    after_reading s one_read only1 (unread_told (at_files one_read s) status s.files _ SpellsState (refuse_frame 1 o.state_name (IsRefusedAs state_kinds))
    (refused_frame_told (at_files one_read s) status 1 o.state_name (IsRefusedAs state_kinds)) unread)
open_told o s status (one_read, only1, inr (state, _, (now, only, inl unread))) =
    after_reading s one_read only1 (after_reading (at_files one_read s) now only
    (unread_told (at_files now s) status one_read _ SpellsAnswer (refuse_frame 2 o.reply_name (IsRefusedAs answer_kinds))
    (refused_frame_told (at_files now s) status 2 o.reply_name (IsRefusedAs answer_kinds)) unread))
open_told o s status (one_read, only1, inr (state, _, (now, only, inr (peer.Refuse code place, _, refused)))) =
    after_reading s one_read only1 (after_reading (at_files one_read s) now only (refuse_told (at_files now s) status _ _ refused))
open_told o s status (one_read, only1, inr (state, _, (now, only, inr (peer.Reply reply, _, inl (_, refused))))) =
    after_reading s one_read only1 (after_reading (at_files one_read s) now only (refuse_told (at_files now s) status _ _ refused))
open_told o s status (one_read, only1, inr (state, _, (now, only, inr (peer.Reply reply, _, inr (_, inl (_, refused)))))) =
    after_reading s one_read only1 (after_reading (at_files one_read s) now only (refuse_told (at_files now s) status _ _ refused))
open_told o s status (one_read, only1, inr (state, _, (now, only, inr (peer.Reply reply, _, inr (_, inr (_, ends)))))) =
    after_reading s one_read only1 (after_reading (at_files one_read s) now only (write_told (at_files now s) status (one o.out_name (open_bytes state reply)) _ ends))

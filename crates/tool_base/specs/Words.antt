-- The words of the command line and what they ask for.
use Rattle.std.specs.Prelude.{ℕ, List, [], ◌∷◌, ◌≡◌, ◌<◌, ◌≤◌, ◌^◌, Option, Some, None, codes, decimal, length}
use Rattle.tool_base.specs.declared.words.opening.Open.{Open}
use Rattle.tool_base.specs.declared.words.asking.Ask.{Ask}
use Rattle.tool_base.specs.declared.words.preparing.Prepare.{Prepare}
use Rattle.tool_base.specs.declared.words.measuring.Noise.{Noise}
use Rattle.tool_base.specs.declared.words.answering.Answer.{Answer}
use Rattle.tool_base.specs.declared.words.local.Local.{Local}
use Rattle.tool_base.specs.declared.words.serving.Serve.{Serve}
use Rattle.tool_base.specs.declared.words.fetching.Fetch.{Fetch}
use Rattle.tool_base.specs.declared.words.Command.{Command}
use Rattle.tool_base.specs.declared.words.Command.TheVariants as command
use Rattle.tool_base.specs.Sources.{WordSource, source_name, source_word, source_seen}

-- ---- what each command's words say

-- `prepare SET LENGTH INPUT DB`
pub record PrepareWords : Type 0 where
  pub set_name : List ℕ
  pub record_length : ℕ
  pub input_name : List ℕ
  pub db_name : List ℕ

-- `ask SET INDEX WORDS STATE SETUP QUERY`
pub record AskWords : Type 0 where
  pub set_name : List ℕ
  pub index : ℕ
  pub source : WordSource
  pub state_name : List ℕ
  pub setup_name : List ℕ
  pub query_name : List ℕ

-- `answer DB SETUP QUERY REPLY WORKERS`
pub record AnswerWords : Type 0 where
  pub db_name : List ℕ
  pub setup_name : List ℕ
  pub query_name : List ℕ
  pub reply_name : List ℕ
  pub workers : ℕ

-- `open STATE REPLY OUT`
pub record OpenWords : Type 0 where
  pub state_name : List ℕ
  pub reply_name : List ℕ
  pub out_name : List ℕ

-- `noise SET INDEX WORDS`
pub record NoiseWords : Type 0 where
  pub set_name : List ℕ
  pub index : ℕ
  pub source : WordSource

-- `local DB INDEX WORDS TRANSCRIPT OUT WORKERS CUT`
pub record LocalWords : Type 0 where
  pub db_name : List ℕ
  pub index : ℕ
  pub source : WordSource
  pub transcript_name : List ℕ
  pub out_name : List ℕ
  pub workers : ℕ
  pub cut : ℕ

-- `serve ADDR DB SESSIONS WORKERS`
pub record ServeWords : Type 0 where
  pub addr : List ℕ
  pub db_name : List ℕ
  pub sessions : ℕ
  pub workers : ℕ

-- `fetch ADDR SET INDEX WORDS OUT`
pub record FetchWords : Type 0 where
  pub addr : List ℕ
  pub set_name : List ℕ
  pub index : ℕ
  pub source : WordSource
  pub out_name : List ℕ

-- ---- the words behind a command's name, a number in plain decimal; and where they are in form

abbrev pub prepare_args : PrepareWords → List (List ℕ)
prepare_args p = p.set_name ∷ decimal p.record_length ∷ p.input_name ∷ p.db_name ∷ []

-- LENGTH is at most 4294967295
abbrev pub PrepareForm : PrepareWords → Type 0
PrepareForm p = p.record_length < 2 ^ 32

abbrev pub ask_args : AskWords → List (List ℕ)
ask_args a = a.set_name ∷ decimal a.index ∷ source_word a.source ∷ a.state_name ∷ a.setup_name ∷ a.query_name ∷ []

-- INDEX is at most 4294967295, and at least one byte names the file of WORDS
abbrev pub AskForm : AskWords → Type 0
AskForm a = (a.index < 2 ^ 32) × (0 < length (source_name a.source))

abbrev pub answer_args : AnswerWords → List (List ℕ)
answer_args a = a.db_name ∷ a.setup_name ∷ a.query_name ∷ a.reply_name ∷ decimal a.workers ∷ []

-- WORKERS is from 1 to 64
abbrev pub AnswerForm : AnswerWords → Type 0
AnswerForm a = (1 ≤ a.workers) × (a.workers ≤ 64)

abbrev pub open_args : OpenWords → List (List ℕ)
open_args o = o.state_name ∷ o.reply_name ∷ o.out_name ∷ []

abbrev pub OpenForm : OpenWords → Type 0
OpenForm _ = Unit {0}

abbrev pub noise_args : NoiseWords → List (List ℕ)
noise_args a = a.set_name ∷ decimal a.index ∷ source_word a.source ∷ []

-- as in `ask`
abbrev pub NoiseForm : NoiseWords → Type 0
NoiseForm a = (a.index < 2 ^ 32) × (0 < length (source_name a.source))

abbrev pub local_args : LocalWords → List (List ℕ)
local_args l =
    l.db_name ∷ decimal l.index ∷ source_word l.source ∷ l.transcript_name ∷ l.out_name ∷ decimal l.workers ∷ decimal l.cut ∷ []

-- INDEX and WORDS as in `ask`, WORKERS is from 1 to 64, and CUT from 1 to 1048576
abbrev pub LocalForm : LocalWords → Type 0
LocalForm l =
    (l.index < 2 ^ 32) × (0 < length (source_name l.source)) × (1 ≤ l.workers) × (l.workers ≤ 64) × (1 ≤ l.cut) × (l.cut ≤ 1048576)

abbrev pub serve_args : ServeWords → List (List ℕ)
serve_args s = s.addr ∷ s.db_name ∷ decimal s.sessions ∷ decimal s.workers ∷ []

-- SESSIONS is from 1 to 1000000, and WORKERS from 1 to 64
abbrev pub ServeForm : ServeWords → Type 0
ServeForm s = (1 ≤ s.sessions) × (s.sessions ≤ 1000000) × (1 ≤ s.workers) × (s.workers ≤ 64)

abbrev pub fetch_args : FetchWords → List (List ℕ)
fetch_args f = f.addr ∷ f.set_name ∷ decimal f.index ∷ source_word f.source ∷ f.out_name ∷ []

-- as in `ask`
abbrev pub FetchForm : FetchWords → Type 0
FetchForm f = (f.index < 2 ^ 32) × (0 < length (source_name f.source))

-- ---- the table of the commands

pub data CommandName : Type 0 where
  the_prepare : CommandName
  the_ask : CommandName
  the_answer : CommandName
  the_open : CommandName
  the_noise : CommandName
  the_local : CommandName
  the_serve : CommandName
  the_fetch : CommandName

-- the first word
abbrev pub spelled_name : CommandName → List ℕ
spelled_name the_prepare = codes "prepare"
spelled_name the_ask = codes "ask"
spelled_name the_answer = codes "answer"
spelled_name the_open = codes "open"
spelled_name the_noise = codes "noise"
spelled_name the_local = codes "local"
spelled_name the_serve = codes "serve"
spelled_name the_fetch = codes "fetch"

-- what the words behind it say
abbrev pub Said : CommandName → Type 0
Said the_prepare = PrepareWords
Said the_ask = AskWords
Said the_answer = AnswerWords
Said the_open = OpenWords
Said the_noise = NoiseWords
Said the_local = LocalWords
Said the_serve = ServeWords
Said the_fetch = FetchWords

abbrev pub args_of : (name : CommandName) → Said name → List (List ℕ)
args_of the_prepare = prepare_args
args_of the_ask = ask_args
args_of the_answer = answer_args
args_of the_open = open_args
args_of the_noise = noise_args
args_of the_local = local_args
args_of the_serve = serve_args
args_of the_fetch = fetch_args

abbrev pub InForm : (name : CommandName) → Said name → Type 0
InForm the_prepare = PrepareForm
InForm the_ask = AskForm
InForm the_answer = AnswerForm
InForm the_open = OpenForm
InForm the_noise = NoiseForm
InForm the_local = LocalForm
InForm the_serve = ServeForm
InForm the_fetch = FetchForm

-- ---- what a command line asks for

pub record Asked : Type 0 where
  pub name : CommandName
  pub said : Said name

-- the words of the command line that ask for it
abbrev pub words_of : Asked → List (List ℕ)
words_of asked = spelled_name asked.name ∷ args_of asked.name asked.said

-- the words fit no command's form
abbrev pub FitNone : List (List ℕ) → Type 0
FitNone words = (asked : Asked) → InForm asked.name asked.said → words ≡ words_of asked → ⊥

-- ---- how the program sees it

abbrev pub prepare_seen : Prepare → PrepareWords
prepare_seen p = record { set_name = p.set.now; record_length = p.length; input_name = p.input.now; db_name = p.db.now }

abbrev pub ask_seen : Ask → AskWords
ask_seen a = record { set_name = a.set.now; index = a.index; source = source_seen a.source; state_name = a.state.now; setup_name = a.setup.now; query_name = a.query.now }

abbrev pub answer_seen : Answer → AnswerWords
answer_seen a = record { db_name = a.db.now; setup_name = a.setup.now; query_name = a.query.now; reply_name = a.reply.now; workers = a.workers }

abbrev pub open_seen : Open → OpenWords
open_seen o = record { state_name = o.state.now; reply_name = o.reply.now; out_name = o.out.now }

abbrev pub noise_seen : Noise → NoiseWords
noise_seen a = record { set_name = a.set.now; index = a.index; source = source_seen a.source }

abbrev pub local_seen : Local → LocalWords
local_seen l =
    record { db_name = l.db.now; index = l.index; source = source_seen l.source; transcript_name = l.transcript.now; out_name = l.out.now; workers = l.workers; cut = l.cut }

abbrev pub serve_seen : Serve → ServeWords
serve_seen s = record { addr = s.addr.now; db_name = s.db.now; sessions = s.sessions; workers = s.workers }

abbrev pub fetch_seen : Fetch → FetchWords
fetch_seen f = record { addr = f.addr.now; set_name = f.set.now; index = f.index; source = source_seen f.source; out_name = f.out.now }

abbrev pub command_seen : Command → Asked
command_seen (command.Prepare p) = record { name = the_prepare; said = prepare_seen p }
command_seen (command.Ask a) = record { name = the_ask; said = ask_seen a }
command_seen (command.Answer a) = record { name = the_answer; said = answer_seen a }
command_seen (command.Open o) = record { name = the_open; said = open_seen o }
command_seen (command.Noise a) = record { name = the_noise; said = noise_seen a }
command_seen (command.Local l) = record { name = the_local; said = local_seen l }
command_seen (command.Serve s) = record { name = the_serve; said = serve_seen s }
command_seen (command.Fetch f) = record { name = the_fetch; said = fetch_seen f }

-- ---- how the words are read

-- the word is this number in plain decimal
abbrev pub IsNumber : List ℕ → ℕ → Type 0
IsNumber word number = (number < 2 ^ 32) × (word ≡ decimal number)

-- the word is a number from 1 to this one, in plain decimal
abbrev pub IsCountTo : ℕ → List ℕ → ℕ → Type 0
IsCountTo most word number = (1 ≤ number) × (number ≤ most) × (word ≡ decimal number)

-- The words behind a command's name are read: what they say, in form; or nothing, where they are those of nothing in form.
abbrev pub ReadsArgs : {T W : Type 0} → (T → W) → (W → Type 0) → (W → List (List ℕ)) → List (List ℕ) → Option T → Type 0
ReadsArgs {W = W} seen Form args words None = (said : W) → Form said → words ≡ args said → ⊥
ReadsArgs seen Form args words (Some x) = Form (seen x) × (words ≡ args (seen x))

-- The words of a command line are read: what they ask for, in form; or nothing, where they fit no command's form.
abbrev pub Gives : Option Command → List (List ℕ) → Type 0
Gives None words = FitNone words
Gives (Some command) words =
    InForm (command_seen command).name (command_seen command).said × (words ≡ words_of (command_seen command))

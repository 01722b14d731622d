-- What a client makes of random words, and why it may not.
use Rattle.std.specs.Prelude.{ℕ, List, [], ◌≡◌, ◌-◌, ◌<◌, ◌≤◌, length, take, if◌then◌else◌, Option, Some, None, IfSome, Result, Ok, Err}
use Rattle.spiral_sets.specs.declared.param_set.ParamSet.{ParamSet}
use Rattle.spiral_sets.specs.Sets.{max_records, has_keys}
use Rattle.spiral_sets.specs.Counts.{words_needed}
use Rattle.spiral_model.specs.Dealing.{state_of, key_body_of, query_body_of}
use Rattle.spiral_model.specs.Bodies.{CipherBody, IsSetup, IsQuery}
use Rattle.spiral_model.specs.Noise.{NoiseRow, noise_left, noise_right, FitsReport, dealt_report, Fits}
use Rattle.spiral_frames.specs.Frames.{Spell, setup_message, query_message, frame_of}
use Rattle.noise_check.specs.declared.reported.Report.{Report}
use Rattle.noise_check.specs.Reports.{row_at, IsReport}
use Rattle.pir_client.specs.declared.asking.Asked.{Asked}
use Rattle.pir_client.specs.declared.dealing.Dealt.{Dealt}
use Rattle.pir_client.specs.declared.asking.AskError.{AskError}
use Rattle.pir_client.specs.declared.asking.AskError.TheVariants.{IndexRange, WordsShort, TooNoisy, NoMemory}

-- The keys that words deal for a set, as a Setup carries them; none in a set without keys.
unfoldable pub setup_body : ParamSet → List ℕ → Option CipherBody
setup_body set words = if has_keys set then Some (key_body_of set words) else None

-- Their Setup frame; empty in a set without keys.
unfoldable pub setup_frame : ParamSet → List ℕ → List ℕ
setup_frame set words = if has_keys set then frame_of (setup_message (key_body_of set words)) else []

-- the Setup frame of keys, where there are any
abbrev pub frame_if_any : Option CipherBody → List ℕ
frame_if_any (Some body) = frame_of (setup_message body)
frame_if_any None = []

-- The state, the keys, the query and the report that the words give for the index, the keys and the query as their frames. Fits holds of
-- the query.
pub record IsAsked (set : ParamSet) (index : ℕ) (words : List ℕ) (asked : Asked) : Type 0 where
  pub state : asked.state ≡ state_of set words index
  pub setup : asked.setup.items ≡ setup_frame set words
  pub query : Spell (query_message (query_body_of set words index)) asked.query.items
  pub report : IsReport set (dealt_report set words index) asked.report
  pub fits : Fits set words index

-- What words deal for an index: the state, the keys and the query in their shapes, and the query's noise.
pub record IsDealt (set : ParamSet) (index : ℕ) (words : List ℕ) (dealt : Dealt) : Type 0 where
  pub state : dealt.state ≡ state_of set words index
  pub setup : dealt.setup ≡ setup_body set words
  pub keys : IfSome dealt.setup (λ body. IsSetup body)
  pub query : dealt.query ≡ query_body_of set words index
  pub shape : IsQuery dealt.query
  pub report : IsReport set (dealt_report set words index) dealt.report

-- the index is in range, and there are as many words as the set needs
abbrev pub MayAsk : ParamSet → ℕ → List ℕ → Type 0
MayAsk set index words = (index < max_records set) × (words_needed set ≤ length words)

-- Row `row`, counted from 1, is the first whose left side isn't below the right one, and that is its noise.
pub record FirstMiss (set : ParamSet) (rows : List NoiseRow) (row noise : ℕ) : Type 0 where
  pub some : 1 ≤ row
  pub place : row ≤ length rows
  pub misses : noise_right set ≤ noise_left set (row_at rows (row - 1))
  pub first : FitsReport set (take (row - 1) rows)
  pub noise_is : noise ≡ (row_at rows (row - 1)).noise

-- Each answer of a call that asks, and where it comes: an index out of range before short words, too much noise exactly where Fits is
-- false, and want of memory only where the index and the words are good.
abbrev pub Asks : ParamSet → ℕ → List ℕ → Result Asked AskError → Type 0
Asks set index words (Ok asked) = MayAsk set index words × IsAsked set index words asked
Asks set index words (Err (IndexRange asked_for bound)) = (asked_for ≡ index) × (bound ≡ max_records set) × (bound ≤ index)
Asks set index words (Err (WordsShort needed given)) =
    (index < max_records set) × (needed ≡ words_needed set) × (given ≡ length words) × (given < needed)
Asks set index words (Err (TooNoisy row noise)) = MayAsk set index words × FirstMiss set (dealt_report set words index) row noise
Asks set index words (Err NoMemory) = MayAsk set index words

-- Likewise of a call that only measures: noise is no reason.
abbrev pub Measures : ParamSet → ℕ → List ℕ → Result Report AskError → Type 0
Measures set index words (Ok report) = MayAsk set index words × IsReport set (dealt_report set words index) report
Measures set index words (Err (TooNoisy row noise)) = ⊥
Measures set index words (Err (IndexRange asked_for bound)) = Asks set index words (Err (IndexRange asked_for bound))
Measures set index words (Err (WordsShort needed given)) = Asks set index words (Err (WordsShort needed given))
Measures set index words (Err NoMemory) = MayAsk set index words

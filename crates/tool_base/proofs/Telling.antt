-- Whether the files and the sink tell what they hold stays, whatever a step does.
use Rattle.std.proofs.Common.{ℕ, List, ◌≡◌, ◌∙◌, inl, inr, ap}
use Rattle.pir_io.specs.Files.{FilesSeen}
use Rattle.pir_io.specs.Reading.{OnlyRead}
use Rattle.pir_io.specs.Sink.{SinkSeen}
use Rattle.frame_headers.specs.declared.frame_error.FrameError.{FrameError}
use Rattle.tool_base.specs.declared.status.Status.{Status}
use Rattle.tool_base.specs.Puts.{GotRefusal, Finished}
use Rattle.tool_base.specs.Outputs.{Output}
use Rattle.tool_base.specs.Steps.{Scene, Steps, at_files, refuse, without_line, refuse_frame, puts, write, Unread}

abbrev pub TellsStill : Scene → Type 0
TellsStill s = (s.files_after.tells ≡ s.files.tells) × (s.sink_after.tells ≡ s.sink.tells)

pub refusal_told : (so sn : SinkSeen) (line : List ℕ) → GotRefusal so sn line → sn.tells ≡ so.tells
refusal_told so sn line (inl got) = got.0
refusal_told so sn line (inr got) = got.0

finished_told : (so sn : SinkSeen) (line : List ℕ) (status : Status) → Finished so sn line status → sn.tells ≡ so.tells
finished_told so sn line status (inl (_, got)) = got.0
finished_told so sn line status (inr (_, got)) = got.0

module _ (s : Scene) (status : Status) where
  pub refuse_told : (ended : Status) (line : List ℕ) → refuse ended line s status → TellsStill s
  refuse_told ended line (same, inl (_, got)) = (ap (λ (f : FilesSeen). f.tells) same, refusal_told s.sink s.sink_after line got)
  refuse_told ended line (same, inr (_, got)) = (ap (λ (f : FilesSeen). f.tells) same, got.0)

  pub without_told : (ended : Status) → without_line ended s status → TellsStill s
  without_told ended (same, _, got) = (ap (λ (f : FilesSeen). f.tells) same, got.0)

  pub refused_frame_told : (input : ℕ) (name : List ℕ) (IsRefused : List ℕ → FrameError → Type 0) → refuse_frame input name IsRefused s status → TellsStill s
  refused_frame_told input name IsRefused (error, _, ends) = refuse_told _ _ ends

  pub puts_told : (lines : List ℕ) → puts lines s status → TellsStill s
  puts_told lines (same, inl put) = (ap (λ (f : FilesSeen). f.tells) same, finished_told s.sink s.sink_after lines status put)
  puts_told lines (same, inr (_, got)) = (ap (λ (f : FilesSeen). f.tells) same, got.0)

  pub write_told : (outputs : List Output) (line : List ℕ) → write outputs line s status → TellsStill s
  write_told outputs line (same, inl (_, put)) = (same, finished_told s.sink s.sink_after line status put)
  write_told outputs line (same, inr (inl (_, _, got))) = (same, got.0)
  write_told outputs line (same, inr (inr (_, _, _, got))) = (same, refusal_told s.sink s.sink_after _ got)

  pub unread_told : {A : Type 0} (before : FilesSeen) (name : List ℕ) (Is : List ℕ → A → Type 0) (otherwise : Steps) → (otherwise s status → TellsStill s)
      → Unread before name Is otherwise s status → TellsStill s
  unread_told before name Is otherwise others (inl (_, refused)) = refuse_told _ _ refused
  unread_told before name Is otherwise others (inr (inl short)) = without_told _ short
  unread_told before name Is otherwise others (inr (inr (_, ends))) = others ends

-- and so it does behind a file that was only read
pub after_reading : (s : Scene) (now : FilesSeen) → OnlyRead s.files now → TellsStill (at_files now s) → TellsStill s
after_reading s now only told = (told.0 ∙ only.tells, told.1)

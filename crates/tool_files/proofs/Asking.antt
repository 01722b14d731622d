-- The command that makes a query: what it was given, and what it writes.
use Rattle.std.proofs.Common.{ℕ, List, [], ◌∷◌, ◌≡◌, ◌∙◌, length, ap}
use Rattle.spiral_sets.specs.declared.param_set.ParamSet.{ParamSet}
use Rattle.spiral_model.specs.Dealing.{state_of}
use Rattle.spiral_frames.specs.Frames.{frame_of, state_message}
use Rattle.pir_client.specs.declared.asking.Asked.{Asked}
use Rattle.pir_client.specs.Asks.{setup_frame, IsAsked}
use Rattle.tool_base.specs.Outputs.{Output}
use Rattle.tool_base.specs.Texts.{query_line}
use Rattle.tool_base.specs.Words.{AskWords}
use Rattle.tool_base.specs.Steps.{Steps, work_out, write}
use Rattle.tool_files.specs.Ask.{query_frame, asked_outputs, quiet}
use Rattle.tool_files.specs.AskedFrames.{outputs_from}

-- what `ask` does with a set and words
abbrev pub ask_rest : AskWords → ParamSet → List ℕ → Steps
ask_rest a set words = work_out (quiet set words a.index (write (asked_outputs a set words) (query_line a.set_name (length (setup_frame set words)) (length (query_frame a set words)))))

-- three outputs
abbrev pub triple : (a b c p q r : List ℕ) → List Output
triple a b c p q r = record { name = a; bytes = p } ∷ record { name = b; bytes = q } ∷ record { name = c; bytes = r } ∷ []

-- that have the same bytes
pub three_same : (a b c p q r x y z : List ℕ) → p ≡ x → q ≡ y → r ≡ z → triple a b c p q r ≡ triple a b c x y z
three_same a b c p q r x y z first second third = ap (λ l. triple a b c l q r) first ∙ ap (λ l. triple a b c x l r) second ∙ ap (λ l. triple a b c x y l) third

module _ (a : AskWords) (set : ParamSet) (words : List ℕ) (asked : Asked) (is : IsAsked set a.index words asked) where
  pub outputs_are : outputs_from a asked ≡ asked_outputs a set words
  outputs_are =
      three_same a.state_name a.setup_name a.query_name (frame_of (state_message asked.state)) asked.setup.items asked.query.items
      (frame_of (state_message (state_of set words a.index))) (setup_frame set words) (query_frame a set words)
      (ap (λ s. frame_of (state_message s)) is.state) is.setup is.query.spelled

  pub line_is : query_line a.set_name (length asked.setup.items) (length asked.query.items) ≡ query_line a.set_name (length (setup_frame set words)) (length (query_frame a set words))
  line_is =
      ap (λ (b : List ℕ). query_line a.set_name (length b) (length asked.query.items)) is.setup
      ∙ ap (λ (b : List ℕ). query_line a.set_name (length (setup_frame set words)) (length b)) is.query.spelled

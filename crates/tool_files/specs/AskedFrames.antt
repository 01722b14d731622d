-- What is written of what a client was given.
use Rattle.std.specs.Prelude.{List, [], ◌∷◌}
use Rattle.pir_client.specs.declared.asking.Asked.{Asked}
use Rattle.spiral_frames.specs.Frames.{frame_of, state_message}
use Rattle.tool_base.specs.Outputs.{Output}
use Rattle.tool_base.specs.Words.{AskWords}

-- STATE gets the frame of the state, SETUP and QUERY the bytes of these frames
abbrev pub outputs_from : AskWords → Asked → List Output
outputs_from a asked =
    record { name = a.state_name; bytes = frame_of (state_message asked.state) }
    ∷ record { name = a.setup_name; bytes = asked.setup.items }
    ∷ record { name = a.query_name; bytes = asked.query.items } ∷ []

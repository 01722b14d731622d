-- How contracts see the body in the making of whichever kind, and its frame.
use Rattle.std.specs.Prelude.{ℕ, true, List, ◌++◌, ◌≡◌, ◌≢◌, ◌<◌, length}
use Rattle.frame_headers.specs.declared.kind.FrameKind.TheVariants.{Database}
use Rattle.frame_headers.specs.Kinds.{code_of_kind, body_len_of}
use Rattle.frame_headers.specs.Checks.{accepts}
use Rattle.frame_streams.specs.Heads.{header_of}
use Rattle.pir_wire.specs.declared.decoder.body.Body.{Body}
use Rattle.pir_wire.specs.declared.decoder.body.Body.TheVariants as body
use Rattle.pir_wire.specs.Growing.{BodySeen, IsGrowing}

abbrev pub body_seen : Body → BodySeen
body_seen (body.Setup b) = b
body_seen (body.Query b) = b
body_seen (body.Reply b) = b
body_seen (body.Refuse b) = b
body_seen (body.State b) = b

-- the bytes of its frame that have come, those of the header first
abbrev pub frame_bytes : BodySeen → List ℕ
frame_bytes b = header_of b.kind b.set ++ b.bytes

-- A body in the making whose kind is accepted; so many bytes of its frame have come.
pub record IsComing (kinds come : ℕ) (b : BodySeen) : Type 0 where
  pub growing : IsGrowing b
  pub other : b.kind ≢ Database
  pub accepted : accepts kinds (code_of_kind b.kind) ≡ true
  pub count : come ≡ length (frame_bytes b)

-- more of its bytes are wanted
pub record IsAtHand (kinds come : ℕ) (b : BodySeen) : Type 0 where
  pub coming : IsComing kinds come b
  pub wanted : length b.bytes < body_len_of b.kind b.set

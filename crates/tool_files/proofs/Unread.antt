-- How a command goes on where an input gave nothing to go on with.
use Rattle.std.proofs.Common.{ℕ, List, IsTrue, ◌∙◌, Err, inl, inr, refl, ap, subst}
use Rattle.pir_io.specs.Files.{FilesSeen, content_of}
use Rattle.pir_io.specs.Sink.{SinkSeen}
use Rattle.pir_io.proofs.Kept.{same_content}
use Rattle.spiral_frames.specs.FrameChecks.{one_refusal}
use Rattle.tool_base.specs.declared.status.Status.{Status}
use Rattle.tool_base.specs.Steps.{scene, Unread, refuse_frame, IsRefusedAs}
use Rattle.tool_files.specs.declared.input.InputError.{InputError}
use Rattle.tool_files.specs.declared.input.InputError.TheVariants.{File, Frame, NoMemory}
use Rattle.tool_files.specs.Reading.{ReadsMessage}
use Rattle.tool_files.specs.Refusing.{InputRefused}

-- an input gave no message
pub not_read : {T : Type 0} (input kinds : ℕ) (Is : List ℕ → T → Type 0) (old new : FilesSeen) (so sn : SinkSeen) (name : List ℕ) (error : InputError) (status : Status)
    → ReadsMessage kinds Is old new name (Err error) → InputRefused input so sn error status
    → Unread old name Is (refuse_frame input name (IsRefusedAs kinds)) (scene new new so sn) status
not_read input kinds Is old new so sn name File status reads refused = inl (reads.file refl, (refl, refused))
not_read input kinds Is old new so sn name (Frame error) status reads refused = inr (inr (reads.none error refl, (error, is_refused, (refl, refused))))
  where
    is_refused : IsTrue new.tells → IsRefusedAs kinds (content_of new name) error
    is_refused told =
        let before : IsTrue old.tells = subst IsTrue reads.only.tells told in
        ap (one_refusal kinds) (same_content old new (reads.only.keeps before) name) ∙ reads.cause error refl before
not_read input kinds Is old new so sn name NoMemory status reads refused = inr (inl (refl, refused.0, refused.1))

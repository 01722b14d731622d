-- An input that is refused as Short ends there: what is refused whatever follows isn't refused as that.
use Rattle.std.proofs.Common.{ℕ, Bool, true, false, if◌then◌else◌, List, [], ◌∷◌, ◌++◌, ◌≡◌, ◌≢◌, ◌∙◌, length, nat_lt, Some, None, refl, ap, sym, arith, length-append}
use Rattle.frame_headers.specs.declared.frame_error.FrameError.{FrameError}
use Rattle.frame_headers.specs.declared.frame_error.FrameError.TheVariants.{Short, Extra}
use Rattle.frame_headers.specs.Refusals.{code_of, place_of}
use Rattle.spiral_frames.specs.FrameChecks.{Front, more, wrong, whole, front, one_by, one_refusal}
use Rattle.frame_streams.proofs.NotShort.{front_not_short}
use Rattle.frame_streams.proofs.OneFrames.{one_refusal_is}

-- a byte too many is refused by another code
extra_not_short : (longer : Bool) (len : ℕ) (error : FrameError) → (if longer then Some (Extra len) else None) ≡ Some error → code_of error ≢ 1
extra_not_short true len error refusal = λ short. let same : Extra len ≡ error = cc in let no : 14 ≡ 1 = ap code_of same ∙ short in omega (arith, no)
extra_not_short false len error refusal = absurd (cc)

-- by what stands at the front
short_by : (kinds : ℕ) (x : List ℕ) (found : Front) (error : FrameError) → front kinds x ≡ found → one_by found (length x) ≡ Some error → code_of error ≡ 1
    → place_of error ≡ length x
short_by kinds x more error is refusal short = let same : Short (length x) ≡ error = cc in sym (ap place_of same)
short_by kinds x (wrong e) error is refusal short = let same : e ≡ error = cc in absurd (front_not_short kinds x e is (ap code_of same ∙ short))
short_by kinds x (whole len) error is refusal short = absurd (extra_not_short (nat_lt len (length x)) len error refusal short)

-- The place of Short is the input's length.
pub short_at_end : (kinds : ℕ) (x : List ℕ) (error : FrameError) → one_refusal kinds x ≡ Some error → code_of error ≡ 1 → place_of error ≡ length x
short_at_end kinds x error refusal short = short_by kinds x (front kinds x) error refl (sym (one_refusal_is kinds x) ∙ refusal) short

-- What is refused whatever follows isn't refused as Short.
pub whatever_not_short : (kinds : ℕ) (x : List ℕ) (error : FrameError) → ((rest : List ℕ) → one_refusal kinds (x ++ rest) ≡ Some error) → code_of error ≢ 1
whatever_not_short kinds x error refusal = λ short.
    let here : place_of error ≡ length (x ++ []) = short_at_end kinds (x ++ []) error (refusal []) short in
    let further : place_of error ≡ length (x ++ 0 ∷ []) = short_at_end kinds (x ++ 0 ∷ []) error (refusal (0 ∷ [])) short in
    omega (arith, here, further, length-append x [], length-append x (0 ∷ []))

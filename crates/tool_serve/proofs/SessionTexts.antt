-- The line of a session that was refused, as it is laid out.
use Rattle.std.proofs.Common.{ℕ, List, [], ◌∷◌, ◌++◌, ◌≡◌, Result, Ok, Err, IfOk, codes, decimal, ap, sym, ◌∙◌, append_assoc}
use Rattle.pir_server.specs.declared.session.EndCause.TheVariants as cause
use Rattle.tool_serve.specs.Serve.{cause_text}

refused_end : (a b : List ℕ) → codes "refused " ++ (a ++ (codes " at " ++ (b ++ 10 ∷ []))) ≡ (codes "refused " ++ (a ++ (codes " at " ++ b))) ++ 10 ∷ []
refused_end a b = ap (λ l. codes "refused " ++ l) (sym (append_assoc a (codes " at " ++ b) (10 ∷ [])))

-- the line's front
abbrev front : List ℕ → List ℕ → List ℕ → List ℕ
front k answered rest = codes "session " ++ (k ++ (codes ": " ++ (answered ++ (codes " answered, " ++ rest))))

-- the end of the line behind the numbers before it
pub refused_line : {T E : Type 0} (bytes_of : T → List ℕ) (result : Result T E) (k answered : List ℕ) (code at_place : ℕ)
    → IfOk result (λ t. bytes_of t ≡ front k answered (codes "refused " ++ (decimal code ++ (codes " at " ++ (decimal at_place ++ 10 ∷ [])))))
    → IfOk result (λ t. bytes_of t ≡ front k answered (cause_text (cause.Refused code at_place) ++ 10 ∷ []))
refused_line bytes_of (Ok t) k answered code at_place said =
    said ∙ ap (front k answered) (refused_end (decimal code) (decimal at_place))
refused_line bytes_of (Err e) k answered code at_place said = tt

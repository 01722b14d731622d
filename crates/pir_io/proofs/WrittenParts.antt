-- Bytes that are written part by part.
use Rattle.std.proofs.Common.{◌≡◌, ℕ, ◌-◌, Option, List, ◌++◌, length, take, drop, sym, ap, ◌∙◌, append_assoc, take-append-drop}
use Rattle.std.proofs.lemmas.List.{take_rest}
use Rattle.std.specs.Io.KnownBytes.{Appends, Keeps}
use Rattle.std.proofs.KnownBytes.{Appends-trans, Appends-kept}

-- what is gone from the rest was written
abbrev pub HasWritten : Option (List ℕ) → Option (List ℕ) → List ℕ → List ℕ → Type 0
HasWritten before now all rest = (done : List ℕ) × (all ≡ done ++ rest) × Appends before now done

moves_front : (all done rest : List ℕ) (n : ℕ) → all ≡ done ++ rest → all ≡ (done ++ take n rest) ++ take (length rest - n) (drop n rest)
moves_front all done rest n e =
    e ∙ ap (λ l. done ++ l) (sym (take-append-drop n rest)) ∙ sym (append_assoc done (take n rest) (drop n rest)) ∙ ap (λ l. (done ++ take n rest) ++ l) (sym (take_rest rest n))

-- a write took the rest's first n bytes
pub part_written : (before now next : Option (List ℕ)) (all rest : List ℕ) (n : ℕ) → HasWritten before now all rest → Appends now next (take n rest)
    → HasWritten before next all (take (length rest - n) (drop n rest))
part_written before now next all rest n (done, split, written) took =
    (done ++ take n rest, moves_front all done rest n split, Appends-trans before now next done (take n rest) written took)

-- a write took nothing
pub none_written : (before now next : Option (List ℕ)) (all rest : List ℕ) → HasWritten before now all rest → Keeps now next → HasWritten before next all rest
none_written before now next all rest (done, split, written) kept = (done, split, Appends-kept before now next done written kept)

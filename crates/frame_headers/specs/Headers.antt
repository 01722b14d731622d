-- The header with which every frame begins. A number in a frame has its least byte first.
use Rattle.std.specs.Prelude.{ℕ, List, [], ◌∷◌, ◌++◌, length, codes}
use Rattle.negacyclic.specs.Digits.{digits}
use Rattle.spiral_sets.specs.declared.param_set.ParamSet.{ParamSet}
use Rattle.spiral_sets.specs.Sets.{name_of}

-- a number in so many bytes
abbrev pub number : ℕ → ℕ → List ℕ
number count x = digits 256 count x

-- The header: the magic "SPIR", version 1, the code of the kind, the set's name behind its length, and the body's length.
unfoldable pub header : ℕ → ParamSet → ℕ → List ℕ
header code set body = codes "SPIR" ++ (1 ∷ code ∷ length (name_of set) ∷ []) ++ name_of set ++ number 8 body

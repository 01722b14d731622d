-- Named contents: what stands under each name (None: the name isn't there).
use Rattle.std.specs.Prelude.{ℕ, List, ◌≡◌, ◌≢◌, Option, unwrap_or, []}
use Rattle.std.specs.Option.{option_map}
use Rattle.std.specs.BTreeMap.{get_by_text}
use Rattle.pir_io.specs.declared.contents.Contents.{Contents}

abbrev pub content_at : Contents → List ℕ → Option (List ℕ)
content_at contents name = option_map (λ bytes. bytes.items) (get_by_text contents.files name)

-- the bytes of a name; none where it isn't there
abbrev pub bytes_at : Contents → List ℕ → List ℕ
bytes_at contents name = unwrap_or (content_at contents name) []

-- every name holds what it held
abbrev pub SameContents : Contents → Contents → Type 0
SameContents old new = (name : List ℕ) → content_at new name ≡ content_at old name

-- every name but this one holds what it held
abbrev pub SameOthers : Contents → Contents → List ℕ → Type 0
SameOthers old new name = (other : List ℕ) → other ≢ name → content_at new other ≡ content_at old other

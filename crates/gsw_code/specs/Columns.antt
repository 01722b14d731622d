-- The columns of GSW ciphertexts as they are drawn.
use Rattle.std.specs.Prelude.{List}
use Rattle.spiral_sets.specs.declared.param_set.ParamSet.{ParamSet}
use Rattle.spiral_sets.specs.Sets.{rows}
use Rattle.spiral_model.specs.Words.{Poly, Cipher}
use Rattle.regev_code.specs.Seen.{Secrets, Cursor}
use Rattle.regev_code.specs.Shapes.{under}
use Rattle.regev_code.specs.Drawn.{Drawn}

-- the secrets under which a set's GSW ciphertexts stand, as polynomials
abbrev pub row_secrets_of : ParamSet → Secrets → List Poly
row_secrets_of set secrets = under set.degree secrets set.pack

-- While a cursor went from `from` to `to`, the columns with these messages, which are made of the secrets, were appended.
abbrev pub ColumnsDrawn : ParamSet → Secrets → (List Poly → List (List Poly)) → Cursor → Cursor → List Cipher → List Cipher → Type 0
ColumnsDrawn set secrets messages from to old new =
    Drawn set.degree (rows set) (row_secrets_of set secrets) (messages (row_secrets_of set secrets)) from to old new

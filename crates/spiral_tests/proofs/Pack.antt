-- Keys and ciphertexts of the set whose keys are dealt.
use Rattle.std.proofs.Common.{ℕ, List, ◌≡◌, ◌+◌, ◌∙◌, All, ap, sym, subst}
use Rattle.std.proofs.lemmas.List.Elements.{All-same}
use Rattle.spiral_sets.specs.declared.param_set.ParamSet.{ParamSet}
use Rattle.spiral_sets.specs.Sets.{rows}
use Rattle.spiral_model.specs.Words.{Cipher}
use Rattle.spiral_model.specs.Bodies.{CipherBody}
use Rattle.spiral_model.specs.Keys.{SetKeys, keys_in}
use Rattle.regev_code.specs.Products.{HasShape}
use Rattle.spiral_tests.specs.Pack.{tiny_pack}

-- the keys of a body are of its set
pub keys_set : (keys : SetKeys) (body : CipherBody) → keys ≡ keys_in body → body.set ≡ tiny_pack → keys.set ≡ tiny_pack
unfolding keys_in
keys_set keys body are set = ap (λ (k : SetKeys). k.set) are ∙ set

-- scalar ciphertexts, where the degree is known by an equation
pub scalars_of : (N : ℕ) (cs ds : List Cipher) → N ≡ 256 → ds ≡ cs → All (HasShape 256 2) cs → All (HasShape N 2) ds
scalars_of N cs ds degree same shapes = All-same (HasShape N 2) ds cs same (subst (λ (n : ℕ). All (HasShape n 2) cs) (sym degree) shapes)

-- ciphertexts of rows 0 to n, where the degree and the set are known by an equation
pub matrices_of : (N : ℕ) (s : ParamSet) (cs : List Cipher) → N ≡ 256 → s ≡ tiny_pack → All (HasShape N (s.n + 1)) cs → All (HasShape 256 3) cs
matrices_of N s cs degree set shapes =
    subst (λ (n : ℕ). All (HasShape n 3) cs) degree (subst (λ (t : ParamSet). All (HasShape N (t.n + 1)) cs) set shapes)

-- columns of rows 0 to m, likewise
pub columns_of : (N : ℕ) (s : ParamSet) (cs : List Cipher) → N ≡ 256 → s ≡ tiny_pack → All (HasShape N (rows s + 1)) cs → All (HasShape 256 2) cs
columns_of N s cs degree set shapes =
    subst (λ (n : ℕ). All (HasShape n 2) cs) degree (subst (λ (t : ParamSet). All (HasShape N (rows t + 1)) cs) set shapes)

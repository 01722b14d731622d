-- A State's body, by its parts.
use Rattle.std.proofs.Common.{◌≡◌, ℕ, ℤ, ◌+◌, ◌^◌, ◌<◌, ◌≤◌, List, [], ◌∷◌, ◌++◌, length, get_or, take, drop, map, All, refl, sym, ◌∙◌, ap, subst, arith, length-take}
use Rattle.std.proofs.lemmas.List.{map-append, take_more, length-map, length-drop}
use Rattle.std.proofs.lemmas.List.Elements.{All-push, All-take}
use Rattle.negacyclic.specs.Digits.{number_of}
use Rattle.spiral_sets.specs.declared.param_set.ParamSet.{ParamSet}
use Rattle.spiral_sets.specs.Sets.{IsSet, max_records}
use Rattle.spiral_sets.specs.Counts.{state_len}
use Rattle.spiral_model.specs.Replies.{QueryState, IsTernary}
use Rattle.spiral_frames.specs.Frames.{secret_byte, state_message}
use Rattle.spiral_frames.proofs.Bodies.{ternary_bytes, index_in_body, secret_in_body, state_body_is}
use Rattle.frame_headers.proofs.HeaderLaws.{number_is}
use Rattle.pir_wire.specs.Bodies.{IsBodyOf}

-- ---- the secret of a State

-- no secret has a byte above 2
pub too_large : (secret : List ℤ) (bytes : List ℕ) (i : ℕ) → All IsTernary secret → map secret_byte secret ≡ bytes → i < length bytes → 2 < get_or bytes i 0 → ⊥
too_large secret bytes i ternary e within large =
    let small : All (λ b. b ≤ 2) bytes = subst (All (λ b. b ≤ 2)) e (ternary_bytes secret ternary) in
    omega (arith, small i 0 within)

-- one more number of the secret
pub secret_more : (secret out : List ℤ) (bytes : List ℕ) (i : ℕ) (z : ℤ) → All IsTernary secret × (map secret_byte secret ≡ take i bytes)
    → i < length bytes → IsTernary z → secret_byte z ≡ get_or bytes i 0 → out ≡ secret ++ z ∷ []
    → All IsTernary out × (map secret_byte out ≡ take (i + 1) bytes)
secret_more secret out bytes i z before within ternary byte e = (
  rw e (All-push IsTernary secret z before.0 ternary),
  rw (e, map-append, take_more bytes i 0 within, ← byte, before.1) refl,
)

-- ---- a State's body

module _ (set : ParamSet) (body : List ℕ) (state : QueryState) (is : IsBodyOf set body (state_message state)) where
  pub index_of_state : number_of 256 (take 8 body) ≡ state.index
  index_of_state = ap (λ (b : List ℕ). number_of 256 (take 8 b)) is.spelled ∙ index_in_body state is.kept

  pub index_below : number_of 256 (take 8 body) < max_records set
  index_below = rw index_of_state (subst (λ (s : ParamSet). state.index < max_records s) is.set_is is.kept.index)

  pub secret_of_state : map secret_byte state.secret ≡ drop 8 body
  secret_of_state = sym (ap (drop 8) is.spelled ∙ secret_in_body state)

pub state_from_parts : (set : ParamSet) (body : List ℕ) (index : ℕ) (secret : List ℤ) → IsSet set → All (λ b. b < 2 ^ 8) body → length body ≡ state_len set
    → index ≡ number_of 256 (take 8 body) → index < max_records set → All IsTernary secret → map secret_byte secret ≡ drop 8 body
    → IsBodyOf set body (state_message (record { set = set; index = index; secret = secret }))
state_from_parts set body index secret known below len index_is low ternary spelled =
    let state : QueryState = record { set = set; index = index; secret = secret } in
    let eight : length (take 8 body) ≡ 8 = omega (arith, length-take 8 body) in
    record {
      set_is = refl;
      kept = record {
        known = known;
        index = low;
        secret_length = omega (arith, length-map secret secret_byte, ap length spelled, length-drop 8 body);
        ternary = ternary;
      };
      spelled = state_body_is state body (number_is 8 index (take 8 body) eight (All-take (λ b. b < 2 ^ 8) 8 body below) index_is) (sym spelled);
    }

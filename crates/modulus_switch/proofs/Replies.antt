-- A reply of zeros.
use Rattle.std.proofs.Common.{◌≡◌, ℕ, ◌<◌, ◌≤◌, List, All, length as list_length, replicate, ◌∙◌, ap, subst, sym, pow_pos}
use Rattle.std.proofs.lemmas.List.{length-replicate}
use Rattle.std.proofs.lemmas.List.Elements.{All-replicate}
use Rattle.spiral_sets.specs.declared.param_set.ParamSet.{ParamSet}
use Rattle.spiral_sets.specs.Sets.{IsSet, entries, q1, q2, q1_bits, max_records, capacity}
use Rattle.spiral_model.specs.Words.{Poly}
use Rattle.spiral_model.specs.Replies.{IsReply, IsSwitched}

-- polynomials of zeros
zeros_switched : (N modulus count : ℕ) (polys : List Poly) → 0 < modulus → polys ≡ replicate count (replicate {A = ℕ} N 0) → All (IsSwitched N modulus) polys
zeros_switched N modulus count polys some zeros =
    let zero : IsSwitched N modulus (replicate {A = ℕ} N 0) =
    record { degree = length-replicate {A = ℕ} N 0; below = All-replicate (λ x. x < modulus) N 0 some } in
    subst (All (IsSwitched N modulus)) (sym zeros) (All-replicate (IsSwitched N modulus) count (replicate {A = ℕ} N 0) zero)

pub zeros_keep : (set : ParamSet) (count length : ℕ) (body mask : List Poly) → IsSet set → count ≤ max_records set → 0 < length → length ≤ capacity set
    → body ≡ replicate (entries set) (replicate {A = ℕ} set.degree 0) → mask ≡ replicate set.n (replicate {A = ℕ} set.degree 0)
    → IsReply (record { set = set; count = count; record_length = length; body = body; mask = mask })
zeros_keep set count length body mask known few some within body_is mask_is = record {
  known = known;
  count = few;
  some_length = some;
  record_length = within;
  body_count = ap list_length body_is ∙ length-replicate (entries set) (replicate {A = ℕ} set.degree 0);
  mask_count = ap list_length mask_is ∙ length-replicate set.n (replicate {A = ℕ} set.degree 0);
  body = zeros_switched set.degree (q1 set) (entries set) body (pow_pos (q1_bits set)) body_is;
  mask = zeros_switched set.degree (q2 set) set.n mask (pow_pos set.q2_bits) mask_is;
}

-- What a server keeps over an answer, and that it is the answer.
use Rattle.std.proofs.Common.{◌≡◌, ℕ, ◌+◌, ◌*◌, ◌^◌, ◌≤◌, List, length, slice_index_or, slice_set, take, replicate, All, Option}
use Rattle.std.proofs.Common.{refl, sym, ◌∙◌, ap, subst, arith}
use Rattle.std.proofs.lemmas.List.{length-replicate, length-set, length-take-le}
use Rattle.std.proofs.lemmas.Nat.{pow_pos}
use Rattle.std.proofs.Math.Nat.{le-mul_of_pos_right, mul_comm}
use Rattle.std.proofs.lemmas.List.Elements.{All-same, All-set, All-take, All-replicate}
use Rattle.spiral_sets.specs.declared.param_set.ParamSet.{ParamSet}
use Rattle.spiral_model.specs.Sets.{IsSet, rows, columns}
use Rattle.spiral_model.specs.Words.{Cipher}
use Rattle.spiral_model.specs.Databases.{RecordTable, record_count, matrices_of}
use Rattle.spiral_model.specs.Replies.{SwitchedReply}
use Rattle.spiral_model.specs.Keys.{SetKeys, lift_keys}
use Rattle.spiral_model.specs.Answering.{Ready, first_products, folded, result_columns, result_of, reply_of, answer_of}
use Rattle.regev_code.specs.Products.{HasShape}
use Rattle.modulus_switch.specs.Places.{zero_reply}
use Rattle.regev_code.proofs.Products.{zeros_shape}
use Rattle.first_dim.specs.Preparations.{PreparedRecords}
use Rattle.pir_server.specs.Served.{IsServed}
use Rattle.pir_server.specs.Switched.{switched_from}

-- the ciphertexts that the fold left are cut off the room's front, and keep their shapes
pub cut_shapes : (s : ParamSet) (k : ℕ) (shown after : List Cipher) → shown ≡ after
    → All (HasShape s.degree (rows s + 1)) after → All (HasShape s.degree (rows s + 1)) (take k shown)
cut_shapes s k shown after is shapes =
    All-take (HasShape s.degree (rows s + 1)) k shown (All-same (HasShape s.degree (rows s + 1)) shown after is shapes)

-- and there are as many as the result has columns
pub cut_count : (s t : ParamSet) (k : ℕ) (shown : List Cipher) → s ≡ t → k ≡ columns s
    → length shown ≡ 2 ^ t.nu2 * columns t → length (take k shown) ≡ columns s
cut_count s t k shown same is all =
    let counted : length shown ≡ columns s * 2 ^ s.nu2 = all ∙ ap (λ (u : ParamSet). 2 ^ u.nu2 * columns u) (sym same) ∙ mul_comm (2 ^ s.nu2) (columns s) in
    let least : columns s ≤ columns s * 2 ^ s.nu2 = le-mul_of_pos_right (columns s) (pow_pos s.nu2) in
    let within : k ≤ length shown = omega (arith, is, counted, least) in length-take-le k shown within ∙ is

-- the scratches, when the first has been lent and given back
pub sets_kept : (s t : ParamSet) (items shown : List ParamSet) (lent back : ParamSet) → s ≡ t → All (λ u. u ≡ t) items → 1 ≤ length items
    → lent ≡ slice_index_or items 0 lent → back ≡ lent → shown ≡ slice_set items 0 back → All (λ u. u ≡ s) shown
sets_kept s t items shown lent back set_is sets some lent_is back_is shown_is =
    let given : back ≡ t = back_is ∙ lent_is ∙ sets 0 lent some in
    let all : All (λ u. u ≡ t) shown = All-same (λ u. u ≡ t) shown (slice_set items 0 back) shown_is (All-set (λ u. u ≡ t) items 0 back given sets) in
    subst (λ (v : ParamSet). All (λ u. u ≡ v) shown) (sym set_is) all

-- the first scratch, lent once more
pub lent_again : (s : ParamSet) (held items : List ParamSet) (lent : ParamSet) → held ≡ items → All (λ u. u ≡ s) items → 1 ≤ length items
    → lent ≡ slice_index_or held 0 lent → lent ≡ s
lent_again s held items lent held_is sets some lent_is =
    let there : 1 ≤ length held = omega (arith, ap length held_is, some) in
    lent_is ∙ All-same (λ u. u ≡ s) held items held_is sets 0 lent there

-- ---- what a server keeps from the start

-- polynomials of zeros, as the rows of a ciphertext
abbrev zero_rows : ParamSet → List (List ℕ)
zero_rows s = replicate (rows s + 1) (replicate s.degree 0)

pub served_new : (table : RecordTable) (prepared : PreparedRecords) (ring : ℕ) (s : ParamSet) (workers : ℕ) (scratch : List ParamSet)
    (outputs : List Cipher) → IsSet table.set → s ≡ table.set → prepared ≡ record { set = table.set; matrices = matrices_of table }
    → ring ≡ s.degree → 1 ≤ workers → workers ≤ 64 → scratch ≡ replicate workers s
    → outputs ≡ replicate (2 ^ s.nu2 * columns s) (zero_rows s) → IsServed table prepared ring scratch outputs
served_new table prepared ring s workers scratch outputs known set_is prepared_is ring_is some few scratch_is outputs_is =
    let t : ParamSet = table.set in
    let size : length scratch ≡ workers = ap length scratch_is ∙ length-replicate {A = ParamSet} workers s in
    let zeros : outputs ≡ replicate (2 ^ t.nu2 * columns t) (zero_rows t) =
    outputs_is ∙ ap (λ (u : ParamSet). replicate (2 ^ u.nu2 * columns u) (zero_rows u)) set_is in
    record {
      known = known;
      same = prepared_is;
      degree = ring_is ∙ ap (λ (u : ParamSet). u.degree) set_is;
      some = omega (arith, size);
      few = omega (arith, size);
      sets = All-same (λ u. u ≡ t) scratch (replicate workers s) scratch_is (All-replicate (λ u. u ≡ t) workers s set_is);
      count = ap length zeros ∙ length-replicate {A = List (List ℕ)} (2 ^ t.nu2 * columns t) (zero_rows t);
      shapes = All-same (HasShape t.degree (rows t + 1)) outputs _ zeros
          (All-replicate (HasShape t.degree (rows t + 1)) (2 ^ t.nu2 * columns t) (zero_rows t) (zeros_shape t.degree (rows t + 1) _ refl));
    }

-- ---- what a server keeps, with other scratches and outputs of the same shapes

pub kept : (table : RecordTable) (prepared : PreparedRecords) (ring : ℕ) (s : ParamSet) (scratch : List ParamSet) (outputs : List Cipher)
    (held new_scratch : List ParamSet) (left new_outputs : List Cipher) → IsServed table prepared ring scratch outputs → s ≡ table.set
    → held ≡ new_scratch → left ≡ new_outputs → length new_scratch ≡ length scratch → length new_outputs ≡ length outputs
    → All (λ t. t ≡ s) new_scratch → All (HasShape s.degree (rows s + 1)) new_outputs → IsServed table prepared ring held left
kept table prepared ring s scratch outputs held new_scratch left new_outputs is set_is held_is left_is scratch_count outputs_count sets shapes =
    let workers : length held ≡ length scratch = ap length held_is ∙ scratch_count in
    record {
      known = is.known;
      same = is.same;
      degree = is.degree;
      some = omega (arith, workers, is.some);
      few = omega (arith, workers, is.few);
      sets = All-same (λ t. t ≡ table.set) held new_scratch held_is (subst (λ (u : ParamSet). All (λ t. t ≡ u) new_scratch) set_is sets);
      count = ap length left_is ∙ outputs_count ∙ is.count;
      shapes = All-same (HasShape table.set.degree (rows table.set + 1)) left new_outputs left_is
          (subst (λ (u : ParamSet). All (HasShape u.degree (rows u + 1)) new_outputs) set_is shapes);
    }

-- the same when the first scratch was lent once more and given back
pub kept_lent : (table : RecordTable) (prepared : PreparedRecords) (ring : ℕ) (s : ParamSet) (scratch : List ParamSet) (outputs : List Cipher)
    (held new_scratch : List ParamSet) (lent back : ParamSet) (left new_outputs : List Cipher) → IsServed table prepared ring scratch outputs
    → s ≡ table.set → held ≡ new_scratch → lent ≡ slice_index_or held 0 lent → back ≡ lent → left ≡ new_outputs
    → length new_scratch ≡ length scratch → length new_outputs ≡ length outputs
    → All (λ t. t ≡ s) new_scratch → All (HasShape s.degree (rows s + 1)) new_outputs → IsServed table prepared ring (slice_set held 0 back) left
kept_lent table prepared ring s scratch outputs held new_scratch lent back left new_outputs is same held_is lent_is back_is left_is workers count sets shapes =
    let some : 1 ≤ length new_scratch = omega (arith, workers, is.some) in
    let given : back ≡ s = back_is ∙ lent_again s held new_scratch lent held_is sets some lent_is in
    let all : All (λ t. t ≡ s) (slice_set held 0 back) = All-set (λ t. t ≡ s) held 0 back given (All-same (λ t. t ≡ s) held new_scratch held_is sets) in
    let size : length (slice_set held 0 back) ≡ length scratch = length-set held 0 back ∙ ap length held_is ∙ workers in
    kept table prepared ring s scratch outputs (slice_set held 0 back) (slice_set held 0 back) left new_outputs is same refl left_is size count
    all shapes

-- ---- the answer

-- A result that was put into a reply of zeros is the answer.
pub answered : (table : RecordTable) (keys : Option SetKeys) (ready : Ready) (s : ParamSet) (zero new : SwitchedReply) (prepared : PreparedRecords)
    (cut : List Cipher) → s ≡ table.set → zero ≡ zero_reply table.set (record_count table) table.record_length
    → prepared ≡ record { set = table.set; matrices = matrices_of table }
    → cut ≡ folded s.degree s.w_gsw ready.gsws (first_products s prepared.matrices ready.firsts)
    → new ≡ switched_from s zero (result_columns s (lift_keys keys) cut) → new ≡ answer_of table keys ready
unfolding answer_of reply_of result_of
answered table keys ready s zero new prepared cut set_is zero_is prepared_is cut_is put =
    let t : ParamSet = table.set in
    let left : List Cipher = folded t.degree t.w_gsw ready.gsws (first_products t (matrices_of table) ready.firsts) in
    let cut_left : cut ≡ left =
    cut_is
    ∙ ap (λ (u : ParamSet). folded u.degree u.w_gsw ready.gsws (first_products u prepared.matrices ready.firsts)) set_is
    ∙ ap (λ (p : PreparedRecords). folded t.degree t.w_gsw ready.gsws (first_products t p.matrices ready.firsts)) prepared_is in
    put
    ∙ ap (λ (u : ParamSet). switched_from u zero (result_columns u (lift_keys keys) cut)) set_is
    ∙ ap (λ (cs : List Cipher). switched_from t zero (result_columns t (lift_keys keys) cs)) cut_left
    ∙ ap (λ (r : SwitchedReply). switched_from t r (result_columns t (lift_keys keys) left)) zero_is

use Rattle.std.proofs.Common.{◌≡◌, ℕ, List, length, ◌∙◌, ap, ap₂, arith}
use Rattle.spiral_sets.specs.declared.param_set.ParamSet.{ParamSet}
use Rattle.spiral_model.specs.Records.{record_of}
use Rattle.spiral_model.specs.Replies.{opened_values, open_bytes}
use Rattle.spiral_sets.proofs.SetBounds.{p_bits-some, p_bits-most}
use Rattle.negacyclic.proofs.Lists.{refilled}
use Rattle.modulus_switch.proofs.open.open_matrix.Goals as goal

pub pack-requires-clause-some : goal.pack-requires-clause-some
pack-requires-clause-some c = omega (arith, p_bits-some c.set-set.result c.set-set.ensures.known)

pub pack-requires-clause-narrow : goal.pack-requires-clause-narrow
pack-requires-clause-narrow c = omega (arith, p_bits-most c.set-set.result c.set-set.ensures.known)

pub returns : goal.returns
unfolding open_bytes
returns c =
    let values : c.deref.result.now ≡ opened_values c.args.state.now c.args.reply.now =
    c.deref.ensures.value
    ∙ refilled c.in_ok-values.values.len c.open_entries.new.out _ (omega (arith, c.open_entries.auto.out, c.deref_mut.ensures.len))
    ∙ c.open_entries.ensures.value in
    let size : length c.deref_mut-2.result.now ≡ c.args.reply.now.record_length =
    ap length c.deref_mut-2.ensures.value ∙ c.in_ok-bytes.ensures ∙ c.length.ensures.value in
    refilled c.in_ok-bytes.bytes.len c.pack.new.out _ (omega (arith, c.pack.auto.out, c.deref_mut-2.ensures.len))
    ∙ c.pack.ensures
    ∙ ap₂ (λ (count : ℕ) (xs : List ℕ). record_of c.set-set.result count xs) size values
    ∙ ap (λ (set : ParamSet). record_of set c.args.reply.now.record_length (opened_values c.args.state.now c.args.reply.now)) c.set-set.ensures.value

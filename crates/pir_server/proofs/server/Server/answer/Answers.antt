use Rattle.std.proofs.Common.{◌≡◌, ℕ, List, Option, length, take, sym, ◌∙◌, ap, arith, subst}
use Rattle.std.specs.Option.{option_copied}
use Rattle.std.proofs.lemmas.List.{take_at}
use Rattle.spiral_sets.specs.declared.param_set.ParamSet.{ParamSet}
use Rattle.spiral_model.specs.Words.{Cipher}
use Rattle.spiral_model.specs.Databases.{RecordTable}
use Rattle.spiral_model.specs.Keys.{SetKeys}
use Rattle.spiral_model.specs.Answering.{Ready, answer_of, ready_of}
use Rattle.regev_code.specs.KeyShapes.{AreKeysFor}
use Rattle.pir_server.specs.Served.{Served}
use Rattle.pir_server.proofs.Serving.{sets_kept, cut_count, cut_shapes, lent_again, kept_lent, answered}
use Rattle.pir_server.proofs.server.Server.answer.Goals as goal

pub ready-requires-clause-keys : goal.ready-requires-clause-keys
ready-requires-clause-keys g c =
    let table : c.self.inside.db ≡ c.args.self.now.table = ap (λ (v : Served). v.table) c.self.view_is in
    let set_is : c.set-set.result ≡ c.args.self.now.table.set = c.set-set.ensures.value ∙ ap (λ (t : RecordTable). t.set) table in
    subst (λ (u : ParamSet). AreKeysFor u (option_copied c.args.keys)) (sym set_is) c.requires.keys

pub ready-requires-clause-scratch : goal.ready-requires-clause-scratch
ready-requires-clause-scratch g c =
    c.index_mut-room.ensures.value ∙ c.self.invariant.sets 0 c.index_mut-room.result.now c.self.invariant.some ∙ sym c.set-set.ensures.value

pub work_out-requires-clause-sets : goal.work_out-requires-clause-sets
work_out-requires-clause-sets g c κs within =
    let s : ParamSet = c.set-set.result in
    let set_is : s ≡ c.self.inside.db.set = c.set-set.ensures.value in
    let room_is : c.ready.new.scratch ≡ c.index_mut-room.result.now = c.in_ok-ready.ensures.scratch in
    sets_kept s c.self.inside.db.set c.self.inside.scratch.items c.deref_mut-2.result.now c.index_mut-room.result.now c.ready.new.scratch
    set_is c.self.invariant.sets c.self.invariant.some c.index_mut-room.ensures.value room_is c.deref_mut-2.ensures.value

pub put_result-requires-clause-count : goal.put_result-requires-clause-count
put_result-requires-clause-count g c =
    let count : length c.work_out.new.outputs ≡ c.self.inside.outputs.len = omega (arith, c.work_out.auto.outputs, c.deref_mut.ensures.len) in
    let shown : length c.deref.result.now ≡ length c.self.inside.outputs.items =
    ap length (c.deref.ensures.value ∙ take_at c.work_out.new.outputs _ c.self.inside.outputs.len count) ∙ count ∙ c.self.inside.outputs.ok.0 in
    cut_count c.set-set.result c.self.inside.db.set c.columns.result c.deref.result.now c.set-set.ensures.value c.columns.ensures.value
    (shown ∙ c.self.invariant.count)

pub put_result-requires-clause-shapes : goal.put_result-requires-clause-shapes
put_result-requires-clause-shapes g c =
    let count : length c.work_out.new.outputs ≡ c.self.inside.outputs.len = omega (arith, c.work_out.auto.outputs, c.deref_mut.ensures.len) in
    cut_shapes c.set-set.result c.columns.result c.deref.result.now c.work_out.new.outputs
    (c.deref.ensures.value ∙ take_at c.work_out.new.outputs _ c.self.inside.outputs.len count) c.work_out.ensures.shapes

pub put_result-requires-clause-scratch : goal.put_result-requires-clause-scratch
put_result-requires-clause-scratch g c =
    let workers : length c.work_out.new.scratch ≡ c.self.inside.scratch.len = omega (arith, c.work_out.auto.scratch, c.deref_mut-2.ensures.len) in
    lent_again c.set-set.result _ c.work_out.new.scratch c.index_mut-room-2.result.now
    (take_at c.work_out.new.scratch _ c.self.inside.scratch.len workers) c.work_out.ensures.sets
    (omega (arith, workers, c.self.inside.scratch.ok.0, c.self.invariant.some)) c.index_mut-room-2.ensures.value

pub invariant_of-self-in_err-put_result : goal.invariant_of-self-in_err-put_result
invariant_of-self-in_err-put_result g c =
    let s : ParamSet = c.set-set.result in
    let set_is : s ≡ c.self.inside.db.set = c.set-set.ensures.value in
    let workers : length c.work_out.new.scratch ≡ c.self.inside.scratch.len = omega (arith, c.work_out.auto.scratch, c.deref_mut-2.ensures.len) in
    let count : length c.work_out.new.outputs ≡ c.self.inside.outputs.len = omega (arith, c.work_out.auto.outputs, c.deref_mut.ensures.len) in
    kept_lent c.self.inside.db c.self.inside.prepared c.self.inside.ring s c.self.inside.scratch.items c.self.inside.outputs.items
    _ c.work_out.new.scratch c.index_mut-room-2.result.now c.put_result.new.scratch _ c.work_out.new.outputs
    c.self.invariant set_is (take_at c.work_out.new.scratch _ c.self.inside.scratch.len workers) c.index_mut-room-2.ensures.value
    c.put_result.ensures.scratch (take_at c.work_out.new.outputs _ c.self.inside.outputs.len count)
    (workers ∙ c.self.inside.scratch.ok.0) (count ∙ c.self.inside.outputs.ok.0) c.work_out.ensures.sets c.work_out.ensures.shapes

pub invariant_of-self-2 : goal.invariant_of-self-2
invariant_of-self-2 g c =
    let s : ParamSet = c.set-set.result in
    let set_is : s ≡ c.self.inside.db.set = c.set-set.ensures.value in
    let workers : length c.work_out.new.scratch ≡ c.self.inside.scratch.len = omega (arith, c.work_out.auto.scratch, c.deref_mut-2.ensures.len) in
    let count : length c.work_out.new.outputs ≡ c.self.inside.outputs.len = omega (arith, c.work_out.auto.outputs, c.deref_mut.ensures.len) in
    kept_lent c.self.inside.db c.self.inside.prepared c.self.inside.ring s c.self.inside.scratch.items c.self.inside.outputs.items
    _ c.work_out.new.scratch c.index_mut-room-2.result.now c.put_result.new.scratch _ c.work_out.new.outputs
    c.self.invariant set_is (take_at c.work_out.new.scratch _ c.self.inside.scratch.len workers) c.index_mut-room-2.ensures.value
    c.put_result.ensures.scratch (take_at c.work_out.new.outputs _ c.self.inside.outputs.len count)
    (workers ∙ c.self.inside.scratch.ok.0) (count ∙ c.self.inside.outputs.ok.0) c.work_out.ensures.sets c.work_out.ensures.shapes

pub returns-clause-reply : goal.returns-clause-reply
returns-clause-reply g c =
    let s : ParamSet = c.set-set.result in
    let set_is : s ≡ c.self.inside.db.set = c.set-set.ensures.value in
    let table : c.self.inside.db ≡ c.args.self.now.table = ap (λ (v : Served). v.table) c.self.view_is in
    let count : length c.work_out.new.outputs ≡ c.self.inside.outputs.len = omega (arith, c.work_out.auto.outputs, c.deref_mut.ensures.len) in
    let shown : c.deref.result.now ≡ c.work_out.new.outputs = c.deref.ensures.value ∙ take_at c.work_out.new.outputs _ c.self.inside.outputs.len count in
    let keys : Option SetKeys = option_copied c.args.keys in
    let ciphers : List Cipher = c.args.query.now.ciphers in
    answered c.self.inside.db keys c.in_ok-ready.ready s c.in_ok-reply.reply c.put_result.new.reply c.self.inside.prepared
    (take c.columns.result c.deref.result.now) set_is c.in_ok-reply.ensures c.self.invariant.same
    (ap (λ (cs : List Cipher). take c.columns.result cs) shown
    ∙ ap (λ (k : ℕ). take k c.work_out.new.outputs) c.columns.ensures.value ∙ c.work_out.ensures.value)
    c.in_ok-put_result.ensures.value
    ∙ ap (λ (r : Ready). answer_of c.self.inside.db keys r) (c.in_ok-ready.ensures.value ∙ ap (λ (u : ParamSet). ready_of u keys ciphers) set_is)
    ∙ ap (λ (t : RecordTable). answer_of t keys (ready_of t.set keys ciphers)) table

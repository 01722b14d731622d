use Rattle.std.proofs.Common.{◌≡◌, ◌∙◌, ap, sym, subst, ◌<◌, List, ℕ, get_or, ◌+◌, ◌*◌, ◌^◌}
use Rattle.negacyclic.specs.Digits.{number_of, digit}
use Rattle.spiral_sets.specs.declared.param_set.ParamSet.{ParamSet}
use Rattle.spiral_model.specs.Sets.{p}
use Rattle.spiral_model.specs.Records.{entry_of, values_of}
use Rattle.spiral_model.specs.Databases.{RecordTable, IsTable}
use Rattle.record_store.proofs.Values.{value_is, value_of_none, value_below, no_record}
use Rattle.record_store.proofs.database.Database.value.Goals as goal

pub returns-in-Some-clause-value : goal.returns-in-Some-clause-value
returns-in-Some-clause-value c =
    let set = c.args.self.now.set in
    let same : c.self.inside.set ≡ set = ap (λ (table : RecordTable). table.set) c.self.view_is in
    c.value_at.ensures
    ∙ ap (λ (s : ParamSet). digit (2 ^ s.p_bits) (c.args.entry * s.degree + c.args.place) (number_of 256 c.in-Some.bytes.now)) same
    ∙ sym (value_is set c.args.entry c.args.place c.requires.entry c.requires.place c.in-Some.bytes.now)
    ∙ ap (λ (bytes : List ℕ). get_or (entry_of set (values_of set bytes) c.args.entry) c.args.place 0) c.in-Some.ensures.1

pub returns-in-Some-clause-below : goal.returns-in-Some-clause-below
returns-in-Some-clause-below c =
    let set = c.args.self.now.set in
    let same : c.self.inside.set ≡ set = ap (λ (table : RecordTable). table.set) c.self.view_is in
    let result : c.value_at.result ≡ digit (p set) (c.args.entry * set.degree + c.args.place) (number_of 256 c.in-Some.bytes.now) =
    c.value_at.ensures ∙ ap (λ (s : ParamSet). digit (2 ^ s.p_bits) (c.args.entry * s.degree + c.args.place) (number_of 256 c.in-Some.bytes.now)) same in
    subst (λ (x : ℕ). x < p set) (sym result) (value_below set (c.args.entry * set.degree + c.args.place) (number_of 256 c.in-Some.bytes.now))

pub returns-in-None-clause-value : goal.returns-in-None-clause-value
returns-in-None-clause-value c =
    let set = c.args.self.now.set in
    let is : IsTable c.args.self.now = subst (λ (table : RecordTable). IsTable table) c.self.view_is c.self.invariant in
    sym (ap (λ (bytes : List ℕ). get_or (entry_of set (values_of set bytes) c.args.entry) c.args.place 0)
    (no_record c.args.self.now c.args.i is c.in-None.ensures)
    ∙ value_of_none set c.args.entry c.args.place c.requires.entry c.requires.place)

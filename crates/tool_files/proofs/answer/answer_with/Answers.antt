use Rattle.std.proofs.Common.{◌≡◌, ◌∙◌, false, ap, sym, subst}
use Rattle.std.specs.Option.{option_copied}
use Rattle.spiral_sets.specs.declared.param_set.ParamSet.{ParamSet}
use Rattle.spiral_model.specs.Sets.{has_keys}
use Rattle.spiral_model.specs.Bodies.{CipherBody}
use Rattle.tool_files.specs.Given.{IsGiven}
use Rattle.tool_files.proofs.Setups.{keys_given}
use Rattle.tool_files.proofs.Answering.{answered_without}
use Rattle.tool_files.proofs.answer.answer_with.Goals as goal

pub answer-requires-clause-keys : goal.answer-requires-clause-keys
answer-requires-clause-keys g c κs within =
    keys_given c.args.server.now.table.set (option_copied c.args.setup) c.in-Some.setup.now c.in_ok-keys-in-Some.keys c.requires.setup
    (ap option_copied c.in-Some.is) c.in_ok-keys-in-Some.ensures

pub returns-in-Some-2 : goal.returns-in-Some-2
returns-in-Some-2 g c =
    let own : c.in-Some.setup.now.set ≡ c.args.server.now.table.set = (subst (IsGiven c.args.server.now.table.set) (ap option_copied c.in-Some.is) c.requires.setup).0 in
    let hasn't : has_keys c.args.server.now.table.set ≡ false =
    ap (λ (s : ParamSet). has_keys s) (sym own ∙ ap (λ (b : CipherBody). b.set) (sym c.setup.view_is)) ∙ sym c.has_keys.ensures ∙ c.if-has_keys.false in
    answered_without c.args.server.now.table (option_copied c.args.setup) c.in-Some.setup.now c.args.query.now c.answer-in-Some-2.result hasn't
    (ap option_copied c.in-Some.is) c.answer-in-Some-2.ensures.reply

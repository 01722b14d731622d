use Rattle.std.proofs.Common.{ℕ, List, subst, sym}
use Rattle.std.proofs.lemmas.List.{take_rest}
use Rattle.std.proofs.lemmas.Option.{IfSome_then, MatchOption-at_some, MatchOption-at_none}
use Rattle.std.proofs.lemmas.Result.{IfOk-weaker}
use Rattle.spiral_sets.specs.declared.param_set.ParamSet.{ParamSet}
use Rattle.spiral_sets.specs.Sets.{IsSet}
use Rattle.frame_headers.specs.declared.kind.FrameKind.{FrameKind}
use Rattle.pir_wire.specs.Bodies.{IsBodyOf}
use Rattle.pir_wire.specs.Headers.{BeginsWith, HasOtherFront}
use Rattle.pir_wire.proofs.WholeFrames.{none_then, one_of_body, body_of_one, none_of_header}
use Rattle.pir_wire.proofs.decoding.decode.Given.{Over}
use Rattle.pir_wire.proofs.decoding.decode.Goals as goal
use Rattle.pir_wire.proofs.decoding.decode.Goals.{In-Some}

-- the header that was found is one of the message's kind
begins : (g : Over) (c : In-Some g) → BeginsWith g.M.FramedMessage.KIND c.args.bytes.now c.in-Some.set c.in-Some.start
begins g c =
    subst (λ (kind : FrameKind). BeginsWith kind c.args.bytes.now c.in-Some.set c.in-Some.start) c.KIND.ensures
    (MatchOption-at_some _ _ (c.in-Some.set, c.in-Some.start) c.in-Some.is c.in_ok-set.ensures.found)

pub returns-in-Some-clause-found : goal.returns-in-Some-clause-found
returns-in-Some-clause-found g c =
    let bytes : List ℕ = c.args.bytes.now in
    let m = g.M.FramedMessage in
    let laws = g.met.M.FramedMessage in
    IfOk-weaker c.from_body.result _ _
    (λ found is_found.
    IfSome_then found is_found
    (λ x is.
    one_of_body m.KIND laws.one_length (m.message x) (laws.kind_is x) bytes c.in-Some.set c.in-Some.start
    (begins g (goal.at.returns-in-Some-clause-found g c).In-Some)
    (subst (λ (body : List ℕ). IsBodyOf c.in-Some.set body (m.message x)) (take_rest bytes c.in-Some.start) is)))
    c.from_body.ensures.found

pub returns-in-Some-clause-none : goal.returns-in-Some-clause-none
returns-in-Some-clause-none g c =
    let bytes : List ℕ = c.args.bytes.now in
    none_then c.from_body.result c.from_body.ensures.none
    (λ none m is.
    none m is.kind_is
    (subst (λ (body : List ℕ). IsBodyOf c.in-Some.set body m) (sym (take_rest bytes c.in-Some.start))
    (body_of_one g.M.FramedMessage.KIND g.met.M.FramedMessage.one_length m is.kind_is bytes c.in-Some.set c.in-Some.start
    (begins g (goal.at.returns-in-Some-clause-none g c).In-Some) is)))

pub returns-in-None-clause-none : goal.returns-in-None-clause-none
returns-in-None-clause-none g c =
    λ m is.
    none_of_header g.M.FramedMessage.KIND g.met.M.FramedMessage.one_length m is.kind_is c.args.bytes.now
    (subst (λ (kind : FrameKind). (set : ParamSet) → IsSet set → HasOtherFront kind c.args.bytes.now set) c.KIND.ensures
    (MatchOption-at_none _ _ c.in-None.is c.in_ok-set.ensures.none)) is

use Rattle.std.proofs.Common.{◌≡◌, ℕ, List, ◌++◌, ◌∷◌, [], ap, ◌∙◌, arith, length}
use Rattle.frame_headers.specs.declared.header.HeaderRead.TheVariants.{More, Refused}
use Rattle.frame_streams.specs.Decoding.{Decoding}
use Rattle.frame_streams.proofs.Heads.{IsWholeHeader}
use Rattle.pir_wire.specs.Making.{body_seen, frame_bytes}
use Rattle.pir_wire.specs.Steps.{with_bytes}
use Rattle.pir_wire.proofs.Feeds.{code_range, read_as, whole_as, begun_bytes, begun_coming, header_goes_on, header_refuses, header_ends, header_place}
use Rattle.pir_wire.proofs.decoder.Decoder.take_header.Goals as goal
use Rattle.pir_wire.proofs.decoder.Decoder.take_header.Goals.{In-Whole}

-- the header is whole
is_whole : (c : In-Whole) → IsWholeHeader c.args.self.now.kinds (c.args.bytes.items ++ c.args.byte ∷ []) c.in-Whole.kind c.in-Whole.set
is_whole c =
    whole_as c.args.self.now.kinds c.self.inside.kinds c.args.bytes.items c.deref.result.now c.args.byte c.in-Whole.kind c.in-Whole.set c.in-Whole.body
    c.in-Whole.used (c.deref.ensures.value ∙ c.in_ok-push.ensures.items) (ap (λ (d : Decoding). d.kinds) c.self.view_is) c.requires.kinds c.requires.wanted
    c.in-Whole.ensures.below c.in-Whole.ensures.read

pub refuse-requires : goal.refuse-requires
refuse-requires c =
    let kinds : ℕ = c.args.self.now.kinds in
    let fails = read_as kinds c.self.inside.kinds (c.args.bytes.items ++ c.args.byte ∷ []) c.deref.result.now (Refused c.in-Refused.error)
    (c.deref.ensures.value ∙ c.in_ok-push.ensures.items) (ap (λ (d : Decoding). d.kinds) c.self.view_is) c.in-Refused.ensures.read in
    omega (arith, c.requires.room, header_place kinds c.args.bytes.items c.args.byte c.in-Refused.error fails)

pub returns-in-Refused : goal.returns-in-Refused
returns-in-Refused c =
    let kinds : ℕ = c.args.self.now.kinds in
    let fails = read_as kinds c.self.inside.kinds (c.args.bytes.items ++ c.args.byte ∷ []) c.deref.result.now (Refused c.in-Refused.error)
    (c.deref.ensures.value ∙ c.in_ok-push.ensures.items) (ap (λ (d : Decoding). d.kinds) c.self.view_is) c.in-Refused.ensures.read in
    header_refuses c.args.self.now c.refuse.new.self c.args.bytes.items c.args.byte c.requires.wanted c.in-Refused.error c.refuse.result fails
    c.refuse.ensures.stands c.refuse.ensures.answer

pub passed_kind-requires-clause-some : goal.passed_kind-requires-clause-some
passed_kind-requires-clause-some c =
    let w = is_whole (goal.at.passed_kind-requires-clause-some c).In-Whole in
    omega (arith, w.code_is, (code_range w.kind w.other).0)

pub passed_kind-requires-clause-most : goal.passed_kind-requires-clause-most
passed_kind-requires-clause-most c =
    let w = is_whole (goal.at.passed_kind-requires-clause-most c).In-Whole in
    omega (arith, w.code_is, (code_range w.kind w.other).1)

pub begin-body-requires-clause-known : goal.begin-body-requires-clause-known
begin-body-requires-clause-known c =
    let w = is_whole (goal.at.begin-body-requires-clause-known c).In-Whole in
    w.known

pub go_on-requires-clause-coming : goal.go_on-requires-clause-coming
go_on-requires-clause-coming c =
    let bytes : List ℕ = c.args.bytes.items ++ c.args.byte ∷ [] in
    let size : c.len.result ≡ length bytes = omega (arith, c.len.ensures, c.deref.ensures.len, ap length (c.deref.ensures.value ∙ c.in_ok-push.ensures.items)) in
    begun_coming c.args.self.now.kinds c.in-Whole.kind bytes c.in-Whole.set c.passed_kind.result (body_seen c.begin-body.result)
    (is_whole (goal.at.go_on-requires-clause-coming c).In-Whole) c.passed_kind.ensures.code c.begin-body.ensures c.len.result size

pub returns-in-More : goal.returns-in-More
returns-in-More c =
    let kinds : ℕ = c.args.self.now.kinds in
    let still = read_as kinds c.self.inside.kinds (c.args.bytes.items ++ c.args.byte ∷ []) c.deref.result.now More
    (c.deref.ensures.value ∙ c.in_ok-push.ensures.items) (ap (λ (d : Decoding). d.kinds) c.self.view_is) c.in-More.ensures.read in
    header_goes_on c.args.self.now c.put.new.self c.args.bytes.items c.args.byte c.requires.wanted still
    (c.put.ensures ∙ ap (λ (b : List ℕ). with_bytes c.args.self.now b) c.in_ok-push.ensures.items)

pub returns-in_ok-go_on-in-Whole : goal.returns-in_ok-go_on-in-Whole
returns-in_ok-go_on-in-Whole c =
    let bytes : List ℕ = c.args.bytes.items ++ c.args.byte ∷ [] in
    let b = body_seen c.begin-body.result in
    header_ends c.args.self.now c.go_on.new.self c.args.bytes.items c.args.byte c.requires.wanted (frame_bytes b)
    (begun_bytes c.args.self.now.kinds c.in-Whole.kind bytes c.in-Whole.set c.passed_kind.result b (is_whole (goal.at.returns-in_ok-go_on-in-Whole c).In-Whole)
    c.passed_kind.ensures.code c.begin-body.ensures) c.in_ok-go_on-in-Whole.ensures

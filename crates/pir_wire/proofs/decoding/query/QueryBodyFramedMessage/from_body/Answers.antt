use Rattle.std.proofs.Common.{◌≡◌, length, arith}
use Rattle.std.proofs.lemmas.Option.{MatchOption-at_none, MatchOption-at_some}
use Rattle.spiral_sets.specs.Counts.{query_len}
use Rattle.frame_headers.specs.declared.kind.FrameKind.TheVariants.{Query}
use Rattle.pir_wire.specs.Bodies.{IsBodyOf}
use Rattle.pir_wire.proofs.Queries.{room_of_query, ciphers_of_query, query_of_ciphers}
use Rattle.pir_wire.proofs.WholeFrames.{length_of_body, of_kind}
use Rattle.pir_wire.proofs.decoding.query.QueryBodyFramedMessage.from_body.Goals as goal

pub returns-then-body-query_len-clause-none : goal.returns-then-body-query_len-clause-none
returns-then-body-query_len-clause-none c =
    λ m kind_is is. omega (arith, c.if-body-query_len.true, length_of_body Query tt m kind_is c.args.set.now c.args.body.now is, c.query_len.ensures)

pub pieces-requires-clause-room : goal.pieces-requires-clause-room
pieces-requires-clause-room c =
    let whole : length c.args.body.now ≡ query_len c.args.set.now = omega (arith, c.if-body-query_len.false, c.query_len.ensures) in
    room_of_query c.args.set.now c.args.body.now c.rows_below-m.result c.ciphers_count-count.result c.rows_below-m.ensures.value
    c.ciphers_count-count.ensures whole

pub returns-in_default-clause-none : goal.returns-in_default-clause-none
returns-in_default-clause-none c =
    of_kind (λ m. IsBodyOf c.args.set.now c.args.body.now m → ⊥) Query
    (λ query is.
    MatchOption-at_none _ _ c.in_default.is c.in_ok-ciphers.ensures.none query.ciphers
    (ciphers_of_query c.args.set.now c.args.body.now c.rows_below-m.result c.ciphers_count-count.result c.rows_below-m.ensures.value
    c.ciphers_count-count.ensures query is))

pub returns-clause-found : goal.returns-clause-found
returns-clause-found c =
    query_of_ciphers c.args.set.now c.args.body.now c.rows_below-m.result c.ciphers_count-count.result c.rows_below-m.ensures.value
    c.ciphers_count-count.ensures c.in-Some.ciphers.items c.requires
    (MatchOption-at_some _ _ c.in-Some.ciphers c.in-Some.is c.in_ok-ciphers.ensures.found)

use Rattle.std.proofs.Common.{◌≡◌, ◌+◌, ◌-◌, ◌*◌, ℕ, take, drop, ap, sym, ◌∙◌, arith}
use Rattle.std.proofs.lemmas.Option.{MatchOption-at_none, MatchOption-at_some}
use Rattle.pir_wire.proofs.Pieces.{piece_is, spelled_more, none_spelled}
use Rattle.pir_wire.proofs.decoding.pieces.pieces.Given.{Over}
use Rattle.pir_wire.proofs.decoding.pieces.pieces.Goals as goal
use Rattle.pir_wire.proofs.decoding.pieces.pieces.Goals.{After-read}

-- the piece that is read
piece_read : (g : Over) (c : After-read g) → let len = c.len-len.result in let k = c.loop-k.k in let bytes = c.args.bytes.now in
    take (k * len + len - k * len) (drop (k * len) bytes) ≡ take len (drop (k * len) bytes)
piece_read g c =
    piece_is c.args.bytes.now c.loop-k.k c.len-len.result c.args.count (omega arith)
    (c.requires.room ∙ ap (λ (n : ℕ). c.args.count * n) (sym c.len-len.ensures))

pub returns-in_default-clause-none : goal.returns-in_default-clause-none
returns-in_default-clause-none g c =
    λ xs.
    none_spelled (g.P.Piece.fits c.args.degree c.args.size) (g.P.Piece.spell c.args.degree c.args.size) c.len-len.result
    (λ x fits. g.met.P.Piece.sized c.args.degree c.args.size x fits ∙ sym c.len-len.ensures) c.args.count c.loop-k.k c.args.bytes.now xs (omega arith)
    (λ x fits e.
    MatchOption-at_none _ _ c.in_default.is c.in_ok-piece.ensures.none x fits (e ∙ sym (piece_read g (goal.at.returns-in_default-clause-none g c).After-read)))

pub loop-k-preserved : goal.loop-k-preserved
loop-k-preserved g c =
    let found = MatchOption-at_some _ _ c.in-Some.piece c.in-Some.is c.in_ok-piece.ensures.found in
    spelled_more (g.P.Piece.fits c.args.degree c.args.size) (g.P.Piece.spell c.args.degree c.args.size) c.len-len.result c.loop-k.k c.args.bytes.now
    c.in-Some.piece c.loop-k.pieces.items c.push.new.self.items
    c.loop-k.invariant found.0 (found.1 ∙ piece_read g (goal.at.loop-k-preserved g c).After-read) c.in_ok-push.ensures.items

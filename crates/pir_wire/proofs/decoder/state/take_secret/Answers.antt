use Rattle.std.proofs.Common.{◌<◌, ◌≤◌, All, get_or, take, refl, subst, arith, length-take}
use Rattle.std.proofs.lemmas.List.{take-take}
use Rattle.pir_wire.proofs.BodyParts.{secret_found, first_large, state_more}
use Rattle.pir_wire.proofs.decoder.state.take_secret.Goals as goal

pub returns-then-count-eq0 : goal.returns-then-count-eq0
returns-then-count-eq0 c =
    let piece = c.args.piece.now in
    let large : 2 < get_or piece 0 0 =
    first_large c.min-wanted.result c.small_count-count.result piece (omega (arith, c.if-count-eq0.true)) (omega (arith, c.requires.some, c.requires.unfinished))
    c.requires.some c.small_count-count.ensures.next in (
      refl,
      1,
      omega (arith, c.requires.some),
      secret_found c.args.set.now c.args.bytes.now.items piece c.place_in_frame.result c.from.result c.requires.part c.requires.behind c.requires.unfinished
          c.requires.some (omega (arith, c.place_in_frame.ensures)) c.from.ensures (omega (arith, c.from.ensures, large)),
    )

pub returns : goal.returns
returns c =
    let piece = c.args.piece.now in
    let old = c.args.bytes.now.items in
    let count = c.small_count-count.result in
    let wanted = c.min-wanted.result in
    let few : count ≤ wanted = omega (arith, c.small_count-count.ensures.within, length-take wanted piece) in
    let small : All (λ b. b ≤ 2) (take count piece) = subst (All (λ b. b ≤ 2)) (take-take count wanted piece few) c.small_count-count.ensures.small in (
      omega (arith, c.if-count-eq0.false),
      omega arith,
      c.in_ok-extend_from_slice.ensures.items,
      state_more c.args.set.now old (take count piece) c.extend_from_slice.new.self.items c.requires.part c.requires.behind
          (omega (arith, length-take count piece, c.requires.unfinished)) small c.in_ok-extend_from_slice.ensures.items,
    )

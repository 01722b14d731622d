use Rattle.std.proofs.Common.{◌≡◌, ◌+◌, ◌*◌, ◌^◌, ◌≤◌, ℕ, true, length, arith, ap, sym, subst}
use Rattle.spiral_sets.specs.Sets.{digit_count, rho}
use Rattle.spiral_sets.proofs.SetBounds.{degree-some, nu1-most}
use Rattle.spiral_model.specs.Ciphertexts.{words_taken}
use Rattle.regev_code.specs.Shapes.{under}
use Rattle.key_deal.specs.DealtKeys.{scalar_of}
use Rattle.key_deal.proofs.SetNumbers.{w_right-some, w_right-most, w_left-some, w_left-most, left-within, right-within}
use Rattle.key_deal.proofs.RoundKeys.{sides-drawn, room-first, room-left, room-right}
use Rattle.key_deal.proofs.rounds.draw_sides.Goals as goal

-- ---- round 0

pub draw_side-requires-clause-rounds : goal.draw_side-requires-clause-rounds
draw_side-requires-clause-rounds c = omega (arith, degree-some c.args.set.now c.requires.known)

pub draw_side-requires-clause-some : goal.draw_side-requires-clause-some
draw_side-requires-clause-some c = w_right-some c.args.set.now c.requires.known c.requires.expands

pub draw_side-requires-clause-most : goal.draw_side-requires-clause-most
draw_side-requires-clause-most c = w_right-most c.args.set.now c.requires.known

pub draw_side-requires-clause-enough : goal.draw_side-requires-clause-enough
draw_side-requires-clause-enough c = room-first c.args.set.now c.args.ring.now c.args.draw.now c.requires.ring c.requires.expands c.requires.enough

-- ---- the left rounds

pub draw_side-requires-2-clause-count : goal.draw_side-requires-2-clause-count
draw_side-requires-2-clause-count c = nu1-most c.args.set.now c.requires.known

pub draw_side-requires-2-clause-rounds : goal.draw_side-requires-2-clause-rounds
draw_side-requires-2-clause-rounds c = omega (arith, left-within c.args.set.now c.requires.known)

pub draw_side-requires-2-clause-some : goal.draw_side-requires-2-clause-some
draw_side-requires-2-clause-some c = w_left-some c.args.set.now c.requires.known c.requires.expands

pub draw_side-requires-2-clause-most : goal.draw_side-requires-2-clause-most
draw_side-requires-2-clause-most c = w_left-most c.args.set.now c.requires.known

pub draw_side-requires-2-clause-enough : goal.draw_side-requires-2-clause-enough
draw_side-requires-2-clause-enough c =
    room-left c.args.set.now c.args.ring.now (under c.args.ring.now c.args.secret.now true) (scalar_of c.args.ring.now c.args.secret.now) c.args.draw.now c.draw_side.new.draw
    c.args.ciphers.now.items c.draw_side.new.ciphers.items c.requires.ring c.requires.expands c.in_ok-draw_side.ensures c.requires.enough

-- ---- the right rounds

pub draw_side-requires-3-clause-rounds : goal.draw_side-requires-3-clause-rounds
draw_side-requires-3-clause-rounds c =
    let same : 2 ^ (1 + c.rho.result) ≡ 2 ^ (1 + rho c.args.set.now) = ap (λ (n : ℕ). 2 ^ (1 + n)) c.rho.ensures.value in
    omega (arith, same, right-within c.args.set.now c.requires.known, c.requires.ring)

pub draw_side-requires-3-clause-some : goal.draw_side-requires-3-clause-some
draw_side-requires-3-clause-some c = w_right-some c.args.set.now c.requires.known c.requires.expands

pub draw_side-requires-3-clause-most : goal.draw_side-requires-3-clause-most
draw_side-requires-3-clause-most c = w_right-most c.args.set.now c.requires.known

pub draw_side-requires-3-clause-enough : goal.draw_side-requires-3-clause-enough
draw_side-requires-3-clause-enough c =
    subst (λ (n : ℕ). c.draw_side-2.new.draw.used + n * (digit_count c.args.set.now.w_right * words_taken c.args.ring.now 1) ≤ length c.draw_side-2.new.draw.words)
    (sym c.rho.ensures.value)
    (room-right c.args.set.now c.args.ring.now (under c.args.ring.now c.args.secret.now true) (scalar_of c.args.ring.now c.args.secret.now) c.args.draw.now c.draw_side.new.draw
    c.draw_side-2.new.draw c.args.ciphers.now.items c.draw_side.new.ciphers.items c.draw_side-2.new.ciphers.items c.requires.ring c.requires.expands
    c.in_ok-draw_side.ensures c.in_ok-draw_side-2.ensures c.requires.enough)

pub returns : goal.returns
returns c =
    sides-drawn c.args.set.now c.args.ring.now c.rho.result c.args.secret.now c.args.draw.now c.draw_side.new.draw c.draw_side-2.new.draw c.draw_side-3.new.draw
    c.args.ciphers.now.items c.draw_side.new.ciphers.items c.draw_side-2.new.ciphers.items c.draw_side-3.new.ciphers.items c.requires.ring c.rho.ensures.value
    c.requires.expands c.in_ok-draw_side.ensures c.in_ok-draw_side-2.ensures c.in_ok-draw_side-3.ensures

use Rattle.std.proofs.Common.{ℕ, ap₂, sym, arith}
use Rattle.frame_headers.specs.declared.frame_error.FrameError.TheVariants.{Residue}
use Rattle.ring_poly.proofs.Modulus.{q_is}
use Rattle.pir_wire.proofs.decoder.parts.residue_refusal.Goals as goal

pub returns : goal.returns
returns c = ap₂ (λ (at bound : ℕ). Residue at c.args.value bound) (omega (arith, c.header_len.ensures.value)) (sym q_is)

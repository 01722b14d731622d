use Rattle.std.proofs.Common.{◌≡◌, arith}
use Rattle.negacyclic.specs.Digits.{number_of}
use Rattle.bit_packing.proofs.Windows.{bytes_below}
use Rattle.ring_poly.proofs.Modulus.{q_is}
use Rattle.pir_wire.proofs.Queries.{seven_read, residue_number, residue_spelled}
use Rattle.pir_wire.proofs.decoding.residues.U64Piece.read.Goals as goal

pub returns-then-number-ge-Q-clause-none : goal.returns-then-number-ge-Q-clause-none
returns-then-number-ge-Q-clause-none c =
    let read : c.number_at-number.result ≡ number_of 256 c.args.bytes.now =
    seven_read c.args.bytes.now c.copy_from_slice.new.self c.number_at-number.result c.requires.room c.copy_from_slice.ensures.after
    c.number_at-number.ensures in
    λ x below spelled. omega (arith, q_is, residue_number x c.args.bytes.now below spelled, read)

pub returns-clause-found : goal.returns-clause-found
returns-clause-found c =
    let read : c.number_at-number.result ≡ number_of 256 c.args.bytes.now =
    seven_read c.args.bytes.now c.copy_from_slice.new.self c.number_at-number.result c.requires.room c.copy_from_slice.ensures.after
    c.number_at-number.ensures in
    (omega (arith, q_is), residue_spelled c.number_at-number.result c.args.bytes.now c.requires.room (bytes_below c.args.bytes.now c.type_inv.bytes) read)

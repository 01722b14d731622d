use Rattle.frame_headers.proofs.HeaderReading.{number_read}
use Rattle.frame_headers.proofs.header.number_at.Goals as goal

pub returns : goal.returns
returns c = number_read c.args.bytes.now c.copy_from_slice.new.self c.args.place c.from_le_bytes.result c.requires c.copy_from_slice.ensures.after c.from_le_bytes.ensures

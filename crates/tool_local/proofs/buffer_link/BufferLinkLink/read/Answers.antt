use Rattle.std.proofs.Common.{rules, arith}
use Rattle.pir_io.proofs.LeftToRead.{taken_more}
use Rattle.tool_local.proofs.buffer_link.BufferLinkLink.read.Goals as goal

pub returns : goal.returns
returns c =
    let link = c.args.self.now in
    let next = rw c.deref.ensures.value at c.next_piece-count.ensures.bytes in
    record {
      tells = search rules;
      is_open = search rules;
      cause = search rules;
      count = omega (arith, c.next_piece-count.ensures.count);
      buffer = search rules;
      took = λ _. taken_more link.input.items c.next_piece-count.new.into link.read c.next_piece-count.result next;
      ended = search rules;
      err = search rules;
      others = search rules;
    }

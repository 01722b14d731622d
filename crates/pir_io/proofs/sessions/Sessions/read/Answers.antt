use Rattle.std.proofs.Common.{rules, arith, length-drop}
use Rattle.pir_io.specs.Sessions.{input_of}
use Rattle.pir_io.proofs.LeftToRead.{left_is, taken_more}
use Rattle.pir_io.proofs.sessions.Sessions.read.Goals as goal

pub returns-clause-reads : goal.returns-clause-reads
returns-clause-reads c = λ faults.
    let sessions = c.args.self.now in
    let next = rw c.input.ensures at c.next_piece-count.ensures.bytes in
    record {
      tells = search rules;
      is_open = search rules;
      cause = search rules;
      buffer = search rules;
      count = omega (arith, c.next_piece-count.ensures.count);
      took = λ _. rw c.requires (taken_more (input_of sessions) c.next_piece-count.new.into sessions.read c.next_piece-count.result next);
      ended = search rules;
      err = search rules;
      others = search rules;
    }

pub returns-clause-exact : goal.returns-clause-exact
returns-clause-exact c = λ faults.
    let count = rw c.input.ensures at c.next_piece-count.ensures.count in
    let next = rw c.input.ensures at c.next_piece-count.ensures.bytes in
    rw (left_is faults c.args.self.now c.requires) (simp length-drop count, next)

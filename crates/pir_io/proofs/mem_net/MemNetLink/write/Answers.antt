use Rattle.std.proofs.Common.{◌≡◌, ◌++◌, ◌/◌, take, length, rules}
use Rattle.pir_io.proofs.mem_net.MemNetLink.write.Goals as goal

pub returns-then-is_next_listed-clause-writes : goal.returns-then-is_next_listed-clause-writes
returns-then-is_next_listed-clause-writes c =
    let bytes = c.args.bytes.now in
    let half : c.extend_from_slice.new.self.items ≡ c.args.self.now.sessions.wrote.items ++ take (length bytes / 2) bytes = search rules in
    record {
      tells = search rules;
      is_open = search rules;
      cause = search rules;
      ok = search rules;
      failed = λ _ _. (length bytes / 2, rw c.requires half);
      no_memory = search rules;
      others = search rules;
    }

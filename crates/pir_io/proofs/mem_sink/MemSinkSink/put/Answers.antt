use Rattle.std.proofs.Common.{◌≡◌, ◌++◌, ◌/◌, take, length, rules}
use Rattle.pir_io.proofs.mem_sink.MemSinkSink.put.Goals as goal

pub returns-then-is_next_listed-clause-puts : goal.returns-then-is_next_listed-clause-puts
returns-then-is_next_listed-clause-puts c =
    let bytes = c.args.bytes.now in
    let half : c.extend_from_slice.new.self.items ≡ c.args.self.now.bytes.items ++ take (length bytes / 2) bytes = search rules in
    record {
      tells = search rules;
      cause = search rules;
      ok = search rules;
      failed = λ _ _. (length bytes / 2, half);
      no_memory = search rules;
    }

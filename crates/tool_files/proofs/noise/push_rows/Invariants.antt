use Rattle.std.proofs.Common.{◌≡◌, ◌++◌, take}
use Rattle.std.specs.List.{flat_map}
use Rattle.tool_files.specs.SeenRows.{seen_line}
use Rattle.tool_files.proofs.noise.push_rows.Given as goal

abbrev pub invariant-loop-row : goal.invariant-loop-row
invariant-loop-row l = l.lines.items ≡ l.fn.lines.items ++ flat_map seen_line (take l.row-index l.report.rows.items)

use Rattle.std.proofs.Common.{◌≡◌, ◌+◌, ◌^◌, ◌<◌, All, length}
use Rattle.ring_transform.specs.Tables.{AreTwiddles}
use Rattle.ring_transform.proofs.twiddles.twiddles.Given as goal

abbrev pub invariant-loop-d : goal.invariant-loop-d
invariant-loop-d g l = record { count : length l.table.items ≡ 2 ^ l.d; entries : AreTwiddles g.row.P l.table.items; below : All (λ w. w < g.row.P) l.table.items }

abbrev pub invariant-loop-j : goal.invariant-loop-j
invariant-loop-j g l = record { count : length l.table.items ≡ 2 ^ l.d + l.j; entries : AreTwiddles g.row.P l.table.items; below : All (λ w. w < g.row.P) l.table.items }

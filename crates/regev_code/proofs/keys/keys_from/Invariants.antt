use Rattle.std.proofs.Common.{◌≡◌, ◌+◌, ◌*◌, map}
use Rattle.std.specs.List.{range_with_len}
use Rattle.spiral_sets.specs.Sets.{digit_count}
use Rattle.spiral_model.specs.Keys.{key_cut}
use Rattle.regev_code.proofs.keys.keys_from.Given as goal

abbrev pub invariant-loop-j : goal.invariant-loop-j
invariant-loop-j l = l.keys.items ≡ map (λ i. key_cut l.w l.ciphers (l.start + i * digit_count l.w)) (range_with_len 0 l.j)

use Rattle.std.proofs.Common.{◌≡◌, ℕ, ◌<◌, ◌^◌, get_or}
use Rattle.negacyclic.specs.Digits.{digit}
use Rattle.gadget_digits.proofs.digit_row.Given as goal

abbrev pub invariant-loop-c : goal.invariant-loop-c
invariant-loop-c l = (i : ℕ) → i < l.c → get_or l.out i 0 ≡ digit (2 ^ l.w) l.k (get_or l.x i 0)

use Rattle.std.proofs.Common.{◌≡◌, ◌*◌, ◌^◌, ◌≤◌, ◌<◌}
use Rattle.remainder.proofs.pattern_of.Given as goal

abbrev pub invariant-loop-k : goal.invariant-loop-k
invariant-loop-k l = (l.r * 2 ^ l.k ≡ l.fn.s.digits * 2 ^ l.fn.s.zeros) × (l.r < 2 ^ 24) × (l.k ≤ 253)

abbrev pub decreases-loop-k : goal.decreases-loop-k
decreases-loop-k l = l.k

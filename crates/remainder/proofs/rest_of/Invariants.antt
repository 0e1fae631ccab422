use Rattle.std.proofs.Common.{◌≡◌, ◌*◌, ◌%◌, ◌^◌, ◌<◌}
use Rattle.remainder.proofs.rest_of.Given as goal

abbrev pub invariant-loop-zero : goal.invariant-loop-zero
invariant-loop-zero l = (l.r ≡ l.fn.n.digits * 2 ^ l._zero % l.fn.m) × (l.r < l.fn.m)

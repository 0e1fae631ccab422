-- `root::newton_root` meets its contract. The invariant of its loop: r is no smaller than the root, and below 2 ^ 25, so that no step leaves 64 bits. The measure is r.
-- Assumes nothing.
use Prim.Native.Nat.{◌+◌, ◌*◌, ◌^◌, ◌<◌}
use Rattle.root.proofs.newton_root.Given as goal

abbrev pub invariant-loop-r : goal.invariant-loop-r
invariant-loop-r l = (l.fn.n < (l.r + 1) * (l.r + 1)) × (l.r < 2 ^ 25)

abbrev pub decreases-loop-r : goal.decreases-loop-r
decreases-loop-r l = l.r

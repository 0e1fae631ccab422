-- `replay::replay` meets its contract: what is left behind each run makes of the present what the whole list makes of a fresh builder. Assumes nothing.
use Prim.Native.Nat.{◌-◌}
use lib.ListN.{length}
use Rattle.replay.specs.Run.{Along}
use Rattle.replay.proofs.replay.Given as goal

abbrev pub invariant-loop-kind : goal.invariant-loop-kind
invariant-loop-kind l = Along l.initial.r l.initial.verbs l.initial.points l.r l.verbs l.points

abbrev pub decreases-loop-kind : goal.decreases-loop-kind
decreases-loop-kind l = length l.r.kinds.now - l.r.done.calls

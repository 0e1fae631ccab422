-- `replay::Run::play_run` meets its contract. Assumes nothing.
use Prim.Native.Nat.{◌-◌}
use lib.ListN.{length}
use Rattle.replay.specs.Run.{Along}
use Rattle.replay.proofs.Run.play_run.Given as goal

abbrev pub invariant-loop-own : goal.invariant-loop-own
invariant-loop-own g l = Along l.initial.q l.initial.verbs l.initial.points l.q l.verbs l.points

abbrev pub decreases-loop-own : goal.decreases-loop-own
decreases-loop-own g l = length l.q.kinds.now - l.q.done.calls

-- `start_of` meets its contract. Assumes nothing.
use mathlib.Core.Path.{◌≡◌}
use Prim.Native.Nat.{ℕ, ◌<◌}
use lib.Dec.{T}
use lib.ListN.{length}
use lib.Ieee.{Float, binary32, fits}
use Rattle.events.specs.Phase.{Phase, phase_from}
use Rattle.float.specs.Rank.{fall}
use Rattle.cycle.proofs.start_of.Given as goal

abbrev at : ℕ → Float → Phase
at i r = record { index = i; remaining = r }

abbrev pub invariant-loop-index : goal.invariant-loop-index
invariant-loop-index l = (phase_from l.fn.cycle (at l.index l.remaining) ≡ phase_from l.fn.cycle (at l.initial.index l.initial.remaining)) × T (fits binary32 l.remaining) × (l.index < length l.fn.cycle)

abbrev pub decreases-loop-index : goal.decreases-loop-index
decreases-loop-index l = fall l.remaining

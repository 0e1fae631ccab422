-- `next_other` meets its contract. The loop's invariant: what is left of the search gives what the whole one gives. Assumes nothing.
use mathlib.Core.Path.{◌≡◌}
use Prim.Native.Nat.{◌-◌, ◌/◌, ◌<◌}
use lib.ListN.{length}
use Rattle.vec2.specs.Vec2.{same_as}
use Rattle.vec2.specs.Points.{points_in}
use Rattle.turns.specs.Plane.{floats as plane}
use Rattle.turns.specs.Walk.{at, seek, next}
use Rattle.polygon.proofs.Polygon.next_other.Given as goal

abbrev pub invariant-loop-passed : goal.invariant-loop-passed
invariant-loop-passed l = (l.k < l.n) × (l.n ≡ length l.fn.self.points.now / 2) × (seek plane (points_in l.fn.self.points.now) (l.n - l._passed) (same_as (at plane (points_in l.fn.self.points.now) l.k) l.fn.b) l.fn.b l.k ≡ next plane (points_in l.fn.self.points.now) l.fn.b l.fn.from)

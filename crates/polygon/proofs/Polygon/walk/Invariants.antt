-- `walk` meets its contract. The loop's invariant: judging the junctions that are left from the present tally gives what judging all gives. Assumes nothing.
use mathlib.Core.Path.{◌≡◌}
use Prim.Native.Nat.{◌*◌, ◌/◌, ◌≤◌}
use lib.ListN.{length}
use Rattle.vec2.specs.Points.{points_in}
use Rattle.vec2.proofs.Points.{length-points_in}
use Rattle.turns.specs.Plane.{floats as plane}
use Rattle.turns.specs.Walk.{judge, walked}
use Rattle.turns.proofs.Walks.{ahead}
use Rattle.polygon.proofs.Polygon.walk.Given as goal

abbrev pub invariant-loop-i : goal.invariant-loop-i
invariant-loop-i l = (l.t.left ≤ 3 * l.i) × (l.t.right ≤ 3 * l.i)
    × (judge plane l.t (ahead plane (points_in l.fn.self.points.now) (length l.fn.self.points.now / 2) (length-points_in l.fn.self.points.now) l.i) ≡ walked plane (points_in l.fn.self.points.now))

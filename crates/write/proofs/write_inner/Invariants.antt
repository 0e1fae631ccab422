use mathlib.Core.Path.{◌≡◌}
use Prim.Native.Nat.{◌-◌, ◌*◌}
use lib.Seq.{sets}
use lib.Ieee.{Float}
use Rattle.vec2.specs.declared.Vec2.{Vec2}
use Rattle.vec2.specs.Points.{flat}
use Rattle.polyline.proofs.Points.{inner}
use Rattle.write.specs.Write.{Evaluates}
use Rattle.write.proofs.write_inner.Given as goal

abbrev pub invariant-loop-i : goal.invariant-loop-i
invariant-loop-i g l = (eval : Float → Vec2) → Evaluates (goal.F-post g l.curve) eval → l.out ≡ sets l.initial.out (2 * l.fn.at) (flat (inner eval l.fn.n (l.i - 1)))

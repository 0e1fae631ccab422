-- `keep_lengths` meets its contract. Assumes nothing.
use mathlib.Core.Path.{◌≡◌}
use Prim.Native.Nat.{ℕ, ◌<◌}
use lib.ListN.{get_or, drop}
use lib.Ieee.{nan}
use Rattle.vec2.specs.Points.{points_in}
use Rattle.strokes.specs.Lengths.{all_legs, length_at}
use Rattle.legs.specs.Legs.{left}
use Rattle.legs.proofs.keep_lengths.Given as goal

abbrev pub invariant-loop-length : goal.invariant-loop-length
invariant-loop-length l = record {
  rest : drop l.length-index (all_legs (points_in l.fn.points)) ≡ left l.legs;
  done : (m : ℕ) → m < l.length-index → get_or l.kept m nan ≡ length_at l.fn.points m;
}

-- The legs that an iterator has still to give. Definitions only.
use Rattle.std.specs.Prelude.{List}
use Rattle.vec2.specs.Points.{points_in}
use Rattle.events.specs.declared.Leg.{Leg}
use Rattle.strokes.specs.Lengths.{all_legs}
use Rattle.legs.specs.declared.Legs.{Legs}

abbrev pub left : Legs → List Leg
left s = all_legs (points_in s.points.now)

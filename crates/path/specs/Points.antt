-- The points that an iterator over a float buffer has still to give. Definitions only.
use Rattle.std.specs.Prelude.{List, map, Float}
use Rattle.vec2.specs.declared.Vec2.{Vec2}
use Rattle.vec2.specs.Points.{point_at}
use Rattle.path.specs.declared.points.Points.{Points}

abbrev pub left : Points → List Vec2
left p = map (λ (pair : List Float). point_at pair 0) p.pairs.now

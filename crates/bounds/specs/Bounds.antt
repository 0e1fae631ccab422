-- The box round points: `Path::bounds` of path.rs. Definitions only.
use Rattle.std.specs.Prelude.{List}
use Rattle.std.specs.List.{fold}
use Rattle.vec2.specs.declared.Vec2.{Vec2}
use Rattle.rect.specs.declared.Rect.{Rect}
use Rattle.rect.specs.Rect.{empty_rect, widened}

-- one point after the other
unfoldable pub widened_by : Rect → List Vec2 → Rect
widened_by r ps = fold widened r ps

-- from (+∞, −∞)
unfoldable pub bounds_of : List Vec2 → Rect
bounds_of ps = widened_by empty_rect ps

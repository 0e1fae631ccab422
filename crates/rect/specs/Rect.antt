-- An axis-aligned bounding box: `Rect` of path.rs. Definitions only.
use Rattle.std.specs.Prelude.{Bool, true, false, ◌&&◌, ◌||◌, Float}
use Rattle.std.specs.Float.{inf}
use Rattle.std.specs.Float.Ieee.{lt, le}
use Rattle.float.specs.Small as float
use Rattle.float.specs.Arith.{minus, f0}
use Rattle.vec2.specs.declared.Vec2.{Vec2}
use Rattle.vec2.specs.Vec2.{vec, minimum, maximum}
use Rattle.rect.specs.declared.Rect.{Rect}

abbrev pub rect : Vec2 → Vec2 → Rect
rect low high = record { min = low; max = high }

-- from +∞ to −∞, the source's `empty`
abbrev pub empty_rect : Rect
empty_rect = rect (vec (inf false) (inf false)) (vec (inf true) (inf true))

-- one point more, the source's `union_point`: a NaN is passed over, and of two equals the first is kept
abbrev pub widened : Rect → Vec2 → Rect
widened r p = rect (minimum r.min p) (maximum r.max p)

abbrev pub is_empty_rect : Rect → Bool
is_empty_rect r = lt r.max.x r.min.x || lt r.max.y r.min.y

abbrev pub between : Float → Float → Float → Bool
between low v high = le low v && le v high

-- the source's `contains`: the border is inside, and a NaN is not
abbrev pub holds : Rect → Vec2 → Bool
holds r p = between r.min.x p.x r.max.x && between r.min.y p.y r.max.y

-- at least 0
abbrev pub width_of : Rect → Float
width_of r = float.maximum (minus r.max.x r.min.x) f0

abbrev pub height_of : Rect → Float
height_of r = float.maximum (minus r.max.y r.min.y) f0

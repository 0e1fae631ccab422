-- Points of floats: equality by value, and turns by single-rounded operations. Definitions only.
use Rattle.std.specs.Prelude.{ℕ, ◌+◌, ◌-◌, ◌%◌, cond, Float}
use Rattle.std.specs.Float.{nan, binary32}
use Rattle.std.specs.Float.Ieee.{of_bits, le, lt}
use Rattle.float.specs.Small.{abs}
use Rattle.float.specs.Arith.{f0}
use Rattle.vec2.specs.declared.Vec2.{Vec2}
use Rattle.vec2.specs.Vec2.{vec, ◌⊖◌, perp_dot, same_as}
use Rattle.turns.specs.declared.Side.{Side}
use Rattle.turns.specs.declared.Side.TheVariants.{Straight, Left, Right}
use Rattle.turns.specs.declared.Turn.{Turn}
use Rattle.turns.specs.Walk.{Plane}

-- 2^-23
abbrev pub epsilon : Float
epsilon = of_bits binary32 0x3400_0000

-- |cross| <= 2^-23 doesn't count; a NaN counts as negative
unfoldable pub side_of : Float → Side
side_of x = cond (le (abs x) epsilon) Straight (cond (lt f0 x) Left Right)

unfoldable pub quadrant_of : Vec2 → ℕ
quadrant_of v = cond (le f0 v.x) (cond (le f0 v.y) 0 3) (cond (le f0 v.y) 1 2)

-- how far one quadrant is past another
abbrev pub quadrants_past : ℕ → ℕ → ℕ
quadrants_past from to = (to + 4 - from) % 4

abbrev pub turn_between : Vec2 → Vec2 → Turn
turn_between u v = record { side = side_of (perp_dot u v); advance = quadrants_past (quadrant_of u) (quadrant_of v) }

-- at b, on the way from a to c
unfoldable pub turn_of : Vec2 → Vec2 → Vec2 → Turn
turn_of a b c = turn_between (b ⊖ a) (c ⊖ b)

abbrev pub floats : Plane Vec2
floats = record { same = same_as; turn = turn_of; nowhere = vec nan nan }

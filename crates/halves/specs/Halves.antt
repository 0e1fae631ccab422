-- A conic's halves as arrays of three points, and their quads. Definitions only.
use Rattle.std.specs.Prelude.{ℕ, zero, suc, Bool, true, ◌&&◌, List, [], ◌∷◌, get_or, Float}
use Rattle.std.specs.Float.{nan, binary32}
use Rattle.std.specs.Float.Ieee.{of_bits, le}
use Rattle.vec2.specs.declared.Vec2.{Vec2}
use Rattle.vec2.specs.Vec2.{vec}
use Rattle.path.specs.declared.Segment.{Segment}
use Rattle.halves.specs.Conic.{near, left_of, right_of, middle, split}

-- "a split half is three points in an array"
abbrev pub Half : Type 0
Half = List (List Float)

abbrev pub point_of : Half → ℕ → Vec2
point_of h i = vec (get_or (get_or h i []) 0 nan) (get_or (get_or h i []) 1 nan)

-- the control point first, then where the half begins and where it ends
abbrev pub ctrl_of : Half → Vec2
ctrl_of h = point_of h 0

abbrev pub from_of : Half → Vec2
from_of h = point_of h 1

abbrev pub to_of : Half → Vec2
to_of h = point_of h 2

abbrev pub half_of : Vec2 → Vec2 → Vec2 → Half
half_of a c t = (c.x ∷ c.y ∷ []) ∷ (a.x ∷ a.y ∷ []) ∷ (t.x ∷ t.y ∷ []) ∷ []

abbrev pub left_half : Half → Float → Half
left_half h w = half_of (from_of h) (left_of (from_of h) (ctrl_of h) w) (middle (from_of h) (ctrl_of h) (to_of h) w)

abbrev pub right_half : Half → Float → Half
right_half h w = half_of (middle (from_of h) (ctrl_of h) (to_of h) w) (right_of (ctrl_of h) (to_of h) w) (to_of h)

-- whether a half that may be split k times more is one quad
abbrev pub single : ℕ → Half → Float → Bool
single zero h w = true
single (suc k) h w = near (from_of h) (ctrl_of h) (to_of h) w

-- the quads of a half that may be split k times more
unfoldable pub pieces : ℕ → Half → Float → List Segment
pieces k h w = split k (near (from_of h) (ctrl_of h) (to_of h) w) (from_of h) (ctrl_of h) (to_of h) w

-- from 1e-30 to 1e30: neither these nor their roots come near the ends of the format
abbrev pub lowest : Float
lowest = of_bits binary32 0x0da2_4260

abbrev pub highest : Float
highest = of_bits binary32 0x7149_f2ca

abbrev pub moderate : Float → Bool
moderate x = le lowest x && le x highest

-- What is asked of every point: `Path::is_finite` and `Path::is_within_tessellation_range` of path.rs. Definitions only.
use Rattle.std.specs.Prelude.{Bool, ◌&&◌, List, Float}
use Rattle.std.specs.List.{list_all}
use Rattle.std.specs.Float.{binary32}
use Rattle.std.specs.Float.Ieee.{of_bits, le}
use Rattle.float.specs.Small.{abs}
use Rattle.vec2.specs.declared.Vec2.{Vec2}

-- 16,777,216
abbrev pub max_coordinate : Float
max_coordinate = of_bits binary32 0x4b80_0000

abbrev pub is_small : Float → Bool
is_small v = le (abs v) max_coordinate

-- |x| and |y| <= 16,777,216
abbrev pub in_range : Vec2 → Bool
in_range p = is_small p.x && is_small p.y

unfoldable pub all_pass : (Vec2 → Bool) → List Vec2 → Bool
all_pass test ps = list_all test ps

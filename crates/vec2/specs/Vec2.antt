-- Vec2 as "Floats" of the scope reads it: sums, products and quotients by component, each operation rounded once. Definitions only.
use Rattle.std.specs.Prelude.{Bool, ◌&&◌, ◌||◌, Float}
use Rattle.std.specs.Float.Ieee.{is_nan, eq}
use Rattle.float.specs.Root.{square_root}
use Rattle.std.specs.Float.{binary32}
use Rattle.float.specs.Small as float
use Rattle.float.specs.Arith.{plus, minus, times, over, f0}
use Rattle.vec2.specs.declared.Vec2.{Vec2}

abbrev pub vec : Float → Float → Vec2
vec a b = record { x = a; y = b }

-- (0, 0)
abbrev pub origin : Vec2
origin = vec f0 f0

infixl 65 ◌⊕◌
infixl 65 ◌⊖◌
infixl 70 ◌⊙◌
infixl 70 ◌⊘◌
abbrev pub ◌⊕◌ : Vec2 → Vec2 → Vec2
a ⊕ b = vec (plus a.x b.x) (plus a.y b.y)

abbrev pub ◌⊖◌ : Vec2 → Vec2 → Vec2
a ⊖ b = vec (minus a.x b.x) (minus a.y b.y)

-- by a float
abbrev pub ◌⊙◌ : Vec2 → Float → Vec2
a ⊙ k = vec (times a.x k) (times a.y k)

abbrev pub ◌⊘◌ : Vec2 → Float → Vec2
a ⊘ k = vec (over a.x k) (over a.y k)

-- root(x·x + y·y)
abbrev pub len : Vec2 → Float
len a = square_root binary32 (plus (times a.x a.x) (times a.y a.y))

-- a.x·b.y − a.y·b.x
abbrev pub perp_dot : Vec2 → Vec2 → Float
perp_dot a b = minus (times a.x b.y) (times a.y b.x)

abbrev pub minimum : Vec2 → Vec2 → Vec2
minimum a b = vec (float.minimum a.x b.x) (float.minimum a.y b.y)

abbrev pub maximum : Vec2 → Vec2 → Vec2
maximum a b = vec (float.maximum a.x b.x) (float.maximum a.y b.y)

abbrev pub abs_of : Vec2 → Vec2
abs_of a = vec (float.abs a.x) (float.abs a.y)

abbrev pub max_element : Vec2 → Float
max_element a = float.maximum a.x a.y

-- a component is
unfoldable pub any_nan : Vec2 → Bool
any_nan a = is_nan a.x || is_nan a.y

-- both are
unfoldable pub all_finite : Vec2 → Bool
all_finite a = float.is_finite a.x && float.is_finite a.y

-- equal as numbers: −0 equals 0, and NaN equals nothing
unfoldable pub same_as : Vec2 → Vec2 → Bool
same_as a b = eq a.x b.x && eq a.y b.y

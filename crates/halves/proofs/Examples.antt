-- Worked examples, computed from the definitions. Assumes nothing.
use mathlib.Core.Path.{◌≡◌, refl}
use mathlib.Core.Bool.{true}
use mathlib.Core.List.{[], ◌∷◌}
use lib.ListN.{length}
use lib.Ieee.{binary32, of_bits, add, sub, mul, div, lt, le}
use Rattle.float.specs.Arith.{f0, f1}
use Rattle.float.specs.Small.{abs, is_finite}
use Rattle.float.specs.Root.{square_root}
use Rattle.vec2.specs.Vec2.{vec, origin}
use Rattle.path.specs.declared.Segment.TheVariants.{Quad}
use Rattle.halves.specs.Conic.{straight, near_one, near_mid, near, left_of, right_of, middle, half_weight, split, quads}

-- weight 0 is a line; weight 1 is one quad; a quarter of the unit circle is four: weight √2 / 2, the control at the square's corner
pub conics :
    (straight (vec f1 f1) (vec f1 f0) f0 ≡ true)
    × (quads origin (vec f1 f1) (vec f1 f0) f1 ≡ Quad (vec f1 f1) (vec f1 f0) ∷ [])
    × (length (quads (vec f1 f0) (vec f1 f1) (vec f0 f1) (of_bits binary32 0x3f35_04f3)) ≡ 4)
unfolding straight quads split near_one near_mid near left_of right_of middle half_weight is_finite abs square_root of_bits add sub mul div lt le
conics = (refl, refl, refl)

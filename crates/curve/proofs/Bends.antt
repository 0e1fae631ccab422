-- M of one second difference, case by case: a NaN in the difference makes it the NaN that 0 / 0 is, else it is the larger component times √2. Assumes nothing.
use mathlib.Core.Path.{◌≡◌, refl}
use mathlib.Core.Bool.{true, false}
use lib.Ieee.{Float, nan, div, of_bits}
use Rattle.float.specs.Arith.{f0, times, over}
use Rattle.vec2.specs.declared.Vec2.{Vec2}
use Rattle.vec2.specs.Vec2.{abs_of, max_element, any_nan}
use Rattle.curve.specs.Count.{root2, bend}

quotient : over f0 f0 ≡ nan
unfolding div of_bits
quotient = refl

pub bend_nan : (v : Vec2) → any_nan v ≡ true → over f0 f0 ≡ bend v
unfolding bend
bend_nan v h = rw (quotient, h)

pub bend_plain : (v : Vec2) → any_nan v ≡ false → times (max_element (abs_of v)) root2 ≡ bend v
unfolding bend
bend_plain v h = rw h

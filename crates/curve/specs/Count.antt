-- How many lines a curve becomes, and its points ("Count" of the scope; `quad_segment_count`, `cubic_segment_count`, `eval_quad`, `eval_cubic` and
-- `tolerance_for_scale` of flatten.rs). Every step is rounded, in the source's order. Definitions only.
use Rattle.std.specs.Prelude.{ℕ, not, ◌||◌, cond, Float}
use Rattle.std.specs.Float.{nan, binary32}
use Rattle.std.specs.Float.Ieee.{le, of_bits}
use Rattle.float.specs.Arith.{f0, f1, f2, f3, f4, minus, times, over, whole}
use Rattle.float.specs.Small.{maximum, is_finite}
use Rattle.float.specs.Count.{segment_count}
use Rattle.vec2.specs.declared.Vec2.{Vec2}
use Rattle.vec2.specs.Vec2.{◌⊕◌, ◌⊖◌, ◌⊙◌, abs_of, max_element, any_nan}

-- ---- s

-- √2, bits 3FB504F3
abbrev pub root2 : Float
root2 = of_bits binary32 0x3fb5_04f3

-- 2 ^ -126
abbrev pub least : Float
least = of_bits binary32 0x0080_0000

-- the second difference of three successive points
abbrev pub second : Vec2 → Vec2 → Vec2 → Vec2
second a b c = a ⊖ b ⊙ f2 ⊕ c

-- M of one second difference: the larger absolute component, times √2; NaN in the difference makes it NaN
unfoldable pub bend : Vec2 → Float
bend v = cond (any_nan v) nan (times (max_element (abs_of v)) root2)

-- 4 · T
abbrev pub slack : Float → Float
slack tol = times f4 (maximum tol least)

-- M / (4 · T)
abbrev pub quad_s : Float → Vec2 → Vec2 → Vec2 → Float
quad_s tol a c p = over (bend (second a c p)) (slack tol)

-- (3 · M) / (4 · T), M the larger of two, a NaN one passed over
abbrev pub cubic_s : Float → Vec2 → Vec2 → Vec2 → Vec2 → Float
cubic_s tol a c d p = over (times f3 (maximum (bend (second a c d)) (bend (second c d p)))) (slack tol)

-- ---- N

abbrev pub quad_count : Float → Vec2 → Vec2 → Vec2 → ℕ
quad_count tol a c p = segment_count (quad_s tol a c p)

abbrev pub cubic_count : Float → Vec2 → Vec2 → Vec2 → Vec2 → ℕ
cubic_count tol a c d p = segment_count (cubic_s tol a c d p)

-- ---- curve points

-- t = i / n
abbrev pub param : ℕ → ℕ → Float
param i n = over (whole i) (whole n)

abbrev pub eval_quad : Vec2 → Vec2 → Vec2 → Float → Vec2
eval_quad a c p t =
    let u = minus f1 t in
    a ⊙ times u u ⊕ c ⊙ times (times f2 u) t ⊕ p ⊙ times t t

abbrev pub eval_cubic : Vec2 → Vec2 → Vec2 → Vec2 → Float → Vec2
eval_cubic a c d p t =
    let u = minus f1 t in
    let uu = times u u in
    let tt = times t t in
    a ⊙ times uu u ⊕ c ⊙ times (times f3 uu) t ⊕ d ⊙ times (times f3 u) tt ⊕ p ⊙ times tt t

-- ---- the tolerance under a scale

unfoldable pub scaled_tolerance : Float → Float → Float
scaled_tolerance tol scale = cond (le scale f0 || not (is_finite scale)) tol (over tol scale)

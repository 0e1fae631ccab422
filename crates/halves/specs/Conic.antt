-- A conic as quads: `conic_to` and `push_conic` of path.rs ("Conic" of the scope). Definitions only.
use Rattle.std.specs.Prelude.{ℕ, zero, suc, Bool, true, false, not, ◌&&◌, ◌||◌, List, [], ◌∷◌, ◌++◌, Float}
use Rattle.std.specs.Float.{binary32}
use Rattle.std.specs.Float.Ieee.{of_bits, lt, le}
use Rattle.float.specs.Root.{square_root}
use Rattle.float.specs.Small.{abs, is_finite}
use Rattle.float.specs.Arith.{plus, minus, times, over, f0, f1, f2, half, quarter}
use Rattle.vec2.specs.declared.Vec2.{Vec2}
use Rattle.vec2.specs.Vec2.{◌⊕◌, ◌⊖◌, ◌⊙◌, ◌⊘◌, len, all_finite}
use Rattle.path.specs.declared.Segment.{Segment}
use Rattle.path.specs.declared.Segment.TheVariants.{Quad}

-- one line to the end: weight not finite or <= 0, control or end not finite
unfoldable pub straight : Vec2 → Vec2 → Float → Bool
straight control end weight = not (is_finite weight) || le weight f0 || not (all_finite control) || not (all_finite end)

-- the most quads of a conic, 2 to the power of its depth, of two points each
abbrev pub most_quads : ℕ
most_quads = 64

-- 0.001, the source's NEAR_ONE and RELATIVE_ERROR
abbrev pub thousandth : Float
thousandth = of_bits binary32 0x3a83_126f

-- x·x + y·y, whose root is the length
abbrev pub square : Vec2 → Float
square p = plus (times p.x p.x) (times p.y p.y)

-- the way from the quad's midpoint to the conic's
abbrev pub gap : Vec2 → Vec2 → Vec2 → Float → Vec2
gap a c t w = (a ⊕ c ⊙ times f2 w ⊕ t) ⊘ times f2 (plus f1 w) ⊖ (a ⊕ c ⊙ f2 ⊕ t) ⊙ quarter

-- chord > 0 with the midpoints within 0.001 of the chord
abbrev pub within : Float → Float → Bool
within chord apart = lt f0 chord && le apart (times thousandth chord)

-- |weight − 1| <= 0.001
unfoldable pub near_one : Float → Bool
near_one w = le (abs (minus w f1)) thousandth

-- the midpoints of conic and quad are near by the chord's measure
unfoldable pub near_mid : Vec2 → Vec2 → Vec2 → Float → Bool
near_mid a c t w = within (len (t ⊖ a)) (len (gap a c t w))

unfoldable pub near : Vec2 → Vec2 → Vec2 → Float → Bool
near a c t w = near_one w || near_mid a c t w

-- ---- the halves: a, left, middle and middle, right, t, both of the same weight

unfoldable pub left_of : Vec2 → Vec2 → Float → Vec2
left_of a c w = (a ⊕ c ⊙ w) ⊙ over f1 (plus f1 w)

unfoldable pub right_of : Vec2 → Vec2 → Float → Vec2
right_of c t w = (c ⊙ w ⊕ t) ⊙ over f1 (plus f1 w)

unfoldable pub middle : Vec2 → Vec2 → Vec2 → Float → Vec2
middle a c t w = (a ⊕ c ⊙ times f2 w ⊕ t) ⊙ times half (over f1 (plus f1 w))

unfoldable pub half_weight : Float → Float
half_weight w = square_root binary32 (times (plus f1 w) half)

-- The quads, left half first. The number is 6 minus the depth. The Bool is the test of this piece: matched on, so that no half is worked out where it passes.
unfoldable pub split : ℕ → Bool → Vec2 → Vec2 → Vec2 → Float → List Segment
split zero b a c t w = Quad c t ∷ []
split (suc k) true a c t w = Quad c t ∷ []
split (suc k) false a c t w =
    let l = left_of a c w in
    let r = right_of c t w in
    let m = middle a c t w in
    let u = half_weight w in
    split k (near a l m u) a l m u ++ split k (near m r t u) m r t u

unfoldable pub quads : Vec2 → Vec2 → Vec2 → Float → List Segment
quads a c t w = split 6 (near a c t w) a c t w

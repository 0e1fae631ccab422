-- The legs of a polyline, and lengths of them that are worked out once and kept for both passes. Definitions only.
use Rattle.std.specs.Prelude.{◌≡◌, ℕ, ◌+◌, ◌*◌, ◌<◌, List, [], ◌∷◌, length, get_or, Float}
use Rattle.std.specs.Float.{nan}
use Rattle.vec2.specs.declared.Vec2.{Vec2}
use Rattle.vec2.specs.Vec2.{◌⊖◌, len}
use Rattle.vec2.specs.Points.{point_at}
use Rattle.events.specs.declared.Leg.{Leg}
use Rattle.events.specs.Walk.{leg_of}

-- from each point to the next
abbrev pub all_legs : List Vec2 → List Leg
all_legs [] = []
all_legs (a ∷ []) = []
all_legs (a ∷ b ∷ ps) = leg_of a b ∷ all_legs (b ∷ ps)

-- the length of the leg from point k to the next
abbrev pub length_at : List Float → ℕ → Float
length_at fs k = len (point_at fs (k + 1) ⊖ point_at fs k)

-- ls has the lengths of the first legs, so far as there are any
abbrev pub KeptLengths : List Float → List Float → Type 0
KeptLengths ls fs = (k : ℕ) → k < length ls → 2 * k + 3 < length fs → get_or ls k nan ≡ length_at fs k

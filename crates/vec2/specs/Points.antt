-- Lists of points as they stand in a float buffer: two successive floats each ("Path" of the scope). Definitions only.
use Rattle.std.specs.Prelude.{ℕ, ◌+◌, ◌*◌, List, [], ◌∷◌, get_or, Float}
use Rattle.std.specs.Float.{nan}
use Rattle.vec2.specs.declared.Vec2.{Vec2}
use Rattle.vec2.specs.Vec2.{vec}

abbrev pub flat : List Vec2 → List Float
flat [] = []
flat (p ∷ ps) = p.x ∷ p.y ∷ flat ps

-- an odd last float is passed over
abbrev pub points_in : List Float → List Vec2
points_in [] = []
points_in (a ∷ []) = []
points_in (a ∷ b ∷ fs) = vec a b ∷ points_in fs

-- point k; nothing reads past the end
abbrev pub point_at : List Float → ℕ → Vec2
point_at fs k = vec (get_or fs (2 * k) nan) (get_or fs (2 * k + 1) nan)

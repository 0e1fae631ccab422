-- The ends of polylines, as the walk over all of them takes them. Definitions only.
use Rattle.std.specs.Prelude.{ℕ, ◌*◌, ◌≤◌, List, [], ◌∷◌}

-- the ends do not fall, and none is past the floats, n of them
abbrev pub Ordered : ℕ → ℕ → List ℕ → Type 0
Ordered n from [] = Unit
Ordered n from (e ∷ es) = (from ≤ e) × (2 * e ≤ n) × Ordered n e es

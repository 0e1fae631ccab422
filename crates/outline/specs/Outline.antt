-- The drawn outline: the path's own part, or the filled part of the dash buffer ("Dash" of the scope). Definitions only.
use Rattle.std.specs.Prelude.{ℕ, ◌*◌, ◌/◌, cond, List, [], length, take, leb, Float, Option, None, Some}
use Rattle.outline.specs.declared.Dashed.{Dashed}
use Rattle.outline.specs.declared.Dashed.TheVariants.{Whole, Cut}

-- the floats of the first n points; none where there are fewer points
abbrev pub part : List Float → ℕ → List Float
part l n = cond (leb n (length l / 2)) (take (2 * n) l) []

-- by what was drawn: the path's own part, the filled part of the dash buffer, and nothing where nothing was
abbrev pub outline_of : List Float → ℕ → List Float → Option Dashed → List Float
outline_of path points dash None = []
outline_of path points dash (Some Whole) = part path points
outline_of path points dash (Some (Cut o)) = part dash o.points

-- The answers of the calls: refusals first ("Numbers" of the scope), then the reason's verdict. Definitions only.
use Rattle.std.specs.Prelude.{ℕ, Bool, ◌||◌, cond, List, nat_eq, nat_lt, count_by, Float, Result, Ok}
use Rattle.std.specs.List.{list_any}
use Rattle.std.specs.Result.{result_and}
use Rattle.vec2.specs.Points.{points_in}
use Rattle.path.specs.declared.Refusal.{Refusal}
use Rattle.path.specs.Check.{check_points, check}
use Rattle.turns.specs.declared.Reason.{Reason}
use Rattle.turns.specs.declared.Reason.TheVariants.{Curve, SecondMove}
use Rattle.turns.specs.declared.Convexity.{Convexity}
use Rattle.turns.specs.Reason.{convexity_of}
use Rattle.turns.specs.Walk.{reason_of}
use Rattle.turns.specs.Plane.{floats}

-- a bare point list
unfoldable pub polygon_convexity : List Float → Result Convexity Refusal
polygon_convexity fs = result_and (check_points fs) (Ok (convexity_of (reason_of floats (points_in fs))))

-- quads and cubics
unfoldable pub has_curve : List ℕ → Bool
has_curve vs = list_any (λ v. nat_eq v 2 || nat_eq v 3) vs

-- how many moves
unfoldable pub moves : List ℕ → ℕ
moves vs = count_by (λ v. nat_eq v 0) vs

-- a curve, a second move, else that of the points
unfoldable pub path_reason : List ℕ → List Float → Reason
path_reason vs fs = cond (has_curve vs) Curve (cond (nat_lt 1 (moves vs)) SecondMove (reason_of floats (points_in fs)))

-- a path
unfoldable pub convexity : List ℕ → List Float → Result Convexity Refusal
convexity vs fs = result_and (check vs fs) (Ok (convexity_of (path_reason vs fs)))

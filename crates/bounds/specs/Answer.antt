-- The answers of the calls: a path's refusals 1, 4, 5, 6 first ("Numbers" of the scope). Definitions only.
use Rattle.std.specs.Prelude.{ℕ, Bool, List, Float, Result, Ok}
use Rattle.std.specs.Result.{result_and}
use Rattle.vec2.specs.declared.Vec2.{Vec2}
use Rattle.vec2.specs.Points.{points_in}
use Rattle.rect.specs.declared.Rect.{Rect}
use Rattle.path.specs.declared.Refusal.{Refusal}
use Rattle.path.specs.Check.{check}
use Rattle.bounds.specs.Bounds.{bounds_of}
use Rattle.bounds.specs.Range.{all_pass}

abbrev pub bounds : List ℕ → List Float → Result Rect Refusal
bounds vs fs = result_and (check vs fs) (Ok (bounds_of (points_in fs)))

-- whether every point passes a test: finiteness is `all_finite`'s, range `in_range`'s
abbrev pub asked : (Vec2 → Bool) → List ℕ → List Float → Result Bool Refusal
asked test vs fs = result_and (check vs fs) (Ok (all_pass test (points_in fs)))

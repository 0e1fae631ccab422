-- The count that is asked for at a curve's verb, and whether it was held back, are what the curve is written with. Assumes nothing.
use mathlib.Core.Path.{◌≡◌, refl, ◌∙◌}
use mathlib.Core.Bool.{true}
use mathlib.Core.List.{List, [], ◌∷◌, ◌++◌}
use lib.ListN.{length}
use lib.Ieee.{Float}
use Rattle.path.specs.declared.Segment.{Segment}
use Rattle.path.specs.Segment.{is_curve}
use Rattle.polyline.specs.declared.Spot.{Spot}
use Rattle.polyline.specs.Flatten.{nowhere, after, spot, curve_answer, count_at}
use Rattle.polyline.specs.Kept.{carried_answer}

count_behind : (tol : Float) (pre : List Segment) (s : Segment) (post : List Segment) (w : Spot) →
    count_at tol w (pre ++ s ∷ post) (length pre) ≡ curve_answer tol (spot w pre) s
unfolding count_at spot
count_behind tol [] s post w = refl
count_behind tol (x ∷ pre) s post w = count_behind tol pre s post (after w x)

pub asked : (tol : Float) (pre : List Segment) (s : Segment) (post : List Segment) → is_curve s ≡ true →
    count_at tol nowhere (pre ++ s ∷ post) (length pre) ≡ carried_answer tol pre s
asked tol pre s post h = count_behind tol pre s post nowhere ∙ rw h

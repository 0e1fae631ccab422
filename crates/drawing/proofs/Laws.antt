-- How many verbs and points a drawn list is, with the move that goes before it (`opened_verbs`, `opened_points`). Assumes nothing.
use mathlib.Core.Path.{◌≡◌}
use mathlib.Core.Bool.{Bool, true, false}
use mathlib.Core.List.{List, ◌++◌}
use Prim.Native.Nat.{◌+◌}
use native.Mathlib.Omega.{arith}
use lib.ListN.{length}
use Rattle.path.specs.declared.Segment.{Segment}
use Rattle.path.specs.Segment.{all_points}
use Rattle.drawing.specs.Lay.{opening, lead}

pub opened_verbs : (t : Bool) (ts : List Segment) → length (opening t ++ ts) ≡ lead t + length ts
opened_verbs true ts = omega arith
opened_verbs false ts = omega arith

pub opened_points : (t : Bool) (ts : List Segment) → length (all_points (opening t ++ ts)) ≡ lead t + length (all_points ts)
opened_points true ts = omega arith
opened_points false ts = omega arith

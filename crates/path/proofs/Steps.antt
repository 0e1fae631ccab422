-- The points that verbs use, verb by verb. Assumes nothing.
use mathlib.Core.Path.{◌≡◌, ap}
use mathlib.Core.List.{List}
use Prim.Native.Nat.{ℕ, ◌+◌, ◌<◌}
use native.Mathlib.Numerals.{add-one}
use lib.ListN.{length, get_or, drop}
use lib.Seq.{drop-cons}
use Rattle.path.specs.Segment.{used}
use Rattle.path.specs.Check.{used_by}

-- the points that the verbs left still use
pub used_turn : (vs : List ℕ) (i : ℕ) → i < length vs → used_by (drop i vs) ≡ used (get_or vs i 0) + used_by (drop (i + 1) vs)
used_turn vs i h = rw (add-one i) (ap used_by (drop-cons vs i 0 h))

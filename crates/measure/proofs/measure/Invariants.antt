use mathlib.Core.Path.{◌≡◌}
use Prim.Native.Nat.{◌+◌, ◌≤◌}
use lib.ListN.{length}
use Rattle.path.specs.Segment.{segments}
use Rattle.path.specs.Check.{max_verbs}
use Rattle.segments.specs.Read.{left}
use Rattle.polyline.specs.Flatten.{nowhere}
use Rattle.measure.specs.Measure.{Small, none, measured}
use Rattle.measure.proofs.measure.Given as goal

abbrev pub invariant-loop-s : goal.invariant-loop-s
invariant-loop-s l = record {
  few : length l.yielded + length (left l.s-iterator) ≤ max_verbs;
  small : Small (length l.yielded) l.g.sum;
  same : measured l.fn.tolerance l.g.sum l.g.spot (left l.s-iterator) ≡ measured l.fn.tolerance none nowhere (segments l.fn.path.verbs l.fn.path.points);
}

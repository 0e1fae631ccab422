use mathlib.Core.Path.{ap}
use native.Mathlib.Omega.{arith}
use lib.ListN.{length}
use Rattle.std.proofs.lemmas.List.{length_push}
use Rattle.measure.specs.Measure.{measured}
use Rattle.measure.proofs.Measures.{small_next}
use Rattle.measure.proofs.measure.Goals as goal

pub loop-s-preserved : goal.loop-s-preserved
unfolding measured
loop-s-preserved c =
    let l = c.loop-s in
    let more = length_push l.yielded c.in-Some.s in
    record {
      few = omega (arith, l.invariant.few, more, ap length c.in-Some.ensures.steps);
      small = rw more (small_next _ _ _ _ _ _ l.invariant.small (ap (λ g. g.sum) c.add_segment-g.ensures));
      same = rw c.add_segment-g.ensures (rw c.in-Some.ensures.steps at l.invariant.same);
    }

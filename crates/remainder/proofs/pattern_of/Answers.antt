-- Twice the digits and a zero less are the same size. Assumes nothing.
use mathlib.Core.Path.{◌∙◌}
use native.Mathlib.Omega.{arith}
use Rattle.remainder.proofs.Sizes.{double, any_pattern, full_pattern}
use Rattle.remainder.proofs.pattern_of.Goals.{else-loop-k-test, then-loop-k-test+else-r-lt8388608}
use Rattle.remainder.proofs.pattern_of.Goals as goal

pub loop-k-preserved : goal.loop-k-preserved
loop-k-preserved c =
    let l = c.loop-k in
    (double l.r l.k c.loop-k-test.true ∙ l.invariant.0, omega (arith, c.if-r-lt8388608.true), omega (arith, l.invariant.2))

pub returns : goal.returns
returns c =
    let l = c.loop-k in (
      elim c.loop-k-test.branch [
        | else-loop-k-test w ↦ any_pattern l.r l.k w.loop-k-test.false l.invariant.1
        | then-loop-k-test+else-r-lt8388608 w ↦ full_pattern l.r l.k w.if-r-lt8388608.false l.invariant.1
      ] ∙ l.invariant.0,
      omega (arith, l.invariant.1, l.invariant.2),
    )

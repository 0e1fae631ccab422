-- `keep_lengths` meets its contract. Assumes nothing.
use mathlib.Core.Path.{◌∙◌}
use native.Mathlib.Omega.{arith}
use Rattle.std.proofs.lemmas.Grind.{common_steps}
use Rattle.strokes.proofs.Lengths.{leg_is, no_leg}
use Rattle.legs.proofs.keep_lengths.Goals as goal

pub returns-in_default : goal.returns-in_default
returns-in_default c =
    let l = c.loop-length in
    let n = no_leg c.args.points.now l.length-index (l.invariant.rest ∙ c.in_default.ensures.steps.0) in
    λ k h r. grind (arith, common_steps, n, l.invariant.done k)

pub loop-length-preserved : goal.loop-length-preserved
loop-length-preserved c =
    let l = c.loop-length in
    let n = leg_is c.args.points.now l.length-index _ _ (l.invariant.rest ∙ c.in-Some.ensures.steps) in
    record { rest = n.1; done = λ m h. grind (arith, common_steps, n.0, l.invariant.done m) }

-- `cycle_of` meets its contract. Assumes nothing.
use Rattle.std.proofs.Common.{List, length, Float, ap, ◌∙◌}
use lib.Seq.{sets}
use Rattle.pattern.proofs.Cycles.{even, odd}
use Rattle.pattern.proofs.cycle_of.Goals as goal

pub returns-then-n-eq0-clause-whole : goal.returns-then-n-eq0-clause-whole
returns-then-n-eq0-clause-whole c = (even c.args.intervals.now _ c.if-n-eq0.true c.copy_in.ensures).0

pub returns-clause-whole : goal.returns-clause-whole
returns-clause-whole c =
    let ps = c.args.intervals.now in
    (odd ps _ c.if-n-eq0.false (c.copy_in-2.ensures ∙ ap (λ (l : List Float). sets l (length ps) ps) c.copy_in.ensures)).0

pub returns-clause-count : goal.returns-clause-count
returns-clause-count c =
    let ps = c.args.intervals.now in
    (odd ps _ c.if-n-eq0.false (c.copy_in-2.ensures ∙ ap (λ (l : List Float). sets l (length ps) ps) c.copy_in.ensures)).1

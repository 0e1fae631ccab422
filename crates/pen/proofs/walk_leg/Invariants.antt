-- `walk_leg` meets its contract. Assumes nothing.
use Rattle.float.specs.Rank.{rise}
use Rattle.strokes.proofs.Pens.{Going}
use Rattle.pen.proofs.walk_leg.Given as goal

abbrev pub invariant-loop-at : goal.invariant-loop-at
invariant-loop-at g l =
    let m = g.P.Pen in
    Going m.told m.full m.takes l.fn.cycle l.fn.g (m.on l.initial.pen l.initial.verbs l.initial.floats) l.initial.at (m.on l.pen l.verbs l.floats) l.at

abbrev pub decreases-loop-at : goal.decreases-loop-at
decreases-loop-at g l = rise l.at.t

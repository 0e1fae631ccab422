-- `walk_all` meets its contract. Assumes nothing.
use lib.ListN.{drop}
use Rattle.outline.proofs.Ends.{Polylines}
use Rattle.walk.proofs.walk_all.Given as goal

abbrev pub invariant-loop-end : goal.invariant-loop-end
invariant-loop-end g l =
    let m = g.P.Pen in
    let f = l.fn in
    Polylines f.start.cycle.now f.start.pos f.lines.scratch.points.now m.told m.full m.takes f.lines.scratch.ends.now (m.on f.pen f.verbs f.floats) l.from (drop l.end-index f.lines.scratch.ends.now) (m.on l.pen l.verbs l.floats)

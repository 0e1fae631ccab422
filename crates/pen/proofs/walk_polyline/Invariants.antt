-- `walk_polyline` meets its contract. Assumes nothing.
use Rattle.vec2.specs.Points.{points_in}
use Rattle.events.specs.declared.Event.TheVariants.{Nothing}
use Rattle.events.specs.Walk.{walk_polyline}
use Rattle.strokes.proofs.Pens.{Line}
use Rattle.legs.specs.Legs.{left}
use Rattle.pen.proofs.walk_polyline.Given as goal

abbrev pub invariant-loop-g : goal.invariant-loop-g
invariant-loop-g g l =
    let m = g.P.Pen in
    let f = l.fn in
    Line m.told m.full m.takes f.start.cycle.now (m.told (m.on f.pen f.verbs f.floats) Nothing) (walk_polyline f.start.cycle.now f.start.pos (points_in f.legs.points.now))
    (left l.g-iterator) (m.on l.w.pen l.verbs l.floats) l.w.pos

-- `walk_polyline` meets its contract. Assumes nothing.
use mathlib.Core.Path.{sym, ◌∙◌, subst}
use Rattle.vec2.specs.Points.{points_in}
use Rattle.events.specs.declared.Event.TheVariants.{Nothing}
use Rattle.events.specs.Walk.{walk_polyline}
use Rattle.strokes.proofs.Pens.{Line, line_start, line_taken, line_over, line_on, line_end}
use Rattle.legs.specs.declared.Legs.{Legs}
use Rattle.legs.specs.Legs.{left}
use Rattle.pen.proofs.walk_polyline.Goals as goal

pub loop-g-init : goal.loop-g-init
loop-g-init g c =
    let a = c.args in
    let m = g.P.Pen in
    let cs = a.start.cycle.now in
    let ps = points_in a.legs.points.now in
    let up = m.told (m.on a.pen a.verbs.now a.floats.now) Nothing in
    let free = g.met.P.Pen.laws.lifted (m.on a.pen a.verbs.now a.floats.now) ∙ c.requires.0 in
    let first = line_start g.met.P.Pen.laws cs ps up a.start.pos (c.requires.1.1 free) free a.start.indexed in
    subst (λ (z : m.State). Line m.told m.full m.takes cs up (walk_polyline cs a.start.pos ps) (left c.into_iter-g-iterator.result) z a.start.pos) (sym c.tell.ensures)
    (subst (λ (it : Legs). Line m.told m.full m.takes cs up (walk_polyline cs a.start.pos ps) (left it) up a.start.pos) (sym c.into_iter-g-iterator.ensures.into_iter_gives) first)

pub pass_leg-w-requires : goal.pass_leg-w-requires
pass_leg-w-requires g c =
    let i = c.loop-g.invariant in
    (i.indexed, i.free, line_taken g.met.P.Pen.laws _ i c.in-Some.ensures.steps)

pub returns-then-is_full : goal.returns-then-is_full
returns-then-is_full g c =
    let i = c.loop-g.invariant in
    let w = c.pass_leg-w in
    line_over g.met.P.Pen.laws _ i c.in-Some.ensures.steps _ w.result.pos w.ensures (sym (c.is_full.ensures _ _) ∙ c.if-is_full.true)

pub loop-g-preserved : goal.loop-g-preserved
loop-g-preserved g c =
    let i = c.loop-g.invariant in
    let w = c.pass_leg-w in
    line_on g.met.P.Pen.laws _ i c.in-Some.ensures.steps _ w.result.pos w.ensures (sym (c.is_full.ensures _ _) ∙ c.if-is_full.false)

pub returns : goal.returns
returns g c = line_end g.met.P.Pen.laws _ c.loop-g.invariant c.in-None.ensures.steps.0

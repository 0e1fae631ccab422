-- `walk` meets its contract. The loop's invariant: judging the junctions that are left from the present tally gives what judging all gives. Assumes nothing.
use mathlib.Core.Path.{sym, ap, ◌∙◌}
use native.Mathlib.Omega.{arith}
use native.Mathlib.Nat.{sub-zero}
use borrow.Author.Tests.{not-true, not-false}
use Rattle.vec2.specs.Vec2.{same_as}
use Rattle.vec2.specs.Points.{points_in}
use Rattle.vec2.proofs.Points.{length-points_in}
use Rattle.turns.specs.Plane.{floats as plane}
use Rattle.turns.specs.Walk.{junctions, walked}
use Rattle.turns.specs.declared.Tally.{Tally}
use Rattle.turns.proofs.Walks.{read, is_start, ahead, counted_most, on_none, on_opposed, on_counted, on_end}
use Rattle.polygon.proofs.Polygon.walk.Goals.{then-ne+else-opposes, else-ne}
use Rattle.polygon.proofs.Polygon.walk.Goals as goal

pub loop-i-init : goal.loop-i-init
unfolding walked junctions ahead
loop-i-init c =
    let d = c.default-t.ensures in
    rw (is_start c.default-t.result d.0 d.1.0 d.1.1) (omega arith, omega arith, rw (length-points_in, sub-zero))

pub returns-then-opposes : goal.returns-then-opposes
unfolding same_as
returns-then-opposes c =
    let l = c.loop-i in
    let h = c.loop-i-test.true in
    let fs = c.args.self.points.now in
    let a = read fs _ _ h c.point_at-a.ensures in
    let b = read fs _ _ c.around-j.ensures.1 c.point_at-b.ensures in
    on_opposed plane (points_in fs) _ (length-points_in fs) l.t l.i _ h c.around-j.ensures.0 _ l.invariant.2 _ _ a b
    (omega arith) (not-true _ (sym c.if-ne.ensures))
    _ c.around.ensures.0 _ c.next_other-k.ensures.0 _ (read fs _ _ c.next_other-k.ensures.1 c.point_at-c.ensures)
    _ c.turn_at-turned.ensures.0 (sym c.opposes.ensures ∙ c.if-opposes.true)

pub loop-i-preserved : goal.loop-i-preserved
unfolding same_as
loop-i-preserved c =
    let l = c.loop-i in
    let h = c.loop-i-test.true in
    let fs = c.args.self.points.now in
    let a = read fs _ _ h c.point_at-a.ensures in
    let b = read fs _ _ c.around-j.ensures.1 c.point_at-b.ensures in
    elim c.if-ne.branch [
      | then-ne+else-opposes w ↦
          let u = w.t-is ∙ w.count-t.ensures in
          let most = counted_most l.t _ w.turn_at-turned.result u w.turn_at-turned.ensures.1 in (
            omega (arith, most.0, l.invariant.0),
            omega (arith, most.1, l.invariant.1),
            on_counted plane (points_in fs) _ (length-points_in fs) l.t l.i _ h c.around-j.ensures.0 _ l.invariant.2 _ _ a b
                (omega arith) (not-true _ (sym w.if-ne.ensures))
                _ w.around.ensures.0 _ w.next_other-k.ensures.0 _ (read fs _ _ w.next_other-k.ensures.1 w.point_at-c.ensures)
                _ w.turn_at-turned.ensures.0 _ (sym w.opposes.ensures ∙ w.if-opposes.false) u,
          )
      | else-ne w ↦ (
        omega (arith, ap (λ (t : Tally). t.left) w.t-is, l.invariant.0),
        omega (arith, ap (λ (t : Tally). t.right) w.t-is, l.invariant.1),
        rw w.t-is
            (on_none plane (points_in fs) _ (length-points_in fs) l.t l.i _ h c.around-j.ensures.0 _ l.invariant.2 _ _ a b
            (not-false _ (sym w.if-ne.ensures))),
      )
    ]

pub returns : goal.returns
returns c =
    let l = c.loop-i in
    let fs = c.args.self.points.now in
    c.end.ensures ∙ on_end plane (points_in fs) _ (length-points_in fs) l.t l.i c.loop-i-test.false _ l.invariant.2

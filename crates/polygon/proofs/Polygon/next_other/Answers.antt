-- `next_other` meets its contract. The loop's invariant: what is left of the search gives what the whole one gives. Assumes nothing.
use mathlib.Core.Path.{◌≡◌, refl, sym, ap, ◌∙◌}
use mathlib.Core.Bool.{true, false}
use Prim.Native.Nat.{◌+◌, ◌-◌, ◌/◌}
use native.Mathlib.Omega.{arith}
use borrow.Author.Tests.{not-true, not-false}
use native.Mathlib.Nat.{sub-zero}
use lib.ListN.{length}
use Rattle.vec2.specs.declared.Vec2.{Vec2}
use Rattle.vec2.specs.Vec2.{same_as}
use Rattle.vec2.specs.Points.{points_in}
use Rattle.vec2.proofs.Points.{length-points_in}
use Rattle.turns.specs.Plane.{floats as plane}
use Rattle.turns.specs.Walk.{at, next}
use Rattle.turns.proofs.Walks.{read, seek_stop, seek_pass, seek_end}
use Rattle.polygon.proofs.Polygon.next_other.Goals as goal

pub loop-passed-init : goal.loop-passed-init
unfolding next
loop-passed-init c = (c.requires, refl, rw (length-points_in, sub-zero))

pub returns-then-ne : goal.returns-then-ne
unfolding same_as
returns-then-ne c =
    let l = c.loop-passed in
    let a = c.args in
    let fs = a.self.points.now in
    let found = read fs l.k _ l.invariant.0 c.point_at.ensures in
    let other : same_as (at plane (points_in fs) l.k) a.b ≡ false =
    ap (λ (p : Vec2). same_as p a.b) (sym found) ∙ not-true _ (sym c.if-ne.ensures) in
    (seek_stop plane (points_in fs) _ (length-points_in fs) a.b (length fs / 2 - l._passed) l.k _ other ∙ l.invariant.2, l.invariant.0)

pub loop-passed-preserved : goal.loop-passed-preserved
unfolding same_as
loop-passed-preserved c =
    let l = c.loop-passed in
    let a = c.args in
    let fs = a.self.points.now in
    let found = read fs l.k _ l.invariant.0 c.point_at.ensures in
    let passed : same_as (at plane (points_in fs) l.k) a.b ≡ true =
    ap (λ (p : Vec2). same_as p a.b) (sym found) ∙ not-false _ (sym c.if-ne.ensures) in
    let less : length fs / 2 - (l._passed + 1) ≡ length fs / 2 - l._passed - 1 = omega arith in (
      c.around-k.ensures.1,
      refl,
      rw less
          (seek_pass plane (points_in fs) _ (length-points_in fs) a.b (length fs / 2 - l._passed) l.k _ _ (omega arith) passed c.around-k.ensures.0 ∙ l.invariant.2),
    )

pub returns : goal.returns
returns c =
    let l = c.loop-passed in
    let a = c.args in
    let fs = a.self.points.now in
    (seek_end plane (points_in fs) _ (length-points_in fs) a.b (length fs / 2 - l._passed) l.k _ (omega arith) ∙ l.invariant.2, l.invariant.0)

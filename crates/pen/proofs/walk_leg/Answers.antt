-- `walk_leg` meets its contract. Assumes nothing.
use mathlib.Core.Path.{refl, sym, ◌∙◌}
use borrow.Author.Rules.{rules}
use lib.Ieee.{binary32}
use lib.Ieee.Bits.{of_bits-fits}
use Rattle.events.proofs.Turns.{grows}
use Rattle.strokes.proofs.Pens.{cut_taken, filled, going_on, rest_taken, gone}
use Rattle.pen.proofs.walk_leg.Goals as goal

pub loop-at-init : goal.loop-at-init
loop-at-init g c = record { walked = refl; same = refl; fit = of_bits-fits binary32 0; indexed = c.requires.0; taken = c.requires.1 }

pub tell-pen-requires : goal.tell-pen-requires
tell-pen-requires g c =
    let l = c.loop-at in
    cut_taken g.met.P.Pen.laws _ l.at l.invariant (search rules) c.inside.ensures

pub returns-then-is_full : goal.returns-then-is_full
returns-then-is_full g c =
    let l = c.loop-at in
    filled g.met.P.Pen.laws _ l.at l.invariant (search rules) c.inside.ensures
    _ c.tell-pen.ensures (sym (c.is_full.ensures _ _) ∙ c.if-is_full.true) _ l.invariant.indexed

pub loop-at-smaller : goal.loop-at-smaller
loop-at-smaller g c = let l = c.loop-at in grows c.args.cycle.now c.args.g l.at l.invariant.fit (search rules)

pub loop-at-preserved : goal.loop-at-preserved
loop-at-preserved g c =
    let l = c.loop-at in
    let n = c.next_interval.ensures in
    going_on g.met.P.Pen.laws _ l.at l.invariant (search rules) c.inside.ensures
    _ c.tell-pen.ensures (sym (c.is_full.ensures _ _) ∙ c.if-is_full.false) _ n.0 n.1

pub tell-pen-requires-2 : goal.tell-pen-requires-2
tell-pen-requires-2 g c =
    let l = c.loop-at in
    rest_taken g.met.P.Pen.laws _ l.at l.invariant (search rules) c.resting.ensures

pub returns : goal.returns
returns g c =
    let l = c.loop-at in
    gone g.met.P.Pen.laws _ l.at l.invariant (search rules) c.resting.ensures
    _ c.tell-pen-2.ensures _ c.rested_at-pos.ensures

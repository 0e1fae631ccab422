-- `walk_all` meets its contract. Assumes nothing.
use Rattle.std.proofs.Common.{◌≡◌, refl, sym, ◌∙◌, ap, ℕ, List, [], length, drop, Option, None, Some, Bor, arith, length-drop, inl, inr}
use Rattle.std.proofs.lemmas.List.{take_all}
use Rattle.std.proofs.Math.ListN.{drop_of_length-le}
use Rattle.std.specs.Slice.{IsGetRangeResult}
use Rattle.std.specs.Option.{UnwrapsOrElse}
use lib.Ieee.{Float}
use Rattle.strokes.proofs.Lengths.{kept_part}
use Rattle.outline.proofs.Ends.{in_order, one_taken, one_over, one_on}
use Rattle.walk.proofs.walk_all.Goals as goal

-- the lengths from `from` on, none where there are no more
rest_of : (xs : List Float) (from : ℕ) (r : Option (Bor (List Float))) (x : Bor (List Float)) → IsGetRangeResult xs from (length xs) r → UnwrapsOrElse r (λ z. z.now ≡ []) x →
    x.now ≡ drop from xs
rest_of xs from None x g u = u ∙ sym (drop_of_length-le xs (elim g.0 [ inl l ↦ omega arith | inr l ↦ absurd (omega arith) ]))
rest_of xs from (Some y) x g u = ap (λ (z : Bor (List Float)). z.now) u ∙ g.0.2 ∙ take_all _ _ (omega (arith, length-drop from xs))

pub loop-end-init : goal.loop-end-init
loop-end-init g c = record { same = refl; taken = c.requires.1; free = c.requires.0; ordered = c.args.lines.scratch.ordered; inside = omega arith }

pub invariant_of-legs : goal.invariant_of-legs
invariant_of-legs g c =
    let s = c.args.start in
    let a = c.args.lines in
    let l = c.loop-end in
    let o = in_order s.cycle.now s.pos a.scratch.points.now g.met.P.Pen.laws l.from l.end-index _ c.loop-end-test.true l.invariant in
    let e = rest_of a.lengths.now l.from _ _ c.get.ensures.lookup c.unwrap_or_default.ensures in
    record { kept = rw e (kept_part a.scratch.points.now l.from _ o.0 o.1 a.lengths.now a.kept) }

pub walk_polyline-pen-requires : goal.walk_polyline-pen-requires
walk_polyline-pen-requires g c =
    let s = c.args.start in
    let l = c.loop-end in
    (l.invariant.free, one_taken s.cycle.now s.pos c.args.lines.scratch.points.now g.met.P.Pen.laws l.from l.end-index _ c.loop-end-test.true l.invariant)

pub returns-then-is_full : goal.returns-then-is_full
returns-then-is_full g c =
    let s = c.args.start in
    let a = c.args.lines in
    let l = c.loop-end in
    one_over s.cycle.now s.pos a.scratch.points.now g.met.P.Pen.laws l.from l.end-index _ c.loop-end-test.true l.invariant _ c.walk_polyline-pen.ensures (sym (c.is_full.ensures _ _) ∙ c.if-is_full.true)

pub loop-end-preserved : goal.loop-end-preserved
loop-end-preserved g c =
    let s = c.args.start in
    let a = c.args.lines in
    let l = c.loop-end in
    one_on s.cycle.now s.pos a.scratch.points.now g.met.P.Pen.laws l.from l.end-index _ c.loop-end-test.true l.invariant _ c.walk_polyline-pen.ensures (sym (c.is_full.ensures _ _) ∙ c.if-is_full.false)

-- `dash_path` meets its contract. Assumes nothing.
use mathlib.Core.Path.{◌≡◌, sym, ◌∙◌}
use Prim.Native.Nat.{◌*◌, ◌%◌, ◌≤◌}
use native.Mathlib.Omega.{arith}
use lib.ListN.{length, take}
use lib.Seq.{length-take-le}
use Rattle.std.specs.Prelude.{Ok}
use Rattle.std.proofs.lemmas.Result.{err_from_is_err_and}
use Rattle.path.specs.Check as path
use Rattle.pattern.specs.Cycle.{max_intervals}
use Rattle.pattern.proofs.Cycles.{front}
use Rattle.outline.specs.Dash.{check}
use Rattle.outline.proofs.Answers.{scratch_full, scratch_kept, none_refused, is_cut}
use Rattle.outline.proofs.Scratch.{KeptScratch, full, left}
use Rattle.dash.proofs.dash_path.Goals.{In_ok-f}
use Rattle.dash.proofs.dash_path.Goals as goal

-- the intervals that the walk gets are the working cycle's
pub is_cut-requires : goal.is_cut-requires
is_cut-requires c =
    let a = c.args in
    let n = none_refused a.verbs.now a.points.now a.intervals.now (length a.scratch.now) (length a.dash_points.now) (sym c.check.ensures ∙ c.in_ok-check.was) in
    c.intervals.ensures ∙ front a.intervals.now n.2 _ _ c.cycle_of-cycle.ensures.whole c.cycle_of-cycle.ensures.count

-- behind the flattening: nothing is refused before any work, and what the scratch holds
module _ (c : In_ok-f) where
  passed : check c.args.verbs.now c.args.points.now c.args.intervals.now (length c.args.scratch.now) (length c.args.dash_points.now) ≡ Ok tt
  passed = sym c.check.ensures ∙ c.in_ok-check.was

  fine : (length c.args.scratch.now % 2 ≡ 0) × (path.check c.args.verbs.now c.args.points.now ≡ Ok tt) × (length c.args.intervals.now ≤ max_intervals)
  fine = none_refused _ _ _ _ _ passed

  kept : KeptScratch c.args.verbs.now c.args.points.now c.args.tolerance c.args.scratch.now c.args.ends.now c.args.marks.now fine.0 fine.1
      c.in_ok-f.f c.flatten.new.out c.flatten.new.ends c.flatten.new.marks
  kept = left (fine.0, fine.1) c.flatten.ensures c.in_ok-f.was

pub returns-in_err-f : goal.returns-in_err-f
returns-in_err-f c =
    let a = c.args in
    let f = c.flatten in
    let z = sym c.check.ensures ∙ c.in_ok-check.was in
    let n = none_refused _ _ _ _ _ z in
    let p = err_from_is_err_and c.from_residual-in_err-f.result c.from_residual-in_err-f.ensures.1 in
    let u = full _ _ _ _ _ _ n.0 n.1 f.result _ _ _ f.ensures _ c.in_err-f.was in
    rw (p.1, p.2, u.refusal)
    (is_cut _ _ _ _ _ _ _ _ _ _ _ z (sym c.is_cut.ensures ∙ c.if-not-is_cut.false) _
    (scratch_full a.verbs.now a.points.now a.rule a.intervals.now a.phase a.tolerance a.scratch.now a.ends.now a.marks.now a.dash_verbs.now a.dash_points.now u.misfit _ _ _ u.scratch_is u.ends_are u.marks_are))

pub slice_bounds-kept-end : goal.slice_bounds-kept-end
slice_bounds-kept-end c = (kept (goal.at.slice_bounds-kept-end c).In_ok-f).room

pub slice_bounds-kept-end-2 : goal.slice_bounds-kept-end-2
slice_bounds-kept-end-2 c = sym (length-take-le _ _ (slice_bounds-kept-end c))

pub slice_bounds-kept-end-3 : goal.slice_bounds-kept-end-3
slice_bounds-kept-end-3 c = (kept (goal.at.slice_bounds-kept-end-3 c).In_ok-f).rooms

pub slice_bounds-kept-end-4 : goal.slice_bounds-kept-end-4
slice_bounds-kept-end-4 c = sym (length-take-le _ _ (slice_bounds-kept-end-3 c))

pub overflow_mul-kept : goal.overflow_mul-kept
overflow_mul-kept c = omega (arith, slice_bounds-kept-end c, c.flatten.auto, c.well_formed)

pub invariant_of-kept : goal.invariant_of-kept
invariant_of-kept c = record { ordered = (kept (goal.at.invariant_of-kept c).In_ok-f).ordered }

pub returns : goal.returns
returns c =
    let a = c.args in
    let f = c.flatten in
    let r = c.in_ok-f.f in
    let b = (goal.at.returns c).In_ok-f in
    let k = kept b in
    is_cut _ _ _ _ _ _ _ _ _ _ _ (passed b) (sym c.is_cut.ensures ∙ c.if-not-is_cut.false) _
    (scratch_kept a.verbs.now a.points.now a.rule a.intervals.now a.phase a.tolerance a.scratch.now a.ends.now a.marks.now a.dash_verbs.now a.dash_points.now k.fit _ _ _ k.scratch_is k.ends_are k.marks_are
    (take (2 * r.points) f.new.out) (take r.polylines f.new.ends) k.points k.polylines
    c.intervals-2.result.now (c.intervals-2.ensures ∙ front a.intervals.now (fine b).2 _ _ c.cycle_of-cycle.ensures.whole c.cycle_of-cycle.ensures.count) r.held k.held _ _ _ c.cut_scratch.ensures)

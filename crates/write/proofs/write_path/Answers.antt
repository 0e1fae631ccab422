use Rattle.write.proofs.Writes.{all_read, next, reads, turn_room, turn_ends, turn_marks, last_room, last_room_marks, last_points, last_ends, last_marks}
use Rattle.write.proofs.write_path.Goals as goal

pub loop-i-init : goal.loop-i-init
loop-i-init c =
    rw (c.start_of_path-w.ensures, c.into_iter-i-iterator.ensures.into_iter_gives, c.enumerate-i-items.ensures.source, c.enumerate-i-items.ensures.count, c.segments.ensures.all)
    (reads _ _ _ _ _ _ c.requires.out c.requires.ends c.requires.marks)

pub end_if-k-requires-clause-ends : goal.end_if-k-requires-clause-ends
end_if-k-requires-clause-ends c = rw (c.then_some-end.ensures, c.ends_polyline.ensures) (turn_ends c.loop-i.invariant.writing _ _ c.in-Some.ensures.steps.0)

pub end_if-k-requires-clause-marks : goal.end_if-k-requires-clause-marks
end_if-k-requires-clause-marks c = rw (c.then_some-end.ensures, c.ends_polyline.ensures) (turn_marks c.loop-i.invariant.writing _ _ c.in-Some.ensures.steps.0)

pub write_segment-r-requires : goal.write_segment-r-requires
write_segment-r-requires c = turn_room c.loop-i.invariant.writing _ _ c.in-Some.ensures.steps.0

pub loop-i-preserved : goal.loop-i-preserved
loop-i-preserved c =
    let step = c.in-Some.ensures.steps in
    let noted = c.end_if-k.ensures in
    rw (c.write_segment-r.ensures.spot, step.2)
    (next c.loop-i.invariant _ _ step.0 (rw (c.then_some-end.ensures, c.ends_polyline.ensures, step.1, c.verbs-verbs.ensures) at noted) c.write_segment-r.ensures.written)

pub end_if-requires-clause-ends : goal.end_if-requires-clause-ends
end_if-requires-clause-ends c = rw c.then_some.ensures (last_room c.loop-i.invariant.writing c.in-None.ensures.steps.0.0)

pub end_if-requires-clause-marks : goal.end_if-requires-clause-marks
end_if-requires-clause-marks c = rw c.then_some.ensures (last_room_marks c.loop-i.invariant.writing c.in-None.ensures.steps.0.0)

pub returns-clause-out : goal.returns-clause-out
returns-clause-out c = last_points c.loop-i.invariant.writing c.in-None.ensures.steps.0.0

pub returns-clause-ends : goal.returns-clause-ends
returns-clause-ends c =
    let noted = c.end_if.ensures in
    last_ends c.loop-i.invariant.writing c.in-None.ensures.steps.0.0 (all_read c.loop-i.invariant c.in-None.ensures.steps.0.0 (rw (c.then_some.ensures, c.verbs-verbs.ensures) at noted))

pub returns-clause-marks : goal.returns-clause-marks
returns-clause-marks c =
    let noted = c.end_if.ensures in
    last_marks c.loop-i.invariant.writing c.in-None.ensures.steps.0.0 (all_read c.loop-i.invariant c.in-None.ensures.steps.0.0 (rw (c.then_some.ensures, c.verbs-verbs.ensures) at noted))

use Rattle.std.proofs.Common.{sym, ◌∙◌}
use Rattle.flatten.proofs.Call.{Measured, few_points, few_ends, few_marks, has_room, done}
use Rattle.flatten.proofs.flatten.Goals.{After-measure-t, then-out-n-via-then-out-n, then-out-n-via-else-out-n+then-ends-t, then-out-n-via-else-out-n+else-ends-t+then-marks-t}
use Rattle.flatten.proofs.flatten.Goals as goal

-- what is known once the path is read and measured
known : (c : After-measure-t) → Measured c.args.verbs.now c.args.points.now c.args.tolerance c.args.out.now c.in_ok-path.path c.measure-t.result
known c = record { even = c.if-out-eq1.false; read = sym c.new.ensures ∙ c.in_ok-path.was; same = c.measure-t.ensures.same }

pub returns-then-out-n : goal.returns-then-out-n
returns-then-out-n c =
    let m = known (goal.at.returns-then-out-n c).After-measure-t in
    elim c.then-out-n.branch [
      | then-out-n-via-then-out-n w ↦ few_points m _ _ w.if-out-n.true
      | then-out-n-via-else-out-n+then-ends-t w ↦ few_ends m _ _ w.if-out-n.false w.if-ends-t.true
      | then-out-n-via-else-out-n+else-ends-t+then-marks-t w ↦ few_marks m _ _ w.if-out-n.false w.if-ends-t.false w.if-marks-t.true
    ]

pub write_path-requires : goal.write_path-requires
write_path-requires c =
    let m = known (goal.at.write_path-requires c).After-measure-t in
    let r = has_room m c.args.ends.now c.args.marks.now c.if-out-n.false c.if-ends-t.false c.if-marks-t.false in
    record { out = r.0; ends = r.1; marks = r.2 }

pub returns : goal.returns
returns c =
    let w = c.write_path.ensures in
    let m = known (goal.at.returns c).After-measure-t in
    done m _ _ c.if-out-n.false c.if-ends-t.false c.if-marks-t.false _ _ _ w.out w.ends w.marks

-- `replay::replay` meets its contract: where the loop is left, the whole list was played. Assumes nothing.
use native.Mathlib.Omega.{arith}
use Rattle.replay.proofs.Places.{no_kinds}
use Rattle.replay.proofs.Runs.{onward, over}
use Rattle.replay.proofs.replay.Goals.{in-Some+then-r-before, in_default}
use Rattle.replay.proofs.replay.Goals as goal

pub returns : goal.returns
returns c =
    let l = c.loop-kind.invariant in
    let begun = c.new-r.ensures in
    elim c.match-get.branch [
      | in_default w ↦ rw (w.r-is, w.verbs-is, w.points-is) (over begun l (no_kinds c.loop-kind.r.kinds.now c.loop-kind.r.numbers.now c.loop-kind.r.done.calls (omega (arith, w.in_default.ensures.lookup))))
      | in-Some+then-r-before w ↦ let p = w.play_kind-r.ensures in rw (w.r-is, w.verbs-is, w.points-is) (over begun (onward l p.along) (p.ended w.if-r-before.true))
    ]

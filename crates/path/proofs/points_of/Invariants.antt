use Rattle.std.proofs.Common.{◌≡◌, ◌+◌, ◌*◌, ◌≤◌, drop}
use Rattle.path.specs.Check.{used_by}
use Rattle.path.proofs.points_of.Given as goal

abbrev pub invariant-loop-v : goal.invariant-loop-v
invariant-loop-v l = (l.n ≤ 255 * l.v-index) × (l.n + used_by (drop l.v-index l.fn.verbs) ≡ used_by l.fn.verbs)

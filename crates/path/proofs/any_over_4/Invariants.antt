use Rattle.std.proofs.Common.{◌≡◌, take}
use Rattle.path.specs.Check.{any_over4}
use Rattle.path.proofs.any_over_4.Given as goal

abbrev pub invariant-loop-v : goal.invariant-loop-v
invariant-loop-v l = l.found ≡ any_over4 (take l.v-index l.fn.verbs)

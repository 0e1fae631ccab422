use Rattle.std.proofs.Common.{sym, ◌∙◌}
use Rattle.segments.proofs.Answer.{enough}
use Rattle.segments.proofs.checked.Path.new.Goals as goal

pub invariant_of-result : goal.invariant_of-result
invariant_of-result c = let a = c.args in enough a.verbs.now a.points.now _ (sym c.check.ensures ∙ c.in_ok-check.was)

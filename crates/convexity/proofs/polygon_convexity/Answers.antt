use Rattle.std.proofs.Common.{sym, ◌∙◌}
use Rattle.path.proofs.Checks.{list_room}
use Rattle.convexity.proofs.polygon_convexity.Goals as goal

pub invariant_of-reason : goal.invariant_of-reason
invariant_of-reason c = record { few = list_room _ (sym c.check_points.ensures ∙ c.in_ok-check_points.was) }

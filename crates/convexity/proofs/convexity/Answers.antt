use Rattle.std.proofs.Common.{sym, ◌∙◌}
use Rattle.path.proofs.Checks.{sound}
use Rattle.convexity.proofs.convexity.Goals as goal

pub invariant_of-path_reason : goal.invariant_of-path_reason
invariant_of-path_reason c = record { few = (sound _ _ (sym c.check.ensures ∙ c.in_ok-check.was)).room }

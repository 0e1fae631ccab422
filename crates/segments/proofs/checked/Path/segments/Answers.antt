use mathlib.Core.Path.{◌∙◌}
use Rattle.segments.proofs.Read.{read_all, few_read}
use Rattle.segments.proofs.checked.Path.segments.Goals as goal

pub returns-clause-all : goal.returns-clause-all
returns-clause-all c = c.new.ensures ∙ rw (← c.self.view_is) (read_all _ _ c.self.invariant)

pub returns-clause-few : goal.returns-clause-few
returns-clause-few c = rw (c.new.ensures, ← c.self.view_is) (few_read _ _ c.self.invariant)

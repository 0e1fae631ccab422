-- `is_walked` meets its contract. Assumes nothing.
use mathlib.Core.Path.{sym, ◌∙◌, subst}
use lib.Dec.{T}
use Rattle.float.proofs.Count.{above_of_test, none_of_test}
use Rattle.strokes.proofs.Positive.{above_walks, none_walks}
use Rattle.legs.proofs.is_walked.Goals as goal

pub returns-then-length : goal.returns-then-length
returns-then-length c = above_walks c.args.length (subst T (sym c.before.well_formed.0.1) tt) (above_of_test c.args.length c.if-length.true)

pub returns-else-length : goal.returns-else-length
returns-else-length c = c.if-length.false ∙ none_walks c.args.length (none_of_test c.args.length c.if-length.false)

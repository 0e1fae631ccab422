use mathlib.Core.Path.{sym, ◌∙◌}
use Rattle.float.proofs.Small.{not_a_number}
use Rattle.curve.specs.Count.{bend}
use Rattle.wang.proofs.second_difference_magnitude.Goals as goal

pub returns-then-is_nan : goal.returns-then-is_nan
unfolding bend
returns-then-is_nan c = rw (not_a_number, sym c.is_nan.ensures ∙ c.if-is_nan.true)

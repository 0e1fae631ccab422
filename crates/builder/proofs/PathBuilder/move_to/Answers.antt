-- `builder::PathBuilder::move_to` meets its contract. Assumes nothing.
use mathlib.Core.Path.{refl}
use mathlib.Core.List.{[], ◌∷◌}
use Rattle.path.specs.declared.Segment.TheVariants.{Move}
use Rattle.builder.specs.Build.{called, quads_laid, steps}
use Rattle.builder.specs.Call.{lays}
use Rattle.builder.proofs.Lays.{replied}
use Rattle.builder.proofs.PathBuilder.move_to.Goals as goal

pub returns : goal.returns
unfolding called quads_laid lays steps
returns c = rw c.settle.ensures (replied c.args.self _ _ (Move c.args.p ∷ []) _ _ _ (rw c.standing.ensures at c.lay-laid.ensures) refl)

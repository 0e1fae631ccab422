-- `builder::PathBuilder::draw` meets its contract. Assumes nothing.
use mathlib.Core.List.{[], ◌∷◌, ◌++◌}
use Rattle.drawing.specs.Lay.{opening}
use Rattle.builder.proofs.Lays.{draws_one, opened, replied}
use Rattle.builder.proofs.PathBuilder.draw.Goals as goal

pub returns : goal.returns
returns c =
    let b = c.args.self in
    rw (c.settle.ensures, c.start.ensures, c.end_of.ensures)
    (replied b _ _ (opening b.started ++ c.args.s ∷ []) _ _ _ (rw c.standing.ensures at c.lay-laid.ensures) (opened b.started b _ _ (draws_one c.args.s c.requires)))

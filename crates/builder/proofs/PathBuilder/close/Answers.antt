-- `builder::PathBuilder::close` meets its contract. Assumes nothing.
use mathlib.Core.Path.{refl, ◌∙◌}
use mathlib.Core.Bool.{true, false}
use mathlib.Core.List.{[], ◌∷◌}
use Rattle.path.specs.declared.Segment.TheVariants.{Close}
use Rattle.builder.specs.Build.{steps, refusal}
use Rattle.builder.proofs.Lays.{replied, unmoved, close_called}
use Rattle.builder.proofs.PathBuilder.close.Goals as goal

pub returns-then-self : goal.returns-then-self
unfolding steps
returns-then-self c =
    let b = c.args.self in
    close_called b _ _ true c.if-self.true
    (rw (c.settle.ensures, c.new-start.ensures)
    (replied b _ _ (Close ∷ []) _ _ _ (rw c.standing-at.ensures at c.lay-laid.ensures) refl))

pub returns : goal.returns
unfolding refusal
returns c =
    let b = c.args.self in
    close_called b _ _ false c.if-self.false (rw c.answer.ensures (unmoved b _ _ _ (c.and.ensures ∙ rw (c.check_room-room.ensures, c.standing-at.ensures))))

-- `builder::PathBuilder::conic_to` meets its contract. Assumes nothing.
use mathlib.Core.Path.{sym, ◌∙◌}
use native.Mathlib.Omega.{arith}
use Rattle.std.specs.Prelude.{Ok, Err}
use Rattle.halves.proofs.Laws.{quads_quads}
use Rattle.bending.proofs.Laws.{curved_fits}
use Rattle.builder.proofs.Lays.{draws_quads, opened, conic_called, past_quads, quads_room}
use Rattle.builder.proofs.PathBuilder.conic_to.Goals as goal

-- first the room behind the quads, by which the sums fit too
pub past-next-requires : goal.past-next-requires
past-next-requires c = quads_room _ _ c.in-Ok.ensures c.lead_of-lead.ensures

pub overflow_add-lead : goal.overflow_add-lead
overflow_add-lead c = omega (arith, past-next-requires c)

pub overflow_mul-quads : goal.overflow_mul-quads
overflow_mul-quads c = omega (arith, past-next-requires c)

pub overflow_add-lead-in-Ok : goal.overflow_add-lead-in-Ok
overflow_add-lead-in-Ok c = omega (arith, past-next-requires c)

pub returns-in-Ok : goal.returns-in-Ok
returns-in-Ok c =
    let b = c.args.self in
    let p = past_quads c.standing-at.result _ c.lead_of-lead.ensures (curved_fits _ _ c.in-Ok.ensures).0 in
    rw (c.answer.ensures, c.moved.ensures, c.start.ensures, c.past-next.ensures ∙ p, c.standing-at.ensures, opened b.started b _ c.args.to (draws_quads c.args.to _ (quads_quads c.pen.result c.args.ctrl c.args.to c.args.weight)))
    (conic_called b _ _ _ _ _ _ (Ok c.in-Ok.quads) (sym c.is_straight.ensures ∙ c.if-is_straight.false) c.pen.ensures (rw c.standing-at.ensures at c.in-Ok.ensures))

pub returns-in-Err : goal.returns-in-Err
returns-in-Err c =
    rw c.answer-in-Err.ensures
    (conic_called c.args.self _ _ _ _ _ _ (Err c.in-Err.r) (sym c.is_straight.ensures ∙ c.if-is_straight.false) c.pen.ensures (rw c.standing-at.ensures at c.in-Err.ensures))

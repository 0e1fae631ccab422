-- `bending::bend_apart` meets its contract: the quads that stand apart are the conic's, and as many are asked room for. Assumes nothing.
use mathlib.Core.Path.{sym, ◌∙◌}
use native.Mathlib.Omega.{arith}
use lib.ListN.{length-take, length-drop}
use Rattle.conic.proofs.Stores.{bent_apart}
use Rattle.bending.proofs.Laws.{room_left, bent}
use Rattle.bending.proofs.bend_apart.Goals as goal

pub put_quads-requires : goal.put_quads-requires
put_quads-requires c =
    let m = room_left c.args.at c.push_points-q.result c.open-next.ensures.0 c.open-next.ensures.1 (rw c.lead_of-l.ensures at (sym c.check_room.ensures ∙ c.in_ok-check_room.was)) in
    simp (length-take, length-drop) (omega (arith, m), omega (arith, m))

pub returns : goal.returns
returns c =
    bent _ _ c.open-next.ensures.0 c.open-next.ensures.1 (rw c.lead_of-l.ensures at (sym c.check_room.ensures ∙ c.in_ok-check_room.was))
    (bent_apart c.args.c (omega arith) c.push_points-q.ensures.laid c.put_quads.ensures.0 c.put_quads.ensures.1)

use native.Mathlib.Omega.{arith}
use Rattle.halves.proofs.Laws.{quads_most}
use Rattle.store.proofs.Refusals.{refusal_fewer}
use Rattle.bending.proofs.Laws.{bent}
use Rattle.bending.proofs.bend_into.Goals as goal

pub returns : goal.returns
returns c =
    let q = c.push_conic.ensures.number in
    let m = quads_most c.args.c.from c.args.c.ctrl c.args.c.to c.args.c.weight in
    bent _ _ c.open-next.ensures.0 c.open-next.ensures.1 (refusal_fewer _ _ _ _ _ _ _ (omega (arith, q, m)) (omega (arith, q, m)) c.requires) c.push_conic.ensures

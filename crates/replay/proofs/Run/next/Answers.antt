-- `replay::Run::next` meets its contract. Assumes nothing.
use Rattle.std.proofs.Common.{sym, ◌∙◌}
use native.Mathlib.Omega.{arith}
use Rattle.replay.proofs.Places.{no_kinds, few_numbers, one_more}
use Rattle.replay.proofs.Run.next.Goals as goal

pub returns-in_err-kind : goal.returns-in_err-kind
returns-in_err-kind g c =
    let r = c.args.self in
    rw c.from_residual.ensures (λ e. no_kinds r.kinds.now r.numbers.now r.done.calls (omega (arith, c.in_err-kind.ensures.lookup)))

pub returns-in_err-own : goal.returns-in_err-own
returns-in_err-own g c =
    let k = g.met.K.Kind in
    rw c.from_residual-in_err-own.ensures (λ e. few_numbers _ _ _ k.is_kind k.takes c.in_ok-kind.ensures.lookup.3.0 e c.in_err-own.ensures.cases)

pub returns : goal.returns
returns g c =
    let k = g.met.K.Kind in
    let r = c.args.self in
    let at = c.in_ok-kind.ensures.lookup.3 in
    let own = c.in_ok-own.ensures.cases in
    let more = one_more r.kinds.now r.numbers.now r.done.calls k.is_kind k.takes at.0 (sym (at.1 0) ∙ c.if-kind-BYTE.false ∙ c.BYTE.ensures) (omega (arith, own.2)) in
    record { kinds = at.0; calls = cc (more, own.0, own.1) }

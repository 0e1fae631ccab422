-- `next_above` meets its contract. Assumes nothing.
use mathlib.Core.Path.{sym, ◌∙◌, ap}
use Rattle.events.specs.Zeros.{zero_at, first_above}
use Rattle.events.proofs.Turns.{above_here, above_second}
use Rattle.cycle.proofs.next_above.Goals as goal

pub returns-then-not-is_zero : goal.returns-then-not-is_zero
returns-then-not-is_zero c =
    let cs = c.args.cycle.now in
    let i = c.index_after-i in
    (above_here cs i.result (sym c.is_zero.ensures ∙ c.if-not-is_zero.true) ∙ ap (first_above cs) i.ensures.0, i.ensures.1)

pub returns-then-not-is_zero-2 : goal.returns-then-not-is_zero-2
returns-then-not-is_zero-2 c =
    let cs = c.args.cycle.now in
    let i = c.index_after-i in
    let s = c.index_after-second in
    let e = above_second cs i.result i.ensures.1 (sym c.is_zero.ensures ∙ c.if-not-is_zero.false) (ap (zero_at cs) (sym s.ensures.0) ∙ sym c.is_zero-2.ensures ∙ c.if-not-is_zero-2.true) in
    (s.ensures.0 ∙ e ∙ ap (first_above cs) i.ensures.0, s.ensures.1)

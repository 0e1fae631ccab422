-- `start_of` meets its contract. Assumes nothing.
use mathlib.Core.Path.{◌≡◌, refl, sym, ◌∙◌, ap, subst}
use mathlib.Core.Logic.{inl, inr}
use Prim.Native.Nat.{ℕ, ◌%◌}
use lib.Dec.{T, eqb}
use lib.ListN.{get_or}
use lib.Ieee.{Float, nan, binary32}
use lib.Ieee.Fits.{sub-fits}
use Rattle.events.specs.Phase.{Phase, phase_from, started}
use Rattle.events.specs.Zeros.{first_above}
use Rattle.float.specs.Small.{rem_euclid}
use Rattle.float.specs.Arith.{minus}
use Rattle.events.proofs.Turns.{goes_yes, goes_no}
use Rattle.events.proofs.Phases.{phase_falls, phase_stop, phase_step}
use Rattle.cycle.proofs.start_of.Goals.{else-loop-index-test, then-loop-index-test+then-next-remaining}
use Rattle.cycle.proofs.start_of.Goals as goal

abbrev at : ℕ → Float → Phase
at i r = record { index = i; remaining = r }

pub loop-index-init : goal.loop-index-init
loop-index-init c = (refl, subst T (sym c.rem_euclid-remaining.type_inv) tt, c.first_above-index.ensures.1)

pub loop-index-smaller : goal.loop-index-smaller
loop-index-smaller c =
    let l = c.loop-index in
    phase_falls c.args.cycle.now (at l.index l.remaining) l.invariant.1 (goes_yes _ _ c.loop-index-test.true c.if-next-remaining.false)

pub loop-index-preserved : goal.loop-index-preserved
loop-index-preserved c =
    let l = c.loop-index in
    let cs = c.args.cycle.now in
    let e = c.next_above-index.ensures in
    let s = phase_step cs (at l.index l.remaining) l.invariant.1 (goes_yes _ _ c.loop-index-test.true c.if-next-remaining.false) in
    (ap (λ (i : ℕ). phase_from cs (at i (minus l.remaining (get_or cs l.index nan)))) e.0 ∙ sym s ∙ l.invariant.0, sub-fits binary32 _ _, e.1)

pub returns : goal.returns
returns c =
    let l = c.loop-index in
    let a = c.args in
    let cs = a.cycle.now in
    let stop =
    phase_stop cs (at l.index l.remaining)
    (goes_no _ _ (elim c.loop-index-test.branch [ else-loop-index-test w ↦ inl w.loop-index-test.false | then-loop-index-test+then-next-remaining w ↦ inr w.if-next-remaining.true ])) in
    let end : at l.index l.remaining ≡ phase_from cs (at (first_above cs 0) (rem_euclid a.phase a.period)) =
    sym stop ∙ l.invariant.0
    ∙ ap (λ (i : ℕ). phase_from cs (at i c.rem_euclid-remaining.result)) c.first_above-index.ensures.0
    ∙ ap (λ (r : Float). phase_from cs (at (first_above cs 0) r)) c.rem_euclid-remaining.ensures in
    (ap (λ (x : Float). record { index = l.index; left = x; drawing = eqb (l.index % 2) 0 }) c.max-left.ensures ∙ ap (started cs) end, refl)

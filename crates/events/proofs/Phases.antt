-- The laws of `phase_from`, the loop that finds where in the cycle a walk begins: what remains of the phase falls at each turn. Assumes nothing.
use mathlib.Core.Path.{◌≡◌, ap}
use Prim.Native.Nat.{ℕ, ◌<◌}
use mathlib.Core.Bool.{true, false, not}
use mathlib.Core.List.{List}
use lib.ListN.{get_or}
use lib.Dec.{T}
use lib.Ieee.{Float, nan, binary32, le, fits}
use lib.Ieee.Fits.{sub-fits}
use Rattle.float.specs.Rank.{fall}
use Rattle.float.proofs.Rank.{falls, le_second, fall_small}
use Rattle.events.specs.Loop.{Trace}
use Rattle.float.specs.Arith.{minus}
use Rattle.events.specs.Phase.{Phase, phase_goes, phase_next, phase_from}
use Rattle.events.proofs.Turns.{both_left, both_right}
use Rattle.events.proofs.Loops.{traced_stop, traced_step}

abbrev Ok : Phase → Type 0
Ok s = T (fits binary32 s.remaining)

pub phase_falls : (cs : List Float) (s : Phase) → Ok s → phase_goes cs s ≡ true → fall (phase_next cs s).remaining < fall s.remaining
phase_falls cs s o h =
    let c = get_or cs s.index nan in
    let r = s.remaining in
    falls r (minus r c) o (sub-fits binary32 r c) (le_second c r (both_left (le c r) (not (le r (minus r c))) h)) (both_right (le c r) (le r (minus r c)) h)

pub phase_stop : (cs : List Float) (s : Phase) → phase_goes cs s ≡ false → phase_from cs s ≡ s
phase_stop cs s h = ap (λ (r : Trace ℕ Phase). r.end) (traced_stop (phase_goes cs) (phase_next cs) (λ z. z.index) s h)

pub phase_step : (cs : List Float) (s : Phase) → Ok s → phase_goes cs s ≡ true → phase_from cs s ≡ phase_from cs (phase_next cs s)
phase_step cs s o h =
    ap (λ (r : Trace ℕ Phase). r.end)
    (traced_step (phase_goes cs) (phase_next cs) (λ z. z.index) Ok (λ z. fall z.remaining)
    (λ z k g. sub-fits binary32 z.remaining (get_or cs z.index nan)) (phase_falls cs) s o (fall_small s.remaining o) h)

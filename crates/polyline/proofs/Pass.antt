-- The verb before a verb, as the marks' pass reads it. Assumes nothing.
use mathlib.Core.Path.{◌≡◌, refl, sym, ap, ◌∙◌}
use mathlib.Core.List.{List, [], ◌∷◌}
use Prim.Native.Nat.{ℕ, zero, suc, ◌+◌, ◌-◌}
use native.Mathlib.Omega.{arith}
use lib.ListN.{length, get_or, drop}
use lib.Seq.{drop-nil}
use lib.Ieee.{Float}
use Rattle.path.specs.declared.Segment.{Segment}
use Rattle.path.specs.Segment.{is_close, used, seg_at, segs_from, segments}
use Rattle.polyline.specs.Pass.{close_before}

-- a verb is a close or none, wherever its points stand
close_any : (v : ℕ) (fs : List Float) (k : ℕ) → is_close (seg_at v [] 0) ≡ is_close (seg_at v fs k)
close_any zero fs k = refl
close_any (suc zero) fs k = refl
close_any (suc (suc zero)) fs k = refl
close_any (suc (suc (suc zero))) fs k = refl
close_any (suc (suc (suc (suc v)))) fs k = refl

close_at : (vs : List ℕ) (fs : List Float) (k i : ℕ) (s : Segment) (rest : List Segment) → drop i (segs_from vs fs k) ≡ s ∷ rest →
    is_close (seg_at (get_or vs i 0) [] 0) ≡ is_close s
close_at [] fs k i s rest e = absurd (omega (arith, ap length (sym (drop-nil i) ∙ e)))
close_at (v ∷ vs) fs k zero s rest e = close_any v fs k ∙ ap is_close (ap (λ (ss : List Segment). get_or ss 0 s) e)
close_at (v ∷ vs) fs k (suc i) s rest e = close_at vs fs (k + used v) i s rest e

pub close_read : (vs : List ℕ) (fs : List Float) (i : ℕ) (s : Segment) (rest : List Segment) → drop i (segments vs fs) ≡ s ∷ rest → close_before vs (i + 1) ≡ is_close s
close_read vs fs i s rest e =
    let here : i + 1 - 1 ≡ i = omega arith in
    ap (λ (j : ℕ). is_close (seg_at (get_or vs j 0) [] 0)) here ∙ close_at vs fs 0 i s rest e

-- A dashing's outcome, as C has it: from what the answer, the call and the fill rule ensure. Assumes nothing.
use mathlib.Core.Path.{◌≡◌, ap, ◌∙◌}
use mathlib.Core.List.{List}
use Prim.Native.Nat.{ℕ}
use lib.Ieee.{Float}
use Rattle.path.specs.declared.FillRule.{FillRule}
use Rattle.outline.specs.Answer.{Answer}
use Rattle.outline.specs.Dash.{outcome, dashing}
use Rattle.crossing.specs.declared.HzDashed.{HzDashed}
use Rattle.crossing.specs.Dash.{dashed_out, dash_outcome, dash_outcome_out, hz_dashing}

pub dash_out : (r : Answer) (k' : FillRule) (v : List ℕ) (p : List Float) (k : FillRule) (i : List Float) (a t : Float) (s : List Float) (e m vs : List ℕ) (fs : List Float)
    {q : HzDashed} {s' : List Float} {e' m' vs' : List ℕ} {fs' : List Float}
    → q ≡ dashed_out r → outcome r s' e' m' vs' fs' ≡ dashing v p k' i a t s e m vs fs → k' ≡ k
    → dash_outcome q s' e' m' vs' fs' ≡ hz_dashing v p k i a t s e m vs fs
unfolding hz_dashing
dash_out r k' v p k i a t s e m vs fs {s' = s'} {e' = e'} {m' = m'} {vs' = vs'} {fs' = fs'} given made ruled =
    ap (λ q. dash_outcome q s' e' m' vs' fs') given ∙ (ap dash_outcome_out made ∙ ap (λ k. hz_dashing v p k i a t s e m vs fs) ruled)

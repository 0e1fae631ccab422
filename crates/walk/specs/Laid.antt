-- What the walk of the polylines answers before an outline is made of it: how many verbs are laid, or what refuses them. Definitions only.
use Rattle.std.specs.Prelude.{◌≡◌, ℕ, List, Float, Result, Ok, Err}
use Rattle.path.specs.declared.Segment.{Segment}
use Rattle.path.specs.declared.FillRule.{FillRule}
use Rattle.path.specs.declared.Refusal.{Refusal}
use Rattle.outline.specs.Answer.{Answer, refused_by, cut_into}
use Rattle.outline.specs.Dash.{cut_outcome, out_outcome}

-- the whole answer, once the scratch keeps n points in k polylines of a path with `held` curves held back: every verb that is laid has one point
abbrev pub answer_with : ℕ → ℕ → ℕ → FillRule → Result ℕ Refusal → Answer
answer_with n k held rule (Ok m) = cut_into (record { verbs = m; points = m; scratch = n; polylines = k; held = held; rule = rule })
answer_with n k held rule (Err r) = refused_by r

-- the segments are laid, or refused, from these dash buffers on: whatever else the outline says
abbrev pub LaidOrRefused : List Segment → List ℕ → List Float → Result ℕ Refusal → List ℕ → List Float → Type 0
LaidOrRefused ss us gs r vs fs = (n k held : ℕ) (rule : FillRule) → cut_outcome (answer_with n k held rule r) vs fs ≡ out_outcome ss n k held rule us gs

-- What C gets of a refused flattening: no totals, and the lent outputs as they were. Theorems' statements only.
use Rattle.std.specs.Prelude.{ℕ, ◌≡◌, List, Float}
use Rattle.path.specs.declared.Refusal.{Refusal}
use Rattle.path.specs.Refusal.{number}
use Rattle.crossing.specs.Answers.{HzFlattening}

pub record RefusedFlattening (out : List Float) (ends marks : List ℕ) (e : Refusal) (r : HzFlattening) : Type 0 where
  pub points : r.answer.points ≡ 0
  pub polylines : r.answer.polylines ≡ 0
  pub starts : r.answer.starts ≡ 0
  pub lines : r.answer.lines ≡ 0
  pub counts : r.answer.counts ≡ 0
  pub closings : r.answer.closings ≡ 0
  pub held : r.answer.held ≡ 0
  pub refused : r.answer.refused ≡ number e
  pub same_floats : r.floats ≡ out
  pub same_ends : r.ends ≡ ends
  pub same_marks : r.marks ≡ marks

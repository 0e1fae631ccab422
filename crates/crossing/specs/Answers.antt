-- The answers of questions and of flattening as C has them: the number that refuses beside the values, which are 0, false, the empty rect or Concave then. Definitions
-- only.
use Rattle.std.specs.Prelude.{ℕ, Bool, false, List, length, replicate, Float, Result, Ok, Err}
use Rattle.std.proofs.lemmas.List.Edits.{sets}
use Rattle.float.specs.Arith.{f0}
use Rattle.float.specs.declared.SegmentCount.{SegmentCount}
use Rattle.rect.specs.declared.Rect.{Rect}
use Rattle.rect.specs.Rect.{empty_rect}
use Rattle.path.specs.declared.Refusal.{Refusal}
use Rattle.path.specs.Refusal.{number}
use Rattle.turns.specs.declared.Convexity.{Convexity}
use Rattle.turns.specs.declared.Convexity.TheVariants.{Convex, Concave}
use Rattle.polyline.specs.declared.Flattened.{Flattened}
use Rattle.polyline.specs.Flatten.{Outcome, flatten}
use Rattle.pattern.specs.Cycle.{max_intervals}
use Rattle.crossing.specs.declared.HzBounds.{HzBounds}
use Rattle.crossing.specs.declared.HzAnswer.{HzAnswer}
use Rattle.crossing.specs.declared.HzVerdict.{HzVerdict}
use Rattle.crossing.specs.declared.HzFlattened.{HzFlattened}
use Rattle.crossing.specs.declared.HzCarried.{HzCarried}
use Rattle.crossing.specs.declared.HzLineStyle.{HzLineStyle}

abbrev pub bounds_out : Result Rect Refusal → HzBounds
bounds_out (Ok x) = record { rect = x; refused = 0 }
bounds_out (Err r) = record { rect = empty_rect; refused = number r }

abbrev pub answer_out : Result Bool Refusal → HzAnswer
answer_out (Ok b) = record { holds = b; refused = 0 }
answer_out (Err r) = record { holds = false; refused = number r }

-- 0 for Convex, 1 for Concave
abbrev pub convexity_byte : Convexity → ℕ
convexity_byte Convex = 0
convexity_byte Concave = 1

abbrev pub verdict_out : Result Convexity Refusal → HzVerdict
verdict_out (Ok c) = record { convexity = convexity_byte c; refused = 0 }
verdict_out (Err r) = record { convexity = convexity_byte Concave; refused = number r }

abbrev pub flattened_out : Result Flattened Refusal → HzFlattened
flattened_out (Ok t) =
    record {
      points = t.points;
      polylines = t.polylines;
      starts = t.starts;
      lines = t.lines;
      counts = t.counts;
      closings = t.closings;
      held = t.held;
      refused = 0;
    }
flattened_out (Err r) = record { points = 0; polylines = 0; starts = 0; lines = 0; counts = 0; closings = 0; held = 0; refused = number r }

-- the totals, and what the three lent outputs hold afterwards
pub record HzFlattening : Type 0 where
  pub answer : HzFlattened
  pub floats : List Float
  pub ends : List ℕ
  pub marks : List ℕ

abbrev pub flatten_outcome : HzFlattened → List Float → List ℕ → List ℕ → HzFlattening
flatten_outcome a fs es ms = record { answer = a; floats = fs; ends = es; marks = ms }

abbrev pub flatten_outcome_out : Outcome → HzFlattening
flatten_outcome_out o = flatten_outcome (flattened_out o.answer) o.floats o.ends o.marks

unfoldable pub hz_flatten : List ℕ → List Float → Float → List Float → List ℕ → List ℕ → HzFlattening
hz_flatten vs fs tol out ends marks = flatten_outcome_out (flatten vs fs tol out ends marks)

abbrev pub carried_out : Result SegmentCount Refusal → HzCarried
carried_out (Ok n) = record { count = n.count; held = n.held; refused = 0 }
carried_out (Err r) = record { count = 0; held = false; refused = number r }

-- zeros behind the intervals
abbrev pub style_out : Result (List Float) Refusal → HzLineStyle
style_out (Ok xs) = record { values = sets (replicate max_intervals f0) 0 xs; len = length xs; refused = 0 }
style_out (Err r) = record { values = replicate max_intervals f0; len = 0; refused = number r }

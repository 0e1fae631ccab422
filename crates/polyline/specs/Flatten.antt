-- Flattening: `flatten` of flatten.rs over the segments of a path ("Flatten" of the scope). What a segment writes depends on four things of what
-- stands before it, so the points are what the segments write, one after the other. Definitions only.
use Rattle.std.specs.Prelude.{ℕ, zero, suc, pred, ◌+◌, ◌/◌, ◌%◌, Bool, true, false, not, ◌&&◌, ◌||◌, cond, List, [], ◌∷◌, ◌++◌, length, ltb, eqb, Float, Result, Ok, Err}
use Rattle.std.specs.Result.{result_and}
use Rattle.std.proofs.lemmas.List.Edits.{sets}
use Rattle.vec2.specs.declared.Vec2.{Vec2}
use Rattle.vec2.specs.Vec2.{origin, same_as}
use Rattle.vec2.specs.Points.{flat}
use Rattle.path.specs.declared.Segment.{Segment}
use Rattle.path.specs.declared.Segment.TheVariants.{Move, Line, Quad, Cubic, Close}
use Rattle.path.specs.Segment.{is_drawn, is_move, is_line, is_curve, is_close, segments}
use Rattle.path.specs.declared.Refusal.{Refusal}
use Rattle.path.specs.declared.Refusal.TheVariants.{OddFloats, OutputFull}
use Rattle.path.specs.Check.{check}
use Rattle.float.specs.declared.SegmentCount.{SegmentCount}
use Rattle.float.specs.Count.{held_back}
use Rattle.curve.specs.Count.{quad_s, cubic_s, quad_count, cubic_count, eval_quad, eval_cubic, param}
use Rattle.polyline.specs.declared.Spot.{Spot}
use Rattle.polyline.specs.declared.Flattened.{Flattened}
use Rattle.polyline.specs.Subpaths.{marks_out}

-- ---- where the flattening stands

abbrev pub nowhere : Spot
nowhere = record { start = origin; pen = origin; last = origin; drawn = false }

-- a polyline begins with the latest move's point
abbrev pub first : Spot → Vec2
first w = w.start

-- close writes the move's point exactly when the polyline has two or more points, its first equals the move's point and its last doesn't. The first point is
-- the start, so the second test fails for a NaN alone; `Polylines.closing` is the source's own rule, and `Source.as_source` proves the two alike
unfoldable pub close_adds : Spot → Bool
close_adds w = w.drawn && same_as (first w) w.start && not (same_as w.last w.start)

abbrev pub moved_to : Vec2 → Spot
moved_to p = record { start = p; pen = p; last = p; drawn = false }

abbrev pub drawn_to : Spot → Vec2 → Spot
drawn_to w p = record { start = w.start; pen = p; last = p; drawn = true }

abbrev pub after_close : Spot → Spot
after_close w = record { start = w.start; pen = w.start; last = cond (close_adds w) w.start w.last; drawn = w.drawn }

unfoldable pub after : Spot → Segment → Spot
after w (Move p) = moved_to p
after w (Line p) = drawn_to w p
after w (Quad c p) = drawn_to w p
after w (Cubic c d p) = drawn_to w p
after w Close = after_close w

unfoldable pub spot : Spot → List Segment → Spot
spot w [] = w
spot w (s ∷ ss) = spot (after w s) ss

-- ---- what a segment writes

-- N: 1 for a line, else the carried count
unfoldable pub places : Float → Spot → Segment → ℕ
places tol w (Move p) = 0
places tol w (Line p) = 1
places tol w (Quad c p) = quad_count tol w.pen c p
places tol w (Cubic c d p) = cubic_count tol w.pen c d p
places tol w Close = 0

-- W2: whether a curve's count was held back; nothing else is
unfoldable pub is_held : Float → Spot → Segment → Bool
is_held tol w (Move p) = false
is_held tol w (Line p) = false
is_held tol w (Quad c p) = held_back (quad_s tol w.pen c p)
is_held tol w (Cubic c d p) = held_back (cubic_s tol w.pen c d p)
is_held tol w Close = false

-- f i, f (i + 1), ..: k of them
abbrev pub steps : (ℕ → Vec2) → ℕ → ℕ → List Vec2
steps f i zero = []
steps f i (suc k) = f i ∷ steps f (suc i) k

-- a curve of n lines: the inner points, at t = i / n, and its end, copied
abbrev pub curved : (Float → Vec2) → ℕ → Vec2 → List Vec2
curved eval n p = steps (λ i. eval (param i n)) 1 (pred n) ++ p ∷ []

unfoldable pub body : Float → Spot → Segment → List Vec2
body tol w (Move p) = []
body tol w (Line p) = p ∷ []
body tol w (Quad c p) = curved (eval_quad w.pen c p) (places tol w (Quad c p)) p
body tol w (Cubic c d p) = curved (eval_cubic w.pen c d p) (places tol w (Cubic c d p)) p
body tol w Close = []

-- the start of a polyline goes before its first drawn verb, so that a subpath with no drawn verb writes nothing
abbrev pub opens : Spot → Segment → Bool
opens w s = is_drawn s && not w.drawn

abbrev pub adds : Spot → Segment → Bool
adds w s = is_close s && close_adds w

abbrev pub only_if : {A : Type 0} → Bool → A → List A
only_if true p = p ∷ []
only_if false p = []

unfoldable pub writes : Float → Spot → Segment → List Vec2
writes tol w s = only_if (opens w s) w.start ++ body tol w s ++ only_if (adds w s) w.start

-- the points of all polylines, end to end
unfoldable pub written : Float → Spot → List Segment → List Vec2
written tol w [] = []
written tol w (s ∷ ss) = writes tol w s ++ written tol (after w s) ss

-- ---- where each polyline ends, n points standing before

abbrev pub stops : Spot → Segment → Bool
stops w s = is_move s && w.drawn

unfoldable pub endings : Float → ℕ → Spot → List Segment → List ℕ
endings tol n w [] = only_if w.drawn n
endings tol n w (s ∷ ss) = only_if (stops w s) n ++ endings tol (n + length (writes tol w s)) (after w s) ss

abbrev pub points_out : Float → List Segment → List Vec2
points_out tol ss = written tol nowhere ss

abbrev pub ends_out : Float → List Segment → List ℕ
ends_out tol ss = endings tol 0 nowhere ss

-- ---- the totals

abbrev pub one : Bool → ℕ
one true = 1
one false = 0

-- N of a curve, and 0 of what is none
abbrev pub curve_count : Float → Spot → Segment → ℕ
curve_count tol w s = cond (is_curve s) (places tol w s) 0

-- the sum of f over the segments
unfoldable pub total : (Spot → Segment → ℕ) → Spot → List Segment → ℕ
total f w [] = 0
total f w (s ∷ ss) = f w s + total f (after w s) ss

-- kept starts: subpaths with a drawn verb
unfoldable pub kept_starts : List Segment → ℕ
kept_starts ss = total (λ w s. one (opens w s)) nowhere ss

-- lines
unfoldable pub lines : List Segment → ℕ
lines ss = total (λ w s. one (is_line s)) nowhere ss

-- counts: the sum of all curves' N
unfoldable pub counts : Float → List Segment → ℕ
counts tol ss = total (curve_count tol) nowhere ss

-- added closings: the move's points that closes write
unfoldable pub added_closings : List Segment → ℕ
added_closings ss = total (λ w s. one (adds w s)) nowhere ss

-- W2, held: how many curves' counts were held back
unfoldable pub held_curves : Float → List Segment → ℕ
held_curves tol ss = total (λ w s. one (is_held tol w s)) nowhere ss

abbrev pub totals : Float → List Segment → Flattened
totals tol ss =
    record {
      points = length (points_out tol ss);
      polylines = length (ends_out tol ss);
      starts = kept_starts ss;
      lines = lines ss;
      counts = counts tol ss;
      closings = added_closings ss;
      held = held_curves tol ss;
    }

-- ---- the call

-- 1 for an output with an odd number of floats comes with the path's own 1; 3, for the points, the ends or the marks (W4), comes last
unfoldable pub check_outputs : List ℕ → List Float → Float → List Float → List ℕ → List ℕ → Result Unit Refusal
check_outputs vs fs tol out ends marks =
    let ss = segments vs fs in
    cond (eqb (length out % 2) 1) (Err OddFloats)
    (result_and (check vs fs)
    (cond (ltb (length out / 2) (length (points_out tol ss)) || (ltb (length ends) (length (ends_out tol ss)) || ltb (length marks) (length (marks_out ss)))) (Err OutputFull) (Ok tt)))

-- the entire reply and the three lent outputs
pub record Outcome : Type 0 where
  pub answer : Result Flattened Refusal
  pub floats : List Float
  pub ends : List ℕ
  pub marks : List ℕ

abbrev pub outcome : Result Flattened Refusal → List Float → List ℕ → List ℕ → Outcome
outcome a fs es ms = record { answer = a; floats = fs; ends = es; marks = ms }

-- written, unless the call is refused
abbrev pub replied : Result Unit Refusal → Float → List Segment → List Float → List ℕ → List ℕ → Outcome
replied (Ok u) tol ss out ends marks = outcome (Ok (totals tol ss)) (sets out 0 (flat (points_out tol ss))) (sets ends 0 (ends_out tol ss)) (sets marks 0 (marks_out ss))
replied (Err r) tol ss out ends marks = outcome (Err r) out ends marks

unfoldable pub flatten : List ℕ → List Float → Float → List Float → List ℕ → List ℕ → Outcome
flatten vs fs tol out ends marks = replied (check_outputs vs fs tol out ends marks) tol (segments vs fs) out ends marks

-- ---- a carried count

-- where there is no curve: 0 and false
abbrev pub no_count : SegmentCount
no_count = record { count = 0; held = false }

-- W2: N of a curve and whether it was held back; 0 and false of what is no curve
abbrev pub curve_answer : Float → Spot → Segment → SegmentCount
curve_answer tol w s = record { count = curve_count tol w s; held = is_held tol w s }

-- that of the segment at j
unfoldable pub count_at : Float → Spot → List Segment → ℕ → SegmentCount
count_at tol w [] j = no_count
count_at tol w (s ∷ ss) zero = curve_answer tol w s
count_at tol w (s ∷ ss) (suc j) = count_at tol (after w s) ss j

unfoldable pub carried_count : List ℕ → List Float → Float → ℕ → Result SegmentCount Refusal
carried_count vs fs tol j = result_and (check vs fs) (Ok (count_at tol nowhere (segments vs fs) j))

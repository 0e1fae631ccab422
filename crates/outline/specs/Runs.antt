-- Demand 3's dashing half, of the buffers that `dash_path` leaves: where it answers Cut, the filled part of the dash buffers is runs and nothing else, those of
-- the polylines that the scratch keeps with their marks (W4), none left out, in order; and the outline has the fill rule that was handed in and the number of the
-- path's curves that were held back (W2). Definitions only.
use Rattle.std.specs.Prelude.{◌≡◌, ◌*◌, false, List, length, take, Float}
use Rattle.vec2.specs.declared.Vec2.{Vec2}
use Rattle.vec2.specs.Points.{flat, points_in}
use Rattle.path.specs.declared.Segment.{Segment}
use Rattle.path.specs.declared.FillRule.{FillRule}
use Rattle.path.specs.Segment.{bytes_of, all_points}
use Rattle.polyline.specs.Flatten.{points_out, ends_out, held_curves}
use Rattle.polyline.specs.Subpaths.{marks_out}
use Rattle.polyline.specs.Polylines.{polylines}
use Rattle.pattern.specs.Cycle.{cycle_of, period}
use Rattle.events.specs.Phase.{start_of}
use Rattle.events.specs.Walk.{walk_polyline}
use Rattle.events.specs.Drawn.{drawn}
use Rattle.events.specs.Runs.{AllRuns}
use Rattle.outline.specs.declared.Outline.{Outline}
use Rattle.outline.specs.Answer.{cut_into}
use Rattle.outline.specs.Dash.{Outcome}

-- the walk of one polyline by a pattern and a phase
abbrev pub walk_of : List Float → Float → List Vec2 → List Segment
walk_of intervals phase p = let cs = cycle_of intervals in drawn false (walk_polyline cs (start_of cs phase (period intervals)) p)

-- of the path's segments, an outline o and the outcome b
pub record CutIntoRuns (path : List Segment) (intervals : List Float) (phase tolerance : Float) (rule : FillRule) (o : Outline) (b : Outcome) : Type 0 where
  pub segments : List Segment
  -- the whole answer is this outline's
  pub whole_reply : b.reply ≡ cut_into o
  -- the dash buffers' filled parts are the segments' bytes and points
  pub verbs : take o.verbs b.verbs ≡ bytes_of segments
  pub points : take (2 * o.points) b.floats ≡ flat (all_points segments)
  -- so many are filled: of verbs, points, points in the scratch and polylines
  pub all_verbs : o.verbs ≡ length segments
  pub every_point : o.points ≡ length (all_points segments)
  pub all_kept : o.scratch ≡ length (points_out tolerance path)
  pub all_ended : o.polylines ≡ length (ends_out tolerance path)
  -- the scratch keeps the path's polylines, and their marks (W4)
  pub kept : points_in (take (2 * o.scratch) b.scratch) ≡ points_out tolerance path
  pub ended : take o.polylines b.ends ≡ ends_out tolerance path
  pub marked : take o.polylines b.marks ≡ marks_out path
  pub runs : AllRuns (walk_of intervals phase) (polylines 0 (points_in (take (2 * o.scratch) b.scratch)) (take o.polylines b.ends)) segments
  -- W2: the answer says how many of the path's curves were held back, and so does the outline
  pub said : b.reply.held ≡ held_curves tolerance path
  pub held : o.held ≡ held_curves tolerance path
  pub same_rule : o.rule ≡ rule

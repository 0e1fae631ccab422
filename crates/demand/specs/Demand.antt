-- Demand 3, as one type: a claim about every list of builder calls from a fresh builder over lent buffers of any length and content, refused calls
-- included, about every tolerance, pattern and phase, and about outputs of any length and content. Code plays each such list: `Encodes`, in the room `replay`.
-- "Bit for bit" is `≡` of floats, which tells −0 from 0. All NaNs are one value in it, for the type of floats has one NaN: that copied coordinates keep their
-- payloads is not said here, but shown by a test through C, tests/c/payloads.c. Definitions only.
use Rattle.std.specs.Prelude.{◌≡◌, ℕ, ◌*◌, true, List, ◌∷◌, ◌++◌, length, take, Float, Ok}
use Rattle.std.proofs.Math.Option.{none, some}
use Rattle.vec2.specs.declared.Vec2.{Vec2}
use Rattle.vec2.specs.Points.{points_in}
use Rattle.path.specs.declared.FillRule.{FillRule}
use Rattle.path.specs.declared.Segment.{Segment}
use Rattle.path.specs.Segment.{is_curve, segments}
use Rattle.path.specs.Check.{check}
use Rattle.builder.specs.declared.Call.{Call}
use Rattle.builder.specs.Build.{Built, fresh_over, run}
use Rattle.builder.specs.Laid.{laid_by, path_verbs, path_floats}
use Rattle.polyline.specs.declared.Flattened.{Flattened}
use Rattle.polyline.specs.Flatten as flat
use Rattle.polyline.specs.Kept.{carried_answer, Kept}
use Rattle.polyline.specs.Polylines.{polylines, source}
use Rattle.outline.specs.declared.Outline.{Outline}
use Rattle.outline.specs.Dash as dash
use Rattle.outline.specs.Runs.{CutIntoRuns}

-- what the calls leave
abbrev pub built : List Call → List ℕ → List Float → Built
built cs bs fs = run (fresh_over bs fs) cs

-- what flattening that path answers, and leaves
abbrev pub flattening : List Call → List ℕ → List Float → Float → List Float → List ℕ → List ℕ → flat.Outcome
flattening cs bs fs tolerance out ends marks = flat.flatten (path_verbs (built cs bs fs)) (path_floats (built cs bs fs)) tolerance out ends marks

-- the filled parts of its outputs, by the totals t that it answers
abbrev pub points_left : Flattened → flat.Outcome → List Vec2
points_left t f = points_in (take (2 * t.points) f.floats)

abbrev pub ends_left : Flattened → flat.Outcome → List ℕ
ends_left t f = take t.polylines f.ends

abbrev pub marks_left : Flattened → flat.Outcome → List ℕ
marks_left t f = take t.polylines f.marks

-- what dashing that path answers, and leaves
abbrev pub dashing : List Call → List ℕ → List Float → FillRule → List Float → Float → Float → List Float → List ℕ → List ℕ → List ℕ → List Float → dash.Outcome
dashing cs bs fs rule intervals phase tolerance scratch ends marks verbs points =
    dash.dashing (path_verbs (built cs bs fs)) (path_floats (built cs bs fs)) rule intervals phase tolerance scratch ends marks verbs points

-- of one list of calls over one pair of buffers
pub record OfList (cs : List Call) (bs : List ℕ) (fs : List Float) : Type 0 where
  -- the path left is no damaged one, and it is the laid list
  pub sound : check (path_verbs (built cs bs fs)) (path_floats (built cs bs fs)) ≡ Ok tt
  pub path : segments (path_verbs (built cs bs fs)) (path_floats (built cs bs fs)) ≡ laid_by cs bs fs
  -- A flattening that isn't refused loses or shifts no end point of the laid list; its totals, W2's number of held curves among them, are counted on that list;
  -- and it has one polyline, with one mark (W4), for each subpath of that list with a drawn verb.
  pub flattens : (tolerance : Float) (out : List Float) (ends marks : List ℕ) (t : Flattened) →
      let f = flattening cs bs fs tolerance out ends marks in
      f.answer ≡ Ok t → Kept tolerance (laid_by cs bs fs) t (points_left t f) (ends_left t f) (marks_left t f)
  -- Its polylines are those of flatten.rs's own loop over the laid list, the rule of its close included.
  pub as_source : (tolerance : Float) (out : List Float) (ends marks : List ℕ) (t : Flattened) →
      let f = flattening cs bs fs tolerance out ends marks in
      f.answer ≡ Ok t → polylines 0 (points_left t f) (ends_left t f) ≡ source tolerance (laid_by cs bs fs)
  -- The N that a curve of the laid list is written with, and whether it was held back (W2), are what `carried_count` answers at its verb.
  pub carries : (tolerance : Float) (pre : List Segment) (s : Segment) (post : List Segment) →
      laid_by cs bs fs ≡ pre ++ s ∷ post → is_curve s ≡ true →
      flat.carried_count (path_verbs (built cs bs fs)) (path_floats (built cs bs fs)) tolerance (length pre) ≡ Ok (carried_answer tolerance pre s)
  -- Where dashing cuts that path, its output is the walk's of every polyline, none left out, and that is runs and nothing else. Its answer says how many curves
  -- of the laid list were held back (W2), and the scratch keeps the polylines' marks (W4).
  pub dashes : (rule : FillRule) (intervals : List Float) (phase tolerance : Float) (scratch : List Float) (ends marks verbs : List ℕ) (points : List Float) (o : Outline) →
      let d = dashing cs bs fs rule intervals phase tolerance scratch ends marks verbs points in
      d.reply.cut ≡ some o → CutIntoRuns (laid_by cs bs fs) intervals phase tolerance rule o d
  -- W2: where it doesn't cut that path, which is drawn whole or refused, its answer says that no curve was held back.
  pub uncut : (rule : FillRule) (intervals : List Float) (phase tolerance : Float) (scratch : List Float) (ends marks verbs : List ℕ) (points : List Float) →
      let d = dashing cs bs fs rule intervals phase tolerance scratch ends marks verbs points in
      d.reply.cut ≡ none → d.reply.held ≡ 0

abbrev pub Demand3 : Type 0
Demand3 = (cs : List Call) (bs : List ℕ) (fs : List Float) → OfList cs bs fs

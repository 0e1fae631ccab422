-- What `dash_path` answers, and what the five lent buffers then hold, as one outcome (`dash_path`, dash.rs; "Dash" and "Numbers" of the scope). Definitions only.
use Rattle.std.specs.Prelude.{◌≡◌, ℕ, ◌/◌, ◌%◌, Bool, true, false, cond, ◌&&◌, List, length, leb, ltb, eqb, Float, Result, Ok, Err}
use Rattle.std.specs.Result.{result_and}
use Rattle.std.proofs.lemmas.List.Edits.{sets}
use Rattle.vec2.specs.declared.Vec2.{Vec2}
use Rattle.vec2.specs.Points.{flat, points_in}
use Rattle.path.specs.declared.Segment.{Segment}
use Rattle.path.specs.declared.FillRule.{FillRule}
use Rattle.path.specs.Segment.{bytes_of, all_points, segments}
use Rattle.path.specs.declared.Refusal.{Refusal}
use Rattle.path.specs.declared.Refusal.TheVariants.{OddFloats, OutputFull, LongPattern}
use Rattle.path.specs.Check as path
use Rattle.path.specs.Check.{max_verbs, max_points}
use Rattle.polyline.specs.Flatten.{points_out, ends_out, held_curves}
use Rattle.polyline.specs.Subpaths.{marks_out}
use Rattle.polyline.specs.Polylines.{polylines}
use Rattle.pattern.specs.Cycle.{max_intervals, cycle_of, period, cuts}
use Rattle.events.specs.declared.Pos.{Pos}
use Rattle.events.specs.Phase.{start_of}
use Rattle.events.specs.Walk.{walk_all}
use Rattle.outline.specs.declared.Outline.{Outline}
use Rattle.outline.specs.Answer.{Answer, refused_by, drawn_whole, cut_into}

-- ---- the refusals before any work

abbrev pub even : ℕ → Bool
even n = eqb (n % 2) 0

-- 1, then the path's 4, 5, 6, then 8. The last two are the lengths of the scratch and of the dash buffer of floats
abbrev pub check : List ℕ → List Float → List Float → ℕ → ℕ → Result Unit Refusal
check vs fs intervals scratch floats =
    cond (even (length fs) && (even scratch && even floats))
    (result_and (path.check vs fs) (cond (ltb max_intervals (length intervals)) (Err LongPattern) (Ok tt)))
    (Err OddFloats)

-- ---- what is drawn

-- the dashes of polylines, points ps that end at es: each is walked by the working cycle, from the same start
abbrev pub walked : List Float → Pos → List Vec2 → List ℕ → List Segment
walked cycle start ps es = walk_all cycle start (polylines 0 ps es)

-- by a pattern and a phase
abbrev pub dashes : List Float → Float → List Vec2 → List ℕ → List Segment
dashes intervals phase ps es = let cycle = cycle_of intervals in walked cycle (start_of cycle phase (period intervals)) ps es

-- 3: the scratch takes the points, the ends and the marks (W4)
abbrev pub scratch_fits : List Vec2 → List ℕ → List ℕ → List Float → List ℕ → List ℕ → Bool
scratch_fits ps es ms scratch ends marks = leb (length ps) (length scratch / 2) && (leb (length es) (length ends) && leb (length ms) (length marks))

-- 3: so many verbs and points fit dash buffers of so many verbs and floats, up to the path limits
abbrev pub fits_both : ℕ → ℕ → ℕ → ℕ → Bool
fits_both v p verbs floats = leb v verbs && (leb v max_verbs && (leb p (floats / 2) && leb p max_points))

-- verbs of one point each fit exactly where they are no more than r
abbrev pub Cap : ℕ → ℕ → ℕ → Type 0
Cap verbs floats r = (n : ℕ) → fits_both n n verbs floats ≡ leb n r

abbrev pub out_fits : List Segment → List ℕ → List Float → Bool
out_fits ss verbs floats = fits_both (length ss) (length (all_points ss)) (length verbs) (length floats)

-- ---- the reply and the dash buffers, once the scratch keeps n points in k polylines of a path with `held` curves held back

pub record CutOutcome : Type 0 where
  pub reply : Answer
  pub verbs : List ℕ
  pub floats : List Float

abbrev pub cut_outcome : Answer → List ℕ → List Float → CutOutcome
cut_outcome a vs fs = record { reply = a; verbs = vs; floats = fs }

abbrev pub outline_for : List Segment → ℕ → ℕ → ℕ → FillRule → Outline
outline_for ss n k held rule = record { verbs = length ss; points = length (all_points ss); scratch = n; polylines = k; held = held; rule = rule }

-- laid where the dash buffers take them, else 3
abbrev pub out_if : Bool → List Segment → ℕ → ℕ → ℕ → FillRule → List ℕ → List Float → CutOutcome
out_if true ss n k held rule vs fs = cut_outcome (cut_into (outline_for ss n k held rule)) (sets vs 0 (bytes_of ss)) (sets fs 0 (flat (all_points ss)))
out_if false ss n k held rule vs fs = cut_outcome (refused_by OutputFull) vs fs

abbrev pub out_outcome : List Segment → ℕ → ℕ → ℕ → FillRule → List ℕ → List Float → CutOutcome
out_outcome ss n k held rule vs fs = out_if (out_fits ss vs fs) ss n k held rule vs fs

-- the same of the scratch: flat points and their ends, walked by a cycle from a start in it
abbrev pub scratch_outcome : List Float → Pos → List Float → List ℕ → ℕ → FillRule → List ℕ → List Float → CutOutcome
scratch_outcome cycle start scratch ends held rule vs fs =
    out_outcome (walked cycle start (points_in scratch) ends) (length scratch / 2) (length ends) held rule vs fs

-- ---- the reply and all five buffers

pub record Outcome : Type 0 where
  pub reply : Answer
  pub scratch : List Float
  pub ends : List ℕ
  pub marks : List ℕ
  pub verbs : List ℕ
  pub floats : List Float

abbrev pub outcome : Answer → List Float → List ℕ → List ℕ → List ℕ → List Float → Outcome
outcome a s e m vs fs = record { reply = a; scratch = s; ends = e; marks = m; verbs = vs; floats = fs }

abbrev pub keeping : List Float → List ℕ → List ℕ → CutOutcome → Outcome
keeping s e m o = outcome o.reply s e m o.verbs o.floats

-- the scratch keeps the polylines, and their marks (W4), where it takes them, else 3
abbrev pub kept_if : Bool → List Vec2 → List ℕ → List ℕ → List Segment → ℕ → FillRule → List Float → List ℕ → List ℕ → List ℕ → List Float → Outcome
kept_if true ps es ms ss held rule scratch ends marks vs fs =
    keeping (sets scratch 0 (flat ps)) (sets ends 0 es) (sets marks 0 ms) (out_outcome ss (length ps) (length es) held rule vs fs)
kept_if false ps es ms ss held rule scratch ends marks vs fs = outcome (refused_by OutputFull) scratch ends marks vs fs

-- Cut: the path is flattened into the scratch, and each polyline walked; 3 for the scratch comes before 3 for the dash buffers
abbrev pub cutting : List ℕ → List Float → FillRule → List Float → Float → Float → List Float → List ℕ → List ℕ → List ℕ → List Float → Outcome
cutting verbs points rule intervals phase tolerance scratch ends marks vs fs =
    let path = segments verbs points in
    let ps = points_out tolerance path in
    let es = ends_out tolerance path in
    let ms = marks_out path in
    kept_if (scratch_fits ps es ms scratch ends marks) ps es ms (dashes intervals phase ps es) (held_curves tolerance path) rule scratch ends marks vs fs

-- the refusals; then Whole is decided, and touches no buffer
abbrev pub dashed_by : Result Unit Refusal → Bool → Outcome → List Float → List ℕ → List ℕ → List ℕ → List Float → Outcome
dashed_by (Err r) cut o scratch ends marks vs fs = outcome (refused_by r) scratch ends marks vs fs
dashed_by (Ok u) false o scratch ends marks vs fs = outcome drawn_whole scratch ends marks vs fs
dashed_by (Ok u) true o scratch ends marks vs fs = o

abbrev pub dashing : List ℕ → List Float → FillRule → List Float → Float → Float → List Float → List ℕ → List ℕ → List ℕ → List Float → Outcome
dashing verbs points rule intervals phase tolerance scratch ends marks vs fs =
    dashed_by (check verbs points intervals (length scratch) (length fs)) (cuts intervals phase tolerance)
    (cutting verbs points rule intervals phase tolerance scratch ends marks vs fs) scratch ends marks vs fs

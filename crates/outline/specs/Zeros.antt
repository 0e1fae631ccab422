-- Zeros and corners in a pattern (W6): what holds of every pattern, and where the source still decides. Definitions only.
use Rattle.std.specs.Prelude.{◌≡◌, Bool, true, false, not, ◌&&◌, List, [], ℕ, ◌<◌, length, Float}
use Rattle.vec2.specs.declared.Vec2.{Vec2}
use Rattle.path.specs.declared.Segment.{Segment}
use Rattle.polyline.specs.Polylines.{polylines}
use Rattle.pattern.specs.Cycle.{some, cycle_of, period, AllZero, cuts}
use Rattle.events.specs.declared.Pos.{Pos}
use Rattle.events.specs.Zeros.{after, zero_at, first_above, next, BehindZeros, gaps_only}
use Rattle.events.specs.Laws.{EndsThere}
use Rattle.events.specs.Phase.{start_of}
use Rattle.events.specs.Source.{start_of as sourceStartOf, walk_polyline as sourceWalkPolyline, drawn as sourceDrawn, walk_all as sourceWalkAll, no_zero, meets, any_meets}
use Rattle.outline.specs.Dash.{dashes}
use Rattle.outline.specs.Runs.{walk_of}

abbrev pub source_start : List Float → Float → Pos
source_start intervals phase = sourceStartOf (cycle_of intervals) phase (period intervals)

-- the source's walk of one polyline
abbrev pub source_walk_of : List Float → Float → List Vec2 → List Segment
source_walk_of intervals phase p = sourceDrawn false (sourceWalkPolyline (cycle_of intervals) (source_start intervals phase) p)

-- there are intervals, none of them is 0, and in the source's walk no walked segment begins with exactly nothing left
abbrev pub source_decides_walk : List Float → Float → List Vec2 → Bool
source_decides_walk intervals phase p = (some intervals && no_zero intervals) && not (meets (cycle_of intervals) (source_start intervals phase) p)

-- the same of the dashes, by points ps that end at es
abbrev pub source_dashes : List Float → Float → List Vec2 → List ℕ → List Segment
source_dashes intervals phase ps es = sourceWalkAll (cycle_of intervals) (source_start intervals phase) (polylines 0 ps es)

abbrev pub source_decides : List Float → Float → List Vec2 → List ℕ → Bool
source_decides intervals phase ps es = (some intervals && no_zero intervals) && not (any_meets (cycle_of intervals) (source_start intervals phase) (polylines 0 ps es))

pub record ZerosAndCorners (intervals : List Float) (phase : Float) : Type 0 where
  -- a pattern of zeros alone, 0 or −0, gives Whole, whatever the tolerance
  pub zeros_alone : AllZero intervals → (tolerance : Float) → cuts intervals phase tolerance ≡ false
  -- only zeros are passed over, from the first interval on, and behind any other
  pub first_behind : BehindZeros (cycle_of intervals) 0 (first_above (cycle_of intervals) 0)
  pub next_behind : (i : ℕ) → BehindZeros (cycle_of intervals) (after (cycle_of intervals) i) (next (cycle_of intervals) i)
  -- and no zero is left: where one interval is not 0, the walk begins in none that is 0 and turns to none
  pub start_above : (k : ℕ) → k < length (cycle_of intervals) → zero_at (cycle_of intervals) k ≡ false → zero_at (cycle_of intervals) (start_of (cycle_of intervals) phase (period intervals)).index ≡ false
  pub next_above_lem : (k : ℕ) → k < length (cycle_of intervals) → zero_at (cycle_of intervals) k ≡ false → (i : ℕ) → zero_at (cycle_of intervals) (next (cycle_of intervals) i) ≡ false
  -- an interval with exactly nothing left ends where the next walked segment begins, and one that ends leaves the pen up
  pub ends : EndsThere (cycle_of intervals)
  -- no drawn interval is above 0: nothing is drawn, whatever is walked
  pub no_dash : gaps_only (cycle_of intervals) ≡ true → (ps : List Vec2) (es : List ℕ) → dashes intervals phase ps es ≡ []
  -- where the source decides, a walk and the dashes are its own
  pub walk_as_source : (p : List Vec2) → source_decides_walk intervals phase p ≡ true → walk_of intervals phase p ≡ source_walk_of intervals phase p
  pub as_source : (ps : List Vec2) (es : List ℕ) → source_decides intervals phase ps es ≡ true → dashes intervals phase ps es ≡ source_dashes intervals phase ps es

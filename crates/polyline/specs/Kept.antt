-- Demand 3's flattening half over a list of segments: where the end of each line and curve stands, the totals, and each polyline's mark (W4). Definitions only.
use Rattle.std.specs.Prelude.{◌≡◌, ℕ, suc, ◌+◌, ◌≤◌, ◌<◌, true, false, List, ◌∷◌, ◌++◌, map, length, get_or, take, Float}
use Rattle.vec2.specs.declared.Vec2.{Vec2}
use Rattle.vec2.specs.Vec2.{origin}
use Rattle.path.specs.declared.Segment.{Segment}
use Rattle.path.specs.declared.Segment.TheVariants.{Move, Line, Quad, Cubic, Close}
use Rattle.path.specs.Segment.{is_drawn, is_curve, end_of}
use Rattle.float.specs.declared.SegmentCount.{SegmentCount}
use Rattle.float.specs.Count.{Counted, HeldFor}
use Rattle.curve.specs.Count.{quad_s, cubic_s}
use Rattle.polyline.specs.declared.Spot.{Spot}
use Rattle.polyline.specs.declared.Flattened.{Flattened}
use Rattle.polyline.specs.Subpaths.{subpaths, with_drawn, mark_of}
use Rattle.polyline.specs.Flatten.{nowhere, spot, places, opens, only_if, written, points_out, ends_out, kept_starts, lines, counts, added_closings, is_held, held_curves, count_at}
use Rattle.polyline.specs.Polylines as poly
use Rattle.polyline.specs.Polylines.{Rising}

-- ---- N

-- 1 for a line, else the carried count, of which `Counted` says what demand 3 does
abbrev pub Carries : Float → Spot → Segment → ℕ → Type 0
Carries tol w (Move p) n = ⊥
Carries tol w (Line p) n = n ≡ 1
Carries tol w (Quad c p) n = Counted (quad_s tol w.pen c p) n
Carries tol w (Cubic c d p) n = Counted (cubic_s tol w.pen c d p) n
Carries tol w Close n = ⊥

-- ---- one line or curve: s, with `pre` laid before it

-- the points that stand written when s begins: those of what was laid before, and the start of the subpath if s is its first drawn verb
abbrev pub before : Float → List Segment → Segment → List Vec2
before tol pre s = written tol nowhere pre ++ only_if (opens (spot nowhere pre) s) (spot nowhere pre).start

abbrev pub carried : Float → List Segment → Segment → ℕ
carried tol pre s = places tol (spot nowhere pre) s

-- W2: the carried count, with whether it was held back
abbrev pub carried_answer : Float → List Segment → Segment → SegmentCount
carried_answer tol pre s = record { count = carried tol pre s; held = is_held tol (spot nowhere pre) s }

-- W2: a curve was held back exactly where 1,000² < s (`HeldFor`), and nothing else ever is
abbrev pub HeldAt : Float → Spot → Segment → SegmentCount → Type 0
HeldAt tol w (Move p) a = a.held ≡ false
HeldAt tol w (Line p) a = a.held ≡ false
HeldAt tol w (Quad c p) a = HeldFor (quad_s tol w.pen c p) a.count a.held
HeldAt tol w (Cubic c d p) a = HeldFor (cubic_s tol w.pen c d p) a.count a.held
HeldAt tol w Close a = a.held ≡ false

pub record Stands (tol : Float) (pre : List Segment) (s : Segment) (pts : List Vec2) : Type 0 where
  -- the place of the point written last before s
  pub last : ℕ
  pub is_last : suc last ≡ length (before tol pre s)
  pub prefix : take (suc last) pts ≡ before tol pre s
  -- N, and the end of s N places after that point
  pub count : Carries tol (spot nowhere pre) s (carried tol pre s)
  pub inside : last + carried tol pre s < length pts
  pub end : get_or pts (last + carried tol pre s) origin ≡ end_of s

-- ---- the whole list

pub record Kept (tol : Float) (ss : List Segment) (t : Flattened) (pts : List Vec2) (ends ms : List ℕ) : Type 0 where
  -- every line and curve stands
  pub stand : (pre : List Segment) (s : Segment) (post : List Segment) → ss ≡ pre ++ s ∷ post → is_drawn s ≡ true → Stands tol pre s pts
  -- the N that is asked for at a curve's verb is the one that it is written with, and whether it was held back (W2) is said with it
  pub asked : (pre : List Segment) (s : Segment) (post : List Segment) → ss ≡ pre ++ s ∷ post → is_curve s ≡ true →
      count_at tol nowhere ss (length pre) ≡ carried_answer tol pre s
  -- W2: of all that is laid, just the curves with 1,000² < s were held back
  pub exact : (pre : List Segment) (s : Segment) (post : List Segment) → ss ≡ pre ++ s ∷ post →
      HeldAt tol (spot nowhere pre) s (carried_answer tol pre s)
  -- in order: a later one begins no earlier than an earlier one ends
  pub order : (pre : List Segment) (s : Segment) (mid : List Segment) (u : Segment) (post : List Segment) → ss ≡ pre ++ s ∷ (mid ++ u ∷ post) →
      is_drawn s ≡ true → is_drawn u ≡ true → length (before tol pre s) + carried tol pre s ≤ length (before tol (pre ++ s ∷ mid) u)
  -- the totals are those of the list, and the sum holds
  pub all : t.points ≡ length pts
  pub polylines : t.polylines ≡ t.starts
  pub starts : t.starts ≡ kept_starts ss
  pub lines : t.lines ≡ lines ss
  pub counts : t.counts ≡ counts tol ss
  pub closings : t.closings ≡ added_closings ss
  pub sum : t.points ≡ t.starts + t.lines + t.counts + t.closings
  -- W2: and so is the number of curves that were held back
  pub held : t.held ≡ held_curves tol ss
  -- points and polylines are those of Flatten, nothing else
  pub points : pts ≡ points_out tol ss
  pub polys : ends ≡ ends_out tol ss
  -- and there are as many polylines as ends
  pub ended : t.polylines ≡ length ends
  -- W4: one polyline for each subpath with a drawn verb, its flattening, and no other; one mark for each, by that subpath's last verb
  pub each : poly.polylines 0 pts ends ≡ map (points_out tol) (with_drawn (subpaths ss))
  pub marks : ms ≡ map mark_of (with_drawn (subpaths ss))
  -- and the ends rise strictly, from above 0 to the number of points
  pub rise : Rising 0 ends (length pts)

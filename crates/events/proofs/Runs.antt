-- What the events of any legs draw is runs and nothing else; and the legs that a walk tells of are the walked legs. Assumes nothing.
use mathlib.Core.Bool.{Bool, true, false}
use mathlib.Core.List.{List, [], ◌∷◌, ◌++◌}
use lib.Ieee.{Float}
use Rattle.float.specs.Arith.{f0, plus}
use Rattle.vec2.specs.declared.Vec2.{Vec2}
use Rattle.path.specs.declared.Segment.{Segment}
use Rattle.path.specs.declared.Segment.TheVariants.{Move, Line}
use Rattle.events.specs.declared.Pos.{Pos}
use Rattle.events.specs.declared.Leg.{Leg}
use Rattle.events.specs.declared.Event.{Event}
use Rattle.events.specs.declared.Event.TheVariants.{Nothing, Cut, Reach, Pass}
use Rattle.events.specs.declared.Place.{Place}
use Rattle.events.specs.Walk.{point_on, nothing_left, turned, inside, resting, place, goes, onward, tells, cut_from, beginning_at, cut_leg, passed, is_walked, leg_of, walk_from, walk_polyline, walk_all}
use Rattle.events.specs.Drawn.{drawn}
use Rattle.events.specs.Runs.{leg_if, legs_from, legs, to_corners, Runs, none, ends, cuts, AllRuns, more}
use Rattle.events.proofs.Loops.{traced_ind}

-- ---- the events of legs

-- of one leg: dashes that end on it, and gaps; then its corner
data Along (g : Leg) : List Event → Type 0 where
  reached : (a : Vec2) → Along g (Reach a g.to ∷ [])
  passed_by : Along g (Pass g.to ∷ [])
  nothing : {es : List Event} → Along g es → Along g (Nothing ∷ es)
  cut : (a : Vec2) (t : Float) {es : List Event} → Along g es → Along g (Cut a (point_on g t) ∷ es)

-- of some legs, one behind the other, the first of which may have begun
data Of : List Leg → List Event → Type 0 where
  over : Of [] []
  then_reached : (g : Leg) (a : Vec2) {gs : List Leg} {es : List Event} → Of gs es → Of (g ∷ gs) (Reach a g.to ∷ es)
  then_passed : (g : Leg) {gs : List Leg} {es : List Event} → Of gs es → Of (g ∷ gs) (Pass g.to ∷ es)
  then_nothing : {gs : List Leg} {es : List Event} → Of gs es → Of gs (Nothing ∷ es)
  then_cut : (g : Leg) (a : Vec2) (t : Float) {gs : List Leg} {es : List Event} → Of (g ∷ gs) es → Of (g ∷ gs) (Cut a (point_on g t) ∷ es)

one_more : {g : Leg} {es : List Event} → Along g es → {gs : List Leg} {fs : List Event} → Of gs fs → Of (g ∷ gs) (es ++ fs)
one_more {g = g} (reached a) o = then_reached g a o
one_more {g = g} passed_by o = then_passed g o
one_more (nothing l) o = then_nothing (one_more l o)
one_more {g = g} (cut a t l) o = then_cut g a t (one_more l o)

-- ---- what they draw

-- one more leg in front is skipped
wider : (g : Leg) {gs : List Leg} {ss : List Segment} → Runs gs ss → Runs (g ∷ gs) ss
wider g (none skipped) = none (g ∷ skipped)
wider g (ends skipped through h rest a ss r) = ends (g ∷ skipped) through h rest a ss r
wider g (cuts skipped through h rest a t ss r) = cuts (g ∷ skipped) through h rest a t ss r

-- how a run goes on whose latest line ends on a corner: that line was its last, or lines to further corners and a last one follow
data Goes : List Leg → List Segment → Type 0 where
  stops : {gs : List Leg} {ss : List Segment} → Runs gs ss → Goes gs ss
  on_end : (through : List Leg) (g : Leg) (rest : List Leg) (ss : List Segment) → Runs rest ss → Goes (through ++ g ∷ rest) (to_corners through ++ Line g.to ∷ ss)
  on_cut : (through : List Leg) (g : Leg) (rest : List Leg) (t : Float) (ss : List Segment) → Runs (g ∷ rest) ss →
      Goes (through ++ g ∷ rest) (to_corners through ++ Line (point_on g t) ∷ ss)

begin : (a : Vec2) (g : Leg) {gs : List Leg} {ss : List Segment} → Goes gs ss → Runs (g ∷ gs) (Move a ∷ Line g.to ∷ ss)
begin a g (stops {gs = gs} {ss = ss} r) = ends [] [] g gs a ss r
begin a g (on_end through h rest ss r) = ends [] (g ∷ through) h rest a ss r
begin a g (on_cut through h rest t ss r) = cuts [] (g ∷ through) h rest a t ss r

further : (g : Leg) {gs : List Leg} {ss : List Segment} → Goes gs ss → Goes (g ∷ gs) (Line g.to ∷ ss)
further g (stops {gs = gs} {ss = ss} r) = on_end [] g gs ss r
further g (on_end through h rest ss r) = on_end (g ∷ through) h rest ss r
further g (on_cut through h rest t ss r) = on_cut (g ∷ through) h rest t ss r

-- with the pen up, and down
draws : {gs : List Leg} {es : List Event} → Of gs es → Runs gs (drawn false es) × Goes gs (drawn true es)
draws over = (none [], stops (none []))
draws (then_reached g a o) = let d = draws o in (begin a g d.1, further g d.1)
draws (then_passed g o) = let d = draws o in (wider g d.0, stops (wider g d.0))
draws (then_nothing o) = let d = draws o in (d.0, stops d.0)
draws (then_cut g a t {gs = gs} {es = es} o) = let d = draws o in (cuts [] [] g gs a t (drawn false es) d.0, on_cut [] g gs t (drawn false es) d.0)

-- ---- the legs that a walk tells of

module _ (cs : List Float) (g : Leg) where
  -- a turn of the walk, before what it tells later
  turn_along : (p : Pos) (t : Float) {es : List Event} → Along g es → Along g (inside g p t ∷ es)
  turn_along p t {es = es} l = go p.drawing
    where
      go : (d : Bool) → Along g (inside g (record { index = p.index; left = p.left; drawing = d }) t ∷ es)
      go true = cut _ t l
      go false = nothing l

  rest_along : (p : Pos) (t : Float) → Along g (resting g p t ∷ [])
  rest_along p t = go p.drawing
    where
      go : (d : Bool) → Along g (resting g (record { index = p.index; left = p.left; drawing = d }) t ∷ [])
      go true = reached _
      go false = passed_by

  leg_along : (s : Place) → Along g (cut_from cs g s).events
  unfolding cut_from
  leg_along s =
      traced_ind (goes cs g) (onward cs g) (tells cs g) (λ z q. Along g (q.told ++ (resting g q.end.pos q.end.t ∷ [])))
      (λ z. rest_along z.pos z.t) (λ z q h. turn_along z.pos (plus z.t z.pos.left) h) s

begins_along : {g : Leg} (a : Vec2) {es : List Event} → Along g es → Along g (beginning_at a es)
begins_along a (reached b) = reached a
begins_along a passed_by = passed_by
begins_along a (nothing l) = nothing l
begins_along a (cut b t l) = cut a t l

cut_along : (b : Bool) (cs : List Float) (g : Leg) (p : Pos) → Along g (cut_leg b cs g p).events
cut_along true cs g p = nothing (begins_along g.from (leg_along cs g (place (turned cs p) f0)))
cut_along false cs g p = leg_along cs g (place p f0)

walk_of : (cs : List Float) (a : Vec2) (ps : List Vec2) (p : Pos) → Of (legs_from a ps) (walk_from cs a ps p)
unfolding walk_from legs_from
walk_of cs a [] p = over
walk_of cs a (b ∷ ps) p = go (is_walked (leg_of a b)) (λ q. walk_of cs b ps q)
  where
    go : (w : Bool) → ((q : Pos) → Of (legs_from b ps) (walk_from cs b ps q)) →
        let c = passed w cs (leg_of a b) p in Of (leg_if w (leg_of a b) ++ legs_from b ps) (c.events ++ walk_from cs b ps c.pos)
    go true o = one_more (cut_along (nothing_left p) cs (leg_of a b) p) (o (cut_leg (nothing_left p) cs (leg_of a b) p).pos)
    go false o = o p

polyline_of : (cs : List Float) (start : Pos) (ps : List Vec2) → Of (legs ps) (walk_polyline cs start ps)
polyline_of cs start [] = over
polyline_of cs start (a ∷ ps) = walk_of cs a ps start

-- ---- the walk of each polyline is runs

pub walk_runs : (cs : List Float) (start : Pos) (ps : List Vec2) → Runs (legs ps) (drawn false (walk_polyline cs start ps))
walk_runs cs start ps = (draws (polyline_of cs start ps)).0

pub all_runs : (cs : List Float) (start : Pos) (ps : List (List Vec2)) → AllRuns (λ p. drawn false (walk_polyline cs start p)) ps (walk_all cs start ps)
all_runs cs start [] = AllRuns.none
all_runs cs start (p ∷ ps) = more p ps (walk_all cs start ps) (walk_runs cs start p) (all_runs cs start ps)

-- The walk of a polyline by a dash cycle, as events: that of `walk`, dash.rs, but that intervals of 0 are passed over, and that an interval with exactly
-- nothing left at a corner, or at the walk's start, ends there (W6). Each position is one rounded f32 operation after the other, in the source's order.
-- Definitions only.
use Rattle.std.specs.Prelude.{ℕ, ◌%◌, Bool, true, false, not, ◌&&◌, cond, List, [], ◌∷◌, ◌++◌, get_or, eqb, Float}
use Rattle.std.specs.Float.{nan}
use Rattle.std.specs.Float.Ieee.{lt, le, eq}
use Rattle.float.specs.Arith.{plus, minus, over, f0}
use Rattle.float.specs.Small.{is_finite}
use Rattle.vec2.specs.declared.Vec2.{Vec2}
use Rattle.vec2.specs.Vec2.{◌⊕◌, ◌⊖◌, ◌⊙◌, len}
use Rattle.path.specs.declared.Segment.{Segment}
use Rattle.events.specs.declared.Pos.{Pos}
use Rattle.events.specs.declared.Leg.{Leg}
use Rattle.events.specs.declared.Place.{Place}
use Rattle.events.specs.declared.Event.{Event}
use Rattle.events.specs.declared.Event.TheVariants.{Nothing, Cut, Reach, Pass}
use Rattle.events.specs.Loop.{Trace, traced}
use Rattle.events.specs.Zeros.{next}
use Rattle.events.specs.Drawn.{drawn}

-- ---- one turn

-- from + way * (t / length)
abbrev pub point_on : Leg → Float → Vec2
point_on g t = g.from ⊕ g.way ⊙ over t g.length

-- all of the interval at i is left; those of even number are drawn
abbrev pub entered : List Float → ℕ → Pos
entered cs i = record { index = i; left = get_or cs i nan; drawing = eqb (i % 2) 0 }

-- exactly nothing is left of the interval (W6)
abbrev pub nothing_left : Pos → Bool
nothing_left p = eq p.left f0

-- the next interval that is not passed over (W6)
abbrev pub turned : List Float → Pos → Pos
turned cs p = entered cs (next cs p.index)

-- the interval ends inside the leg, at t
abbrev pub inside : Leg → Pos → Float → Event
inside g p t = cond p.drawing (Cut (point_on g (minus t p.left)) (point_on g t)) Nothing

-- the rest of the leg, from t on, lies inside the interval
abbrev pub resting : Leg → Pos → Float → Event
resting g p t = cond p.drawing (Reach (point_on g t) g.to) (Pass g.to)

abbrev pub rested : Leg → Pos → Float → Pos
rested g p t = record { index = p.index; left = minus p.left (minus g.length t); drawing = p.drawing }

-- ---- a leg

-- what a leg's walk tells, and where in the cycle it ends
pub record Told : Type 0 where
  pub events : List Event
  pub pos : Pos

module _ (cs : List Float) (g : Leg) where
  -- the interval ends inside the leg, and the position grows to its end
  abbrev pub goes : Place → Bool
  goes s = lt s.pos.left (minus g.length s.t) && not (le (plus s.t s.pos.left) s.t)

  abbrev pub onward : Place → Place
  onward s = record { pos = turned cs s.pos; t = plus s.t s.pos.left }

  abbrev pub tells : Place → Event
  tells s = inside g s.pos (plus s.t s.pos.left)

  abbrev pub finish : Trace Event Place → Told
  finish r = record { events = r.told ++ (resting g r.end.pos r.end.t ∷ []); pos = rested g r.end.pos r.end.t }

  unfoldable pub cut_from : Place → Told
  cut_from s = finish (traced goes onward tells s)

abbrev pub place : Pos → Float → Place
place p t = record { pos = p; t = t }

-- behind an interval that ended where the leg begins, a dash begins at the leg's first point, copied (W6)
abbrev pub beginning_at : Vec2 → List Event → List Event
beginning_at a [] = []
beginning_at a (Nothing ∷ es) = Nothing ∷ es
beginning_at a (Cut b z ∷ es) = Cut a z ∷ es
beginning_at a (Reach b c ∷ es) = Reach a c ∷ es
beginning_at a (Pass c ∷ es) = Pass c ∷ es

-- the Bool says whether exactly nothing is left of the interval: then it ended where the leg begins, and the next one begins with the leg (W6)
abbrev pub cut_leg : Bool → List Float → Leg → Pos → Told
cut_leg false cs g p = cut_from cs g (place p f0)
cut_leg true cs g p =
    let c = cut_from cs g (place (turned cs p) f0) in
    record { events = Nothing ∷ beginning_at g.from c.events; pos = c.pos }

-- ---- a polyline

abbrev pub leg_of : Vec2 → Vec2 → Leg
leg_of a b = record { from = a; way = b ⊖ a; to = b; length = len (b ⊖ a) }

-- a leg is walked where its length is finite and above 0
abbrev pub is_walked : Leg → Bool
is_walked g = is_finite g.length && not (le g.length f0)

abbrev pub passed : Bool → List Float → Leg → Pos → Told
passed true cs g p = cut_leg (nothing_left p) cs g p
passed false cs g p = record { events = []; pos = p }

unfoldable pub walk_from : List Float → Vec2 → List Vec2 → Pos → List Event
walk_from cs a [] p = []
walk_from cs a (b ∷ ps) p =
    let g = leg_of a b in
    let c = passed (is_walked g) cs g p in
    c.events ++ walk_from cs b ps c.pos

abbrev pub walk_polyline : List Float → Pos → List Vec2 → List Event
walk_polyline cs start [] = []
walk_polyline cs start (a ∷ ps) = walk_from cs a ps start

-- ---- all polylines

-- the phase starts anew at each, with the pen up
abbrev pub walk_all : List Float → Pos → List (List Vec2) → List Segment
walk_all cs start [] = []
walk_all cs start (p ∷ ps) = drawn false (walk_polyline cs start p) ++ walk_all cs start ps

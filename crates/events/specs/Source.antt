-- The source's walk as it stands (`walk`, dash.rs), where W6 parts from it: what is not said here anew is said once for both. It still decides where no
-- interval is 0 and no walked segment begins with exactly nothing left. Definitions only.
use Rattle.std.specs.Prelude.{ℕ, Bool, true, false, not, ◌&&◌, ◌||◌, cond, List, [], ◌∷◌, ◌++◌, get_or, Float}
use Rattle.std.specs.Float.{nan}
use Rattle.float.specs.Arith.{plus, minus, f0}
use Rattle.float.specs.Small.{rem_euclid}
use Rattle.vec2.specs.declared.Vec2.{Vec2}
use Rattle.path.specs.declared.Segment.{Segment}
use Rattle.events.specs.declared.Pos.{Pos}
use Rattle.events.specs.declared.Leg.{Leg}
use Rattle.events.specs.declared.Event.{Event}
use Rattle.events.specs.declared.Event.TheVariants.{Nothing, Cut, Reach, Pass}
use Rattle.events.specs.Loop.{traced}
use Rattle.events.specs.Zeros.{after, is_zero}
use Rattle.events.specs.Drawn.{down_to}
use Rattle.events.specs.Phase.{Phase, phase_goes, started}
use Rattle.events.specs.declared.Place.{Place}
use Rattle.events.specs.Walk.{place, Told, nothing_left, goes, tells, finish, leg_of, is_walked}

-- ---- the phase

abbrev pub phase_next : List Float → Phase → Phase
phase_next cs s = record { index = after cs s.index; remaining = minus s.remaining (get_or cs s.index nan) }

abbrev pub phase_from : List Float → Phase → Phase
phase_from cs s = (traced (phase_goes cs) (phase_next cs) (λ z. z.index) s).end

abbrev pub start_of : List Float → Float → Float → Pos
start_of cs phase period = started cs (phase_from cs (record { index = 0; remaining = rem_euclid phase period }))

-- ---- a leg

abbrev pub entered : List Float → ℕ → Bool → Pos
entered cs i d = record { index = i; left = get_or cs i nan; drawing = d }

-- the next interval is taken, and the one after it where that is 0
abbrev pub turned : List Float → Pos → Pos
turned cs p =
    let i = after cs p.index in
    cond (is_zero (get_or cs i nan)) (entered cs (after cs i) p.drawing) (entered cs i (not p.drawing))

module _ (cs : List Float) (g : Leg) where
  abbrev pub onward : Place → Place
  onward s = record { pos = turned cs s.pos; t = plus s.t s.pos.left }

  unfoldable pub cut_from : Place → Told
  cut_from s = finish cs g (traced (goes cs g) onward (tells cs g) s)

-- ---- a polyline

-- the source asks nothing where a leg begins: an interval with nothing left goes on there
abbrev pub passed : Bool → List Float → Leg → Pos → Told
passed true cs g p = cut_from cs g (place p f0)
passed false cs g p = record { events = []; pos = p }

unfoldable pub walk_from : List Float → Vec2 → List Vec2 → Pos → List Event
walk_from cs a [] p = []
walk_from cs a (b ∷ ps) p =
    let g = leg_of a b in
    let c = passed (is_walked g) cs g p in
    c.events ++ walk_from cs b ps c.pos

abbrev pub walk_polyline : List Float → Pos → List Vec2 → List Event
walk_polyline cs start [] = []
walk_polyline cs start (a ∷ ps) = walk_from cs a ps start

-- the Bool says whether the pen is down; a gap that ends leaves it as it is
abbrev pub drawn : Bool → List Event → List Segment
drawn d [] = []
drawn d (Nothing ∷ es) = drawn d es
drawn d (Cut a z ∷ es) = down_to d a z ++ drawn false es
drawn d (Reach a c ∷ es) = down_to d a c ++ drawn true es
drawn d (Pass c ∷ es) = drawn false es

abbrev pub walk_all : List Float → Pos → List (List Vec2) → List Segment
walk_all cs start [] = []
walk_all cs start (p ∷ ps) = drawn false (walk_polyline cs start p) ++ walk_all cs start ps

-- ---- where it still decides

-- no interval is 0
abbrev pub no_zero : List Float → Bool
no_zero [] = true
no_zero (x ∷ xs) = not (is_zero x) && no_zero xs

-- a walked segment begins with exactly nothing left
unfoldable pub meets_from : List Float → Vec2 → List Vec2 → Pos → Bool
meets_from cs a [] p = false
meets_from cs a (b ∷ ps) p =
    let g = leg_of a b in
    (is_walked g && nothing_left p) || meets_from cs b ps (passed (is_walked g) cs g p).pos

abbrev pub meets : List Float → Pos → List Vec2 → Bool
meets cs start [] = false
meets cs start (a ∷ ps) = meets_from cs a ps start

-- in one of the polylines
abbrev pub any_meets : List Float → Pos → List (List Vec2) → Bool
any_meets cs start [] = false
any_meets cs start (p ∷ ps) = meets cs start p || any_meets cs start ps

-- What a walk draws is runs and nothing else (demand 3). Definitions only.
use Rattle.std.specs.Prelude.{Bool, true, false, List, [], ◌∷◌, ◌++◌, map, Float}
use Rattle.vec2.specs.declared.Vec2.{Vec2}
use Rattle.path.specs.declared.Segment.{Segment}
use Rattle.path.specs.declared.Segment.TheVariants.{Move, Line}
use Rattle.events.specs.declared.Leg.{Leg}
use Rattle.events.specs.Walk.{leg_of, is_walked, point_on}

-- the walked legs of a polyline, those of finite length above 0; their ends are the walked corners
abbrev pub leg_if : Bool → Leg → List Leg
leg_if true g = g ∷ []
leg_if false g = []

unfoldable pub legs_from : Vec2 → List Vec2 → List Leg
legs_from a [] = []
legs_from a (b ∷ ps) = leg_if (is_walked (leg_of a b)) (leg_of a b) ++ legs_from b ps

abbrev pub legs : List Vec2 → List Leg
legs [] = []
legs (a ∷ ps) = legs_from a ps

-- a line to the corner of each of these legs
abbrev pub to_corners : List Leg → List Segment
to_corners gs = map (λ g. Line g.to) gs

-- A run is one move and one or more lines. All but its last line end on the corners of successive walked legs, `through`. The last line ends on the corner
-- of the leg g behind those (`ends`), or at some t along it (`cuts`), and then that corner is left to what follows. `skipped`: the walked legs before the run,
-- and behind the run before it, on whose corners no line ends. At which point a run begins, which legs are skipped and where one is cut, the walk says.
pub data Runs : List Leg → List Segment → Type 0 where
  none : (skipped : List Leg) → Runs skipped []
  ends : (skipped through : List Leg) (g : Leg) (rest : List Leg) (a : Vec2) (ss : List Segment) →
      Runs rest ss → Runs (skipped ++ (through ++ g ∷ rest)) (Move a ∷ (to_corners through ++ Line g.to ∷ ss))
  cuts : (skipped through : List Leg) (g : Leg) (rest : List Leg) (a : Vec2) (t : Float) (ss : List Segment) →
      Runs (g ∷ rest) ss → Runs (skipped ++ (through ++ g ∷ rest)) (Move a ∷ (to_corners through ++ Line (point_on g t) ∷ ss))

-- The output holds what the walk of each polyline draws, none left out, in order, and each is runs and nothing else.
pub data AllRuns (walk : List Vec2 → List Segment) : List (List Vec2) → List Segment → Type 0 where
  none : AllRuns walk [] []
  more : (p : List Vec2) (ps : List (List Vec2)) (ss : List Segment) →
      Runs (legs p) (walk p) → AllRuns walk ps ss → AllRuns walk (p ∷ ps) (walk p ++ ss)

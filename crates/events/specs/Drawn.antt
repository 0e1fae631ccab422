-- What events draw: a move where a dash begins with the pen up, and lines. Definitions only.
use Rattle.std.specs.Prelude.{Bool, true, false, List, [], ◌∷◌, ◌++◌}
use Rattle.vec2.specs.declared.Vec2.{Vec2}
use Rattle.path.specs.declared.Segment.{Segment}
use Rattle.path.specs.declared.Segment.TheVariants.{Move, Line}
use Rattle.events.specs.declared.Event.{Event}
use Rattle.events.specs.declared.Event.TheVariants.{Nothing, Cut, Reach, Pass}

abbrev pub down_to : Bool → Vec2 → Vec2 → List Segment
down_to true a z = Line z ∷ []
down_to false a z = Move a ∷ Line z ∷ []

-- the Bool says whether the pen is down; `Nothing` puts it up (W6)
abbrev pub drawn : Bool → List Event → List Segment
drawn d [] = []
drawn d (Nothing ∷ es) = drawn false es
drawn d (Cut a z ∷ es) = down_to d a z ++ drawn false es
drawn d (Reach a c ∷ es) = down_to d a c ++ drawn true es
drawn d (Pass c ∷ es) = drawn false es

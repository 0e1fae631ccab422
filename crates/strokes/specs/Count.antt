-- What counting says of events: how many verbs they draw, without their points, up to a cap. Definitions only.
use Rattle.std.specs.Prelude.{ℕ, ◌+◌, ◌^◌, ◌<◌, Bool, true, false, cond, List, ltb}
use Rattle.vec2.specs.declared.Vec2.{Vec2}
use Rattle.events.specs.declared.Event.{Event}
use Rattle.events.specs.declared.Event.TheVariants.{Nothing, Cut, Reach, Pass}
use Rattle.strokes.specs.declared.Tip.{Tip}
use Rattle.strokes.specs.Pen.{told_all}

-- a line more, behind a move where the pen is up
abbrev pub tally_stroke : Tip → Bool → Tip
tally_stroke k down = record { at = k.at + cond k.down 1 2; down = down }

-- nothing more, and the pen is up
abbrev pub tally_lift : Tip → Tip
tally_lift k = record { at = k.at; down = false }

abbrev pub tally_event : Tip → Event → Tip
tally_event k Nothing = tally_lift k
tally_event k (Cut a z) = tally_stroke k false
tally_event k (Reach a c) = tally_stroke k true
tally_event k (Pass c) = tally_lift k

abbrev pub tally : Tip → List Event → Tip
tally k es = told_all tally_event k es

-- ---- as a pen

-- what is counted, and the number over which counting stops
pub record Count : Type 0 where
  pub tip : Tip
  pub cap : ℕ

abbrev pub count_event : Count → Event → Count
count_event k e = record { tip = tally_event k.tip e; cap = k.cap }

-- an interval that ended where a leg begins put the pen up; where the next one begins does not count (W6)
abbrev pub count_begin : Count → Vec2 → Count
count_begin k a = record { tip = tally_lift k.tip; cap = k.cap }

abbrev pub is_over : Count → Bool
is_over k = ltb k.cap k.tip.at

-- the next stroke's count is a number
abbrev pub Counts : Count → Event → Type 0
Counts k e = k.tip.at < 2 ^ 62

abbrev pub CountsBegin : Count → Vec2 → Type 0
CountsBegin k a = Unit

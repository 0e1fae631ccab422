-- What holds of every walk where an interval ends (W6). Definitions only.
use Rattle.std.specs.Prelude.{◌≡◌, Bool, true, false, List, [], ◌∷◌, ◌++◌, Float}
use Rattle.vec2.specs.declared.Vec2.{Vec2}
use Rattle.events.specs.declared.Pos.{Pos}
use Rattle.events.specs.declared.Leg.{Leg}
use Rattle.events.specs.declared.Event.{Event}
use Rattle.events.specs.Walk.{nothing_left, turned, inside, beginning_at, leg_of, is_walked, walk_from}
use Rattle.events.specs.Drawn.{drawn}

pub record EndsThere (cs : List Float) : Type 0 where
  -- exactly nothing is left where a walked leg begins, at a: from there on is drawn what a walk draws that begins there in the next interval, with the pen up,
  -- and a dash that it begins with begins at a, copied
  pub where_a_leg_begins : (a b : Vec2) (ps : List Vec2) (p : Pos) (down : Bool) →
      is_walked (leg_of a b) ≡ true → nothing_left p ≡ true → nothing_left (turned cs p) ≡ false →
      drawn down (walk_from cs a (b ∷ ps) p) ≡ drawn false (beginning_at a (walk_from cs a (b ∷ ps) (turned cs p)))
  -- inside a leg an interval that ends leaves the pen up, so what is drawn next begins a new run
  pub inside_a_leg : (g : Leg) (p : Pos) (t : Float) (es : List Event) (down : Bool) → drawn down (inside g p t ∷ es) ≡ drawn down (inside g p t ∷ []) ++ drawn false es

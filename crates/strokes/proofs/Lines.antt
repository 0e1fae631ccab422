-- Laying where an interval ended with exactly nothing left where a leg begins (W6). Assumes nothing.
use mathlib.Core.Path.{◌≡◌}
use mathlib.Core.Bool.{Bool, cond}
use mathlib.Core.List.{List}
use lib.Ieee.{Float}
use Rattle.float.specs.Arith.{f0}
use Rattle.events.specs.declared.Pos.{Pos}
use Rattle.events.specs.declared.Leg.{Leg}
use Rattle.events.specs.Walk.{turned, cut_from, place, cut_leg}
use Rattle.strokes.specs.Pen.{begun_by}
use Rattle.strokes.specs.Lay.{Sheet, lay_event, lay_all, lay_begin}
use Rattle.strokes.proofs.Lays.{lay_laws}
use Rattle.strokes.proofs.Pens.{same_by}

module _ (cs : List Float) (g : Leg) (p : Pos) where
  -- the copied first point is laid where the leg begins, and the loop behind it is the one of every leg: both lay what the walk's events lay
  pub turn_lays : (b : Bool) (s : Sheet) →
      lay_all (cond b (begun_by lay_event lay_begin s g.from (turned cs p).drawing) s) (cut_from cs g (place (cond b (turned cs p) p) f0)).events ≡ lay_all s (cut_leg b cs g p).events
  turn_lays b s = same_by lay_laws cs g p s b

-- What laying writes: verb k, counted from 0, has floats 2k and 2k + 1. Definitions only.
use Rattle.std.specs.Prelude.{ℕ, ◌+◌, ◌*◌, ◌≤◌, Bool, true, false, List, set, length, Float}
use Rattle.std.proofs.lemmas.List.Edits.{sets}
use Rattle.vec2.specs.declared.Vec2.{Vec2}
use Rattle.vec2.specs.Points.{flat}
use Rattle.path.specs.declared.Segment.{Segment}
use Rattle.path.specs.Segment.{bytes_of, all_points}
use Rattle.events.specs.declared.Event.{Event}
use Rattle.events.specs.declared.Event.TheVariants.{Nothing, Cut, Reach, Pass}
use Rattle.strokes.specs.declared.Tip.{Tip}
use Rattle.strokes.specs.Pen.{told_all}

-- the verbs, the floats, and how many verbs and points are laid
pub record Out : Type 0 where
  pub verbs : List ℕ
  pub floats : List Float
  pub at : ℕ
  pub used : ℕ

-- every verb that is laid has one point
abbrev pub out : List ℕ → List Float → ℕ → Out
out vs fs n = record { verbs = vs; floats = fs; at = n; used = n }

-- segments, laid behind what is laid
abbrev pub laid : Out → List Segment → Out
laid o ss =
    record {
      verbs = sets o.verbs o.at (bytes_of ss);
      floats = sets o.floats (2 * o.used) (flat (all_points ss));
      at = o.at + length ss;
      used = o.used + length (all_points ss);
    }

-- what is laid has room in buffers of so many verbs and floats
abbrev pub Room : ℕ → ℕ → Out → Type 0
Room verbs floats o = (o.at ≤ verbs) × (2 * o.used ≤ floats)

-- ---- the same, step by step, as the code lays it

abbrev pub lay_verb : Out → ℕ → Vec2 → Out
lay_verb o v p =
    record {
      verbs = set o.verbs o.at v;
      floats = set (set o.floats (2 * o.used) p.x) (2 * o.used + 1) p.y;
      at = o.at + 1;
      used = o.used + 1;
    }

abbrev pub stroke : Bool → Out → Vec2 → Vec2 → Out
stroke true o a z = lay_verb o 1 z
stroke false o a z = lay_verb (lay_verb o 0 a) 1 z

-- the buffers, and whether the pen is down
pub record Sheet : Type 0 where
  pub page : Out
  pub down : Bool

abbrev pub sheet : List ℕ → List Float → Tip → Sheet
sheet vs fs t = record { page = out vs fs t.at; down = t.down }

abbrev pub lay_event : Sheet → Event → Sheet
lay_event s Nothing = record { page = s.page; down = false }
lay_event s (Cut a z) = record { page = stroke s.down s.page a z; down = false }
lay_event s (Reach a c) = record { page = stroke s.down s.page a c; down = true }
lay_event s (Pass c) = record { page = s.page; down = false }

abbrev pub lay_all : Sheet → List Event → Sheet
lay_all s es = told_all lay_event s es

-- a drawn interval begins where a leg begins, at a (W6): by a move
abbrev pub lay_begin : Sheet → Vec2 → Sheet
lay_begin s a = record { page = lay_verb s.page 0 a; down = true }

-- the room that each asks for
abbrev pub Lays : Sheet → Event → Type 0
Lays s e = Room (length s.page.verbs) (length s.page.floats) (lay_event s e).page

abbrev pub LaysBegin : Sheet → Vec2 → Type 0
LaysBegin s a = Room (length s.page.verbs) (length s.page.floats) (lay_begin s a).page

-- laying goes on to the end
abbrev pub never : Sheet → Bool
never s = false

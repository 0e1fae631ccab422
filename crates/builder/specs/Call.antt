-- What each call of the builder lays: a list of segments ("Builder" and "Conic" of the scope). Definitions only.
use Rattle.std.specs.Prelude.{Bool, true, false, List, [], ◌∷◌, ◌++◌}
use Rattle.vec2.specs.declared.Vec2.{Vec2}
use Rattle.vec2.specs.Vec2.{origin}
use Rattle.path.specs.declared.Segment.{Segment}
use Rattle.path.specs.declared.Segment.TheVariants.{Move, Line, Quad, Cubic, Close}
use Rattle.halves.specs.Conic.{straight, quads}
use Rattle.drawing.specs.Lay.{opening}
use Rattle.builder.specs.declared.Call.{Call}
use Rattle.builder.specs.declared.Call.TheVariants.{MoveTo, LineTo, QuadTo, ConicTo, CubicTo, Close as CloseIt, WithFillRule, AsRoundedRect}

-- where a drawn verb begins: at the pen p, or at the move just laid; so too the latest move's point
abbrev pub from : Bool → Vec2 → Vec2
from true p = p
from false p = origin

-- one line to the end, or the quads
abbrev pub conic_segs : Bool → Vec2 → List Segment → List Segment
conic_segs true end qs = Line end ∷ []
conic_segs false end qs = qs

-- close on an empty builder does nothing
abbrev pub closing : Bool → List Segment
closing true = Close ∷ []
closing false = []

-- what a call lays where something stands already or nothing does, with the pen at a
unfoldable pub lays : Bool → Vec2 → Call → List Segment
lays t a (MoveTo p) = Move p ∷ []
lays t a (LineTo p) = opening t ++ Line p ∷ []
lays t a (QuadTo c p) = opening t ++ Quad c p ∷ []
lays t a (ConicTo c p w) = opening t ++ conic_segs (straight c p w) p (quads (from t a) c p w)
lays t a (CubicTo c d p) = opening t ++ Cubic c d p ∷ []
lays t a CloseIt = closing t
lays t a (WithFillRule r) = []
lays t a (AsRoundedRect x r) = []

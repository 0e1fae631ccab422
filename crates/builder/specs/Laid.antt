-- The laid list ("Laid list" of the scope). It is fed each call's arguments and whether the call was refused, and reads nothing of the builder's state.
-- Definitions only.
use Rattle.std.specs.Prelude.{ℕ, ◌*◌, Bool, true, false, List, [], ◌∷◌, ◌++◌, take, Float}
use Rattle.vec2.specs.declared.Vec2.{Vec2}
use Rattle.vec2.specs.Vec2.{origin}
use Rattle.path.specs.declared.Segment.{Segment}
use Rattle.path.specs.declared.Segment.TheVariants.{Move, Line, Quad, Cubic, Close}
use Rattle.builder.specs.declared.Call.{Call}
use Rattle.builder.specs.Call.{lays}
use Rattle.builder.specs.Build.{Built, fresh_over, refusals}

pub record Laid : Type 0 where
  pub segs : List Segment
  pub pen : Vec2
  pub start : Vec2

abbrev pub nothing : Laid
nothing = record { segs = []; pen = origin; start = origin }

-- one more segment: the pen goes to its end, and at a close to the latest move's point
abbrev pub put : Laid → Segment → Laid
put l (Move p) = record { segs = l.segs ++ Move p ∷ []; pen = p; start = p }
put l (Line p) = record { segs = l.segs ++ Line p ∷ []; pen = p; start = l.start }
put l (Quad c p) = record { segs = l.segs ++ Quad c p ∷ []; pen = p; start = l.start }
put l (Cubic c d p) = record { segs = l.segs ++ Cubic c d p ∷ []; pen = p; start = l.start }
put l Close = record { segs = l.segs ++ Close ∷ []; pen = l.start; start = l.start }

unfoldable pub puts : Laid → List Segment → Laid
puts l [] = l
puts l (s ∷ ss) = puts (put l s) ss

abbrev pub some : List Segment → Bool
some [] = false
some (s ∷ ss) = true

unfoldable pub lay : Laid → Call → Laid
lay l c = puts l (lays (some l.segs) l.pen c)

-- a refused call lays nothing
abbrev pub feed : Bool → Laid → Call → Laid
feed false l c = lay l c
feed true l c = l

-- the calls, with whether each was refused
unfoldable pub laid_from : Laid → List Call → List Bool → Laid
laid_from l [] rs = l
laid_from l (c ∷ cs) [] = l
laid_from l (c ∷ cs) (r ∷ rs) = laid_from (feed r l c) cs rs

abbrev pub laid : List Call → List Bool → List Segment
laid cs rs = (laid_from nothing cs rs).segs

-- what a list of calls lays, from a fresh builder over lent buffers of any length and content
abbrev pub laid_by : List Call → List ℕ → List Float → List Segment
laid_by cs bs fs = laid cs (refusals (fresh_over bs fs) cs)

-- ---- the path that a builder leaves

abbrev pub path_verbs : Built → List ℕ
path_verbs b = take b.state.verbs b.bytes

abbrev pub path_floats : Built → List Float
path_floats b = take (2 * b.state.points) b.floats

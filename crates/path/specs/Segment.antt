-- A path: verbs as bytes, points as floats, and the list of segments that they are ("Path" of the scope). Definitions only.
use Rattle.std.specs.Prelude.{ℕ, zero, suc, ◌+◌, Bool, true, false, List, [], ◌∷◌, ◌++◌, get_or, Float}
use Rattle.vec2.specs.declared.Vec2.{Vec2}
use Rattle.vec2.specs.Vec2.{origin}
use Rattle.vec2.specs.Points.{point_at}
use Rattle.path.specs.declared.Segment.{Segment}
use Rattle.path.specs.declared.Segment.TheVariants.{Move, Line, Quad, Cubic, Close}

-- ---- kinds

-- the drawn verbs: line, quad and cubic
abbrev pub is_drawn : Segment → Bool
is_drawn (Move p) = false
is_drawn (Line p) = true
is_drawn (Quad c p) = true
is_drawn (Cubic c d p) = true
is_drawn Close = false

abbrev pub is_move : Segment → Bool
is_move (Move p) = true
is_move (Line p) = false
is_move (Quad c p) = false
is_move (Cubic c d p) = false
is_move Close = false

abbrev pub is_line : Segment → Bool
is_line (Move p) = false
is_line (Line p) = true
is_line (Quad c p) = false
is_line (Cubic c d p) = false
is_line Close = false

abbrev pub is_curve : Segment → Bool
is_curve (Move p) = false
is_curve (Line p) = false
is_curve (Quad c p) = true
is_curve (Cubic c d p) = true
is_curve Close = false

abbrev pub is_close : Segment → Bool
is_close (Move p) = false
is_close (Line p) = false
is_close (Quad c p) = false
is_close (Cubic c d p) = false
is_close Close = true

-- where a move or a drawn segment ends
abbrev pub end_of : Segment → Vec2
end_of (Move p) = p
end_of (Line p) = p
end_of (Quad c p) = p
end_of (Cubic c d p) = p
end_of Close = origin

-- ---- written: a byte, and the points that it uses

abbrev pub byte_of : Segment → ℕ
byte_of (Move p) = 0
byte_of (Line p) = 1
byte_of (Quad c p) = 2
byte_of (Cubic c d p) = 3
byte_of Close = 4

abbrev pub points_of : Segment → List Vec2
points_of (Move p) = p ∷ []
points_of (Line p) = p ∷ []
points_of (Quad c p) = c ∷ p ∷ []
points_of (Cubic c d p) = c ∷ d ∷ p ∷ []
points_of Close = []

abbrev pub bytes_of : List Segment → List ℕ
bytes_of [] = []
bytes_of (s ∷ ss) = byte_of s ∷ bytes_of ss

abbrev pub all_points : List Segment → List Vec2
all_points [] = []
all_points (s ∷ ss) = points_of s ++ all_points ss

-- ---- read

-- points used: the fixed table 1, 1, 2, 3, 0
abbrev pub table : List ℕ
table = 1 ∷ 1 ∷ 2 ∷ 3 ∷ 0 ∷ []

abbrev pub used : ℕ → ℕ
used v = get_or table v 0

-- the segment of verb v whose points begin at point k of fs
abbrev pub seg_at : ℕ → List Float → ℕ → Segment
seg_at zero fs k = Move (point_at fs k)
seg_at (suc zero) fs k = Line (point_at fs k)
seg_at (suc (suc zero)) fs k = Quad (point_at fs k) (point_at fs (k + 1))
seg_at (suc (suc (suc zero))) fs k = Cubic (point_at fs k) (point_at fs (k + 1)) (point_at fs (k + 2))
seg_at (suc (suc (suc (suc v)))) fs k = Close

-- the segments of the verbs vs, from point k on
abbrev pub segs_from : List ℕ → List Float → ℕ → List Segment
segs_from [] fs k = []
segs_from (v ∷ vs) fs k = seg_at v fs k ∷ segs_from vs fs (k + used v)

abbrev pub segments : List ℕ → List Float → List Segment
segments vs fs = segs_from vs fs 0

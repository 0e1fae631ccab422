-- The segments that verbs and points are read as, one at a time: the source's `segments`. Definitions only.
use Rattle.std.specs.Prelude.{ℕ, ◌*◌, cond, List, [], ◌∷◌, ltb, length, drop, Float}
use Rattle.path.specs.declared.Segment.{Segment}
use Rattle.path.specs.Segment.{used, seg_at}
use Rattle.segments.specs.declared.Segments.{Segments}

-- the segments of the verbs vs, whose points stand first in fs, up to a verb that lacks points
abbrev pub read : List ℕ → List Float → List Segment
read [] fs = []
read (v ∷ vs) fs = cond (ltb (length fs) (2 * used v)) [] (seg_at v fs 0 ∷ read vs (drop (2 * used v) fs))

-- those that an iterator has still to give
abbrev pub left : Segments → List Segment
left s = read s.verbs.now s.points.now

-- A path's code: the segments that a path is read as are those that it was written from. Assumes nothing.
use mathlib.Core.Path.{◌≡◌, refl, ap, ◌∙◌, ap₂}
use mathlib.Core.List.{List, [], ◌∷◌, ◌++◌, append_assoc}
use Prim.Native.Nat.{ℕ, suc, ◌+◌}
use lib.ListN.{length, length-append}
use lib.Seq.{get_or-append-add, get_or-append_seam}
use lib.Ieee.{nan}
use Rattle.vec2.specs.Vec2.{vec}
use Rattle.vec2.proofs.Points.{point_at-flat}
use Rattle.vec2.specs.Points.{flat, point_at}
use Rattle.path.specs.declared.Segment.{Segment}
use Rattle.path.specs.declared.Segment.TheVariants.{Move, Line, Quad, Cubic, Close}
use Rattle.vec2.specs.declared.Vec2.{Vec2}
use Rattle.path.specs.Segment.{byte_of, points_of, bytes_of, all_points, used, seg_at, segs_from, segments}

pub bytes_of-append : (a b : List Segment) → bytes_of (a ++ b) ≡ bytes_of a ++ bytes_of b
bytes_of-append [] b = refl
bytes_of-append (s ∷ ss) b = ap (λ (r : List ℕ). byte_of s ∷ r) (bytes_of-append ss b)

pub all_points-append : (a b : List Segment) → all_points (a ++ b) ≡ all_points a ++ all_points b
all_points-append [] b = refl
all_points-append (s ∷ ss) b = rw (all_points-append ss b, append_assoc)

pub length-bytes : (ss : List Segment) → length (bytes_of ss) ≡ length ss
length-bytes [] = refl
length-bytes (s ∷ ss) = ap suc (length-bytes ss)

-- ---- read again

module _ (ps rest : List Vec2) where
  at_0 : (p : Vec2) → point_at (flat (ps ++ p ∷ rest)) (length ps) ≡ p
  at_0 p = point_at-flat (ps ++ p ∷ rest) (length ps) ∙ get_or-append_seam ps p rest (vec nan nan)

  at_1 : (p q : Vec2) → point_at (flat (ps ++ p ∷ q ∷ rest)) (length ps + 1) ≡ q
  at_1 p q = point_at-flat (ps ++ p ∷ q ∷ rest) (length ps + 1) ∙ get_or-append-add ps (p ∷ q ∷ rest) 1 (vec nan nan)

  at_2 : (p q r : Vec2) → point_at (flat (ps ++ p ∷ q ∷ r ∷ rest)) (length ps + 2) ≡ r
  at_2 p q r = point_at-flat (ps ++ p ∷ q ∷ r ∷ rest) (length ps + 2) ∙ get_or-append-add ps (p ∷ q ∷ r ∷ rest) 2 (vec nan nan)

seg_at_code : (ps : List Vec2) (s : Segment) (rest : List Vec2) → seg_at (byte_of s) (flat (ps ++ (points_of s ++ rest))) (length ps) ≡ s
seg_at_code ps (Move p) rest = ap Move (at_0 ps rest p)
seg_at_code ps (Line p) rest = ap Line (at_0 ps rest p)
seg_at_code ps (Quad c p) rest = ap₂ Quad (at_0 ps (p ∷ rest) c) (at_1 ps rest c p)
seg_at_code ps (Cubic c d p) rest = rw (at_0 ps (d ∷ p ∷ rest) c, at_1 ps (p ∷ rest) c d, at_2 ps rest c d p)
seg_at_code ps Close rest = refl

used_length : (s : Segment) → used (byte_of s) ≡ length (points_of s)
used_length (Move p) = refl
used_length (Line p) = refl
used_length (Quad c p) = refl
used_length (Cubic c d p) = refl
used_length Close = refl

segs_from_code : (ss : List Segment) (ps : List Vec2) → segs_from (bytes_of ss) (flat (ps ++ all_points ss)) (length ps) ≡ ss
segs_from_code [] ps = refl
segs_from_code (s ∷ ss) ps =
    ap₂ (λ (a : Segment) (r : List Segment). a ∷ r) (seg_at_code ps s (all_points ss))
    (rw (used_length s, ← length-append ps (points_of s), ← append_assoc ps (points_of s) (all_points ss))
    (segs_from_code ss (ps ++ points_of s)))

pub segments_code : (ss : List Segment) → segments (bytes_of ss) (flat (all_points ss)) ≡ ss
segments_code ss = segs_from_code ss []

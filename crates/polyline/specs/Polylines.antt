-- Polylines: points end to end with the number where each ends, and the source's own list of lists. Definitions only.
use Rattle.std.specs.Prelude.{◌≡◌, ℕ, ◌+◌, ◌-◌, ◌<◌, not, ◌&&◌, List, [], ◌∷◌, ◌++◌, length, take, drop, Float}
use Rattle.vec2.specs.declared.Vec2.{Vec2}
use Rattle.vec2.specs.Vec2.{origin, same_as}
use Rattle.path.specs.declared.Segment.{Segment}
use Rattle.path.specs.declared.Segment.TheVariants.{Move, Line, Quad, Cubic, Close}
use Rattle.curve.specs.Count.{quad_count, cubic_count, eval_quad, eval_cubic}
use Rattle.polyline.specs.Flatten.{curved, only_if}

-- as they stand in the outputs, n points standing before
abbrev pub polylines : ℕ → List Vec2 → List ℕ → List (List Vec2)
polylines n ps [] = []
polylines n ps (e ∷ es) = take (e - n) ps ∷ polylines e (drop (e - n) ps) es

-- lists one behind the other, and where each ends, n standing before
abbrev pub end_to_end : {A : Type 0} → List (List A) → List A
end_to_end [] = []
end_to_end (l ∷ ls) = l ++ end_to_end ls

abbrev pub ends_of : {A : Type 0} → ℕ → List (List A) → List ℕ
ends_of n [] = []
ends_of n (l ∷ ls) = (n + length l) ∷ ends_of (n + length l) ls

-- ends that rise strictly, from above n to `last`
abbrev pub Rising : ℕ → List ℕ → ℕ → Type 0
Rising n [] last = n ≡ last
Rising n (e ∷ es) last = (n < e) × Rising e es last

-- ---- the source's loop, by its `current`, `pen` and `subpath_start`

-- only a polyline of two or more points is kept
abbrev pub kept : List Vec2 → List (List Vec2)
kept [] = []
kept (p ∷ []) = []
kept (p ∷ q ∷ ps) = (p ∷ q ∷ ps) ∷ []

abbrev pub last_of : Vec2 → List Vec2 → Vec2
last_of p [] = p
last_of p (q ∷ ps) = last_of q ps

-- a close: two or more points, the first equals the move's point, the last doesn't
abbrev pub closing : Vec2 → List Vec2 → List Vec2
closing m [] = []
closing m (p ∷ []) = []
closing m (p ∷ q ∷ ps) = only_if (same_as p m && not (same_as (last_of q ps) m)) m

unfoldable pub source_from : Float → List Vec2 → Vec2 → Vec2 → List Segment → List (List Vec2)
source_from tol current pen start [] = kept current
source_from tol current pen start (Move p ∷ ss) = kept current ++ source_from tol (p ∷ []) p p ss
source_from tol current pen start (Line p ∷ ss) = source_from tol (current ++ p ∷ []) p start ss
source_from tol current pen start (Quad c p ∷ ss) = source_from tol (current ++ curved (eval_quad pen c p) (quad_count tol pen c p) p) p start ss
source_from tol current pen start (Cubic c d p ∷ ss) = source_from tol (current ++ curved (eval_cubic pen c d p) (cubic_count tol pen c d p) p) p start ss
source_from tol current pen start (Close ∷ ss) = source_from tol (current ++ closing start current) start start ss

unfoldable pub source : Float → List Segment → List (List Vec2)
source tol ss = source_from tol [] origin origin ss

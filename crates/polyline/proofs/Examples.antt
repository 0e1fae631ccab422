-- Examples of flattening, computed from the definitions: the rule of a close, and subpaths with no drawn verb. Assumes nothing.
use mathlib.Core.Path.{◌≡◌, refl}
use mathlib.Core.List.{List, [], ◌∷◌}
use Prim.Native.Nat.{ℕ}
use lib.Count.{count_trailing_zeros}
use lib.Ieee.{Float, nan, binary32, eq, round, size, units, odd, span, climb, of_int, of_bits, of_fields, to_bits}
use Rattle.float.specs.Arith.{f0, quarter, whole}
use Rattle.vec2.specs.declared.Vec2.{Vec2}
use Rattle.vec2.specs.Vec2.{vec, same_as}
use Rattle.path.specs.declared.Segment.{Segment}
use Rattle.path.specs.declared.Segment.TheVariants.{Move, Line, Close}
use Rattle.polyline.specs.Flatten.{close_adds, after, body, writes, written, endings, points_out, ends_out}

abbrev at : ℕ → ℕ → Vec2
at a b = vec (whole a) (whole b)

abbrev minus0 : Float
minus0 = of_bits binary32 0x8000_0000

-- these points, ending here
abbrev Gives : List Segment → List Vec2 → List ℕ → Type 0
Gives ss ps es = (points_out quarter ss ≡ ps) × (ends_out quarter ss ≡ es)

pub record Examples : Type 0 where
  pub closed : Gives (Move (at 0 0) ∷ Line (at 4 0) ∷ Line (at 4 4) ∷ Close ∷ []) (at 0 0 ∷ at 4 0 ∷ at 4 4 ∷ at 0 0 ∷ []) (4 ∷ [])
  -- −0 is back at 0, so no point is added; a line behind it is closed again, in the same polyline
  pub back : Gives (Move (at 0 0) ∷ Line (at 4 0) ∷ Line (vec minus0 f0) ∷ Close ∷ Line (at 1 1) ∷ Close ∷ []) (at 0 0 ∷ at 4 0 ∷ vec minus0 f0 ∷ at 1 1 ∷ at 0 0 ∷ []) (5 ∷ [])
  -- a start that is a NaN equals nothing, so nothing closes it
  pub nan_start : Gives (Move (vec nan f0) ∷ Line (at 4 0) ∷ Close ∷ []) (vec nan f0 ∷ at 4 0 ∷ []) (2 ∷ [])
  -- a subpath with no drawn verb writes nothing, wherever it stands
  pub empty_subpaths : Gives (Move (at 1 1) ∷ Close ∷ Move (at 2 2) ∷ Move (at 3 3) ∷ Line (at 4 4) ∷ Move (at 5 5) ∷ []) (at 3 3 ∷ at 4 4 ∷ []) (2 ∷ [])

pub examples : Examples
unfolding close_adds after body writes written endings same_as eq round size units odd span climb of_int of_bits of_fields to_bits count_trailing_zeros
examples = record { closed = (refl, refl); back = (refl, refl); nan_start = (refl, refl); empty_subpaths = (refl, refl) }

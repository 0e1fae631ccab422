-- The starred examples of the scope (2 1 round a corner as W6 has it), five of W2, eight of W4 and two of W6, together, computed from the definitions: tolerance 0.25, phase 0. Assumes nothing.
use mathlib.Core.Path.{◌≡◌, refl}
use mathlib.Core.Bool.{true, false}
use mathlib.Core.List.{List, [], ◌∷◌}
use Prim.Native.Nat.{ℕ}
use lib.Count.{count_trailing_zeros}
use lib.Ieee.{Float, nan, inf, binary32, is_nan, add, sub, mul, div, rem, lt, le, eq, neg, sum, round, size, units, odd, span, climb, of_int, of_bits, of_fields}
use Rattle.float.specs.Arith.{f0, f1, quarter, whole}
use Rattle.float.specs.Small.{abs, is_finite, maximum, rem_euclid}
use Rattle.float.specs.Root.{square_root, twice_root, whole_root}
use Rattle.float.specs.Count.{segment_count, held_back}
use Rattle.vec2.specs.declared.Vec2.{Vec2}
use Rattle.vec2.specs.Vec2.{vec, any_nan, all_finite}
use Rattle.path.specs.declared.Segment.{Segment}
use Rattle.path.specs.declared.Segment.TheVariants.{Move, Line, Quad, Close}
use Rattle.halves.specs.Conic.{straight}
use Rattle.curve.specs.Count.{bend, quad_count, cubic_count}
use Rattle.polyline.specs.Subpaths.{subpaths_from, with_drawn, marks_out}
use Rattle.builder.specs.declared.Call.TheVariants.{MoveTo, ConicTo}
use Rattle.builder.specs.Call.{lays}
use Rattle.builder.specs.Laid.{lay, puts, laid_from, laid}
use Rattle.pattern.specs.Cycle.{cuts}
use Rattle.events.specs.Loop.{trace, traced}
use Rattle.events.specs.Zeros.{above}
use Rattle.events.specs.Walk.{cut_from, walk_from}
use Rattle.outline.specs.Runs.{walk_of}

-- a point with whole coordinates
abbrev at : ℕ → ℕ → Vec2
at a b = vec (whole a) (whole b)

-- the pattern cuts, and its walk of the polyline draws these
abbrev Draws : List Float → List Vec2 → List Segment → Type 0
Draws intervals ps ss = (cuts intervals f0 quarter ≡ true) × (walk_of intervals f0 ps ≡ ss)

abbrev eighth : Float
eighth = of_bits binary32 0x3e00_0000

pub record Starred : Type 0 where
  pub s_1 : segment_count f1 ≡ 1
  -- 1 + 2 ^ -23 and 1 + 2 ^ -22
  pub s_1_23 : segment_count (of_bits binary32 0x3f80_0001) ≡ 1
  pub s_1_22 : segment_count (of_bits binary32 0x3f80_0002) ≡ 2
  pub s_998001 : segment_count (whole 998001) ≡ 999
  pub s_1000000 : segment_count (whole 1000000) ≡ 1000
  pub s-∞ : segment_count (inf false) ≡ 1000
  pub s_nan : segment_count nan ≡ 1
  -- held back: not at N = 1,000 itself, but at the next float, and at the infinity; not below zero, and no NaN
  pub held_1000000 : held_back (whole 1000000) ≡ false
  pub held_next : held_back (of_bits binary32 0x4974_2401) ≡ true
  pub held-∞ : held_back (inf false) ≡ true
  pub held_below : held_back (inf true) ≡ false
  pub held_nan : held_back nan ≡ false
  -- W4, the marks: M L Z L is open, M L Z Z closed, M Z L open; M Z has no polyline; a line back to the start and a close is closed; so is a NaN start with a
  -- close; an empty path has none; of M Z, M, M Q Z, M just the third has a polyline
  pub mark_open : marks_out (Move (at 0 0) ∷ Line (at 1 0) ∷ Close ∷ Line (at 2 0) ∷ []) ≡ 0 ∷ []
  pub mark_twice : marks_out (Move (at 0 0) ∷ Line (at 1 0) ∷ Close ∷ Close ∷ []) ≡ 1 ∷ []
  pub mark_early : marks_out (Move (at 0 0) ∷ Close ∷ Line (at 1 0) ∷ []) ≡ 0 ∷ []
  pub mark_none : marks_out (Move (at 0 0) ∷ Close ∷ []) ≡ []
  pub mark_back : marks_out (Move (at 0 0) ∷ Line (at 1 0) ∷ Line (at 0 0) ∷ Close ∷ []) ≡ 1 ∷ []
  pub mark_nan : marks_out (Move (vec nan nan) ∷ Line (at 1 0) ∷ Close ∷ Move (at 0 0) ∷ Line (at 1 0) ∷ []) ≡ 1 ∷ 0 ∷ []
  pub mark_empty : marks_out [] ≡ []
  pub mark_alone : marks_out (Move (at 0 0) ∷ Close ∷ Move (at 1 0) ∷ Move (at 2 0) ∷ Quad (at 3 0) (at 3 1) ∷ Close ∷ Move (at 4 0) ∷ []) ≡ 1 ∷ []
  pub quad_bent : quad_count quarter (at 0 0) (at 8 8) (at 16 0) ≡ 5
  pub quad_straight : quad_count quarter (at 0 0) (at 8 0) (at 16 0) ≡ 1
  pub cubic_bent : cubic_count quarter (at 0 0) (at 0 8) (at 16 8) (at 16 0) ≡ 9
  pub dash-2-1 :
      Draws (whole 2 ∷ whole 1 ∷ []) (at 0 0 ∷ at 8 0 ∷ [])
      (Move (at 0 0) ∷ Line (at 2 0) ∷ Move (at 3 0) ∷ Line (at 5 0) ∷ Move (at 6 0) ∷ Line (at 8 0) ∷ [])
  pub dash_5 : Draws (whole 5 ∷ []) (at 0 0 ∷ at 8 0 ∷ []) (Move (at 0 0) ∷ Line (at 5 0) ∷ [])
  pub corner_6_2 : Draws (whole 6 ∷ whole 2 ∷ []) (at 0 0 ∷ at 4 0 ∷ at 4 4 ∷ []) (Move (at 0 0) ∷ Line (at 4 0) ∷ Line (at 4 2) ∷ [])
  pub corner_2_1 : Draws (whole 2 ∷ whole 1 ∷ []) (at 0 0 ∷ at 2 0 ∷ at 2 4 ∷ []) (Move (at 0 0) ∷ Line (at 2 0) ∷ Move (at 2 1) ∷ Line (at 2 3) ∷ [])
  -- W6: zeros
  pub dash_0_5 : Draws (whole 0 ∷ whole 5 ∷ []) (at 0 0 ∷ at 8 0 ∷ []) []
  pub dash_0_2_1 : Draws (whole 0 ∷ whole 2 ∷ whole 1 ∷ []) (at 0 0 ∷ at 8 0 ∷ []) (Move (at 2 0) ∷ Line (at 3 0) ∷ Move (at 3 0) ∷ Line (at 5 0) ∷ [])
  pub whole_fine : cuts (eighth ∷ eighth ∷ []) f0 quarter ≡ false
  -- behind a move to NaN, whose 64 quads of weight 100 a program shows
  pub weight_0 : laid (MoveTo (vec nan nan) ∷ ConicTo (at 1 1) (at 2 0) f0 ∷ []) (false ∷ false ∷ []) ≡ Move (vec nan nan) ∷ Line (at 2 0) ∷ []

pub starred : Starred
unfolding segment_count held_back marks_out with_drawn subpaths_from bend any_nan all_finite straight lays lay puts laid_from above walk_from cut_from trace traced square_root twice_root whole_root is_finite maximum rem_euclid abs is_nan add sub mul div rem lt le eq neg sum round size units odd span climb of_int of_bits of_fields count_trailing_zeros
starred =
    record {
      s_1 = refl;
      s_1_23 = refl;
      s_1_22 = refl;
      s_998001 = refl;
      s_1000000 = refl;
      s-∞ = refl;
      s_nan = refl;
      held_1000000 = refl;
      held_next = refl;
      held-∞ = refl;
      held_below = refl;
      held_nan = refl;
      mark_open = refl;
      mark_twice = refl;
      mark_early = refl;
      mark_none = refl;
      mark_back = refl;
      mark_nan = refl;
      mark_empty = refl;
      mark_alone = refl;
      quad_bent = refl;
      quad_straight = refl;
      cubic_bent = refl;
      dash-2-1 = (refl, refl);
      dash_5 = (refl, refl);
      corner_6_2 = (refl, refl);
      corner_2_1 = (refl, refl);
      dash_0_5 = (refl, refl);
      dash_0_2_1 = (refl, refl);
      whole_fine = refl;
      weight_0 = refl;
    }

-- Examples of the walk with zeros and corners (W6), computed from the definitions: what changes, and what stays. Phase 0 but where one is named. Assumes nothing.
use mathlib.Core.Path.{◌≡◌, refl}
use mathlib.Core.Bool.{true, false}
use mathlib.Core.List.{List, [], ◌∷◌}
use Prim.Native.Nat.{ℕ}
use lib.Count.{count_trailing_zeros}
use lib.Ieee.{Float, inf, binary32, is_nan, add, sub, mul, div, rem, lt, le, eq, neg, sum, round, size, units, odd, span, climb, of_int, of_bits, of_fields}
use Rattle.float.specs.Arith.{f0, whole}
use Rattle.float.specs.Small.{abs, is_finite, maximum, rem_euclid}
use Rattle.float.specs.Root.{square_root, twice_root, whole_root}
use Rattle.vec2.specs.declared.Vec2.{Vec2}
use Rattle.vec2.specs.Vec2.{vec}
use Rattle.path.specs.declared.Segment.{Segment}
use Rattle.path.specs.declared.Segment.TheVariants.{Move, Line}
use Rattle.events.specs.Loop.{trace, traced}
use Rattle.events.specs.Zeros.{above, gaps_only}
use Rattle.events.specs.Phase.{start_of}
use Rattle.events.specs.Walk.{cut_from, walk_from, walk_polyline}
use Rattle.events.specs.Drawn.{drawn}
use Rattle.events.specs.Source as source

abbrev at : ℕ → ℕ → Vec2
at a b = vec (whole a) (whole b)

abbrev walked : List Float → Float → Float → List Vec2 → List Segment
walked cs phase period ps = drawn false (walk_polyline cs (start_of cs phase period) ps)

-- the source's, and whether it meets a corner or a start with exactly nothing left
abbrev sourced : List Float → Float → Float → List Vec2 → List Segment
sourced cs phase period ps = source.drawn false (source.walk_polyline cs (source.start_of cs phase period) ps)

abbrev meets : List Float → Float → Float → List Vec2 → Type 0
meets cs phase period ps = source.meets cs (source.start_of cs phase period) ps ≡ true

abbrev minus0 : Float
minus0 = of_bits binary32 0x8000_0000

abbrev short : Float
short = of_bits binary32 0x3080_0000

abbrev gap_at_start : List Float
gap_at_start = whole 100000000 ∷ whole 1 ∷ whole 100000000 ∷ whole 1 ∷ []

abbrev phase_15 : Float
phase_15 = whole 150000000

abbrev corner : List Vec2
corner = at 0 0 ∷ at 2 0 ∷ at 2 4 ∷ []

pub record Examples : Type 0 where
  pub none_drawn : walked (whole 0 ∷ whole 5 ∷ []) f0 (whole 5) (at 0 0 ∷ at 8 0 ∷ []) ≡ []
  -- and the source is not asked
  pub not_source : source.no_zero (whole 0 ∷ whole 5 ∷ []) ≡ false
  pub gaps_only_lem : gaps_only (whole 0 ∷ whole 5 ∷ minus0 ∷ whole 0 ∷ []) ≡ true
  pub corner_2_1 : walked (whole 2 ∷ whole 1 ∷ []) f0 (whole 3) corner ≡ Move (at 0 0) ∷ Line (at 2 0) ∷ Move (at 2 1) ∷ Line (at 2 3) ∷ []
  -- the source's dash runs on there, and it is a corner with exactly nothing left
  pub runs_on : sourced (whole 2 ∷ whole 1 ∷ []) f0 (whole 3) corner ≡ Move (at 0 0) ∷ Line (at 2 0) ∷ Line (at 2 4) ∷ []
  pub met : meets (whole 2 ∷ whole 1 ∷ []) f0 (whole 3) corner
  -- the last corner ends an interval too, but no walked segment begins there
  pub not_met : source.meets (whole 2 ∷ whole 1 ∷ []) (source.start_of (whole 2 ∷ whole 1 ∷ []) f0 (whole 3)) (at 0 0 ∷ at 8 0 ∷ []) ≡ false
  -- a zero gap at a corner begins a new run
  pub corner_2_0 : walked (whole 2 ∷ whole 0 ∷ []) f0 (whole 2) corner ≡ Move (at 0 0) ∷ Line (at 2 0) ∷ Move (at 2 0) ∷ Line (at 2 2) ∷ Move (at 2 2) ∷ Line (at 2 4) ∷ []
  pub zeros_in_a_row : walked (whole 3 ∷ whole 0 ∷ whole 0 ∷ whole 0 ∷ whole 4 ∷ whole 1 ∷ []) f0 (whole 8) (at 0 0 ∷ at 8 0 ∷ []) ≡ Move (at 0 0) ∷ Line (at 3 0) ∷ Move (at 3 0) ∷ Line (at 7 0) ∷ []
  pub zero_drawn : walked (whole 3 ∷ whole 1 ∷ whole 0 ∷ whole 1 ∷ []) f0 (whole 5) (at 0 0 ∷ at 8 0 ∷ []) ≡ Move (at 0 0) ∷ Line (at 3 0) ∷ Move (at 5 0) ∷ Line (at 8 0) ∷ []
  -- zeros are passed over while the phase is placed; the first point is computed there, −0 + 8 × (0 / 8), and not copied
  pub phase_past_zeros : walked (minus0 ∷ whole 0 ∷ whole 2 ∷ whole 1 ∷ []) (whole 1) (whole 3) (vec minus0 f0 ∷ at 8 0 ∷ []) ≡ Move (at 0 0) ∷ Line (at 1 0) ∷ Move (at 2 0) ∷ Line (at 4 0) ∷ Move (at 5 0) ∷ Line (at 7 0) ∷ []
  -- and while it runs down: 1 and 1 are used up, the dash of 0 is passed over, and 4 of the gap of 5 are left
  pub phase_over_zero : walked (whole 1 ∷ whole 1 ∷ whole 0 ∷ whole 5 ∷ []) (whole 3) (whole 7) (at 0 0 ∷ at 5 0 ∷ []) ≡ Move (at 4 0) ∷ Line (at 5 0) ∷ []
  -- a gap ends at a corner; the next dash begins at the corner, copied with its −0
  pub copied : walked (whole 2 ∷ whole 1 ∷ []) f0 (whole 3) (at 3 0 ∷ vec minus0 f0 ∷ at 0 2 ∷ []) ≡ Move (at 3 0) ∷ Line (at 1 0) ∷ Move (vec minus0 f0) ∷ Line (at 0 2) ∷ []
  -- a segment that is passed over stands between: the next walked one's own first point
  pub jump : walked (whole 2 ∷ whole 0 ∷ []) f0 (whole 2) (at 0 0 ∷ at 2 0 ∷ vec (inf false) f0 ∷ at 5 0 ∷ at 5 2 ∷ []) ≡ Move (at 0 0) ∷ Line (at 2 0) ∷ Move (at 5 0) ∷ Line (at 5 2) ∷ []
  -- less than nothing left is not exactly nothing: a gap of 2 ^ -30 behind a dash of 3 does not move the position, and runs on, as in the source
  pub less_left : walked (whole 3 ∷ short ∷ []) f0 (whole 3) (at 0 0 ∷ at 8 0 ∷ at 8 4 ∷ []) ≡ Move (at 0 0) ∷ Line (at 3 0) ∷ []
  -- a segment that is not walked leaves the pen as it is
  pub pen_stays : walked (whole 5 ∷ whole 1 ∷ []) f0 (whole 6) (at 0 0 ∷ at 2 0 ∷ at 2 0 ∷ at 2 4 ∷ []) ≡ Move (at 0 0) ∷ Line (at 2 0) ∷ Line (at 2 3) ∷ []
  -- nothing left of a gap at the start, by the floor at 0: 1 no longer lowers what remains of 1.5e8; the dash behind it begins at the first point, copied
  pub start : walked gap_at_start phase_15 (whole 200000000) (vec minus0 f0 ∷ at 8 0 ∷ []) ≡ Move (vec minus0 f0) ∷ Line (at 8 0) ∷ []
  pub start_met : meets gap_at_start phase_15 (whole 200000000) (vec minus0 f0 ∷ at 8 0 ∷ [])
  -- the first walked segment's first point, behind one that is not walked
  pub start_later : walked gap_at_start phase_15 (whole 200000000) (at 0 0 ∷ vec minus0 f0 ∷ at 0 8 ∷ []) ≡ Move (vec minus0 f0) ∷ Line (at 0 8) ∷ []
  -- nothing left of a dash there: it draws nothing, where the source's runs on
  pub dash_at_start : walked (whole 100000000 ∷ whole 100000000 ∷ whole 1 ∷ whole 100000000 ∷ []) (whole 250000000) (whole 300000000) (at 0 0 ∷ at 8 0 ∷ []) ≡ []
  pub dash_runs_on : sourced (whole 100000000 ∷ whole 100000000 ∷ whole 1 ∷ whole 100000000 ∷ []) (whole 250000000) (whole 300000000) (at 0 0 ∷ at 8 0 ∷ []) ≡ Move (at 0 0) ∷ Line (at 8 0) ∷ []

pub examples : Examples
unfolding above walk_from cut_from source.walk_from source.cut_from source.meets_from trace traced square_root twice_root whole_root is_finite maximum rem_euclid abs is_nan add sub mul div rem lt le eq neg sum round size units odd span climb of_int of_bits of_fields count_trailing_zeros
examples =
    record {
      none_drawn = refl;
      not_source = refl;
      gaps_only_lem = refl;
      corner_2_1 = refl;
      runs_on = refl;
      met = refl;
      not_met = refl;
      corner_2_0 = refl;
      zeros_in_a_row = refl;
      zero_drawn = refl;
      phase_past_zeros = refl;
      phase_over_zero = refl;
      copied = refl;
      jump = refl;
      less_left = refl;
      pen_stays = refl;
      start = refl;
      start_met = refl;
      start_later = refl;
      dash_at_start = refl;
      dash_runs_on = refl;
    }

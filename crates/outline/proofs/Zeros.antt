-- Zeros and corners in a pattern: `ZerosAndCorners` holds of every pattern and phase. Assumes nothing.
use mathlib.Core.Path.{sym, ◌≡◌}
use Prim.Native.Nat.{ℕ, ◌%◌, ◌<◌}
use native.Mathlib.Omega.{arith}
use mathlib.Core.Bool.{cond, true≢false, Bool, true, false, not, ◌&&◌}
use mathlib.Core.List.{List, [], ◌∷◌, ◌++◌}
use lib.ListN.{length, length-append}
use lib.Dec.{eqb}
use lib.Ieee.{Float, le}
use borrow.Author.Tests.{not-true}
use Rattle.std.specs.Cmp.Derive.{both_true}
use Rattle.std.proofs.lemmas.Bool.{and_parts}
use Rattle.std.proofs.lemmas.Grind.{common_steps}
use Rattle.float.specs.Arith.{f0}
use Rattle.vec2.specs.declared.Vec2.{Vec2}
use Rattle.polyline.specs.Polylines.{polylines}
use Rattle.pattern.specs.Cycle.{some, cycle_of, period}
use Rattle.events.specs.Zeros.{after}
use Rattle.events.specs.Source.{no_zero, meets, any_meets}
use Rattle.events.proofs.Source.{walk_as_source, all_as_source}
use Rattle.events.proofs.Laws.{ends_there}
use Rattle.events.proofs.Gaps.{first_behind, start_above, next_above_lem, nothing_drawn}
use Rattle.pattern.proofs.Zeros.{zeros_alone}
use Rattle.outline.specs.Dash.{dashes}
use Rattle.outline.specs.Runs.{walk_of}
use Rattle.outline.specs.Zeros.{source_start, source_walk_of, source_decides_walk, source_dashes, source_decides, ZerosAndCorners}

no_zero_twice : (xs ys : List Float) → no_zero xs ≡ true → no_zero ys ≡ true → no_zero (xs ++ ys) ≡ true
no_zero_twice [] ys h k = k
no_zero_twice (x ∷ xs) ys h k = let p = and_parts (not (le x f0)) (no_zero xs) h in both_true p.0 (no_zero_twice xs ys p.1 k)

double_some : (xs : List Float) (b : Bool) → some xs ≡ true → 0 < length (cond b xs (xs ++ xs))
double_some [] b h = absurd (true≢false (sym h))
double_some (x ∷ xs) true h = omega arith
double_some (x ∷ xs) false h = omega arith

-- where the source decides, the working cycle has no zero either, and its length is even and not 0
record Decided (intervals : List Float) (met : Bool) : Type 0 where
  above : no_zero (cycle_of intervals) ≡ true
  even : length (cycle_of intervals) % 2 ≡ 0
  long : 0 < length (cycle_of intervals)
  unmet : met ≡ false

decided : (xs : List Float) (met : Bool) → (some xs && no_zero xs) && not met ≡ true → Decided xs met
decided xs met h =
    let p = and_parts (some xs && no_zero xs) (not met) h in
    let q = and_parts (some xs) (no_zero xs) p.0 in
    record {
      above = grind (arith, common_steps, no_zero_twice xs xs q.1 q.1);
      even = grind (arith, common_steps, length-append xs xs);
      long = double_some xs (eqb (length xs % 2) 0) q.0;
      unmet = not-true met p.1;
    }

walk_is_source : (intervals : List Float) (phase : Float) (p : List Vec2) → source_decides_walk intervals phase p ≡ true → walk_of intervals phase p ≡ source_walk_of intervals phase p
walk_is_source intervals phase p h =
    let d = decided intervals (meets (cycle_of intervals) (source_start intervals phase) p) h in
    walk_as_source (cycle_of intervals) d.above d.even d.long phase (period intervals) p d.unmet

dashes_as_source : (intervals : List Float) (phase : Float) (ps : List Vec2) (es : List ℕ) → source_decides intervals phase ps es ≡ true → dashes intervals phase ps es ≡ source_dashes intervals phase ps es
dashes_as_source intervals phase ps es h =
    let d = decided intervals (any_meets (cycle_of intervals) (source_start intervals phase) (polylines 0 ps es)) h in
    all_as_source (cycle_of intervals) d.above d.even d.long phase (period intervals) (polylines 0 ps es) d.unmet

pub zeros_and_corners : (intervals : List Float) (phase : Float) → ZerosAndCorners intervals phase
zeros_and_corners intervals phase =
    let cs = cycle_of intervals in
    record {
      zeros_alone = λ h tolerance. zeros_alone intervals h phase tolerance;
      first_behind = first_behind cs 0;
      next_behind = λ i. first_behind cs (after cs i);
      start_above = λ k l h. start_above cs k l h phase (period intervals);
      next_above_lem = λ k l h i. next_above_lem cs k l h i;
      ends = ends_there cs;
      no_dash = λ h ps es. nothing_drawn cs h phase (period intervals) (polylines 0 ps es);
      walk_as_source = walk_is_source intervals phase;
      as_source = dashes_as_source intervals phase;
    }

-- The measuring pass: its turn, the range of its totals, and that they are the definition's. Assumes nothing.
use mathlib.Core.Path.{◌≡◌, refl, sym, ◌∙◌}
use mathlib.Core.List.{List, [], ◌∷◌}
use Prim.Native.Nat.{ℕ, ◌+◌}
use native.Mathlib.Nat.{add-zero, zero-add}
use native.Mathlib.Omega.{arith}
use lib.ListN.{length}
use lib.Ieee.{Float}
use Rattle.path.specs.declared.Segment.{Segment}
use Rattle.path.specs.Segment.{is_line}
use Rattle.polyline.specs.declared.Spot.{Spot}
use Rattle.polyline.specs.declared.Tally.{Tally}
use Rattle.polyline.specs.Flatten.{nowhere, after, opens, adds, is_held, one, curve_count, total, kept_starts, lines, counts, added_closings, held_curves, points_out, ends_out}
use Rattle.measure.specs.Measure.{none, tally, measured, Small}
use Rattle.polyline.proofs.Lengths.{count_most, one_most, sum, polylines_are_starts}

-- ---- the loop

pub small_next : (tol : Float) (w : Spot) (s : Segment) (i : ℕ) (t u : Tally) → Small i t → u ≡ tally tol w s t → Small (i + 1) u
unfolding tally
small_next tol w s i t u h e =
    rw e
    (record {
      starts = omega (arith, h.starts, one_most (opens w s));
      lines = omega (arith, h.lines, one_most (is_line s));
      counts = omega (arith, h.counts, count_most tol w s);
      closings = omega (arith, h.closings, one_most (adds w s));
      held = omega (arith, h.held, one_most (is_held tol w s));
    })

-- ---- the totals

-- what each segment adds f to is, after the pass, as much as before and the sum of f
sums : (tol : Float) (m : Tally → ℕ) (f : Spot → Segment → ℕ) → ((w : Spot) (s : Segment) (t : Tally) → m (tally tol w s t) ≡ m t + f w s) →
    (ss : List Segment) (t : Tally) (w : Spot) → m (measured tol t w ss) ≡ m t + total f w ss
unfolding measured total
sums tol m f e [] t w = sym (add-zero (m t))
sums tol m f e (s ∷ ss) t w = omega (arith, e w s t, sums tol m f e ss (tally tol w s t) (after w s))

pub record Meant (tol : Float) (ss : List Segment) (t : Tally) : Type 0 where
  pub starts : t.starts ≡ kept_starts ss
  pub lines : t.lines ≡ lines ss
  pub counts : t.counts ≡ counts tol ss
  pub closings : t.closings ≡ added_closings ss
  pub held : t.held ≡ held_curves tol ss
  pub points : t.starts + t.lines + t.counts + t.closings ≡ length (points_out tol ss)
  pub polylines : t.starts ≡ length (ends_out tol ss)

pub meant : (tol : Float) (ss : List Segment) (t : Tally) → t ≡ measured tol none nowhere ss → Meant tol ss t
unfolding tally kept_starts lines counts added_closings held_curves
meant tol ss t e =
    let starts : t.starts ≡ kept_starts ss = rw e (sums tol (λ u. u.starts) (λ w s. one (opens w s)) (λ w s u. refl) ss none nowhere ∙ zero-add _) in
    let lines : t.lines ≡ lines ss = rw e (sums tol (λ u. u.lines) (λ w s. one (is_line s)) (λ w s u. refl) ss none nowhere ∙ zero-add _) in
    let counts : t.counts ≡ counts tol ss = rw e (sums tol (λ u. u.counts) (curve_count tol) (λ w s u. refl) ss none nowhere ∙ zero-add _) in
    let closings : t.closings ≡ added_closings ss = rw e (sums tol (λ u. u.closings) (λ w s. one (adds w s)) (λ w s u. refl) ss none nowhere ∙ zero-add _) in
    let held : t.held ≡ held_curves tol ss = rw e (sums tol (λ u. u.held) (λ w s. one (is_held tol w s)) (λ w s u. refl) ss none nowhere ∙ zero-add _) in
    record {
      starts = starts;
      lines = lines;
      counts = counts;
      closings = closings;
      held = held;
      points = omega (arith, starts, lines, counts, closings, sum tol ss);
      polylines = starts ∙ sym (polylines_are_starts tol ss);
    }

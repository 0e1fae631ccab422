-- Demand 3's flattening half over a list of segments (`kept`), and over the answer and the outputs of a call that is not refused (`call_kept`).
-- Assumes nothing.
use mathlib.Core.Path.{◌≡◌, refl, sym, ap, ◌∙◌}
use mathlib.Core.Bool.{Bool, true, false, ◌||◌, cond}
use mathlib.Core.List.{List, map}
use Prim.Native.Nat.{ℕ, ◌*◌, ◌/◌, ◌%◌, ◌≤◌}
use native.Mathlib.Omega.{arith}
use borrow.Author.Tests.{ltb-false}
use lib.Dec.{ltb, eqb}
use lib.ListN.{length, take}
use lib.Ieee.{Float}
use Rattle.vec2.specs.Points.{flat, points_in}
use Rattle.vec2.proofs.Lists.{front}
use Rattle.vec2.proofs.Points.{length-flat, points_in-flat}
use Rattle.vec2.proofs.Tests.{first_false}
use Rattle.path.specs.declared.Segment.{Segment}
use Rattle.path.specs.declared.Segment.TheVariants.{Move, Line, Quad, Cubic, Close}
use Rattle.path.specs.Segment.{segments}
use Rattle.std.specs.Prelude.{Result, Ok, Err}
use Rattle.std.specs.Result.{result_and}
use Rattle.path.specs.declared.Refusal.{Refusal}
use Rattle.path.specs.declared.Refusal.TheVariants.{OddFloats, OutputFull}
use Rattle.path.specs.Check.{check}
use Rattle.polyline.specs.declared.Flattened.{Flattened}
use Rattle.curve.proofs.Numbers.{held_for}
use Rattle.polyline.specs.declared.Spot.{Spot}
use Rattle.polyline.specs.Flatten.{nowhere, spot, places, is_held, points_out, ends_out, totals, check_outputs, Outcome, replied, flatten}
use Rattle.polyline.specs.Kept.{HeldAt, Kept}
use Rattle.polyline.specs.Subpaths.{subpaths, with_drawn, mark_of, marks_out}
use Rattle.polyline.proofs.Polylines.{subpath_polylines, ends_rise, marks_ends}
use Rattle.polyline.proofs.Lengths.{sum, polylines_are_starts}
use Rattle.polyline.proofs.Ends.{stands, in_order}
use Rattle.polyline.proofs.Counts.{asked}

-- just the curves with 1,000² < s are held back
held_at : (tol : Float) (w : Spot) (s : Segment) → HeldAt tol w s (record { count = places tol w s; held = is_held tol w s })
unfolding places is_held
held_at tol w (Move p) = refl
held_at tol w (Line p) = refl
held_at tol w (Quad c p) = held_for _ _
held_at tol w (Cubic c d p) = held_for _ _
held_at tol w Close = refl

marks_of : (ss : List Segment) → marks_out ss ≡ map mark_of (with_drawn (subpaths ss))
unfolding marks_out
marks_of ss = refl

pub kept : (tol : Float) (ss : List Segment) → Kept tol ss (totals tol ss) (points_out tol ss) (ends_out tol ss) (marks_out ss)
kept tol ss =
    record {
      stand = λ pre s post e h. rw e (stands tol pre s post h);
      asked = λ pre s post e h. rw e (asked tol pre s post h);
      exact = λ pre s post e. held_at tol (spot nowhere pre) s;
      order = λ pre s mid u post e h g. in_order tol pre s mid u h;
      all = refl;
      polylines = polylines_are_starts tol ss;
      starts = refl;
      lines = refl;
      counts = refl;
      closings = refl;
      sum = sum tol ss;
      held = refl;
      points = refl;
      polys = refl;
      ended = refl;
      each = subpath_polylines tol ss;
      marks = marks_of ss;
      rise = ends_rise tol ss;
    }

-- ---- a call that is not refused

fits : (a d : Bool) (r : Result Unit Refusal) → ◌≡◌ {A = Result Unit Refusal} (cond a (Err OddFloats) (result_and r (cond d (Err OutputFull) (Ok tt)))) (Ok tt) → d ≡ false
fits true d r h = absurd (cc)
fits false d (Err e) h = absurd (cc)
fits false true (Ok u) h = absurd (cc)
fits false false (Ok u) h = refl

-- the points and the ends that the outputs hold, and the totals
pub record Filled (vs : List ℕ) (fs : List Float) (tol : Float) (t : Flattened) (r : Outcome) : Type 0 where
  pub totals : t ≡ totals tol (segments vs fs)
  pub points : points_in (take (2 * t.points) r.floats) ≡ points_out tol (segments vs fs)
  pub polys : take t.polylines r.ends ≡ ends_out tol (segments vs fs)
  pub marks : take t.polylines r.marks ≡ marks_out (segments vs fs)

module _ (vs : List ℕ) (fs : List Float) (tol : Float) (out : List Float) (es ms : List ℕ) where
  room : check_outputs vs fs tol out es ms ≡ Ok tt →
      (2 * length (points_out tol (segments vs fs)) ≤ length out) × (length (ends_out tol (segments vs fs)) ≤ length es) × (length (marks_out (segments vs fs)) ≤ length ms)
  unfolding check_outputs
  room h =
      let d = fits (eqb (length out % 2) 1) (ltb (length out / 2) (length (points_out tol (segments vs fs))) || (ltb (length es) (length (ends_out tol (segments vs fs))) || ltb (length ms) (length (marks_out (segments vs fs))))) (check vs fs) h in
      let r = first_false (ltb (length out / 2) (length (points_out tol (segments vs fs)))) _ d in
      let q = first_false (ltb (length es) (length (ends_out tol (segments vs fs)))) (ltb (length ms) (length (marks_out (segments vs fs)))) r.1 in (
        omega (arith, ltb-false (length out / 2) (length (points_out tol (segments vs fs))) r.0),
        ltb-false (length es) (length (ends_out tol (segments vs fs))) q.0,
        ltb-false (length ms) (length (marks_out (segments vs fs))) q.1,
      )

  filled_by : (a : Result Unit Refusal) (t : Flattened) → check_outputs vs fs tol out es ms ≡ a →
      (replied a tol (segments vs fs) out es ms).answer ≡ Ok t → Filled vs fs tol t (replied a tol (segments vs fs) out es ms)
  filled_by (Ok u) t e h =
      let r = room e in
      let is : t ≡ totals tol (segments vs fs) = cc in
      rw is
      (record {
        totals = refl;
        points =
            ap points_in
            (front out (flat (points_out tol (segments vs fs))) (2 * length (points_out tol (segments vs fs)))
            (sym (length-flat (points_out tol (segments vs fs)))) (omega (arith, r.0, length-flat (points_out tol (segments vs fs)))))
            ∙ points_in-flat (points_out tol (segments vs fs));
        polys = front es (ends_out tol (segments vs fs)) (length (ends_out tol (segments vs fs))) refl r.1;
        marks = front ms (marks_out (segments vs fs)) (length (ends_out tol (segments vs fs))) (sym (marks_ends tol (segments vs fs))) r.2;
      })
  filled_by (Err r) t e h = absurd (cc)

  pub filled : (t : Flattened) → (flatten vs fs tol out es ms).answer ≡ Ok t → Filled vs fs tol t (flatten vs fs tol out es ms)
  unfolding flatten
  filled t h = filled_by (check_outputs vs fs tol out es ms) t refl h

  pub call_kept : (t : Flattened) → (flatten vs fs tol out es ms).answer ≡ Ok t →
      let r : Outcome = flatten vs fs tol out es ms in
      Kept tol (segments vs fs) t (points_in (take (2 * t.points) r.floats)) (take t.polylines r.ends) (take t.polylines r.marks)
  call_kept t h =
      let f = filled t h in
      rw (f.points, f.polys, f.marks, f.totals) (kept tol (segments vs fs))

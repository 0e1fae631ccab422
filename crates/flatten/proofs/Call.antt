-- The call: each way out gives what the definition gives. Assumes nothing.
use mathlib.Core.Path.{◌≡◌, refl, sym, ◌∙◌}
use mathlib.Core.List.{List, [], ◌∷◌}
use Prim.Native.Nat.{ℕ, zero, suc, ◌+◌, ◌*◌, ◌/◌, ◌%◌, ◌≤◌, ◌<◌}
use native.Mathlib.Omega.{arith}
use borrow.Author.Tests.{lt-ltb, le-ltb, eq-eqb, ne_eqb}
use lib.ListN.{length, take}
use lib.Seq.{sets}
use lib.Ieee.{Float}
use Rattle.vec2.specs.Points.{flat}
use Rattle.std.specs.List.{fold, slice_get}
use Rattle.std.specs.Option.{option_map_or}
use Rattle.path.specs.declared.Segment.{Segment}
use Rattle.path.specs.Segment.{segments}
use Rattle.std.specs.Prelude.{Ok, Err}
use Rattle.path.specs.declared.Refusal.{Refusal}
use Rattle.path.specs.declared.Refusal.TheVariants.{OddFloats, OutputFull}
use Rattle.path.specs.Check.{check}
use Rattle.segments.specs.Path.{Parts, checked}
use Rattle.segments.proofs.Answer.{passed, refused}
use Rattle.polyline.specs.declared.Tally.{Tally}
use Rattle.polyline.specs.declared.Spot.{Spot}
use Rattle.polyline.specs.Flatten.{nowhere, after, points_out, ends_out, check_outputs, outcome, flatten, no_count, curve_answer, count_at}
use Rattle.measure.specs.Measure.{none, measured}
use Rattle.polyline.specs.Subpaths.{marks_out}
use Rattle.measure.proofs.Measures.{Meant, meant}
use Rattle.polyline.proofs.Polylines.{marks_ends}

module _ (vs : List ℕ) (fs : List Float) (tol : Float) (out : List Float) (es ms : List ℕ) where
  refuses : (x : Refusal) → check_outputs vs fs tol out es ms ≡ Err x → outcome (Err x) out es ms ≡ flatten vs fs tol out es ms
  unfolding flatten
  refuses x e = rw e

  odd : length out % 2 ≡ 1 → check_outputs vs fs tol out es ms ≡ Err OddFloats
  unfolding check_outputs
  odd h = rw (eq-eqb (length out % 2) 1 h)

  pub odd_out : length out % 2 ≡ 1 → outcome (Err OddFloats) out es ms ≡ flatten vs fs tol out es ms
  odd_out h = refuses OddFloats (odd h)

  module _ (h1 : length out % 2 ≡ 1 → ⊥) where
    path_refused : (x : Refusal) → checked vs fs ≡ Err x → check_outputs vs fs tol out es ms ≡ Err x
    unfolding check_outputs
    path_refused x h = rw (ne_eqb (length out % 2) 1 h1, refused vs fs x h)

    pub bad_path : (x : Refusal) → checked vs fs ≡ Err x → outcome (Err x) out es ms ≡ flatten vs fs tol out es ms
    bad_path x h = refuses x (path_refused x h)

-- what is known behind the measuring
pub record Measured (vs : List ℕ) (fs : List Float) (tol : Float) (out : List Float) (path : Parts) (t : Tally) : Type 0 where
  pub even : length out % 2 ≡ 1 → ⊥
  pub read : checked vs fs ≡ Ok path
  pub same : t ≡ measured tol none nowhere (segments path.verbs path.points)

module _ {vs : List ℕ} {fs : List Float} {tol : Float} {out : List Float} {path : Parts} {t : Tally} (m : Measured vs fs tol out path t) (es ms : List ℕ) where
  h : (check vs fs ≡ Ok tt) × (path ≡ record { verbs = vs; points = fs })
  h = passed vs fs path m.read

  good : check vs fs ≡ Ok tt
  good = h.0

  means : Meant tol (segments vs fs) t
  means = rw h.1 at (meant tol (segments path.verbs path.points) t m.same)

  points_over : length out / 2 < t.starts + t.lines + t.counts + t.closings → check_outputs vs fs tol out es ms ≡ Err OutputFull
  unfolding check_outputs
  points_over h = rw (ne_eqb (length out % 2) 1 m.even, good, lt-ltb (length out / 2) (length (points_out tol (segments vs fs))) (rw (← means.points) h))

  pub few_points : length out / 2 < t.starts + t.lines + t.counts + t.closings → outcome (Err OutputFull) out es ms ≡ flatten vs fs tol out es ms
  few_points h = refuses vs fs tol out es ms OutputFull (points_over h)

  module _ (h2 : t.starts + t.lines + t.counts + t.closings ≤ length out / 2) where
    ends_over : length es < t.starts → check_outputs vs fs tol out es ms ≡ Err OutputFull
    unfolding check_outputs
    ends_over h =
        rw (
          ne_eqb (length out % 2) 1 m.even,
          good,
          le-ltb (length out / 2) (length (points_out tol (segments vs fs))) (rw (← means.points) h2),
          lt-ltb (length es) (length (ends_out tol (segments vs fs))) (rw (← means.polylines) h),
        )

    pub few_ends : length es < t.starts → outcome (Err OutputFull) out es ms ≡ flatten vs fs tol out es ms
    few_ends h = refuses vs fs tol out es ms OutputFull (ends_over h)

    module _ (h3 : t.starts ≤ length es) where
      long_marks : length (marks_out (segments vs fs)) ≡ t.starts
      long_marks = marks_ends tol (segments vs fs) ∙ sym means.polylines

      marks_over : length ms < t.starts → check_outputs vs fs tol out es ms ≡ Err OutputFull
      unfolding check_outputs
      marks_over h =
          rw (
            ne_eqb (length out % 2) 1 m.even,
            good,
            le-ltb (length out / 2) (length (points_out tol (segments vs fs))) (rw (← means.points) h2),
            le-ltb (length es) (length (ends_out tol (segments vs fs))) (rw (← means.polylines) h3),
            lt-ltb (length ms) (length (marks_out (segments vs fs))) (rw long_marks h),
          )

      pub few_marks : length ms < t.starts → outcome (Err OutputFull) out es ms ≡ flatten vs fs tol out es ms
      few_marks h = refuses vs fs tol out es ms OutputFull (marks_over h)

      module _ (h4 : t.starts ≤ length ms) where
        none_over : check_outputs vs fs tol out es ms ≡ Ok tt
        unfolding check_outputs
        none_over =
            rw (
              ne_eqb (length out % 2) 1 m.even,
              good,
              le-ltb (length out / 2) (length (points_out tol (segments vs fs))) (rw (← means.points) h2),
              le-ltb (length es) (length (ends_out tol (segments vs fs))) (rw (← means.polylines) h3),
              le-ltb (length ms) (length (marks_out (segments vs fs))) (rw long_marks h4),
            )

        pub has_room : (2 * length (points_out tol (segments path.verbs path.points)) ≤ length out)
            × (length (ends_out tol (segments path.verbs path.points)) ≤ length es) × (length (marks_out (segments path.verbs path.points)) ≤ length ms)
        has_room = rw h.1 (omega (arith, h2, means.points), omega (arith, h3, means.polylines), omega (arith, h4, long_marks))

        pub done : (o : List Float) (es' ms' : List ℕ) →
            o ≡ sets out 0 (flat (points_out tol (segments path.verbs path.points))) → es' ≡ sets es 0 (ends_out tol (segments path.verbs path.points)) → ms' ≡ sets ms 0 (marks_out (segments path.verbs path.points)) →
            outcome
            (Ok (record {
              points = t.starts + t.lines + t.counts + t.closings;
              polylines = t.starts;
              starts = t.starts;
              lines = t.lines;
              counts = t.counts;
              closings = t.closings;
              held = t.held;
            })) o es' ms'
            ≡ flatten vs fs tol out es ms
        unfolding flatten
        done o es' ms' eo ep eq =
            let k = means in
            rw (none_over, eo, ep, eq, h.1) (cc)

-- ---- a carried count

-- that of segment j, where those before it lead
pub count_at_is : (tol : Float) (ss : List Segment) (w : Spot) (j : ℕ) → count_at tol w ss j ≡ option_map_or (curve_answer tol (fold after w (take j ss))) (slice_get ss j) no_count
unfolding count_at
count_at_is tol [] w j = refl
count_at_is tol (s ∷ ss) w zero = refl
count_at_is tol (s ∷ ss) w (suc j) = count_at_is tol ss (after w s) j

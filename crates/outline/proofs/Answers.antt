-- An answer's number and values tell its case, and how dashing's outcome follows from its tests. Assumes nothing.
use mathlib.Core.Path.{◌≡◌, refl, sym, ◌∙◌, ap}
use Prim.Native.Nat.{ℕ, ◌/◌, ◌%◌, ◌≤◌}
use native.Mathlib.Omega.{arith}
use mathlib.Core.Bool.{Bool, true, false, cond, ◌&&◌, true≢false}
use mathlib.Core.List.{List, []}
use mathlib.Core.Option.{none-ne-some, some-injective}
use lib.ListN.{length}
use lib.Seq.{sets}
use lib.Dec.{ltb}
use lib.Ieee.{Float}
use borrow.Author.Tests.{eqb-true, le-leb, ltb-false}
use Rattle.float.specs.Arith.{f0}
use Rattle.vec2.specs.declared.Vec2.{Vec2}
use Rattle.vec2.specs.Points.{flat, points_in}
use Rattle.vec2.proofs.Points.{length-flat, points_in-flat}
use Rattle.path.specs.declared.Segment.{Segment}
use Rattle.path.specs.declared.FillRule.{FillRule}
use Rattle.path.specs.Segment.{segments}
use Rattle.std.specs.Prelude.{Result, Ok, Err}
use Rattle.std.specs.Result.{result_and}
use Rattle.std.proofs.lemmas.Grind.{common_steps}
use Rattle.path.specs.declared.Refusal.{Refusal}
use Rattle.path.specs.declared.Refusal.TheVariants.{OddFloats, OutputFull, LongPattern}
use Rattle.path.specs.Check as path
use Rattle.path.proofs.Refusals.{number_tells}
use Rattle.polyline.specs.Flatten.{points_out, ends_out, held_curves}
use Rattle.polyline.specs.Subpaths.{marks_out}
use Rattle.pattern.specs.Cycle.{max_intervals, cycle_of, sum_from, cuts}
use Rattle.events.specs.Phase.{start_of}
use Rattle.outline.specs.declared.Dashed.{Dashed}
use Rattle.outline.specs.declared.Dashed.TheVariants.{Whole, Cut}
use Rattle.outline.specs.Answer.{Answer, refused_by, cut_into, answer_of}
use Rattle.outline.specs.declared.Outline.{Outline}
use Rattle.outline.specs.Dash.{even, check, walked, dashes, scratch_fits, fits_both, cut_outcome, out_if, out_outcome, Outcome, outcome, keeping, cutting, dashing}

-- ---- the case

pub answer_case : (a b : Result Dashed Refusal) → answer_of a ≡ answer_of b → a ≡ b
answer_case (Ok Whole) (Ok Whole) h = refl
answer_case (Ok Whole) (Ok (Cut p)) h = absurd (true≢false (ap (λ (z : Answer). z.whole) h))
answer_case (Ok Whole) (Err m) h = absurd (true≢false (ap (λ (z : Answer). z.whole) h))
answer_case (Ok (Cut o)) (Ok Whole) h = absurd (true≢false (sym (ap (λ (z : Answer). z.whole) h)))
answer_case (Ok (Cut o)) (Ok (Cut p)) h = ap (λ (q : Outline). Ok (Cut q)) (some-injective o p (ap (λ (z : Answer). z.cut) h))
answer_case (Ok (Cut o)) (Err m) h = absurd (none-ne-some o (sym (ap (λ (z : Answer). z.cut) h)))
answer_case (Err n) (Ok Whole) h = absurd (true≢false (sym (ap (λ (z : Answer). z.whole) h)))
answer_case (Err n) (Ok (Cut p)) h = absurd (none-ne-some p (ap (λ (z : Answer). z.cut) h))
answer_case (Err n) (Err m) h = ap (λ (r : Refusal). Err r) (number_tells n m (ap (λ (z : Answer). z.number) h))

-- ---- refusals

module _ (verbs : List ℕ) (points : List Float) (rule : FillRule) (intervals : List Float) (phase tolerance : Float) (scratch : List Float) (ends marks us : List ℕ) (gs : List Float) where
  abbrev ps : List Vec2
  ps = points_out tolerance (segments verbs points)

  abbrev es : List ℕ
  es = ends_out tolerance (segments verbs points)

  abbrev ms : List ℕ
  ms = marks_out (segments verbs points)

  abbrev ss : List Segment
  ss = dashes intervals phase ps es

  -- ---- the scratch

  pub scratch_full : scratch_fits ps es ms scratch ends marks ≡ false → (s' : List Float) (e' m' : List ℕ) → s' ≡ scratch → e' ≡ ends → m' ≡ marks
      → outcome (refused_by OutputFull) s' e' m' us gs ≡ cutting verbs points rule intervals phase tolerance scratch ends marks us gs
  scratch_full h s' e' m' p q r = rw (h, p, q, r)

  pub scratch_kept : scratch_fits ps es ms scratch ends marks ≡ true
      → (s' : List Float) (e' m' : List ℕ) → s' ≡ sets scratch 0 (flat ps) → e' ≡ sets ends 0 es → m' ≡ sets marks 0 ms
      → (l : List Float) (k : List ℕ) → l ≡ flat ps → k ≡ es → (cs : List Float) → cs ≡ cycle_of intervals
      → (held : ℕ) → held ≡ held_curves tolerance (segments verbs points)
      → (a : Answer) (vs' : List ℕ) (fs' : List Float) → cut_outcome a vs' fs' ≡ out_outcome (walked cs (start_of cs phase (sum_from f0 cs)) (points_in l) k) (length l / 2) (length k) held rule us gs
      → outcome a s' e' m' vs' fs' ≡ cutting verbs points rule intervals phase tolerance scratch ends marks us gs
  scratch_kept f s' e' m' p q r l k lp kp cs cp held hp a vs' fs' h =
      let n : length l / 2 ≡ length ps = omega (arith, ap length lp, length-flat ps) in
      let m : points_in l ≡ ps = ap points_in lp ∙ points_in-flat ps in
      let d : walked cs (start_of cs phase (sum_from f0 cs)) (points_in l) k ≡ ss = rw (m, kp, cp) in
      rw (f, p, q, r) (ap (keeping (sets scratch 0 (flat ps)) (sets ends 0 es) (sets marks 0 ms)) (h ∙ rw (d, n, kp, hp)))

  -- ---- the whole call

  abbrev checked : Result Unit Refusal
  checked = check verbs points intervals (length scratch) (length gs)

  pub is_cut : checked ≡ Ok tt → cuts intervals phase tolerance ≡ true → (o : Outcome)
      → o ≡ cutting verbs points rule intervals phase tolerance scratch ends marks us gs → o ≡ dashing verbs points rule intervals phase tolerance scratch ends marks us gs
  is_cut h k o q = rw (h, k) q

-- ---- what is known where nothing is refused before any work

passes : (a b c : Bool) (r : Result Unit Refusal) (d : Bool) →
    ◌≡◌ {A = Result Unit Refusal} (cond (a && (b && c)) (result_and r (cond d (Err LongPattern) (Ok tt))) (Err OddFloats)) (Ok tt) → (b ≡ true) × (r ≡ Ok tt) × (d ≡ false)
passes a b c (Ok u) d h = grind (arith, common_steps)
passes a b c (Err e) d h = grind (arith, common_steps)

pub none_refused : (verbs : List ℕ) (points intervals : List Float) (n m : ℕ) → check verbs points intervals n m ≡ Ok tt →
    (n % 2 ≡ 0) × (path.check verbs points ≡ Ok tt) × (length intervals ≤ max_intervals)
none_refused verbs points intervals n m h =
    let p = passes (even (length points)) (even n) (even m) (path.check verbs points) (ltb max_intervals (length intervals)) h in
    (eqb-true _ _ p.0, p.1, ltb-false _ _ p.2)

-- ---- nothing is drawn

none_fit : (n m : ℕ) → fits_both 0 0 n m ≡ true
none_fit n m = rw (le-leb 0 n (omega arith), le-leb 0 (m / 2) (omega arith))

none_out : (n k held : ℕ) (rule : FillRule) (vs : List ℕ) (fs : List Float) (b : Bool) → b ≡ true
    → cut_outcome (cut_into (record { verbs = 0; points = 0; scratch = n; polylines = k; held = held; rule = rule })) vs fs ≡ out_if b [] n k held rule vs fs
none_out n k held rule vs fs true h = refl
none_out n k held rule vs fs false h = absurd (true≢false (sym h))

pub cut_none : (ss : List Segment) → ss ≡ [] → (n k held : ℕ) (rule : FillRule) (vs : List ℕ) (fs : List Float)
    → cut_outcome (cut_into (record { verbs = 0; points = 0; scratch = n; polylines = k; held = held; rule = rule })) vs fs ≡ out_outcome ss n k held rule vs fs
cut_none _ e n k held rule vs fs =
    none_out n k held rule vs fs (fits_both 0 0 (length vs) (length fs)) (none_fit (length vs) (length fs)) ∙ sym (ap (λ (l : List Segment). out_outcome l n k held rule vs fs) e)

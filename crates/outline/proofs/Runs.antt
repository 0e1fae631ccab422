-- The filled part of the dash buffers is runs and nothing else, and what is not cut says that no curve was held back (W2), from the equation of `dash_path` alone.
-- Assumes nothing.
use mathlib.Core.Path.{◌≡◌, refl, sym, ◌∙◌, ap, subst}
use Prim.Native.Nat.{ℕ, ◌*◌, ◌/◌, ◌≤◌}
use native.Mathlib.Omega.{arith}
use mathlib.Core.Bool.{Bool, true, false, ◌&&◌}
use mathlib.Core.List.{List}
use mathlib.Core.Option.{none, some, none-ne-some, some-injective}
use lib.ListN.{length, take}
use lib.Seq.{sets}
use lib.Dec.{leb}
use lib.Ieee.{Float}
use borrow.Author.Tests.{leb-true}
use Rattle.vec2.specs.declared.Vec2.{Vec2}
use Rattle.vec2.specs.Points.{flat, points_in}
use Rattle.vec2.proofs.Points.{length-flat, points_in-flat}
use Rattle.path.specs.declared.Segment.{Segment}
use Rattle.path.specs.declared.FillRule.{FillRule}
use Rattle.path.specs.Segment.{segments, bytes_of, all_points}
use Rattle.path.proofs.Encoded.{length-bytes}
use Rattle.polyline.specs.Flatten.{points_out, ends_out, held_curves}
use Rattle.polyline.specs.Subpaths.{marks_out}
use Rattle.polyline.specs.Polylines.{polylines}
use Rattle.polyline.proofs.Polylines.{marks_ends}
use Rattle.pattern.specs.Cycle.{cycle_of, period, cuts}
use Rattle.events.specs.Phase.{start_of}
use Rattle.events.proofs.Runs.{all_runs}
use Rattle.outline.specs.declared.Outline.{Outline}
use Rattle.outline.specs.Answer.{cut_into}
use Rattle.std.specs.Prelude.{Result, Ok, Err}
use Rattle.path.specs.declared.Refusal.{Refusal}
use Rattle.outline.specs.Dash.{check, dashes, scratch_fits, out_fits, outline_for, out_if, Outcome, keeping, kept_if, cutting, dashed_by, dashing}
use Rattle.outline.specs.Runs.{CutIntoRuns}
use Rattle.std.proofs.lemmas.Bool.{and_parts}
use Rattle.outline.proofs.Caps.{fits}
use Rattle.vec2.proofs.Lists.{front}

module _ (path : List Segment) (intervals : List Float) (phase tolerance : Float) (rule : FillRule) (scratch : List Float) (ends marks vs : List ℕ) (fs : List Float) (o : Outline) where
  abbrev ps : List Vec2
  ps = points_out tolerance path

  abbrev es : List ℕ
  es = ends_out tolerance path

  abbrev ms : List ℕ
  ms = marks_out path

  abbrev ss : List Segment
  ss = dashes intervals phase ps es

  abbrev held : ℕ
  held = held_curves tolerance path

  -- what is left once the scratch takes the polylines, by whether the dash buffers take the dashes
  abbrev left : Bool → Outcome
  left b = keeping (sets scratch 0 (flat ps)) (sets ends 0 es) (sets marks 0 ms) (out_if b ss (length ps) (length es) held rule vs fs)

  laid : scratch_fits ps es ms scratch ends marks ≡ true → out_fits ss vs fs ≡ true → outline_for ss (length ps) (length es) held rule ≡ o → CutIntoRuns path intervals phase tolerance rule o (left true)
  laid f g q =
      let a = and_parts (leb (length ps) (length scratch / 2)) (leb (length es) (length ends) && leb (length ms) (length marks)) f in
      let d = and_parts (leb (length es) (length ends)) (leb (length ms) (length marks)) a.1 in
      let y : length ps ≤ length scratch / 2 = leb-true _ _ a.0 in
      let b = fits (length ss) (length (all_points ss)) (length vs) (length fs) g in
      let np : o.scratch ≡ length ps = sym (ap (λ (z : Outline). z.scratch) q) in
      let no : o.points ≡ length (all_points ss) = sym (ap (λ (z : Outline). z.points) q) in
      let nv : o.verbs ≡ length ss = sym (ap (λ (z : Outline). z.verbs) q) in
      let kept : points_in (take (2 * o.scratch) (sets scratch 0 (flat ps))) ≡ ps =
      ap points_in (front scratch (flat ps) (2 * o.scratch) (omega (arith, np, length-flat ps)) (omega (arith, y, length-flat ps))) ∙ points_in-flat ps in
      let nk : o.polylines ≡ length es = sym (ap (λ (z : Outline). z.polylines) q) in
      let ended : take o.polylines (sets ends 0 es) ≡ es = front ends es o.polylines nk (leb-true _ _ d.0) in
      record {
        segments = ss;
        whole_reply = ap cut_into q;
        verbs = front vs (bytes_of ss) o.verbs (omega (arith, nv, length-bytes ss)) (omega (arith, b.verb, length-bytes ss));
        points = front fs (flat (all_points ss)) (2 * o.points) (omega (arith, no, length-flat (all_points ss))) (omega (arith, b.point, length-flat (all_points ss)));
        all_verbs = nv;
        every_point = no;
        all_kept = np;
        all_ended = nk;
        kept = kept;
        ended = ended;
        marked = front marks ms o.polylines (nk ∙ sym (marks_ends tolerance path)) (leb-true _ _ d.1);
        runs = rw (kept, ended) (all_runs (cycle_of intervals) (start_of (cycle_of intervals) phase (period intervals)) (polylines 0 ps es));
        said = refl;
        held = sym (ap (λ (z : Outline). z.held) q);
        same_rule = sym (ap (λ (z : Outline). z.rule) q);
      }

  -- only one of the answers is a cut
  not_cut : {A : Type 0} → none ≡ some o → A
  not_cut h = absurd (none-ne-some o h)

  -- of an outcome
  abbrev Cuts : Outcome → Type 0
  Cuts z = z.reply.cut ≡ some o → CutIntoRuns path intervals phase tolerance rule o z

  out : (b : Bool) → scratch_fits ps es ms scratch ends marks ≡ true → out_fits ss vs fs ≡ b → Cuts (left b)
  out true f g h = laid f g (some-injective _ o h)
  out false f g h = not_cut h

  kept : (b : Bool) → scratch_fits ps es ms scratch ends marks ≡ b → Cuts (kept_if b ps es ms ss held rule scratch ends marks vs fs)
  kept true f h = out (out_fits ss vs fs) f refl h
  kept false f h = not_cut h

  answers : (n : Result Unit Refusal) (c : Bool) → Cuts (dashed_by n c (kept_if (scratch_fits ps es ms scratch ends marks) ps es ms ss held rule scratch ends marks vs fs) scratch ends marks vs fs)
  answers (Err r) c h = not_cut h
  answers (Ok u) false h = not_cut h
  answers (Ok u) true h = kept (scratch_fits ps es ms scratch ends marks) refl h

-- what `dash_path` ensures of its outcome b
pub dash_runs : (verbs : List ℕ) (points : List Float) (rule : FillRule) (intervals : List Float) (phase tolerance : Float) (scratch : List Float) (ends marks vs : List ℕ) (fs : List Float) (b : Outcome) (o : Outline)
    → b ≡ dashing verbs points rule intervals phase tolerance scratch ends marks vs fs → b.reply.cut ≡ some o → CutIntoRuns (segments verbs points) intervals phase tolerance rule o b
dash_runs verbs points rule intervals phase tolerance scratch ends marks vs fs b o e h =
    subst (λ (z : Outcome). CutIntoRuns (segments verbs points) intervals phase tolerance rule o z) (sym e)
    (answers (segments verbs points) intervals phase tolerance rule scratch ends marks vs fs o (check verbs points intervals (length scratch) (length fs)) (cuts intervals phase tolerance) (sym (ap (λ (z : Outcome). z.reply.cut) e) ∙ h))

-- ---- W2: what is not cut says 0

-- of an outcome
abbrev SaysNone : Outcome → Type 0
SaysNone z = z.reply.cut ≡ none → z.reply.held ≡ 0

out_none : (b : Bool) (ss : List Segment) (n k held : ℕ) (rule : FillRule) (vs : List ℕ) (fs : List Float) (s : List Float) (e m : List ℕ) → SaysNone (keeping s e m (out_if b ss n k held rule vs fs))
out_none true _ _ _ _ _ _ _ _ _ _ h = absurd (none-ne-some _ (sym h))
out_none false _ _ _ _ _ _ _ _ _ _ h = refl

kept_none : (b : Bool) (ps : List Vec2) (es ms : List ℕ) (ss : List Segment) (held : ℕ) (rule : FillRule) (scratch : List Float) (ends marks vs : List ℕ) (fs : List Float) → SaysNone (kept_if b ps es ms ss held rule scratch ends marks vs fs)
kept_none true qs ns ks xs _ rule scratch ends marks vs fs h = out_none (out_fits xs vs fs) xs (length qs) (length ns) _ rule vs fs (sets scratch 0 (flat qs)) (sets ends 0 ns) (sets marks 0 ks) h
kept_none false _ _ _ _ _ _ _ _ _ _ _ h = refl

answered_none : (n : Result Unit Refusal) (c : Bool) (z : Outcome) (scratch : List Float) (ends marks vs : List ℕ) (fs : List Float) → SaysNone z → SaysNone (dashed_by n c z scratch ends marks vs fs)
answered_none (Err r) c z scratch ends marks vs fs f h = refl
answered_none (Ok u) false z scratch ends marks vs fs f h = refl
answered_none (Ok u) true z scratch ends marks vs fs f h = f h

-- what `dash_path` answers where it doesn't cut
pub dash_uncut : (verbs : List ℕ) (points : List Float) (rule : FillRule) (intervals : List Float) (phase tolerance : Float) (scratch : List Float) (ends marks vs : List ℕ) (fs : List Float)
    → SaysNone (dashing verbs points rule intervals phase tolerance scratch ends marks vs fs)
dash_uncut verbs points rule intervals phase tolerance scratch ends marks vs fs =
    answered_none (check verbs points intervals (length scratch) (length fs)) (cuts intervals phase tolerance) (cutting verbs points rule intervals phase tolerance scratch ends marks vs fs) scratch ends marks vs fs
    (kept_none (scratch_fits (points_out tolerance (segments verbs points)) (ends_out tolerance (segments verbs points)) (marks_out (segments verbs points)) scratch ends marks) _ _ _ _ _ rule scratch ends marks vs fs)

-- The path that a list of calls leaves is read as the laid list.
--     built     from a fresh builder over lent buffers of any length and content
-- Assumes nothing.
use mathlib.Core.Path.{◌≡◌, refl, sym, ap, ◌∙◌}
use mathlib.Core.Bool.{Bool, true, false, cond}
use mathlib.Core.List.{List, [], ◌∷◌, ◌++◌, append_assoc, append-nil}
use Prim.Native.Nat.{ℕ, ◌+◌, ◌*◌, ◌≤◌}
use native.Mathlib.Omega.{arith}
use lib.ListN.{length, take, length-append}
use lib.Seq.{length-sets}
use lib.Ieee.{Float}
use Rattle.std.specs.Prelude.{Result, Ok, Err}
use Rattle.std.specs.Result.{is_err}
use Rattle.path.specs.declared.Refusal.{Refusal}
use Rattle.vec2.specs.Points.{flat}
use Rattle.vec2.proofs.Lists.{take-stored}
use Rattle.vec2.proofs.Points.{flat_append, length-flat}
use Rattle.path.specs.declared.Segment.{Segment}
use Rattle.path.specs.declared.Segment.TheVariants.{Move, Line, Quad, Cubic, Close}
use Rattle.path.specs.Segment.{points_of, bytes_of, all_points, segments}
use Rattle.path.specs.Check.{max_verbs, max_points}
use Rattle.path.proofs.Encoded.{bytes_of-append, all_points-append, length-bytes, segments_code}
use Rattle.builder.specs.declared.PathBuilder.{PathBuilder}
use Rattle.builder.specs.declared.Call.{Call}
use Rattle.builder.specs.declared.Call.TheVariants.{MoveTo, LineTo, QuadTo, ConicTo, CubicTo, Close as CloseIt, WithFillRule, AsRoundedRect}
use Rattle.builder.specs.Call.{lays}
use Rattle.builder.specs.Build.{standing, start_of, pen_of, step, steps, ruled_by, noted_as, set_by, finite_box, refusal, new, Built, pushed_by, pushed, called, call, left_by, run, answers, refusals, fresh_over}
use Rattle.builder.specs.Laid.{Laid, nothing, put, puts, some, lay, feed, laid_from, laid_by, path_verbs, path_floats}
use Rattle.store.specs.Refusal.{Fits}
use Rattle.store.proofs.Refusals.{refusal_fits}

-- ---- what holds between a builder and the laid list

pub record Same (b : PathBuilder) (l : Laid) : Type 0 where
  pub started : b.started ≡ some l.segs
  pub pen : pen_of b ≡ l.pen
  pub start : start_of b ≡ l.start

pub record Inv (b : Built) (l : Laid) : Type 0 where
  pub fit_verbs : b.state.verbs ≤ length b.bytes
  pub fit_points : 2 * b.state.points ≤ length b.floats
  pub verbs : take b.state.verbs b.bytes ≡ bytes_of l.segs
  pub points : take (2 * b.state.points) b.floats ≡ flat (all_points l.segs)
  pub few_verbs : b.state.verbs ≤ max_verbs
  pub few_points : b.state.points ≤ max_points
  pub same : Same b.state l

-- ---- segment by segment

some_snoc : (ss : List Segment) (x : Segment) → true ≡ some (ss ++ x ∷ [])
some_snoc [] x = refl
some_snoc (s ∷ ss) x = refl

same_step : (b : PathBuilder) (l : Laid) (x : Segment) → Same b l → Same (step b x) (put l x)
same_step b l (Move p) h = record { started = some_snoc l.segs (Move p); pen = refl; start = refl }
same_step b l (Line p) h = record { started = some_snoc l.segs (Line p); pen = refl; start = h.start }
same_step b l (Quad c p) h = record { started = some_snoc l.segs (Quad c p); pen = refl; start = h.start }
same_step b l (Cubic c d p) h = record { started = some_snoc l.segs (Cubic c d p); pen = refl; start = h.start }
same_step b l Close h = record { started = some_snoc l.segs Close; pen = h.start; start = h.start }

same_steps : (ss : List Segment) (b : PathBuilder) (l : Laid) → Same b l → Same (steps b ss) (puts l ss)
unfolding steps puts
same_steps [] b l h = h
same_steps (x ∷ xs) b l h = same_steps xs (step b x) (put l x) (same_step b l x h)

put_segs : (l : Laid) (x : Segment) → (put l x).segs ≡ l.segs ++ x ∷ []
put_segs l (Move p) = refl
put_segs l (Line p) = refl
put_segs l (Quad c p) = refl
put_segs l (Cubic c d p) = refl
put_segs l Close = refl

pub puts_segs : (ss : List Segment) (l : Laid) → (puts l ss).segs ≡ l.segs ++ ss
unfolding puts
puts_segs [] l = sym (append-nil l.segs)
puts_segs (x ∷ xs) l = puts_segs xs (put l x) ∙ rw (put_segs l x) (append_assoc l.segs (x ∷ []) xs)

step_counts : (b : PathBuilder) (x : Segment) → ((step b x).verbs ≡ b.verbs + 1) × ((step b x).points ≡ b.points + length (points_of x))
step_counts b (Move p) = (refl, refl)
step_counts b (Line p) = (refl, refl)
step_counts b (Quad c p) = (refl, refl)
step_counts b (Cubic c d p) = (refl, refl)
step_counts b Close = (refl, refl)

steps_counts : (ss : List Segment) (b : PathBuilder) → ((steps b ss).verbs ≡ b.verbs + length ss) × ((steps b ss).points ≡ b.points + length (all_points ss))
unfolding steps
steps_counts [] b = (omega arith, omega arith)
steps_counts (x ∷ xs) b =
    let h = steps_counts xs (step b x) in
    let c = step_counts b x in
    (omega arith, simp length-append (omega arith))

-- ---- one call

module _ (b : Built) (l : Laid) (i : Inv b l) where
  -- segments that have room
  grow : (q : ℕ) (ss : List Segment) → Fits (standing b.state) (length b.bytes) (length b.floats) (length ss) (length (all_points ss)) →
      Inv (left_by (pushed_by (Ok tt) q b.state b.bytes b.floats ss)) (puts l ss)
  grow q ss r =
      let n = steps_counts ss b.state in
      let e = puts_segs ss l in
      record {
        fit_verbs = rw length-sets (omega arith);
        fit_points = rw length-sets (omega arith);
        verbs =
            take-stored b.bytes b.state.verbs (bytes_of ss) (steps b.state ss).verbs (omega (arith, length-bytes ss)) (omega arith)
            ∙ rw (i.verbs, e, bytes_of-append l.segs ss);
        points =
            take-stored b.floats (2 * b.state.points) (flat (all_points ss)) (2 * (steps b.state ss).points) (omega (arith, length-flat (all_points ss))) (omega arith)
            ∙ rw (i.points, e, all_points-append l.segs ss, flat_append (all_points l.segs) (all_points ss));
        few_verbs = omega arith;
        few_points = omega arith;
        same = same_steps ss b.state l i.same;
      }

  -- the builder and the laid list agree on what a call lays
  agree : (c : Call) → new b.state c ≡ lays (some l.segs) l.pen c
  agree c = rw (i.same.started, i.same.pen)

  -- refused or not
  fed_by : (n : Result Unit Refusal) (q : ℕ) (c : Call) → refusal b.state (length b.bytes) (length b.floats) (length (new b.state c)) (length (all_points (new b.state c))) ≡ n →
      Inv (left_by (pushed_by n q b.state b.bytes b.floats (new b.state c))) (feed (is_err (pushed_by n q b.state b.bytes b.floats (new b.state c)).reply.quads) l c)
  unfolding lay refusal
  fed_by (Ok x) q c e = rw (← agree c) (grow q (new b.state c) (refusal_fits (standing b.state) _ _ _ _ e))
  fed_by (Err r) q c e = i

  -- the fill rule and the note
  still : (s : PathBuilder) → s.verbs ≡ b.state.verbs → s.points ≡ b.state.points → s.started ≡ b.state.started → pen_of s ≡ pen_of b.state → start_of s ≡ start_of b.state →
      Inv (record { state = s; bytes = b.bytes; floats = b.floats }) l
  still s ev ek et ep es =
      record {
        fit_verbs = omega (arith, ev, i.fit_verbs);
        fit_points = omega (arith, ek, i.fit_points);
        verbs = ap (λ (n : ℕ). take n b.bytes) ev ∙ i.verbs;
        points = ap (λ (n : ℕ). take (2 * n) b.floats) ek ∙ i.points;
        few_verbs = omega (arith, ev, i.few_verbs);
        few_points = omega (arith, ek, i.few_points);
        same = record { started = et ∙ i.same.started; pen = ep ∙ i.same.pen; start = es ∙ i.same.start };
      }

  noted_still : (t : Bool) (s u : PathBuilder) → Inv (record { state = s; bytes = b.bytes; floats = b.floats }) l → Inv (record { state = u; bytes = b.bytes; floats = b.floats }) l →
      Inv (record { state = cond t s u; bytes = b.bytes; floats = b.floats }) l
  noted_still true s u h k = h
  noted_still false s u h k = k

  fed : (c : Call) → Inv (left_by (call b c)) (feed (is_err (call b c).reply.quads) l c)
  unfolding called pushed lays lay puts set_by
  fed (MoveTo p) = fed_by _ _ (MoveTo p) refl
  fed (LineTo p) = fed_by _ _ (LineTo p) refl
  fed (QuadTo c p) = fed_by _ _ (QuadTo c p) refl
  fed (ConicTo c p w) = fed_by _ _ (ConicTo c p w) refl
  fed (CubicTo c d p) = fed_by _ _ (CubicTo c d p) refl
  fed CloseIt = fed_by _ _ CloseIt refl
  fed (WithFillRule r) = still (ruled_by b.state r) refl refl refl refl refl
  fed (AsRoundedRect x r) = noted_still (finite_box x.min x.max r) _ _ (still (noted_as b.state true x.min x.max _) refl refl refl refl refl) (still (noted_as b.state false _ _ _) refl refl refl refl refl)

-- ---- a list of calls

pub ran : (cs : List Call) (b : Built) (l : Laid) → Inv b l → Inv (run b cs) (laid_from l cs (refusals b cs))
unfolding run answers laid_from
ran [] b l i = i
ran (c ∷ cs) b l i = ran cs (left_by (call b c)) (feed (is_err (call b c).reply.quads) l c) (fed b l i c)

pub begins : (bs : List ℕ) (fs : List Float) → Inv (fresh_over bs fs) nothing
begins bs fs =
    record {
      fit_verbs = omega arith;
      fit_points = omega arith;
      verbs = refl;
      points = refl;
      few_verbs = omega arith;
      few_points = omega arith;
      same = record { started = refl; pen = refl; start = refl };
    }

-- what stands is read as what was laid
reads : (b : Built) (l : Laid) → Inv b l → segments (path_verbs b) (path_floats b) ≡ l.segs
reads b l i = rw (i.verbs, i.points) (segments_code l.segs)

pub built : (cs : List Call) (bs : List ℕ) (fs : List Float) →
    segments (path_verbs (run (fresh_over bs fs) cs)) (path_floats (run (fresh_over bs fs) cs)) ≡ laid_by cs bs fs
built cs bs fs = reads (run (fresh_over bs fs) cs) _ (ran cs (fresh_over bs fs) nothing (begins bs fs))

-- The writing pass: points and ends stored one behind the other. Assumes nothing.
use mathlib.Core.Path.{◌≡◌, refl, sym, ap, ◌∙◌}
use mathlib.Core.Bool.{Bool, true, false, not}
use mathlib.Core.List.{List, [], ◌∷◌, ◌++◌, append-nil}
use Prim.Native.Nat.{ℕ, pred, ◌+◌, ◌-◌, ◌*◌, ◌≤◌, ◌<◌}
use native.Mathlib.Nat.{zero-add}
use native.Mathlib.Omega.{arith}
use lib.ListN.{length, take, drop, length-append}
use lib.Seq.{sets, length-sets}
use lib.Ieee.{Float}
use Rattle.std.specs.Bool.{then_some}
use Rattle.std.specs.Option.{option_len, option_map, option_to_list}
use Rattle.vec2.specs.declared.Vec2.{Vec2}
use Rattle.vec2.specs.Points.{flat}
use Rattle.vec2.proofs.Points.{flat_append, length-flat, sets-append}
use Rattle.path.specs.declared.Segment.{Segment}
use Rattle.path.specs.declared.Segment.TheVariants.{Line, Quad, Cubic, Close}
use Rattle.path.specs.Segment.{is_close, segments}
use Rattle.float.specs.declared.SegmentCount.{SegmentCount}
use Rattle.float.specs.Count.{segment_answer}
use Rattle.curve.specs.Count.{quad_s, cubic_s, eval_quad, eval_cubic, param}
use Rattle.curve.proofs.Numbers.{counted}
use Rattle.polyline.specs.declared.Spot.{Spot}
use Rattle.polyline.specs.Flatten.{nowhere, close_adds, after, stops, only_if, one, places, steps, curved, body, writes, written, endings, points_out, ends_out}
use Rattle.polyline.specs.Pass.{marks_from}
use Rattle.polyline.proofs.Pass.{close_read}
use Rattle.segments.proofs.Read.{length-segs}
use Rattle.std.proofs.lemmas.List.{length-take-le, get_or-take, take_all, drop-drop}
use Rattle.write.specs.Write.{begun, inner_points, last_closes, last_mark, Wrote, Ended}
use Rattle.polyline.specs.Subpaths.{mark, marks_out}
use Rattle.polyline.proofs.Points.{length-steps, the_end}
use Rattle.polyline.proofs.Lengths.{length-only_if}
use Rattle.polyline.proofs.Subpaths.{marks_are}

-- ---- one after the other

wrote_two : {l m n : List Float} {a b c : ℕ} {ps qs : List Vec2} → Wrote l m a b ps → Wrote m n b c qs → Wrote l n a c (ps ++ qs)
wrote_two {l} {m} {n} {a} {b} {c} {ps} {qs} p q =
    let e : 2 * a + length (flat ps) ≡ 2 * (a + length ps) = omega (arith, length-flat ps) in
    record {
      stored = q.stored ∙ rw (p.stored, p.moved, flat_append, sets-append, e);
      moved = simp length-append (omega (arith, p.moved, q.moved));
    }

-- ---- a drawn segment of n lines

long_curved : (eval : Float → Vec2) (n : ℕ) (p : Vec2) → 1 ≤ n → length (curved eval n p) ≡ n
long_curved eval n p h = omega (arith, h, length-append (steps (λ i. eval (param i n)) 1 (pred n)) (p ∷ []), length-steps (λ i. eval (param i n)) 1 (pred n))

pub wrote_curve : (w : Spot) (eval : Float → Vec2) (n : ℕ) (p : Vec2) → 1 ≤ n → {l m o q : List Float} {a b : ℕ} →
    Wrote l m a b (only_if (not w.drawn) w.start) → o ≡ sets m (2 * b) (flat (inner_points eval n)) → q ≡ sets o (2 * (b + n - 1)) (flat (p ∷ [])) →
    Wrote l q a (b + n) (begun w (curved eval n p))
wrote_curve w eval n p h {m} {o} {q} {b} start inner end =
    wrote_two start (record { stored = the_end m o q b (pred n) eval n inner p (omega (arith, h)) end; moved = rw (long_curved eval n p h) })

-- what a drawn segment writes
pub record Draws (ps : List Vec2) (w : Spot) (eval : Float → Vec2) (n : ℕ) (p : Vec2) : Type 0 where
  pub count : (1 ≤ n) × (n ≤ 1000)
  pub is : ps ≡ begun w (curved eval n p)
  pub long : length ps ≡ length (only_if (not w.drawn) w.start) + n

draws : {ps : List Vec2} (w : Spot) (eval : Float → Vec2) (n : ℕ) (p : Vec2) → (1 ≤ n) × (n ≤ 1000) → ps ≡ begun w (curved eval n p) → Draws ps w eval n p
draws w eval n p h e =
    record {
      count = h;
      is = e;
      long = ap length e ∙ length-append (only_if (not w.drawn) w.start) (curved eval n p) ∙ ap (λ (k : ℕ). length (only_if (not w.drawn) w.start) + k) (long_curved eval n p h.0);
    }

module _ (tol : Float) (w : Spot) (s : Segment) where
  pub a_line : (p : Vec2) → s ≡ Line p → Draws (writes tol w s) w (λ t. p) 1 p
  unfolding writes body
  a_line p e = draws w (λ t. p) 1 p (omega arith, omega arith) (rw e (append-nil _))

  pub a_quad : (c p : Vec2) → s ≡ Quad c p → (n : SegmentCount) → n ≡ segment_answer (quad_s tol w.pen c p) → Draws (writes tol w s) w (eval_quad w.pen c p) n.count p
  unfolding writes body places
  a_quad c p e n h = draws w (eval_quad w.pen c p) n.count p (rw h ((counted _ _).one, (counted _ _).most)) (rw (e, h) (append-nil _))

  pub a_cubic : (c d p : Vec2) → s ≡ Cubic c d p → (n : SegmentCount) → n ≡ segment_answer (cubic_s tol w.pen c d p) → Draws (writes tol w s) w (eval_cubic w.pen c d p) n.count p
  unfolding writes body places
  a_cubic c d p e n h = draws w (eval_cubic w.pen c d p) n.count p (rw h ((counted _ _).one, (counted _ _).most)) (rw (e, h) (append-nil _))

  pub a_close : (b : Bool) → s ≡ Close → b ≡ close_adds w → writes tol w s ≡ only_if b w.start
  unfolding writes body
  a_close b e h = rw (e, h)

-- ---- what is noted where a polyline ends

then_list : (b : Bool) (n : ℕ) → option_to_list (then_some b n) ≡ only_if b n
then_list true n = refl
then_list false n = refl

then_len : (b : Bool) (n : ℕ) → option_len (then_some b n) ≡ one b
then_len true n = refl
then_len false n = refl

then_mark : (b : Bool) (n m : ℕ) → option_to_list (option_map (λ _. m) (then_some b n)) ≡ only_if b m
then_mark true n m = refl
then_mark false n m = refl

-- ---- the writing loop

-- With `rest` of the segments to come, n points written, m polylines ended and `shut` of the verb read last, what the rest would still write over the buffers as
-- they are gives what the whole gives.
pub record Writing (ss : List Segment) (tol : Float) (out₀ : List Float) (es₀ ms₀ : List ℕ) (w : Spot) (shut : Bool) (n m : ℕ) (rest : List Segment) (out : List Float) (ends flags : List ℕ) : Type 0 where
  pub same_out : length out ≡ length out₀
  pub same_ends : length ends ≡ length es₀
  pub same_marks : length flags ≡ length ms₀
  pub room : 2 * (n + length (written tol w rest)) ≤ length out₀
  pub room_ends : m + length (endings tol n w rest) ≤ length es₀
  pub room_marks : m + length (marks_from shut w rest) ≤ length ms₀
  pub points : sets out (2 * n) (flat (written tol w rest)) ≡ sets out₀ 0 (flat (points_out tol ss))
  pub polys : sets ends m (endings tol n w rest) ≡ sets es₀ 0 (ends_out tol ss)
  pub marked : sets flags m (marks_from shut w rest) ≡ sets ms₀ 0 (marks_out ss)

module _ {ss : List Segment} {tol : Float} {out₀ : List Float} {es₀ ms₀ : List ℕ} {w : Spot} {shut : Bool} {n m : ℕ} {rest : List Segment} {out : List Float} {ends flags : List ℕ}
    (g : Writing ss tol out₀ es₀ ms₀ w shut n m rest out ends flags) where
  module _ (s : Segment) (later : List Segment) (h : rest ≡ s ∷ later) where
    next_written : written tol w rest ≡ writes tol w s ++ written tol (after w s) later
    unfolding written
    next_written = rw h

    next_endings : endings tol n w rest ≡ only_if (stops w s) n ++ endings tol (n + length (writes tol w s)) (after w s) later
    unfolding endings
    next_endings = rw h

    next_marks : marks_from shut w rest ≡ only_if (stops w s) (mark shut) ++ marks_from (is_close s) (after w s) later
    unfolding marks_from
    next_marks = rw h

    long_endings : length (endings tol n w rest) ≡ one (stops w s) + length (endings tol (n + length (writes tol w s)) (after w s) later)
    long_endings = ap length next_endings ∙ simp (length-append, length-only_if) refl

    long_marks : length (marks_from shut w rest) ≡ one (stops w s) + length (marks_from (is_close s) (after w s) later)
    long_marks = ap length next_marks ∙ simp (length-append, length-only_if) refl

    pub turn_room : 2 * (n + length (writes tol w s)) ≤ length out
    turn_room = omega (arith, g.room, g.same_out, simp length-append at (ap length next_written))

    pub turn_ends : m + option_len (then_some (stops w s) n) ≤ length ends
    turn_ends = omega (arith, g.room_ends, g.same_ends, long_endings, then_len (stops w s) n)

    pub turn_marks : m + option_len (then_some (stops w s) n) ≤ length flags
    turn_marks = omega (arith, g.room_marks, g.same_marks, long_marks, then_len (stops w s) n)

    pub turn : {es' ms' : List ℕ} {m' : ℕ} → Ended ends es' flags ms' m m' (then_some (stops w s) n) (mark shut) →
        {out' : List Float} {n' : ℕ} → Wrote out out' n n' (writes tol w s) → Writing ss tol out₀ es₀ ms₀ (after w s) (is_close s) n' m' later out' es' ms'
    turn {es'} {ms'} {m'} e {out'} {n'} p =
        let f : 2 * n + length (flat (writes tol w s)) ≡ 2 * (n + length (writes tol w s)) = omega (arith, length-flat (writes tol w s)) in
        let k : m' ≡ m + one (stops w s) = e.moved ∙ ap (λ (x : ℕ). m + x) (then_len (stops w s) n) in
        let ee : es' ≡ sets ends m (only_if (stops w s) n) = e.ended ∙ ap (sets ends m) (then_list (stops w s) n) in
        let em : ms' ≡ sets flags m (only_if (stops w s) (mark shut)) = e.marked ∙ ap (sets flags m) (then_mark (stops w s) n (mark shut)) in
        let le : m + length (only_if (stops w s) n) ≡ m + one (stops w s) = ap (λ (x : ℕ). m + x) (length-only_if (stops w s) n) in
        let lm : m + length (only_if (stops w s) (mark shut)) ≡ m + one (stops w s) = ap (λ (x : ℕ). m + x) (length-only_if (stops w s) (mark shut)) in
        record {
          same_out = ap length p.stored ∙ simp length-sets g.same_out;
          same_ends = ap length ee ∙ simp length-sets g.same_ends;
          same_marks = ap length em ∙ simp length-sets g.same_marks;
          room = omega (arith, g.room, p.moved, simp length-append at (ap length next_written));
          room_ends = rw p.moved (omega (arith, g.room_ends, k, long_endings));
          room_marks = omega (arith, g.room_marks, k, long_marks);
          points = rw (p.moved, p.stored, ← f, ← sets-append, ← flat_append, ← next_written) g.points;
          polys = rw (p.moved, k, ee, ← le, ← sets-append, ← next_endings) g.polys;
          marked = rw (k, em, ← lm, ← sets-append, ← next_marks) g.marked;
        }

  module _ (h : rest ≡ []) where
    none_written : written tol w rest ≡ []
    unfolding written
    none_written = rw h

    last_ending : endings tol n w rest ≡ only_if w.drawn n
    unfolding endings
    last_ending = rw h

    last_is : marks_from shut w rest ≡ only_if w.drawn (mark shut)
    unfolding marks_from
    last_is = rw h

    pub last_room : m + option_len (then_some w.drawn n) ≤ length ends
    last_room = omega (arith, g.room_ends, g.same_ends, ap length last_ending, length-only_if w.drawn n, then_len w.drawn n)

    pub last_room_marks : m + option_len (then_some w.drawn n) ≤ length flags
    last_room_marks = omega (arith, g.room_marks, g.same_marks, ap length last_is, length-only_if w.drawn (mark shut), then_len w.drawn n)

    pub last_points : out ≡ sets out₀ 0 (flat (points_out tol ss))
    last_points = rw none_written at g.points

    module _ {es' ms' : List ℕ} {m' : ℕ} (e : Ended ends es' flags ms' m m' (then_some w.drawn n) (mark shut)) where
      pub last_ends : es' ≡ sets es₀ 0 (ends_out tol ss)
      last_ends = e.ended ∙ rw (last_ending, ← then_list w.drawn n) at g.polys

      pub last_marks : ms' ≡ sets ms₀ 0 (marks_out ss)
      last_marks = e.marked ∙ rw (last_is, ← then_mark w.drawn n (mark shut)) at g.marked

pub begins : (ss : List Segment) (tol : Float) (out : List Float) (ends flags : List ℕ) → 2 * length (points_out tol ss) ≤ length out →
    length (ends_out tol ss) ≤ length ends → length (marks_out ss) ≤ length flags → Writing ss tol out ends flags nowhere false 0 0 ss out ends flags
begins ss tol out ends flags ho he hm =
    record {
      same_out = refl;
      same_ends = refl;
      same_marks = refl;
      room = simp zero-add ho;
      room_ends = simp zero-add he;
      room_marks = simp zero-add (omega (arith, hm, ap length (marks_are ss)));
      points = refl;
      polys = refl;
      marked = ap (sets flags 0) (marks_are ss);
    }

-- ---- the same, by the verb that was read last

-- with i verbs read
pub record Reading (vs : List ℕ) (fs : List Float) (tol : Float) (out₀ : List Float) (es₀ ms₀ : List ℕ) (w : Spot) (i n m : ℕ) (rest : List Segment) (out : List Float) (ends flags : List ℕ) : Type 0 where
  pub here : drop i (segments vs fs) ≡ rest
  pub many : i + length rest ≡ length vs
  pub writing : Writing (segments vs fs) tol out₀ es₀ ms₀ w (last_closes (take i vs)) n m rest out ends flags

closes_next : (vs : List ℕ) (fs : List Float) (i : ℕ) (s : Segment) (later : List Segment) → i < length vs → drop i (segments vs fs) ≡ s ∷ later → is_close s ≡ last_closes (take (i + 1) vs)
closes_next vs fs i s later l e = sym (rw (length-take-le (i + 1) vs (omega (arith, l)), get_or-take (i + 1) vs (i + 1 - 1) 0 (omega arith)) (close_read vs fs i s later e))

pub reads : (vs : List ℕ) (fs : List Float) (tol : Float) (out : List Float) (ends flags : List ℕ) → 2 * length (points_out tol (segments vs fs)) ≤ length out →
    length (ends_out tol (segments vs fs)) ≤ length ends → length (marks_out (segments vs fs)) ≤ length flags → Reading vs fs tol out ends flags nowhere 0 0 0 (segments vs fs) out ends flags
reads vs fs tol out ends flags ho he hm =
    record { here = refl; many = zero-add _ ∙ length-segs vs fs 0; writing = begins (segments vs fs) tol out ends flags ho he hm }

module _ {vs : List ℕ} {fs : List Float} {tol : Float} {out₀ : List Float} {es₀ ms₀ : List ℕ} {w : Spot} {i n m : ℕ} {rest : List Segment} {out : List Float} {ends flags : List ℕ}
    (g : Reading vs fs tol out₀ es₀ ms₀ w i n m rest out ends flags) where
  pub next : (s : Segment) (later : List Segment) → rest ≡ s ∷ later → {es' ms' : List ℕ} {m' : ℕ} → Ended ends es' flags ms' m m' (then_some (stops w s) n) (last_mark (take i vs)) →
      {out' : List Float} {n' : ℕ} → Wrote out out' n n' (writes tol w s) → Reading vs fs tol out₀ es₀ ms₀ (after w s) (i + 1) n' m' later out' es' ms'
  next s later h {es'} {ms'} {m'} e {out'} {n'} p =
      let l : i < length vs = omega (arith, g.many, ap length h) in
      record {
        here = sym (drop-drop 1 i (segments vs fs)) ∙ ap (drop 1) (g.here ∙ h);
        many = omega (arith, g.many, ap length h);
        writing = rw (closes_next vs fs i s later l (g.here ∙ h)) at (turn g.writing s later h e p);
      }

  pub all_read : rest ≡ [] → {es' ms' : List ℕ} {m' : ℕ} → Ended ends es' flags ms' m m' (then_some w.drawn n) (last_mark vs) → Ended ends es' flags ms' m m' (then_some w.drawn n) (last_mark (take i vs))
  all_read h e = rw (take_all i vs (omega (arith, g.many, ap length h))) e

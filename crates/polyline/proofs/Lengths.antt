-- How many points each segment writes: N for a curve, and the sum over a list. A polyline for each kept start. Assumes nothing.
use mathlib.Core.Path.{◌≡◌, refl, sym, ap, ◌∙◌}
use mathlib.Core.Bool.{Bool, true, false, not, false≢true}
use mathlib.Core.List.{List, [], ◌∷◌, ◌++◌}
use Prim.Native.Nat.{ℕ, suc, pred, ◌+◌, ◌≤◌}
use native.Mathlib.Nat.{add-zero, zero-add}
use native.Mathlib.Omega.{arith}
use lib.ListN.{length, length-append}
use lib.Ieee.{Float}
use Rattle.vec2.specs.declared.Vec2.{Vec2}
use Rattle.path.specs.declared.Segment.{Segment}
use Rattle.path.specs.declared.Segment.TheVariants.{Move, Line, Quad, Cubic, Close}
use Rattle.path.specs.Segment.{is_drawn, is_line, end_of}
use Rattle.curve.specs.Count.{eval_quad, eval_cubic, param}
use Rattle.curve.proofs.Numbers.{counted}
use Rattle.polyline.specs.declared.Spot.{Spot}
use Rattle.polyline.specs.Flatten.{nowhere, after, places, body, opens, adds, stops, only_if, writes, written, endings, one, curve_count, total, kept_starts, lines, counts, added_closings, points_out, ends_out}
use Rattle.polyline.proofs.Points.{inner, length-steps}

-- ---- a drawn segment's own points: the inner ones and its end, N in all

pub record Own (tol : Float) (w : Spot) (s : Segment) : Type 0 where
  pub inside : List Vec2
  pub is : body tol w s ≡ inside ++ end_of s ∷ []
  pub many : suc (length inside) ≡ places tol w s

suc_inner : (eval : Float → Vec2) (n : ℕ) → 1 ≤ n → suc (length (inner eval n (pred n))) ≡ n
suc_inner eval n h = omega (arith, length-steps (λ i. eval (param i n)) 1 (pred n))

pub own : (tol : Float) (w : Spot) (s : Segment) → is_drawn s ≡ true → Own tol w s
unfolding body places
own tol w (Move p) h = absurd (false≢true h)
own tol w (Line p) h = record { inside = []; is = refl; many = refl }
own tol w (Quad c p) h =
    let n : ℕ = places tol w (Quad c p) in
    record { inside = inner (eval_quad w.pen c p) n (pred n); is = refl; many = suc_inner (eval_quad w.pen c p) n (counted _ _).one }
own tol w (Cubic c d p) h =
    let n : ℕ = places tol w (Cubic c d p) in
    record { inside = inner (eval_cubic w.pen c d p) n (pred n); is = refl; many = suc_inner (eval_cubic w.pen c d p) n (counted _ _).one }
own tol w Close h = absurd (false≢true h)

-- a curve's N is 1,000 at most
pub count_most : (tol : Float) (w : Spot) (s : Segment) → curve_count tol w s ≤ 1000
unfolding places
count_most tol w (Move p) = omega arith
count_most tol w (Line p) = omega arith
count_most tol w (Quad c p) = (counted _ _).most
count_most tol w (Cubic c d p) = (counted _ _).most
count_most tol w Close = omega arith

pub one_most : (b : Bool) → one b ≤ 1
one_most true = omega arith
one_most false = omega arith

-- ---- the sum

module _ {A : Type 0} where
  pub length-only_if : (b : Bool) (p : A) → length (only_if b p) ≡ one b
  length-only_if true p = refl
  length-only_if false p = refl

pub body_length : (tol : Float) (w : Spot) (s : Segment) → length (body tol w s) ≡ one (is_line s) + curve_count tol w s
unfolding body
body_length tol w (Move p) = refl
body_length tol w (Line p) = refl
body_length tol w (Quad c p) =
    let o : Own tol w (Quad c p) = own tol w (Quad c p) refl in
    ap length o.is ∙ simp length-append (omega (arith, o.many))
body_length tol w (Cubic c d p) =
    let o : Own tol w (Cubic c d p) = own tol w (Cubic c d p) refl in
    ap length o.is ∙ simp length-append (omega (arith, o.many))
body_length tol w Close = refl

writes_length : (tol : Float) (w : Spot) (s : Segment) →
    length (writes tol w s) ≡ one (opens w s) + one (is_line s) + curve_count tol w s + one (adds w s)
unfolding writes
writes_length tol w s =
    simp (length-append, length-only_if, body_length tol w s) (omega arith)

written_length : (tol : Float) (ss : List Segment) (w : Spot) →
    length (written tol w ss)
    ≡ total (λ w s. one (opens w s)) w ss + total (λ w s. one (is_line s)) w ss + total (curve_count tol) w ss + total (λ w s. one (adds w s)) w ss
unfolding written total
written_length tol [] w = refl
written_length tol (s ∷ ss) w = simp length-append (omega (arith, writes_length tol w s, written_length tol ss (after w s)))

pub sum : (tol : Float) (ss : List Segment) → length (points_out tol ss) ≡ kept_starts ss + lines ss + counts tol ss + added_closings ss
unfolding kept_starts lines counts added_closings
sum tol ss = written_length tol ss nowhere

-- ---- a polyline for each kept start

not_both : (d : Bool) → 0 + 1 ≡ one (not d) + one d
not_both true = refl
not_both false = refl

-- one segment: what it ends and what it leaves begun, against what it begins
ends_and_starts : (w : Spot) (s : Segment) → one (stops w s) + one (after w s).drawn ≡ one (opens w s) + one w.drawn
unfolding after
ends_and_starts w (Move p) = omega arith
ends_and_starts w (Line p) = not_both w.drawn
ends_and_starts w (Quad c p) = not_both w.drawn
ends_and_starts w (Cubic c d p) = not_both w.drawn
ends_and_starts w Close = refl

endings_length : (tol : Float) (ss : List Segment) (n : ℕ) (w : Spot) →
    length (endings tol n w ss) ≡ total (λ w s. one (opens w s)) w ss + one w.drawn
unfolding endings total
endings_length tol [] n w = length-only_if w.drawn n ∙ sym (zero-add (one w.drawn))
endings_length tol (s ∷ ss) n w =
    simp length-append
    (omega (arith, length-only_if (stops w s) n, ends_and_starts w s, endings_length tol ss (n + length (writes tol w s)) (after w s)))

pub polylines_are_starts : (tol : Float) (ss : List Segment) → length (ends_out tol ss) ≡ kept_starts ss
unfolding kept_starts
polylines_are_starts tol ss = endings_length tol ss 0 nowhere ∙ add-zero _

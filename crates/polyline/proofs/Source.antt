-- The points and ends are the polylines of the source's loop, the rule of its close with them: `as_source`, for every path that is not refused.
-- Assumes nothing.
use mathlib.Core.Path.{◌≡◌, refl, sym, ap, ◌∙◌, ap₂}
use mathlib.Core.Bool.{Bool, true, false, not, ◌&&◌, false≢true}
use mathlib.Core.List.{List, [], ◌∷◌, ◌++◌, append_assoc, append-nil}
use Prim.Native.Nat.{ℕ, zero, suc, ◌+◌, ◌-◌}
use native.Mathlib.Nat.{add-zero}
use native.Mathlib.Omega.{arith}
use borrow.Author.Tests.{eqb-true, not-false}
use lib.ListN.{length, length-append}
use lib.Seq.{take_at, drop_at}
use lib.Ieee.{Float}
use Rattle.vec2.specs.declared.Vec2.{Vec2}
use Rattle.vec2.specs.Vec2.{same_as}
use Rattle.vec2.specs.Points.{point_at}
use Rattle.path.specs.declared.Segment.{Segment}
use Rattle.path.specs.declared.Segment.TheVariants.{Move, Line, Quad, Cubic, Close}
use Rattle.path.specs.Segment.{is_drawn, end_of, segs_from, segments}
use Rattle.std.specs.Prelude.{Ok}
use Rattle.path.specs.Check.{check}
use Rattle.polyline.specs.declared.Spot.{Spot}
use Rattle.polyline.specs.Flatten.{drawn_to, after, close_adds, places, body, only_if, writes, written, endings, points_out, ends_out}
use Rattle.polyline.specs.Polylines.{polylines, kept, last_of, closing, source_from, source}
use Rattle.polyline.proofs.Lengths.{Own, own}
use Rattle.polyline.proofs.Ends.{writes_drawn}
use Rattle.path.proofs.Checks.{sound}

-- ---- the source's `current`, once its polyline has a drawn verb: a, what lies between, and l

abbrev line : Vec2 → List Vec2 → Vec2 → List Vec2
line a xs l = a ∷ (xs ++ l ∷ [])

kept_line : (a : Vec2) (xs : List Vec2) (l : Vec2) → kept (line a xs l) ≡ line a xs l ∷ []
kept_line a [] l = refl
kept_line a (x ∷ xs) l = refl

last_snoc : (x : Vec2) (xs : List Vec2) (l : Vec2) → last_of x (xs ++ l ∷ []) ≡ l
last_snoc x [] l = refl
last_snoc x (y ∷ xs) l = last_snoc y xs l

closing_line : (m a : Vec2) (xs : List Vec2) (l : Vec2) → closing m (line a xs l) ≡ only_if (same_as a m && not (same_as l m)) m
closing_line m a [] l = refl
closing_line m a (x ∷ xs) l = ap (λ (p : Vec2). only_if (same_as a m && not (same_as p m)) m) (last_snoc x xs l)

-- ---- a drawn segment

record Turn (tol : Float) (w : Spot) (s : Segment) (ss : List Segment) : Type 0 where
  begun : List Vec2
  is : begun ≡ only_if (not w.drawn) w.start ++ body tol w s
  points : written tol w (s ∷ ss) ≡ begun ++ written tol (drawn_to w (end_of s)) ss
  ends : (n : ℕ) → endings tol n w (s ∷ ss) ≡ endings tol (n + length begun) (drawn_to w (end_of s)) ss
  source : (current : List Vec2) → source_from tol current w.pen w.start (s ∷ ss) ≡ source_from tol (current ++ body tol w s) (end_of s) w.start ss

turn : (tol : Float) (w : Spot) (s : Segment) (ss : List Segment) → is_drawn s ≡ true → Turn tol w s ss
unfolding written endings after source_from body places
turn tol w (Move p) ss h = absurd (false≢true h)
turn tol w (Line p) ss h = record { begun = _; is = refl; points = rw (writes_drawn tol w (Line p) h); ends = λ n. rw (writes_drawn tol w (Line p) h); source = λ current. refl }
turn tol w (Quad c p) ss h = record { begun = _; is = refl; points = rw (writes_drawn tol w (Quad c p) h); ends = λ n. rw (writes_drawn tol w (Quad c p) h); source = λ current. refl }
turn tol w (Cubic c d p) ss h = record { begun = _; is = refl; points = rw (writes_drawn tol w (Cubic c d p) h); ends = λ n. rw (writes_drawn tol w (Cubic c d p) h); source = λ current. refl }
turn tol w Close ss h = absurd (false≢true h)

-- ---- the whole list, from either kind of spot

-- a polyline ends behind the points ps
one_line : (n : ℕ) (ps rest : List Vec2) (es : List ℕ) →
    polylines n (ps ++ rest) ((n + length ps) ∷ es) ≡ ps ∷ polylines (n + length ps) rest es
one_line n ps rest es =
    let d : length ps ≡ n + length ps - n = omega arith in
    rw (take_at ps rest (n + length ps - n) d, drop_at ps rest (n + length ps - n) d)

abbrev undrawn : Vec2 → Vec2 → Vec2 → Spot
undrawn start pen last = record { start = start; pen = pen; last = last; drawn = false }

abbrev drawn : Vec2 → Vec2 → Vec2 → Spot
drawn start pen last = record { start = start; pen = pen; last = last; drawn = true }

-- behind `line a xs l` and then ys and p
longer : (a : Vec2) (xs : List Vec2) (l : Vec2) (ys : List Vec2) (p : Vec2) → line a xs l ++ (ys ++ p ∷ []) ≡ line a (xs ++ l ∷ ys) p
longer a xs l ys p = ap (λ (r : List Vec2). a ∷ r) (append_assoc xs (l ∷ []) (ys ++ p ∷ []) ∙ sym (append_assoc xs (l ∷ ys) (p ∷ [])))

-- X stands written behind P, and both make L
extend : (P X W L : List Vec2) (n : ℕ) (es : ℕ → List ℕ) → P ++ X ≡ L →
    polylines n (P ++ (X ++ W)) (es (n + length P + length X)) ≡ polylines n (L ++ W) (es (n + length L))
extend P X W L n es e =
    let m : n + length P + length X ≡ n + length L = omega (arith, sym (length-append P X) ∙ ap length e) in
    ap₂ (polylines n) (sym (append_assoc P X W) ∙ ap (λ (r : List Vec2). r ++ W) e) (ap es m)

module _ (tol : Float) where
  abbrev Undrawn : List Segment → Type 0
  Undrawn ss = (a pen last : Vec2) (n : ℕ) →
      polylines n (written tol (undrawn a pen last) ss) (endings tol n (undrawn a pen last) ss) ≡ source_from tol (a ∷ []) pen a ss

  abbrev Drawn : List Segment → Type 0
  Drawn ss = (a pen : Vec2) (xs : List Vec2) (l : Vec2) (n : ℕ) →
      polylines n (line a xs l ++ written tol (drawn a pen l) ss) (endings tol (n + length (line a xs l)) (drawn a pen l) ss)
      ≡ source_from tol (line a xs l) pen a ss

  -- the first drawn verb
  begins : (s : Segment) (ss : List Segment) → is_drawn s ≡ true → Drawn ss → Undrawn (s ∷ ss)
  begins s ss h g a pen last n =
      let w : Spot = undrawn a pen last in
      let t : Turn tol w s ss = turn tol w s ss h in
      let o : Own tol w s = own tol w s h in
      rw (t.points, t.ends n, t.is, t.source (a ∷ []), o.is) (g a (end_of s) o.inside (end_of s) n)

  -- a later one
  goes_on : (s : Segment) (ss : List Segment) → is_drawn s ≡ true → Drawn ss → Drawn (s ∷ ss)
  goes_on s ss h g a pen xs l n =
      let w : Spot = drawn a pen l in
      let t : Turn tol w s ss = turn tol w s ss h in
      let o : Own tol w s = own tol w s h in
      let X : List Vec2 = o.inside ++ end_of s ∷ [] in
      let L : List Vec2 = line a (xs ++ l ∷ o.inside) (end_of s) in
      let es : ℕ → List ℕ = λ m. endings tol m (drawn_to w (end_of s)) ss in
      rw (t.points, t.ends (n + length (line a xs l)), t.is ∙ o.is)
      (extend (line a xs l) X (written tol (drawn_to w (end_of s)) ss) L n es (longer a xs l o.inside (end_of s)))
      ∙ g a (end_of s) (xs ++ l ∷ o.inside) (end_of s) n
      ∙ sym (t.source (line a xs l) ∙ ap (λ (r : List Vec2). source_from tol r (end_of s) a ss) (ap (λ (r : List Vec2). line a xs l ++ r) o.is ∙ longer a xs l o.inside (end_of s)))

  -- a close: `closes` is the source's test
  a_close : (ss : List Segment) → Drawn ss → Drawn (Close ∷ ss)
  unfolding written endings after writes close_adds body source_from
  a_close ss g a pen xs l n = go (same_as a a && not (same_as l a)) refl
    where
      go : (b : Bool) → (same_as a a && not (same_as l a)) ≡ b →
          polylines n (line a xs l ++ written tol (drawn a pen l) (Close ∷ ss)) (endings tol (n + length (line a xs l)) (drawn a pen l) (Close ∷ ss))
          ≡ source_from tol (line a xs l) pen a (Close ∷ ss)
      go true e =
          rw e (extend (line a xs l) (a ∷ []) (written tol (drawn a a a) ss) (line a (xs ++ l ∷ []) a) n (λ m. endings tol m (drawn a a a) ss) refl)
          ∙ g a a (xs ++ l ∷ []) a n
          ∙ sym (ap (λ (r : List Vec2). source_from tol (line a xs l ++ r) a a ss) (closing_line a a xs l ∙ ap (λ (b : Bool). only_if b a) e))
      go false e =
          rw e (extend (line a xs l) [] (written tol (drawn a a l) ss) (line a xs l) n (λ m. endings tol m (drawn a a l) ss) (append-nil (line a xs l)))
          ∙ g a a xs l n
          ∙ sym (ap (λ (r : List Vec2). source_from tol (line a xs l ++ r) a a ss) (closing_line a a xs l ∙ ap (λ (b : Bool). only_if b a) e) ∙ ap (λ (r : List Vec2). source_from tol r a a ss) (append-nil (line a xs l)))

  -- a move ends the polyline
  a_move : (p : Vec2) (ss : List Segment) → Undrawn ss → Drawn (Move p ∷ ss)
  unfolding written endings after writes body source_from
  a_move p ss g a pen xs l n =
      rw (add-zero (n + length (line a xs l)))
      (one_line n (line a xs l) (written tol (undrawn p p p) ss) (endings tol (n + length (line a xs l)) (undrawn p p p) ss)
      ∙ ap (λ (r : List (List Vec2)). line a xs l ∷ r) (g p p p (n + length (line a xs l)))
      ∙ sym (ap (λ (r : List (List Vec2)). r ++ source_from tol (p ∷ []) p p ss) (kept_line a xs l)))

  agree : (ss : List Segment) → Undrawn ss × Drawn ss
  unfolding written endings after writes close_adds body source_from
  agree [] = (λ a pen last n. refl, λ a pen xs l n. one_line n (line a xs l) [] [] ∙ sym (kept_line a xs l))
  agree (Move p ∷ ss) = let g = agree ss in (λ a pen last n. rw (add-zero n) (g.0 p p p n), a_move p ss g.0)
  agree (Line p ∷ ss) = let g = agree ss in (begins (Line p) ss refl g.1, goes_on (Line p) ss refl g.1)
  agree (Quad c p ∷ ss) = let g = agree ss in (begins (Quad c p) ss refl g.1, goes_on (Quad c p) ss refl g.1)
  agree (Cubic c d p ∷ ss) = let g = agree ss in (begins (Cubic c d p) ss refl g.1, goes_on (Cubic c d p) ss refl g.1)
  agree (Close ∷ ss) = let g = agree ss in (λ a pen last n. rw (add-zero n) (g.0 a a last n), a_close ss g.1)

-- ---- a list that begins with a move, as a path that is not refused does

pub from_move : (tol : Float) (p : Vec2) (ss : List Segment) →
    polylines 0 (points_out tol (Move p ∷ ss)) (ends_out tol (Move p ∷ ss)) ≡ source tol (Move p ∷ ss)
unfolding written endings after writes body source_from source
from_move tol p ss = (agree tol ss).0 p p p 0

pub as_source : (vs : List ℕ) (fs : List Float) (tol : Float) → check vs fs ≡ Ok tt →
    polylines 0 (points_out tol (segments vs fs)) (ends_out tol (segments vs fs)) ≡ source tol (segments vs fs)
unfolding written endings source_from source
as_source [] fs tol h = refl
as_source (zero ∷ vs) fs tol h = from_move tol (point_at fs 0) (segs_from vs fs 1)
as_source (suc v ∷ vs) fs tol h = absurd (omega (arith, eqb-true (suc v) 0 (not-false _ (sound (suc v ∷ vs) fs h).first)))

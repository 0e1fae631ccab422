-- The end of each drawn segment stands its N places after the point written last before it, and later ones stand later. Assumes nothing.
use mathlib.Core.Path.{◌≡◌, refl, sym, ◌∙◌}
use mathlib.Core.Bool.{Bool, true, false, false≢true}
use mathlib.Core.List.{List, [], ◌∷◌, ◌++◌, append_assoc, append-nil}
use Prim.Native.Nat.{ℕ, zero, suc, ◌+◌, ◌≤◌, ◌<◌}
use native.Mathlib.Omega.{arith}
use lib.ListN.{length, get_or, take, length-append}
use lib.Seq.{get_or_at, take_at}
use lib.Ieee.{Float}
use Rattle.vec2.specs.declared.Vec2.{Vec2}
use Rattle.vec2.specs.Vec2.{origin}
use Rattle.path.specs.declared.Segment.{Segment}
use Rattle.path.specs.declared.Segment.TheVariants.{Move, Line, Quad, Cubic, Close}
use Rattle.path.specs.Segment.{is_drawn, is_close, end_of}
use Rattle.curve.proofs.Numbers.{counted}
use Rattle.polyline.specs.declared.Spot.{Spot}
use Rattle.polyline.specs.Flatten.{nowhere, spot, after, places, body, opens, only_if, writes, written, points_out}
use Rattle.polyline.specs.Kept.{Carries, before, carried, Stands}
use Rattle.polyline.proofs.Lengths.{Own, own}

-- ---- a list of segments, cut in two

pub written_append : (tol : Float) (a b : List Segment) (w : Spot) → written tol w (a ++ b) ≡ written tol w a ++ written tol (spot w a) b
unfolding written spot
written_append tol [] b w = refl
written_append tol (s ∷ ss) b w = rw (written_append tol ss b (after w s), append_assoc)

-- ---- what a drawn segment writes

drawn_no_close : (s : Segment) → is_drawn s ≡ true → is_close s ≡ false
drawn_no_close (Move p) h = refl
drawn_no_close (Line p) h = refl
drawn_no_close (Quad c p) h = refl
drawn_no_close (Cubic c d p) h = refl
drawn_no_close Close h = absurd (false≢true h)

pub writes_drawn : (tol : Float) (w : Spot) (s : Segment) → is_drawn s ≡ true → writes tol w s ≡ only_if (opens w s) w.start ++ body tol w s
unfolding writes
writes_drawn tol w s h = rw (drawn_no_close s h, append-nil)

-- ---- something stands written before a drawn segment

opening_written : (tol : Float) (w : Spot) (s : Segment) (r : List Vec2) → is_drawn s ≡ true → w.drawn ≡ false → 1 ≤ length (writes tol w s ++ r)
opening_written tol w s r h p = rw (writes_drawn tol w s h, h, p) (omega arith)

drawn_written : (tol : Float) (ss : List Segment) (w : Spot) → w.drawn ≡ false → (spot w ss).drawn ≡ true → 1 ≤ length (written tol w ss)
unfolding written spot after
drawn_written tol [] w p q = absurd (false≢true (sym p ∙ q))
drawn_written tol (Move a ∷ ss) w p q =
    simp length-append (omega (arith, drawn_written tol ss (after w (Move a)) refl q))
drawn_written tol (Line a ∷ ss) w p q = opening_written tol w (Line a) _ refl p
drawn_written tol (Quad c a ∷ ss) w p q = opening_written tol w (Quad c a) _ refl p
drawn_written tol (Cubic c d a ∷ ss) w p q = opening_written tol w (Cubic c d a) _ refl p
drawn_written tol (Close ∷ ss) w p q = simp length-append (omega (arith, drawn_written tol ss (after w Close) p q))

before_some : (tol : Float) (pre : List Segment) (s : Segment) → is_drawn s ≡ true → 1 ≤ length (before tol pre s)
before_some tol pre s h = go (spot nowhere pre).drawn refl
  where
    go : (b : Bool) → (spot nowhere pre).drawn ≡ b → 1 ≤ length (before tol pre s)
    go true e = simp length-append (omega (arith, drawn_written tol pre nowhere refl e))
    go false e = rw (h, e) (simp length-append (omega arith))

-- ---- the end of a drawn segment

-- what is written up to and with s, and after it
record Cut (tol : Float) (pre : List Segment) (s : Segment) (post : List Segment) : Type 0 where
  inside : List Vec2
  rest : List Vec2
  is : points_out tol (pre ++ s ∷ post) ≡ before tol pre s ++ (inside ++ end_of s ∷ rest)
  many : suc (length inside) ≡ carried tol pre s

cut : (tol : Float) (pre : List Segment) (s : Segment) (post : List Segment) → is_drawn s ≡ true → Cut tol pre s post
unfolding written
cut tol pre s post h =
    let w : Spot = spot nowhere pre in
    let o : Own tol w s = own tol w s h in
    record {
      inside = o.inside;
      rest = written tol (after w s) post;
      many = o.many;
      is = written_append tol pre (s ∷ post) nowhere ∙ rw (writes_drawn tol w s h, o.is) (simp append_assoc);
    }

placed_at : (b inside rest : List Vec2) (e : Vec2) (k n : ℕ) → suc k ≡ length b → suc (length inside) ≡ n →
    (take (suc k) (b ++ (inside ++ e ∷ rest)) ≡ b)
    × (k + n < length (b ++ (inside ++ e ∷ rest)))
    × (get_or (b ++ (inside ++ e ∷ rest)) (k + n) origin ≡ e)
placed_at b inside rest e k n p q = (
  take_at b (inside ++ e ∷ rest) (suc k) (sym p),
  simp (length-append, length-append) (omega arith),
  rw (← append_assoc b inside (e ∷ rest)) (get_or_at (b ++ inside) e rest origin (k + n) (simp length-append (omega arith))),
)

pred_of : (n : ℕ) → 1 ≤ n → (k : ℕ) × (suc k ≡ n)
pred_of zero h = absurd (omega arith)
pred_of (suc n) h = (n, refl)

-- N is 1 for a line, and a curve's N has its bounds
carries : (tol : Float) (w : Spot) (s : Segment) → is_drawn s ≡ true → Carries tol w s (places tol w s)
unfolding places
carries tol w (Move p) h = absurd (false≢true h)
carries tol w (Line p) h = refl
carries tol w (Quad c p) h = counted _ _
carries tol w (Cubic c d p) h = counted _ _
carries tol w Close h = absurd (false≢true h)

pub stands : (tol : Float) (pre : List Segment) (s : Segment) (post : List Segment) → is_drawn s ≡ true → Stands tol pre s (points_out tol (pre ++ s ∷ post))
stands tol pre s post h =
    let k : (k : ℕ) × (suc k ≡ length (before tol pre s)) = pred_of (length (before tol pre s)) (before_some tol pre s h) in
    let c : Cut tol pre s post = cut tol pre s post h in
    let t = placed_at (before tol pre s) c.inside c.rest (end_of s) k.0 (carried tol pre s) k.1 c.many in
    record {
      last = k.0;
      is_last = k.1;
      prefix = rw c.is t.0;
      count = carries tol (spot nowhere pre) s h;
      inside = rw c.is t.1;
      end = rw c.is t.2;
    }

-- ---- in order

pub in_order : (tol : Float) (pre : List Segment) (s : Segment) (mid : List Segment) (u : Segment) → is_drawn s ≡ true →
    length (before tol pre s) + carried tol pre s ≤ length (before tol (pre ++ s ∷ mid) u)
in_order tol pre s mid u h =
    let c : Cut tol pre s mid = cut tol pre s mid h in
    rw c.is (simp (length-append, length-append) (omega (arith, c.many)))

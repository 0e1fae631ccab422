-- Laws of a conic's quads: 1 to 64, two points each, and the last of them ends where the conic ends. Assumes nothing.
use mathlib.Core.Path.{◌≡◌, refl, ap}
use mathlib.Core.Bool.{Bool, true, false}
use mathlib.Core.List.{List, [], ◌∷◌, ◌++◌}
use Prim.Native.Nat.{ℕ, zero, suc, ◌*◌, ◌^◌, ◌≤◌}
use native.Mathlib.Nat.{pow-suc}
use native.Mathlib.Omega.{arith}
use lib.Pow.{pow_pos}
use lib.ListN.{length, replicate, length-append}
use lib.Ieee.{Float}
use Rattle.vec2.specs.declared.Vec2.{Vec2}
use Rattle.path.specs.declared.Segment.{Segment}
use Rattle.path.specs.declared.Segment.TheVariants.{Quad}
use Rattle.path.specs.Segment.{bytes_of, all_points}
use Rattle.halves.specs.Conic.{near, left_of, right_of, middle, half_weight, split, quads}

-- ---- quads and nothing else, the last of them ending at t

pub data Quads (t : Vec2) : List Segment → Type 0 where
  one : (c : Vec2) → Quads t (Quad c t ∷ [])
  more : (c p : Vec2) (qs : List Segment) → Quads t qs → Quads t (Quad c p ∷ qs)

behind : (m t : Vec2) (ps qs : List Segment) → Quads m ps → Quads t qs → Quads t (ps ++ qs)
behind m t ps qs (one c) k = more c m qs k
behind m t ps qs (more c p rs h) k = more c p (rs ++ qs) (behind m t rs qs h k)

split_quads : (k : ℕ) (b : Bool) (a c t : Vec2) (w : Float) → Quads t (split k b a c t w)
unfolding split
split_quads zero b a c t w = one c
split_quads (suc k) true a c t w = one c
split_quads (suc k) false a c t w =
    let l = left_of a c w in
    let r = right_of c t w in
    let m = middle a c t w in
    let u = half_weight w in
    behind m t _ _ (split_quads k (near a l m u) a l m u) (split_quads k (near m r t u) m r t u)

pub quads_quads : (a c t : Vec2) (w : Float) → Quads t (quads a c t w)
unfolding quads
quads_quads a c t w = split_quads 6 (near a c t w) a c t w

quads_end : (t : Vec2) (qs : List Segment) → Quads t qs → (ps : List Segment) × (c : Vec2) × (qs ≡ ps ++ Quad c t ∷ [])
quads_end t qs (one c) = ([], c, refl)
quads_end t qs (more c p rs h) = let e = quads_end t rs h in (Quad c p ∷ e.0, e.1, ap (λ (r : List Segment). Quad c p ∷ r) e.2)

pub quads_last : (a c t : Vec2) (w : Float) → (ps : List Segment) × (c' : Vec2) × (quads a c t w ≡ ps ++ Quad c' t ∷ [])
quads_last a c t w = quads_end t (quads a c t w) (quads_quads a c t w)

-- ---- how many

some_quads : (t : Vec2) (qs : List Segment) → Quads t qs → 1 ≤ length qs
some_quads t qs (one c) = omega arith
some_quads t qs (more c p rs h) = omega arith

two_points : (t : Vec2) (qs : List Segment) → Quads t qs → length (all_points qs) ≡ 2 * length qs
two_points t qs (one c) = refl
two_points t qs (more c p rs h) = omega (arith, two_points t rs h)

all_twos : (t : Vec2) (qs : List Segment) → Quads t qs → bytes_of qs ≡ replicate (length qs) 2
all_twos t qs (one c) = refl
all_twos t qs (more c p rs h) = ap (λ (l : List ℕ). 2 ∷ l) (all_twos t rs h)

pub quads_bytes : (a c t : Vec2) (w : Float) → bytes_of (quads a c t w) ≡ replicate (length (quads a c t w)) 2
quads_bytes a c t w = all_twos t (quads a c t w) (quads_quads a c t w)

pub quads_least : (a c t : Vec2) (w : Float) → 1 ≤ length (quads a c t w)
quads_least a c t w = some_quads t (quads a c t w) (quads_quads a c t w)

pub quads_points : (a c t : Vec2) (w : Float) → length (all_points (quads a c t w)) ≡ 2 * length (quads a c t w)
quads_points a c t w = two_points t (quads a c t w) (quads_quads a c t w)

pub split_points : (k : ℕ) (b : Bool) (a c t : Vec2) (w : Float) → length (all_points (split k b a c t w)) ≡ 2 * length (split k b a c t w)
split_points k b a c t w = two_points t (split k b a c t w) (split_quads k b a c t w)

two_halves : (k : ℕ) (x y : List Segment) → length x ≤ 2 ^ k → length y ≤ 2 ^ k → length (x ++ y) ≤ 2 ^ suc k
two_halves k x y h i = omega (arith, length-append x y, pow-suc 2 k)

pub split_most : (k : ℕ) (b : Bool) (a c t : Vec2) (w : Float) → length (split k b a c t w) ≤ 2 ^ k
unfolding split
split_most zero b a c t w = omega arith
split_most (suc k) true a c t w = omega (arith, pow_pos (suc k))
split_most (suc k) false a c t w =
    let l = left_of a c w in
    let r = right_of c t w in
    let m = middle a c t w in
    let u = half_weight w in
    two_halves k (split k (near a l m u) a l m u) (split k (near m r t u) m r t u) (split_most k (near a l m u) a l m u) (split_most k (near m r t u) m r t u)

pub quads_most : (a c t : Vec2) (w : Float) → length (quads a c t w) ≤ 64
unfolding quads
quads_most a c t w = split_most 6 (near a c t w) a c t w
